-- What the automaton rejects is rejected for the same reason at the same place.
use Rattle.std.proofs.Common.{◌≡◌, ◌≢◌, ℕ, ◌<◌, ◌≤◌, Bool, true, false, List, [], ◌∷◌, ◌++◌, length, refl, sym, ap, ◌∙◌, arith, subst, Err}
use Rattle.std.specs.Prelude.{◌==◌, MatchBool}
use Rattle.std.proofs.lemmas.Bool.Decides.{nat_tests}
use Rattle.std.proofs.lemmas.List.{append-nil, length-append}
use Rattle.pf_values.specs.declared.limits.TheConstants.{MAX_TEXT_LEN}
use Rattle.pf_values.specs.declared.refusals.RefusalKind.{RefusalKind}
use Rattle.pf_values.specs.declared.refusals.RefusalKind.TheVariants.{Truncated, TooLong}
use Rattle.pf_values.specs.meaning.Items.{Item, IsAccepted}
use Rattle.pf_values.specs.meaning.Refusals.{
  IsSplit,
  IsGoodFront,
  HasReason,
  IsRefusedByte,
  IsRefusedAt,
}
use Rattle.pf_values.specs.meaning.Text.{Text}
use Rattle.pf_text.specs.Stages.{State}
use Rattle.pf_text.specs.Stages.{Between}
use Rattle.pf_text.specs.Fronts.{IsAt}
use Rattle.pf_text.specs.States.{next}
use Rattle.pf_text.proofs.Reasons.{only_reason}
use Rattle.pf_text.proofs.Runs.{moved, run, run-append, run-refused}
use Rattle.pf_text.proofs.Sound.{Judges, judge}
use Rattle.pf_text.proofs.Texts.{start, run-reads, run-split, run-good, begun, state_in}

-- neither a byte of it nor its end is wrong: what is read is run through to its end
not_read : (t : Text) (kind : RefusalKind) → run start t ≡ Err kind → IsAccepted t → ⊥
not_read t kind e accepted = let all = run-reads accepted.0 t [] accepted.1.reads in cc

module _ (t part : Text) (items : List Item) (state : State) (h : IsSplit t items part) (at : IsAt state part) where
  good : IsGoodFront t items part
  good = record { splits = h; begun = begun state part at }

  module _ (byte : ℕ) (kind : RefusalKind) (e : next state byte ≡ Err kind) where
    refused_run : (more : Text) → run start (t ++ byte ∷ more) ≡ Err kind
    refused_run more =
        run-append start t (byte ∷ more)
        ∙ ap (λ p. run p (byte ∷ more)) (run-split t part items state h at)
        ∙ ap (λ n. run (moved items n) more) e
        ∙ run-refused kind more

    longest_at : (rest more after other : Text) (others : List Item) → byte ∷ rest ≡ more ++ after → IsGoodFront (t ++ more) others other → more ≡ []
    longest_at rest [] after other others same g = refl
    longest_at rest (b ∷ more) after other others same g =
        let first : byte ≡ b = cc in
        let ok = run-good (t ++ b ∷ more) other others g in
        let no = subst (λ b. run start (t ++ b ∷ more) ≡ Err kind) first (refused_run more) in
        absurd (cc (ok.1, no))

    reason : HasReason part byte kind
    reason = subst (Judges part byte) e (judge state part byte at)

    caused : (b : Bool) (rest : Text) → (length t == MAX_TEXT_LEN) ≡ b → length t < MAX_TEXT_LEN → MatchBool b (kind ≡ TooLong) (IsRefusedByte part byte kind)
    caused true rest test small = absurd (grind (arith, nat_tests))
    caused false rest test small = record { reason = reason; others = only_reason state part byte kind at e }

    pub refused_at : (more : Text) → length t < MAX_TEXT_LEN → IsRefusedAt (t ++ byte ∷ more) kind (length t)
    refused_at more small =
        record {
          not_accepted = not_read (t ++ byte ∷ more) kind (refused_run more);
          front = t;
          items = items;
          part = part;
          rest = byte ∷ more;
          split = refl;
          offset = refl;
          limit = omega arith;
          good = good;
          longest = λ front after others other same few g. longest_at more front after other others same g;
          cause = caused (length t == MAX_TEXT_LEN) more refl small;
        }

  cause_too_long : (byte : ℕ) (b : Bool) → (length t == MAX_TEXT_LEN) ≡ b → length t ≡ MAX_TEXT_LEN
      → MatchBool b (TooLong ≡ TooLong) (IsRefusedByte part byte TooLong)
  cause_too_long byte true test full = refl
  cause_too_long byte false test full = absurd (grind (arith, nat_tests))

  none_longer : (more : Text) → length (t ++ more) ≤ MAX_TEXT_LEN → length t ≡ MAX_TEXT_LEN → more ≡ []
  none_longer [] few full = refl
  none_longer (b ∷ more) few full = absurd (omega (arith, length-append t (b ∷ more)))

  pub too_long_at : (byte : ℕ) (more : Text) → length t ≡ MAX_TEXT_LEN → IsRefusedAt (t ++ byte ∷ more) TooLong (length t)
  too_long_at byte more full =
      record {
        not_accepted = λ accepted. omega (arith, accepted.1.limit, length-append t (byte ∷ more));
        front = t;
        items = items;
        part = part;
        rest = byte ∷ more;
        split = refl;
        offset = refl;
        limit = omega arith;
        good = good;
        longest = λ front after others other same few g. none_longer front few full;
        cause = cause_too_long byte (length t == MAX_TEXT_LEN) refl full;
      }

  no_more : (more after : Text) → [] ≡ more ++ after → more ≡ []
  no_more [] after e = refl
  no_more (b ∷ more) after e = cc

  pub truncated_at : state ≢ Between → length t ≤ MAX_TEXT_LEN → IsRefusedAt t Truncated (length t)
  truncated_at inside few =
      record {
        not_accepted =
            λ accepted. inside
            (ap state_in
            (sym (run-split t part items state h at) ∙ run-reads accepted.0 t [] accepted.1.reads));
        front = t;
        items = items;
        part = part;
        rest = [];
        split = sym (append-nil t);
        offset = refl;
        limit = few;
        good = good;
        longest = λ front after others other same limit g. no_more front after same;
        cause = refl;
      }
