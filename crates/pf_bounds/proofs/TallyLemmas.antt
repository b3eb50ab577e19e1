-- Bounds in 64 bits.
use Rattle.std.proofs.Common.{◌≡◌, inl, inr, ℕ, ◌+◌, ◌-◌, ◌^◌, ◌≤◌, ◌<◌, Bool, true, false, [], ◌∷◌, ◌++◌, length, map, take, drop, get_or, refl, sym, ap, ◌∙◌, arith, subst}
use Rattle.std.specs.Prelude.{Option, Some, None, ◌⊎◌, ◌&&◌, if◌then◌else◌}
use Rattle.std.specs.List.{AllByRecursion}
use Rattle.std.proofs.Math.Seq.{take-add}
use Rattle.std.proofs.lemmas.List.{length-append, length-drop, length-take-le, take_all}
use Rattle.pf_values.specs.declared.conversions.Conv.{Conv}
use Rattle.pf_values.specs.declared.conversions.Conv.TheVariants.{D, I, U, O, X, UpperX, B, C, S}
use Rattle.pf_values.specs.declared.limits.TheConstants.{MAX_TEXT_LEN}
use Rattle.pf_values.specs.declared.models.Model.{Model}
use Rattle.pf_values.specs.meaning.Items.{Item, Byte, Directive, IsReadAs}
use Rattle.pf_values.specs.meaning.Specification.{Specification}
use Rattle.pf_values.specs.meaning.Text.{Text, percent}
use Rattle.pf_text.specs.declared.walk.Walk.{Walk}
use Rattle.pf_text.specs.History.{IsLiteral}
use Rattle.pf_text.specs.Letters.{conv_of}
use Rattle.pf_text.specs.Walks.{HasPassed, HasPercent, IsWalkOver}
use Rattle.pf_text.proofs.CanonicalRunLemmas.{Reads-append, bare}
use Rattle.pf_text.proofs.LiteralLemmas.{Reads-literals}
use Rattle.pf_text.proofs.DirectiveLemmas.{conv_read}
use Rattle.pf_text.proofs.Sound.{byte_of_conv}
use Rattle.pf_text.proofs.Texts.{Reads-push}
use Rattle.pf_text.proofs.ReadingLemmas.{still_within, text_is}
use Rattle.pf_text.proofs.WalkLemmas.{run_is_literal, two_bytes}
use Rattle.pf_bounds.specs.Bounds.{AreBounds, AreBoundsOf, CanPrint, CanPrintAll, sum_of}
use Rattle.pf_bounds.specs.FieldLengths.{item_limit}
use Rattle.pf_bounds.specs.Tallies.{IsTallied, largest_of}
use Rattle.pf_bounds.specs.declared.tallies.Tally.{Tally}
use Rattle.pf_bounds.proofs.BoundsLemmas.{items_append}
use Rattle.pf_bounds.proofs.NumberBounds.{number_bounds}
use Rattle.pf_bounds.proofs.TextBounds.{bytes_bounds, char_bounds, item_bounds, string_unlimited}

-- what a directive of a conversion alone prints at least, and at most
abbrev pub bare_least : Conv → ℕ
bare_least S = 0
bare_least _ = 1

abbrev pub bare_greatest : Conv → Option ℕ
bare_greatest D = Some 11
bare_greatest I = Some 11
bare_greatest U = Some 10
bare_greatest O = Some 11
bare_greatest X = Some 8
bare_greatest UpperX = Some 8
bare_greatest B = Some 32
bare_greatest C = Some 1
bare_greatest S = None

pub bare_bounds : (model : Model) (conv : Conv) → AreBoundsOf (CanPrint model (bare conv)) (bare_least conv) (bare_greatest conv)
bare_bounds model D = number_bounds model (bare D) refl 1 11 refl refl
bare_bounds model I = number_bounds model (bare I) refl 1 11 refl refl
bare_bounds model U = number_bounds model (bare U) refl 1 10 refl refl
bare_bounds model O = number_bounds model (bare O) refl 1 11 refl refl
bare_bounds model X = number_bounds model (bare X) refl 1 8 refl refl
bare_bounds model UpperX = number_bounds model (bare UpperX) refl 1 8 refl refl
bare_bounds model B = number_bounds model (bare B) refl 1 32 refl refl
bare_bounds model C = char_bounds model (bare C) refl 1 1 (Some 1) refl refl refl
bare_bounds model S = string_unlimited model (bare S) refl 0 refl refl

-- conversions that the code has in one case
module _ (model : Model) (conv : Conv) where
  pub most_eleven : (conv ≡ D) ⊎ (conv ≡ I) ⊎ (conv ≡ O) → AreBoundsOf (CanPrint model (bare conv)) 1 (Some 11)
  most_eleven (inl e) = rw e (bare_bounds model D)
  most_eleven (inr (inl e)) = rw e (bare_bounds model I)
  most_eleven (inr (inr e)) = rw e (bare_bounds model O)

  pub most_eight : (conv ≡ X) ⊎ (conv ≡ UpperX) → AreBoundsOf (CanPrint model (bare conv)) 1 (Some 8)
  most_eight (inl e) = rw e (bare_bounds model X)
  most_eight (inr e) = rw e (bare_bounds model UpperX)

-- the largest number of a sum
greatest_summed : (p q : Bool) (l m s r : ℕ)
    → (if p && q then Some (l + m + (s + r)) else None) ≡ sum_of (if p then Some (l + s) else None) (if q then Some (m + r) else None)
greatest_summed true true l m s r = ap Some (omega arith)
greatest_summed true false l m s r = refl
greatest_summed false q l m s r = refl

-- bounds are the sums of two others
pub record IsSum (sum one other : Tally) : Type 0 where
  pub least : sum.least ≡ one.least + other.least
  pub spread : sum.spread ≡ one.spread + other.spread
  pub bounded : sum.is_bounded ≡ (one.is_bounded && other.is_bounded)

sum_greatest : (sum one other : Tally) → IsSum sum one other → largest_of sum ≡ sum_of (largest_of one) (largest_of other)
sum_greatest sum one other h =
    rw (h.least, h.spread, h.bounded) (greatest_summed one.is_bounded other.is_bounded one.least other.least one.spread other.spread)

module _ (model : Model) where
  -- a text after another prints the sums
  pub tallied_append : (t u : Text) (sum one other : Tally) → IsTallied model t one → IsTallied model u other → IsSum sum one other
      → IsTallied model (t ++ u) sum
  tallied_append t u sum one other h g e =
      let both = items_append model h.items g.items one.least other.least (largest_of one) (largest_of other) h.bounds g.bounds in
      let long = length-append t u in
      record {
        items = h.items ++ g.items;
        reads = Reads-append t u h.items g.items h.reads g.reads;
        bounds = rw (sum_greatest sum one other e, e.least) both;
        short = record {
          least_is = omega (arith, long, e.least, h.short.least_is, g.short.least_is);
          spread_is = omega (arith, long, e.spread, h.short.spread_is, g.short.spread_is);
        };
      }

  pub tallied_more : (text : Text) (at n : ℕ) (sum one other : Tally) → IsTallied model (take at text) one → IsTallied model (take n (drop at text)) other
      → IsSum sum one other → IsTallied model (take (at + n) text) sum
  tallied_more text at n sum one other h g e =
      subst (λ t. IsTallied model t sum) (sym (take-add at n text)) (tallied_append (take at text) (take n (drop at text)) sum one other h g e)

  -- a text that is one item
  pub item_tallied : (t : Text) (item : Item) (tally : Tally) → IsReadAs t item → AreBoundsOf (CanPrintAll model (item ∷ [])) tally.least (largest_of tally)
      → 0 < length t → tally.least ≤ item_limit → tally.spread ≤ item_limit → IsTallied model t tally
  item_tallied t item tally read bounds some least spread =
      record {
        items = item ∷ [];
        reads = Reads-push [] [] t item refl read;
        bounds = bounds;
        short = record { least_is = omega (arith, some, least); spread_is = omega (arith, some, spread) };
      }

  pub directive_tallied : (t : Text) (d : Specification) (tally : Tally) → IsReadAs t (Directive d)
      → AreBoundsOf (CanPrint model d) tally.least (largest_of tally)
      → 0 < length t → tally.least ≤ item_limit → tally.spread ≤ item_limit → IsTallied model t tally
  directive_tallied t d tally read bounds =
      item_tallied t (Directive d) tally read (item_bounds model d tally.least (largest_of tally) bounds)

  -- literal bytes
  pub bytes_tallied : (run : Text) (tally : Tally) → AllByRecursion IsLiteral run → tally.least ≡ length run → tally.spread ≡ 0 → tally.is_bounded ≡ true
      → IsTallied model run tally
  bytes_tallied run tally literal least spread bounded =
      record {
        items = map Byte run;
        reads = Reads-literals run [] [] refl literal;
        bounds = bytes_bounds model run tally.least (length run) (largest_of tally) least (only bounded) refl;
        short = record { least_is = omega (arith, least); spread_is = omega (arith, spread) };
      }
    where
      only : tally.is_bounded ≡ true → largest_of tally ≡ Some (length run)
      only e = rw e (ap Some (omega (arith, least, spread)))

  -- a text that is read to its end
  pub whole_tallied : (text : Text) (at : ℕ) (tally : Tally) → length text ≤ at → length text ≤ MAX_TEXT_LEN → IsTallied model (take at text) tally
      → AreBounds model text tally.least (largest_of tally)
  whole_tallied text at tally end few h =
      let all = subst (λ t. IsTallied model t tally) (take_all at text end) h in
      record { items = all.items; accepted = record { reads = all.reads; limit = few }; bounds = all.bounds }

  -- and a text before anything of it is read
  pub none_tallied : (text : Text) (tally : Tally) → tally.least ≡ 0 → tally.spread ≡ 0 → tally.is_bounded ≡ true → IsTallied model (take 0 text) tally
  none_tallied text tally least spread bounded = bytes_tallied [] tally tt least spread bounded

  -- no sum of a text that isn't long is too large
  pub small_tally : (t : Text) (tally : Tally) → length t ≤ 2 ^ 32 → IsTallied model t tally → (tally.least ≤ 2 ^ 50) × (tally.spread ≤ 2 ^ 50)
  small_tally t tally few h = (omega (arith, few, h.short.least_is), omega (arith, few, h.short.spread_is))

  -- the literal bytes that a walk has passed
  module _ (text : Text) (few : length text ≤ MAX_TEXT_LEN) (old new : Walk) (over : IsWalkOver text old) (h : HasPassed (λ item. ⊥) old new) where
    pub passed_tallied : (sum one other : Tally) → old.at ≤ length text → IsTallied model (take old.at text) one → other.least ≡ new.at - old.at
        → other.spread ≡ 0 → other.is_bounded ≡ true → IsSum sum one other → IsTallied model (take new.at text) sum
    passed_tallied sum one other low g least spread bounded e =
        let n = new.at - old.at in
        let run = take n (drop old.at text) in
        let place : old.at + n ≡ new.at = omega (arith, h.from) in
        let long : length run ≡ n = length-take-le n (drop old.at text)
        (omega (arith, length-drop old.at text, h.from, still_within _ text few old new over h low)) in
        let literal : AllByRecursion IsLiteral run =
        subst (λ t. AllByRecursion IsLiteral (take n (drop old.at t))) (text_is _ text few old new over h)
        (run_is_literal (take n (drop old.at new.text.now)) h.items h.run) in
        subst (λ k. IsTallied model (take k text) sum) place
        (tallied_more text old.at n sum one other g (bytes_tallied run other literal (omega (arith, least, long)) spread bounded) e)

  -- `%%`
  pub percent_tallied : (text : Text) (at : ℕ) (tally : Tally) → HasPercent text at → get_or text (at + 1) 0 ≡ percent
      → tally.least ≡ 1 → tally.spread ≡ 0 → tally.is_bounded ≡ true → IsTallied model (take 2 (drop at text)) tally
  percent_tallied text at tally h second least spread bounded =
      let bytes = two_bytes text at h ∙ ap (λ b. percent ∷ b ∷ []) second in
      let one : largest_of tally ≡ Some 1 = rw bounded (ap Some (omega (arith, least, spread))) in
      item_tallied (take 2 (drop at text)) (Byte percent) tally bytes
      (bytes_bounds model (percent ∷ []) tally.least 1 (largest_of tally) least one refl)
      (omega (arith, ap length bytes)) (omega (arith, least)) (omega (arith, spread))

  -- a directive of a conversion alone
  pub bare_tallied : (text : Text) (at : ℕ) (conv : Conv) (tally : Tally) → HasPercent text at
      → conv_of (get_or text (at + 1) 0) ≡ Some conv → AreBoundsOf (CanPrint model (bare conv)) tally.least (largest_of tally)
      → tally.least ≤ item_limit → tally.spread ≤ item_limit → IsTallied model (take 2 (drop at text)) tally
  bare_tallied text at conv tally h e bounds least spread =
      let bytes = two_bytes text at h ∙ ap (λ b. percent ∷ b ∷ []) (byte_of_conv (get_or text (at + 1) 0) conv e) in
      directive_tallied (take 2 (drop at text)) (bare conv) tally
      (subst (λ t. IsReadAs t (Directive (bare conv))) (sym bytes) (conv_read conv (bare conv) refl)) bounds
      (omega (arith, ap length bytes)) least spread
