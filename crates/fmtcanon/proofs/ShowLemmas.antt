-- Cutting a format into what has a line, one piece after another.
use Rattle.std.proofs.Common.{◌≡◌, ◌≢◌, ◌≤◌, List, [], ◌∷◌, ◌++◌, drop, length, codes, refl, sym, ap, ◌∙◌, subst, arith, inl, inr, Some, None, Ok, Err, Result}
use Rattle.std.specs.Prelude.{IfOk, false, if◌then◌else◌, is_err, is_ok}
use Rattle.std.specs.List.{AllByRecursion, AllZip, concat}
use Rattle.std.specs.Fmt.{digits}
use Rattle.std.proofs.lemmas.List.{append_assoc, append-nil, length-append}
use Rattle.std.proofs.lemmas.List.Folds.{concat-append}
use Rattle.std.proofs.lemmas.Slice.Zip.{all_zipped_more}
use Rattle.pf_values.specs.declared.models.Model.{Model}
use Rattle.pf_text.proofs.PieceTexts.{IsTextOf, text_of_piece}
use Rattle.pf_text.proofs.Unique.{same_whole}
use Rattle.pf_text.specs.declared.pieces.Piece.{Piece}
use Rattle.pf_text.specs.declared.pieces.Piece.TheVariants as pieces
use Rattle.pf_text.specs.declared.pieces.Pieces.{Pieces}
use Rattle.pf_text.specs.declared.refusals.Refusal.{Refusal}
use Rattle.pf_text.specs.History.{EndsRun, IsLiteral}
use Rattle.pf_text.specs.PieceHistory.{NextReturns, NextIs, NextIsPiece, NextIsRefusal, HasGiven, IsPieceBefore, items_of}
use Rattle.pf_values.specs.declared.limits.TheConstants.{MAX_TEXT_LEN}
use Rattle.pf_values.specs.meaning.Defined.{IsDefined}
use Rattle.pf_values.specs.meaning.Items.{Item}
use Rattle.pf_values.specs.meaning.Normal.{silent}
use Rattle.pf_values.specs.meaning.Spelling.{Spells, spelling_of}
use Rattle.pf_values.specs.meaning.Text.{Text, percent}
use Rattle.fmtcanon.specs.Shows.{BeginsNoRun, HasShownLines, IsShownAs, IsLineOf, Shown, Run, Percent, Specified, shown_of}

pub silent_spelled : codes "%.0s" ≡ spelling_of silent
unfolding digits
silent_spelled = refl

-- what was written, if it was
pub if_written : {E : Type 0} (r : Result (Unit {0}) E) (old new added : Text) → new ≡ (if is_ok r then old ++ added else old)
    → IfOk r (λ x. new ≡ old ++ added)
if_written (Ok done) old new added h = h
if_written (Err x) old new added h = tt

-- one more part of a line
pub joined : (before old new part added : Text) → new ≡ old ++ added → old ≡ before ++ part → new ≡ before ++ (part ++ added)
joined before old new part added e f = e ∙ ap (λ u. u ++ added) f ∙ append_assoc before part added

-- a text is cut so where this comes after it
abbrev pub IsCutBefore : Text → Text → List Shown → Type 0
IsCutBefore after t [] = t ≡ []
IsCutBefore after t (Run bytes ∷ xs) = (bytes ≢ []) × AllByRecursion IsLiteral bytes × (rest : Text) × IsCutBefore after rest xs × (t ≡ bytes ++ rest)
    × BeginsNoRun (rest ++ after)
IsCutBefore after t (Percent ∷ xs) = (rest : Text) × IsCutBefore after rest xs × (t ≡ percent ∷ percent ∷ rest)
IsCutBefore after t (Specified s ∷ xs) = (part rest : Text) × Spells part s × IsDefined s × IsCutBefore after rest xs × (t ≡ part ++ rest)

-- nothing comes after it
cut_whole : (xs : List Shown) (t : Text) → IsCutBefore [] t xs → IsShownAs t xs
cut_whole [] t h = h
cut_whole (Run bytes ∷ xs) t h = (h.0, h.1, h.2, cut_whole xs h.2 h.3, h.4, subst BeginsNoRun (append-nil h.2) h.5)
cut_whole (Percent ∷ xs) t h = (h.0, cut_whole xs h.0 h.1, h.2)
cut_whole (Specified s ∷ xs) t h = (h.0, h.1, h.2, h.3, cut_whole xs h.1 h.4, h.5)

-- one more
cut_more : (xs : List Shown) (x : Shown) (t last after : Text) → IsCutBefore (last ++ after) t xs → IsCutBefore after last (x ∷ [])
    → IsCutBefore after (t ++ last) (xs ++ x ∷ [])
cut_more [] x t last after h one = subst (λ u. IsCutBefore after (u ++ last) (x ∷ [])) (sym h) one
cut_more (Run bytes ∷ xs) x t last after h one = (
  h.0,
  h.1,
  h.2 ++ last,
  cut_more xs x h.2 last after h.3 one,
  ap (λ u. u ++ last) h.4 ∙ append_assoc bytes h.2 last,
  subst BeginsNoRun (sym (append_assoc h.2 last after)) h.5,
)
cut_more (Percent ∷ xs) x t last after h one = (h.0 ++ last, cut_more xs x h.0 last after h.1 one, ap (λ u. u ++ last) h.2)
cut_more (Specified s ∷ xs) x t last after h one =
    (h.0, h.1 ++ last, h.2, h.3, cut_more xs x h.1 last after h.4 one, ap (λ u. u ++ last) h.5 ∙ append_assoc h.0 h.1 last)

-- within the limit, a run ends where no literal byte follows
ends_run : (t rest : Text) → EndsRun t rest → length (t ++ rest) ≤ MAX_TEXT_LEN → BeginsNoRun rest
ends_run t [] h few = tt
ends_run t (byte ∷ rest) (inl e) few = λ literal. literal.0 e
ends_run t (byte ∷ rest) (inr (inl e)) few = λ literal. literal.1 e
ends_run t (byte ∷ rest) (inr (inr e)) few = let long = length-append t (byte ∷ rest) in absurd (omega (arith, few, e, long))

piece_cut : (piece : Piece) (read more after : Text) → IsTextOf piece more → IsPieceBefore piece (read ++ more) after
    → length ((read ++ more) ++ after) ≤ MAX_TEXT_LEN
    → IsCutBefore after more (shown_of piece ∷ [])
piece_cut (pieces.Literal run) read more after is w few = (
  w.some,
  w.literal,
  [],
  refl,
  is
      ∙ sym (append-nil run.now),
  ends_run (read ++ more) after w.longest few,
)
piece_cut pieces.Percent read more after is w few = ([], refl, is)
piece_cut (pieces.Directive d) read more after is w few = (more, [], is.0, is.1, refl, sym (append-nil more))

same_rest : (a b c : Text) → a ++ b ≡ a ++ c → b ≡ c
same_rest [] b c e = e
same_rest (x ∷ a) b c e = same_rest a b c (cc)

-- the pieces of a text were given, and their lines are in `out`
pub record HasShown (model : Model) (pieces : Pieces) (t out : Text) : Type 0 where
  pub read : Text
  pub items : List Item
  pub shown : List Shown
  pub parts : List Text
  pub given : HasGiven pieces t read items
  pub cut : length t ≤ MAX_TEXT_LEN → IsCutBefore (drop pieces.at t) read shown
  pub each : AllZip (IsLineOf model) shown parts
  pub whole : out ≡ concat parts

pub none_shown : (model : Model) (pieces items : Pieces) (t out : Text) → pieces ≡ items → out ≡ [] → HasGiven items t [] [] → HasShown model pieces t out
none_shown model pieces items t out e none given =
    record { read = []; items = []; shown = []; parts = []; given = subst (λ p. HasGiven p t [] []) (sym e) given; cut = λ few. refl; each = tt; whole = none }

-- a line was pushed
pub pushed : (model : Model) {E : Type 0} (pieces : Pieces) (t out new : Text) (piece : Piece) (r : Result (Unit {0}) E) → false ≡ is_err r
    → IfOk r (λ x. (part : Text) × IsLineOf model (shown_of piece) part × (new ≡ out ++ part))
    → ((part : Text) → IsLineOf model (shown_of piece) part → HasShown model pieces t (out ++ part)) → HasShown model pieces t new
pushed model pieces t out new piece (Ok done) e h more = subst (HasShown model pieces t) (sym h.2) (more h.0 h.1)
pushed model pieces t out new piece (Err x) e h more = cc

module _ (model : Model) (old new : Pieces) (t out : Text) (h : HasShown model old t out) where
  module _ (next : Result Piece Refusal) (steps : NextReturns old (Some next) new) where
    pub refused : (refusal : Refusal) → next ≡ Err refusal → NextIsRefusal t h.items refusal
    refused refusal e = subst (λ r. NextIs (Some r) new t h.read h.items) e (steps.next t h.read h.items h.given)

    -- the line of one more piece
    pub more_shown : (piece : Piece) (part : Text) → next ≡ Ok piece → IsLineOf model (shown_of piece) part → HasShown model new t (out ++ part)
    more_shown piece part e is =
        let g : NextIsPiece new t h.read h.items piece = subst (λ r. NextIs (Some r) new t h.read h.items) e (steps.next t h.read h.items h.given) in
        let text = text_of_piece old new t h.read h.items piece h.given g in
        let left : (drop old.at t) ≡ g.more ++ (drop new.at t) = same_rest h.read _ _
        (sym h.given.split ∙ g.given.split ∙ append_assoc h.read g.more (drop new.at t)) in
        record {
          read = h.read ++ g.more;
          items = h.items ++ items_of piece;
          shown = h.shown ++ shown_of piece ∷ [];
          parts = h.parts ++ part ∷ [];
          given = g.given;
          cut = λ few. cut_more h.shown (shown_of piece) h.read g.more (drop new.at t) (subst (λ u. IsCutBefore u h.read h.shown) left (h.cut few))
              (piece_cut piece h.read g.more (drop new.at t) text g.whole (subst (λ u. length u ≤ MAX_TEXT_LEN) g.given.split few));
          each = all_zipped_more (IsLineOf model) h.shown h.parts (shown_of piece) part h.each is;
          whole = ap (λ u. u ++ part) h.whole ∙ sym (concat-append h.parts (part ∷ []) ∙ ap (λ u. concat h.parts ++ u) (append-nil part));
        }

  -- the lines of all
  pub all_shown : NextReturns old None new → HasShownLines model t out
  all_shown steps =
      let end = steps.next t h.read h.items h.given in
      let none = same_whole h.items h.read t (drop old.at t) h.given.reads end.reads h.given.split in
      let all : h.read ≡ t = sym (h.given.split ∙ ap (λ u. h.read ++ u) none ∙ append-nil h.read) in
      record {
        accepted = (h.items, end);
        shown = h.shown;
        parts = h.parts;
        cut = cut_whole h.shown t (subst (λ u. IsCutBefore u t h.shown) none (subst (λ u. IsCutBefore (drop old.at t) u h.shown) all (h.cut end.limit)));
        each = h.each;
        whole = h.whole;
      }
