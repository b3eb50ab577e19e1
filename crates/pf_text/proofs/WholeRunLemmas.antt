-- What runs over a whole text have given, step by step and piece by piece.
use Rattle.std.proofs.Common.{◌≡◌, ℕ, ◌+◌, ◌<◌, ◌≤◌, List, [], ◌∷◌, ◌++◌, length, get_or, take, drop, flat_map, refl, sym, ap, ◌∙◌, subst, arith, suc, Ok, Err}
use Rattle.std.proofs.Common.{Result}
use Rattle.std.proofs.Math.Seq.{drop-cons, take-append_seam, take-suc}
use Rattle.std.proofs.lemmas.List.{append-nil, flat_map_more, length-take-le, take-append-drop, take_all}
use Rattle.pf_values.specs.declared.limits.TheConstants.{MAX_TEXT_LEN}
use Rattle.pf_values.specs.meaning.Items.{Item, Reads}
use Rattle.pf_values.specs.meaning.Refusals.{IsGoodFront, IsRefusedAt}
use Rattle.pf_values.specs.meaning.Text.{Text}
use Rattle.pf_text.specs.declared.pieces.Piece.{Piece}
use Rattle.pf_text.specs.declared.pieces.Pieces.{Pieces}
use Rattle.pf_text.specs.declared.refusals.Refusal.{Refusal}
use Rattle.pf_text.specs.declared.scanner.Scanner.{Scanner}
use Rattle.pf_text.specs.declared.scanner.Step.{Step}
use Rattle.pf_text.specs.declared.scanner.Step.TheVariants as steps
use Rattle.pf_text.specs.History.{Feeds, Finishes, IsAfter, with_step}
use Rattle.pf_text.specs.PieceHistory.{NextIsPiece, NextIsRefusal, HasGiven, items_of}
use Rattle.pf_text.specs.WholeRuns.{HasRun, ended_by}

with_ended : (items : List Item) (step : Step) → with_step items step ≡ items ++ ended_by step
with_ended items steps.More = sym (append-nil items)
with_ended items (steps.Byte byte) = refl
with_ended items steps.Percent = refl
with_ended items (steps.Directive d) = refl

-- A scanner has taken the first `n` bytes of a text.
module _ (t : Text) (n : ℕ) (old : Scanner) (given : List Step) (h : IsAfter old (take n t) (flat_map ended_by given)) where
  module _ (few : n < length t) (d : ℕ) (new : Scanner) where
    next : suc n ≡ n + 1
    next = omega arith

    pub fed_one : (step : Step) → Feeds (take n t) (flat_map ended_by given) (get_or t n d) (Ok step) new
        → IsAfter new (take (n + 1) t) (flat_map ended_by (given ++ step ∷ []))
    fed_one step f =
        let text : take n t ++ get_or t n d ∷ [] ≡ take (n + 1) t = sym (take-suc t n d few) ∙ ap (λ k. take k t) next in
        let items = with_ended (flat_map ended_by given) step ∙ flat_map_more ended_by [] given step in
        subst (λ u. IsAfter new u (flat_map ended_by (given ++ step ∷ []))) text (subst (IsAfter new (take n t ++ get_or t n d ∷ [])) items f.after)

    pub fed_refused : (refusal : Refusal) → Feeds (take n t) (flat_map ended_by given) (get_or t n d) (Err refusal) new
        → HasRun t (flat_map ended_by given) (Err refusal)
    fed_refused refusal f =
        let whole : take n t ++ get_or t n d ∷ drop (n + 1) t ≡ t = ap (λ rest. take n t ++ rest)
        (ap (λ k. get_or t n d ∷ drop k t) (sym next) ∙ sym (drop-cons t n d few)) ∙ take-append-drop n t in
        let place : refusal.at ≡ n = f.0 ∙ length-take-le n t (omega (arith, few)) in (
          subst (λ u. IsRefusedAt u refusal.kind refusal.at) whole (f.1 (drop (n + 1) t)),
          (h.part, subst (λ k. IsGoodFront (take k t) (flat_map ended_by given) h.part) (sym place) h.good),
        )

  -- and these are all
  pub run_finished : length t ≤ n → (r : Result (Unit {0}) Refusal) → Finishes (take n t) (flat_map ended_by given) r → HasRun t (flat_map ended_by given) r
  run_finished all (Ok done) f =
      let whole = take_all n t all in
      record { reads = subst (λ u. Reads u (flat_map ended_by given)) whole f; limit = subst (λ u. length u ≤ MAX_TEXT_LEN) whole h.limit }
  run_finished all (Err refusal) f =
      let whole = take_all n t all in
      let front : take n t ≡ take refusal.at t = whole ∙ sym (take_all refusal.at t (omega (arith, f.1, ap length whole))) in
      (subst (λ u. IsRefusedAt u refusal.kind refusal.at) whole f.2, (h.part, subst (λ u. IsGoodFront u (flat_map ended_by given) h.part) front h.good))

-- Pieces of a text were given.
module _ (t read : Text) (old : Pieces) (given : List Piece) (h : HasGiven old t read (flat_map items_of given)) where
  pub one_given : (piece : Piece) (new : Pieces) (g : NextIsPiece new t read (flat_map items_of given) piece)
      → HasGiven new t (read ++ g.more) (flat_map items_of (given ++ piece ∷ []))
  one_given piece new g = subst (HasGiven new t (read ++ g.more)) (flat_map_more items_of [] given piece) g.given

  pub pieces_refused : (refusal : Refusal) → NextIsRefusal t (flat_map items_of given) refusal → HasRun t (flat_map items_of given) (Err refusal)
  pieces_refused refusal g =
      let front : g.front ≡ take refusal.at t = sym (take-append_seam g.front g.rest) ∙ ap (take (length g.front)) (sym g.split)
      ∙ ap (λ n. take n t) (sym g.offset) in
      (g.refused, (g.part, subst (λ u. IsGoodFront u (flat_map items_of given) g.part) front g.good))
