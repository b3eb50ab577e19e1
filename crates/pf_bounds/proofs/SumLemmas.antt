-- What the pieces so far print.
use Rattle.std.proofs.Common.{◌≡◌, ℕ, ◌+◌, ◌^◌, ◌≤◌, List, ◌++◌, length, sym, arith, subst}
use Rattle.std.specs.Prelude.{Option, Some, None, Result, Ok, Err, IfSome}
use Rattle.std.proofs.lemmas.List.{length-append}
use Rattle.pf_values.specs.declared.limits.TheConstants.{MAX_TEXT_LEN}
use Rattle.pf_values.specs.declared.models.Model.{Model}
use Rattle.pf_values.specs.meaning.Items.{Item}
use Rattle.pf_values.specs.meaning.Text.{Text}
use Rattle.pf_text.specs.declared.pieces.Piece.{Piece}
use Rattle.pf_text.specs.declared.pieces.Pieces.{Pieces}
use Rattle.pf_text.specs.declared.refusals.Refusal.{Refusal}
use Rattle.pf_text.specs.PieceHistory.{HasGiven, NextIs, NextIsPiece, NextIsRefusal, NextReturns, items_of}
use Rattle.pf_render.proofs.ItemLemmas.{length_items}
use Rattle.pf_bounds.specs.Bounds.{AreBounds, AreBoundsOf, AreWithin, CanPrintAll, sum_of}
use Rattle.pf_bounds.specs.FieldLengths.{limit_of}
use Rattle.pf_bounds.proofs.BoundsLemmas.{items_append}

-- the pieces so far have items that print these numbers of bytes at least and at most
pub record HasSummed (model : Model) (pieces : Pieces) (t : Text) (least : ℕ) (greatest : Option ℕ) : Type 0 where
  pub read : Text
  pub items : List Item
  pub given : HasGiven pieces t read items
  pub bounds : AreBoundsOf (CanPrintAll model items) least greatest
  pub within : AreWithin least greatest (limit_of (length items))

few_enough : (n : ℕ) → n ≤ MAX_TEXT_LEN → limit_of n ≤ 2 ^ 100
few_enough n h = omega (arith, h)

wider : (g : Option ℕ) (n m : ℕ) → n ≤ m → IfSome g (λ k. k ≤ n) → IfSome g (λ k. k ≤ m)
wider None n m h k = tt
wider (Some g) n m h k = omega (arith, h, k)

pub within_more : (least n m : ℕ) (greatest : Option ℕ) → n ≤ m → AreWithin least greatest n → AreWithin least greatest m
within_more least n m greatest h k = record { least_is = omega (arith, h, k.least_is); greatest_is = wider greatest n m h k.greatest_is }

both_within : (g f : Option ℕ) (n m : ℕ) → IfSome g (λ k. k ≤ n) → IfSome f (λ k. k ≤ m) → IfSome (sum_of g f) (λ k. k ≤ n + m)
both_within None f n m h k = tt
both_within (Some g) None n m h k = tt
both_within (Some g) (Some f) n m h k = omega (arith, h, k)

module _ (model : Model) (old new : Pieces) (t : Text) (least : ℕ) (greatest : Option ℕ) (h : HasSummed model old t least greatest) where
  pub enough_room : AreWithin least greatest (2 ^ 100)
  enough_room =
      let few = length_items h.read h.items h.given.reads in
      let short = h.given.limit in
      within_more least _ (2 ^ 100) greatest (few_enough (length h.items) (omega (arith, few, short))) h.within

  module _ (next : Result Piece Refusal) (steps : NextReturns old (Some next) new) where
    pub refused_next : (refusal : Refusal) → next ≡ Err refusal → NextIsRefusal t h.items refusal
    refused_next refusal e = subst (λ r. NextIs (Some r) new t h.read h.items) e (steps.next t h.read h.items h.given)

    given_next : (piece : Piece) → next ≡ Ok piece → NextIsPiece new t h.read h.items piece
    given_next piece e = subst (λ r. NextIs (Some r) new t h.read h.items) e (steps.next t h.read h.items h.given)

    pub more_summed : (piece : Piece) (fewer sum : ℕ) (more all : Option ℕ) → next ≡ Ok piece → AreWithin fewer more (limit_of (length (items_of piece)))
        → AreBoundsOf (CanPrintAll model (items_of piece)) fewer more → sum ≡ least + fewer → all ≡ sum_of greatest more
        → HasSummed model new t sum all
    more_summed piece fewer sum more all e w b p q =
        let g = given_next piece e in
        let count = length-append h.items (items_of piece) in
        record {
          read = h.read ++ g.more;
          items = h.items ++ items_of piece;
          given = g.given;
          bounds = rw (p, q) (items_append model h.items (items_of piece) least fewer greatest more h.bounds b);
          within = record {
            least_is = omega (arith, p, h.within.least_is, w.least_is, count);
            greatest_is = subst (λ o. IfSome o (λ n. n ≤ limit_of (length (h.items ++ items_of piece)))) (sym q)
                (wider (sum_of greatest more) _ _ (omega (arith, count)) (both_within greatest more _ _ h.within.greatest_is w.greatest_is));
          };
        }

  pub all_summed : NextReturns old None new → AreBounds model t least greatest
  all_summed steps =
      record {
        items = h.items;
        accepted = steps.next t h.read h.items h.given;
        bounds = h.bounds;
      }
