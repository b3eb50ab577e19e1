-- The types of items, and what the calls that collect them leave.
use Rattle.std.proofs.Common.{◌≡◌, ◌≤◌, true, false, List, [], ◌∷◌, ◌++◌, drop, length, sym, ap, ◌∙◌, subst, arith, Some, None, Ok, Err, Result}
use Rattle.std.specs.Prelude.{is_err, IsOk, OnOk}
use Rattle.std.proofs.lemmas.List.{append-nil, length_push}
use Rattle.pf_values.specs.declared.models.Model.{Model}
use Rattle.pf_values.specs.declared.types.ArgType.{ArgType}
use Rattle.pf_values.specs.meaning.Items.{Item, types}
use Rattle.pf_values.specs.meaning.Text.{Text}
use Rattle.pf_values.proofs.ItemTypes.{types-append}
use Rattle.pf_text.specs.declared.pieces.Piece.{Piece}
use Rattle.pf_text.specs.declared.pieces.Pieces.{Pieces}
use Rattle.pf_text.specs.declared.refusals.Refusal.{Refusal}
use Rattle.pf_text.specs.PieceHistory.{NextReturns, NextIs, NextIsPiece, NextIsRefusal, HasGiven, items_of}
use Rattle.pf_text.specs.Signatures.{TakesTypes, TakesManyArguments}

pub no_success : {T E : Type 0} (r : Result T E) → true ≡ is_err r → IsOk r → ⊥
no_success (Ok x) e h = cc
no_success (Err x) e h = cc

-- the pieces of a text were given, and the types that their directives take
pub record HasFound (model : Model) (pieces : Pieces) (t : Text) (found : List ArgType) : Type 0 where
  pub read : Text
  pub items : List Item
  pub given : HasGiven pieces t read items
  pub types_are : found ≡ types model items

module _ (model : Model) (old new : Pieces) (t : Text) (found : List ArgType) (h : HasFound model old t found) where
  module _ (next : Result Piece Refusal) (steps : NextReturns old (Some next) new) where
    pub refused : (refusal : Refusal) → next ≡ Err refusal → NextIsRefusal t h.items refusal
    refused refusal e = subst (λ r. NextIs (Some r) new t h.read h.items) e (steps.next t h.read h.items h.given)

    pub more_given : (piece : Piece) → next ≡ Ok piece → NextIsPiece new t h.read h.items piece
    more_given piece e = subst (λ r. NextIs (Some r) new t h.read h.items) e (steps.next t h.read h.items h.given)

    -- the types with those that one more piece takes
    pub more_found : (piece : Piece) (more : List ArgType) → next ≡ Ok piece → more ≡ types model (items_of piece) → HasFound model new t (found ++ more)
    more_found piece more e same =
        let g = more_given piece e in
        record {
          read = h.read ++ g.more;
          items = h.items ++ items_of piece;
          given = g.given;
          types_are = ap (λ f. f ++ more) h.types_are ∙ ap (λ m. types model h.items ++ m) same ∙ sym (types-append model h.items (items_of piece));
        }

    pub too_many : (piece : Piece) (type : ArgType) → next ≡ Ok piece → type ∷ [] ≡ types model (items_of piece) → 8 ≤ length found → TakesManyArguments model t
    too_many piece type e same many =
        let f = more_found piece (type ∷ []) e same in
        record {
          front = f.read;
          rest = drop new.at t;
          items = f.items;
          split = f.given.split;
          reads = f.given.reads;
          many = omega (arith, ap length f.types_are, length_push found type);
        }

  pub all_found : NextReturns old None new → TakesTypes model t found
  all_found steps =
      record {
        items = h.items;
        accepted = steps.next t h.read h.items h.given;
        types_are = h.types_are;
      }

-- a piece that takes no argument
pub found_same : (model : Model) (pieces : Pieces) (t : Text) (found : List ArgType) → HasFound model pieces t (found ++ []) → HasFound model pieces t found
found_same model pieces t found h = subst (HasFound model pieces t) (append-nil found) h

-- a type was pushed
pub pushed : (model : Model) {E : Type 0} (pieces : Pieces) (t : Text) (found more new : List ArgType) (r : Result (Unit {0}) E)
    → false ≡ is_err r → OnOk r (new ≡ found ++ more) → HasFound model pieces t (found ++ more) → HasFound model pieces t new
pushed model pieces t found more new (Ok done) e h f = subst (HasFound model pieces t) (sym h) f
pushed model pieces t found more new (Err x) e h f = cc
