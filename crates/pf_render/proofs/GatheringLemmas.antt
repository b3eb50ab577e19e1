-- What is gathered of a format, piece by piece.
use Rattle.std.proofs.Common.{
  ◌≡◌,
  ℕ,
  ◌+◌,
  ◌≤◌,
  List,
  [],
  ◌∷◌,
  ◌++◌,
  length,
  map,
  take,
  refl,
  sym,
  ap,
  ◌∙◌,
  subst,
  arith,
  Some,
  None,
  Ok,
  Result,
}
use Rattle.std.specs.Prelude.{slice_get}
use Rattle.std.proofs.lemmas.List.{append-nil, map-append, take_all, take_more}
use Rattle.std.proofs.lemmas.Option.{get_or_from_slice_get, slice_get_within}
use Rattle.pf_values.specs.declared.models.Model.{Model}
use Rattle.pf_values.specs.declared.types.ArgType.{ArgType}
use Rattle.pf_values.specs.meaning.Arguments.{Argument, HasTypes}
use Rattle.pf_values.specs.meaning.DataModel.{arg_type}
use Rattle.pf_values.specs.meaning.Items.{Item, Byte, Directive, types}
use Rattle.pf_values.specs.meaning.Printing.{Prints}
use Rattle.pf_values.specs.meaning.Specification.{Specification}
use Rattle.pf_values.specs.meaning.Text.{Text}
use Rattle.pf_values.proofs.ItemTypes.{types-append, types-bytes}
use Rattle.pf_text.specs.declared.pieces.Piece.{Piece}
use Rattle.pf_text.specs.declared.pieces.Pieces.{Pieces}
use Rattle.pf_text.specs.declared.refusals.Refusal.{Refusal}
use Rattle.pf_text.specs.PieceHistory.{NextReturns, NextIs, NextIsPiece, HasGiven, items_of}
use Rattle.pf_render.specs.Gathering.{IsGatheredSoFar}
use Rattle.pf_render.specs.Outputs.{IsOutput}
use Rattle.pf_render.specs.Matching.{TakesArguments}
use Rattle.pf_render.specs.Rendering.{IsOfTypeBy, RendersToBy}
use Rattle.pf_render.proofs.FormatLemmas.{renders_items}
use Rattle.pf_render.proofs.MatchingLemmas.{Match, match_append, typed_matched, types_matched}
use Rattle.pf_render.proofs.PrintingLemmas.{PrintsAll-append, PrintsAll-bytes}

module _ (model : Model) {A O : Type 0} {type_of : A → ArgType} {argument_of : A → Argument} {wrote : O → O → Text → Type 0}
    {stopped : O → O → Text → ℕ → Type 0} (laws : IsOutput wrote stopped) where
  pub none_gathered : (now : O) → IsGatheredSoFar type_of argument_of wrote model now now [] []
  none_gathered now =
      record {
        matching = tt;
        out = [];
        prints = refl;
        put = laws.nothing now;
      }

  -- literal bytes, which take no argument
  pub bytes_gathered : (old new : O) (bytes : Text) → wrote old new bytes → IsGatheredSoFar type_of argument_of wrote model old new (map Byte bytes) []
  bytes_gathered old new bytes wrote_all =
      let none = types-bytes model bytes in
      record {
        matching = subst (Match type_of argument_of model []) (sym none) tt;
        out = bytes;
        prints = PrintsAll-bytes model bytes [] (subst (HasTypes model []) (sym none) tt);
        put = wrote_all;
      }

  -- a directive, and the argument that it takes
  pub directive_gathered : (old new : O) (s : Specification) (arg : A) (type : ArgType) (out : Text) → type ≡ arg_type model s
      → IsOfTypeBy type_of argument_of model arg type → Prints model s (argument_of arg) out
      → wrote old new out → IsGatheredSoFar type_of argument_of wrote model old new (Directive s ∷ []) (arg ∷ [])
  directive_gathered old new s arg type out same of_type prints wrote_all =
      record {
        matching = (subst (IsOfTypeBy type_of argument_of model arg) same of_type, tt);
        out = out;
        prints = (out, [], prints, refl, sym (append-nil out));
        put = wrote_all;
      }

  -- some items, and then more
  pub more_gathered : (old mid new : O) (items more : List Item) (own others : List A) → IsGatheredSoFar type_of argument_of wrote model old mid items own
      → IsGatheredSoFar type_of argument_of wrote model mid new more others
      → IsGatheredSoFar type_of argument_of wrote model old new (items ++ more) (own ++ others)
  more_gathered old mid new items more own others h g =
      record {
        matching = subst (Match type_of argument_of model (own ++ others)) (sym (types-append model items more))
            (match_append type_of argument_of model own others _ _ h.matching g.matching);
        out = h.out ++ g.out;
        prints = rw map-append (PrintsAll-append model items more (map argument_of own) (map argument_of others) h.out g.out h.prints g.prints);
        put = laws.joined old mid new h.out g.out h.put g.put;
      }

-- The pieces so far were gathered, for the first arguments.
pub record IsGathering {A O : Type 0} (type_of : A → ArgType) (argument_of : A → Argument) (wrote : O → O → Text → Type 0) (model : Model) (old : O)
    (t : Text) (args : List A) (now : O) (pieces : Pieces) (taken : ℕ) : Type 0 where
  pub read : Text
  pub items : List Item
  pub given : HasGiven pieces t read items
  pub within : taken ≤ length args
  pub so_far : IsGatheredSoFar type_of argument_of wrote model old now items (take taken args)

pub gathering : (model : Model) {A O : Type 0} {type_of : A → ArgType} {argument_of : A → Argument} {wrote : O → O → Text → Type 0}
    {stopped : O → O → Text → ℕ → Type 0} (laws : IsOutput wrote stopped) (old : O) (t : Text) (args : List A) (pieces : Pieces) → HasGiven pieces t [] []
    → IsGathering type_of argument_of wrote model old t args old pieces 0
gathering model laws old t args pieces given =
    record { read = []; items = []; given = given; within = omega arith; so_far = none_gathered model laws old }

module _ (model : Model) {A O : Type 0} {type_of : A → ArgType} {argument_of : A → Argument} {wrote : O → O → Text → Type 0}
    {stopped : O → O → Text → ℕ → Type 0} (laws : IsOutput wrote stopped) {old : O} {t : Text} {args : List A} {now : O} {before : Pieces} {taken : ℕ}
    (h : IsGathering type_of argument_of wrote model old t args now before taken) where
  module _ {new : Pieces} {r : Result Piece Refusal} (steps : NextReturns before (Some r) new) {piece : Piece} (is : r ≡ Ok piece) (after : O)
      (items : List Item) (same : items_of piece ≡ items) where
    given_more : NextIsPiece new t h.read h.items piece
    given_more = subst (λ x. NextIs (Some x) new t h.read h.items) is (steps.next t h.read h.items h.given)

    -- a piece that takes no argument
    pub literal_gathered : IsGatheredSoFar type_of argument_of wrote model now after items []
        → IsGathering type_of argument_of wrote model old t args after new taken
    literal_gathered g =
        record {
          read = h.read ++ given_more.more;
          items = h.items ++ items;
          given = subst (λ i. HasGiven new t (h.read ++ given_more.more) (h.items ++ i)) same given_more.given;
          within = h.within;
          so_far = subst (IsGatheredSoFar type_of argument_of wrote model old after (h.items ++ items)) (append-nil (take taken args))
              (more_gathered model laws old now after h.items items (take taken args) [] h.so_far g);
        }

    -- a piece that takes the next one
    pub argument_gathered : (arg : A) → slice_get args taken ≡ Some arg → IsGatheredSoFar type_of argument_of wrote model now after items (arg ∷ [])
        → IsGathering type_of argument_of wrote model old t args after new (taken + 1)
    argument_gathered arg there g =
        let within = slice_get_within args taken arg there in
        let taken_more : take (taken + 1) args ≡ take taken args ++ arg ∷ [] = take_more args taken arg within
        ∙ ap (λ a. take taken args ++ a ∷ []) (get_or_from_slice_get args taken arg arg there) in
        record {
          read = h.read ++ given_more.more;
          items = h.items ++ items;
          given = subst (λ i. HasGiven new t (h.read ++ given_more.more) (h.items ++ i)) same given_more.given;
          within = omega (arith, within);
          so_far = subst (IsGatheredSoFar type_of argument_of wrote model old after (h.items ++ items)) (sym taken_more)
              (more_gathered model laws old now after h.items items (take taken args) (arg ∷ []) h.so_far g);
        }

  -- all pieces were gathered, for all arguments
  pub all_gathered : {new : Pieces} → NextReturns before None new → taken ≡ length args
      → RendersToBy type_of argument_of model t args (λ out. wrote old now out)
  all_gathered steps all =
      let accepted = steps.next t h.read h.items h.given in
      let so_far = subst (IsGatheredSoFar type_of argument_of wrote model old now h.items) (take_all taken args (omega (arith, all))) h.so_far in
      let types_are = types_matched type_of argument_of model args (types model h.items) so_far.matching in
      let takes : TakesArguments type_of argument_of model t args = record {
        takes = record { items = h.items; accepted = accepted; types_are = types_are };
        typed = subst (HasTypes model (map argument_of args)) (sym types_are)
            (typed_matched type_of argument_of model args (types model h.items) so_far.matching);
      } in
      (so_far.out, renders_items type_of argument_of model t args takes h.items accepted.reads so_far.out so_far.prints, so_far.put)
