-- The argument check after one more type, and what follows at the end.
use Rattle.std.proofs.Common.{◌≡◌, ℕ, zero, suc, ◌+◌, ◌<◌, ◌≤◌, List, [], ◌∷◌, ◌++◌, length, map, take, refl, sym, ap, ◌∙◌, subst, arith, inl, inr, Ok, None, Result, Some}
use Rattle.std.specs.Prelude.{slice_get}
use Rattle.std.specs.List.{AllZip}
use Rattle.std.proofs.lemmas.Bool.{cases_lt}
use Rattle.std.proofs.lemmas.List.{append-nil, length_push, take_all, take-append-le}
use Rattle.pf_values.specs.declared.limits.TheConstants.{MAX_TEXT_LEN}
use Rattle.pf_values.specs.declared.models.Model.{Model}
use Rattle.pf_values.specs.declared.types.ArgType.{ArgType}
use Rattle.pf_values.specs.meaning.Arguments.{Argument, HasTypes}
use Rattle.pf_values.specs.meaning.DataModel.{arg_type}
use Rattle.pf_values.specs.meaning.Items.{Item, Byte, Directive, types}
use Rattle.pf_values.specs.meaning.Specification.{Specification}
use Rattle.pf_values.specs.meaning.Text.{Text}
use Rattle.pf_text.specs.declared.pieces.Piece.{Piece}
use Rattle.pf_text.specs.declared.pieces.Piece.TheVariants as pieces
use Rattle.pf_text.specs.declared.pieces.Pieces.{Pieces}
use Rattle.pf_text.specs.declared.refusals.Refusal.{Refusal}
use Rattle.pf_text.specs.PieceHistory.{NextReturns, HasGiven, items_of}
use Rattle.pf_values.proofs.ItemTypes.{types-append, types-bytes}
use Rattle.pf_text.proofs.SignatureLemmas.{HasFound, all_found, more_given}
use Rattle.pf_text.specs.Signatures as signatures
use Rattle.pf_render.specs.declared.argument_lists.ArgumentCheck.{ArgumentCheck}
use Rattle.pf_render.specs.Matching.{IsOfTypeAt, TakesArguments, HasChecked}
use Rattle.pf_render.specs.Rendering.{HasWrongTypeBy, IsOfTypeBy}
use Rattle.pf_render.proofs.ItemLemmas.{length_items}

get_push : (types : List ArgType) (type : ArgType) → slice_get (types ++ type ∷ []) (length types) ≡ Some type
get_push [] type = refl
get_push (t ∷ types) type = get_push types type

get_before : (types : List ArgType) (type : ArgType) (i : ℕ) → i < length types → slice_get (types ++ type ∷ []) i ≡ slice_get types i
get_before [] type i h = absurd (omega arith)
get_before (t ∷ types) type zero h = refl
get_before (t ∷ types) type (suc i) h = get_before types type i (omega arith)

pub get_some : {A : Type 0} (xs : List A) (i : ℕ) → i < length xs → (x : A) × (slice_get xs i ≡ Some x)
get_some [] i h = absurd (omega arith)
get_some (x ∷ xs) zero h = (x, refl)
get_some (x ∷ xs) (suc i) h = get_some xs i (omega arith)

get_none : {A : Type 0} (xs : List A) (x : A) (i : ℕ) → length xs ≤ i → slice_get xs i ≡ Some x → ⊥
get_none [] x i h e = cc
get_none (y ∷ xs) x zero h e = omega arith
get_none (y ∷ xs) x (suc i) h e = get_none xs x i (omega arith) e

no_types : (model : Model) (piece : Piece) → ((d : Specification) → piece ≡ pieces.Directive d → ⊥) → types model (items_of piece) ≡ []
no_types model (pieces.Literal run) other = types-bytes model run.now
no_types model pieces.Percent other = refl
no_types model (pieces.Directive d) other = absurd (other d refl)

length_types : (model : Model) (items : List Item) → length (types model items) ≤ length items
length_types model [] = omega arith
length_types model (Byte byte ∷ items) = omega (arith, length_types model items)
length_types model (Directive s ∷ items) = omega (arith, length_types model items)

module _ {A : Type 0} (type_of : A → ArgType) (argument_of : A → Argument) where
  abbrev pub Match : Model → List A → List ArgType → Type 0
  Match model args types = AllZip (IsOfTypeBy type_of argument_of model) args types

  pub types_matched : (model : Model) (args : List A) (types : List ArgType) → Match model args types → map type_of args ≡ types
  types_matched model [] [] h = refl
  types_matched model [] (type ∷ types) h = absurd h
  types_matched model (a ∷ args) [] h = absurd h
  types_matched model (a ∷ args) (type ∷ types) h = let first = h.0.same in let rest = types_matched model args types h.1 in cc

  pub typed_matched : (model : Model) (args : List A) (types : List ArgType) → Match model args types → HasTypes model (map argument_of args) types
  typed_matched model [] [] h = tt
  typed_matched model [] (type ∷ types) h = absurd h
  typed_matched model (a ∷ args) [] h = absurd h
  typed_matched model (a ∷ args) (type ∷ types) h = (h.0.typed, typed_matched model args types h.1)

  pub match_append : (model : Model) (args others : List A) (types more : List ArgType) → Match model args types → Match model others more
      → Match model (args ++ others) (types ++ more)
  match_append model [] others [] more h g = g
  match_append model [] others (type ∷ types) more h g = absurd h
  match_append model (a ∷ args) others [] more h g = absurd h
  match_append model (a ∷ args) others (type ∷ types) more h g = (h.0, match_append model args others types more h.1 g)

  -- one more argument is of the type that comes next
  match_more : (model : Model) (args : List A) (types : List ArgType) (type : ArgType) (arg : A) → Match model (take (length types) args) types
      → slice_get args (length types) ≡ Some arg → IsOfTypeBy type_of argument_of model arg type
      → Match model (take (length (types ++ type ∷ [])) args) (types ++ type ∷ [])
  match_more model [] [] type arg h e g = cc
  match_more model (a ∷ args) [] type arg h e g = let same : arg ≡ a = cc in (subst (λ x. IsOfTypeBy type_of argument_of model x type) same g, tt)
  match_more model [] (t ∷ types) type arg h e g = absurd h
  match_more model (a ∷ args) (t ∷ types) type arg h e g = (h.0, match_more model args types type arg h.1 e g)

  -- the argument with this number, if there is one, is not of the type expected there
  abbrev IsWrongAt : Model → List A → List ArgType → ℕ → Type 0
  IsWrongAt model args types index =
      (type : ArgType) → slice_get types index ≡ Some type → IsOfTypeAt type_of argument_of model args index type → ⊥

  wrong_still : (model : Model) (args : List A) (types : List ArgType) (wanted : ArgType) (matched count : ℕ) → IsWrongAt model args types matched
      → count ≡ length types → matched ≤ length types
      → (matched ≡ count → IsOfTypeAt type_of argument_of model args matched wanted → ⊥) → IsWrongAt model args (types ++ wanted ∷ []) matched
  wrong_still model args types wanted matched count h e within other = elim (cases_lt matched (length types)) [
    | inl less ↦ λ type is. h type (sym (get_before types wanted matched less) ∙ is)
    | inr most ↦ λ type is found.
        let here : matched ≡ length types = omega arith in
        let same : Some wanted ≡ Some type = sym (ap (slice_get (types ++ wanted ∷ [])) here ∙ get_push types wanted) ∙ is in
        let last : wanted ≡ type = cc in
        other (here ∙ sym e) (subst (IsOfTypeAt type_of argument_of model args matched) (sym last) found)
  ]

  module _ (model : Model) (args : List A) (types : List ArgType) (type : ArgType) (matched : ℕ) where
    -- the argument that comes next is of the type that comes next
    pub checked_matched : (wanted : ℕ) → HasChecked type_of argument_of model (record { wanted = wanted; matched = matched }) args types → matched ≡ wanted
        → IsOfTypeAt type_of argument_of model args matched type
        → HasChecked type_of argument_of model (record { wanted = wanted + 1; matched = wanted + 1 }) args (types ++ type ∷ [])
    checked_matched wanted h e g =
        let all : matched ≡ length types = e ∙ h.wanted_is in
        let count : wanted + 1 ≡ length (types ++ type ∷ []) = omega (arith, h.wanted_is, length_push types type) in
        let front : Match model (take (length types) args) types = subst (λ ts. Match model (take (length types) args) ts)
        (take_all (length types) types (omega arith)) (subst (λ n. Match model (take n args) (take n types)) all h.matching) in
        let more = match_more model args types type g.0 front (subst (λ n. slice_get args n ≡ Some g.0) all g.1) g.2 in
        record {
          wanted_is = count;
          within = omega arith;
          matching = subst (λ n. Match model (take n args) (take n (types ++ type ∷ []))) (sym count)
              (subst (λ ts. Match model (take (length (types ++ type ∷ [])) args) ts)
              (sym (take_all (length (types ++ type ∷ [])) (types ++ type ∷ []) (omega arith))) more);
          wrong = λ other is. absurd (get_none (types ++ type ∷ []) other (wanted + 1) (omega arith) is);
        }

    -- it is not, or one before it was not
    pub checked_unmatched : (wanted : ℕ) → HasChecked type_of argument_of model (record { wanted = wanted; matched = matched }) args types
        → (matched ≡ wanted → IsOfTypeAt type_of argument_of model args matched type → ⊥)
        → HasChecked type_of argument_of model (record { wanted = wanted + 1; matched = matched }) args (types ++ type ∷ [])
    checked_unmatched wanted h other =
        record {
          wanted_is = omega (arith, h.wanted_is, length_push types type);
          within = omega (arith, h.within, length_push types type);
          matching = subst (λ ts. Match model (take matched args) ts) (sym (take-append-le matched types (type ∷ []) h.within)) h.matching;
          wrong = wrong_still model args types type matched wanted h.wrong h.wanted_is h.within other;
        }

  -- what as many arguments are as there are types, once every type is checked
  module _ (model : Model) (check : ArgumentCheck) (t : Text) (args : List A) (types : List ArgType) (h : HasChecked type_of argument_of model check args types)
      (takes : signatures.TakesTypes model t types) (same : check.wanted ≡ length args) where
    pub wrong_type : (check.matched ≡ check.wanted → ⊥) → HasWrongTypeBy type_of argument_of model t args check.matched
    wrong_type less =
        let arg = get_some args check.matched (omega (arith, h.within, h.wanted_is)) in
        let wanted = get_some types check.matched (omega (arith, h.within, h.wanted_is)) in
        record {
          types = types;
          takes = takes;
          same_count = sym same ∙ h.wanted_is;
          before = h.matching;
          arg = arg.0;
          wanted = wanted.0;
          arg_is = arg.1;
          wanted_is = wanted.1;
          wrong = λ is. h.wrong wanted.0 wanted.1 (arg.0, arg.1, is);
        }

    pub all_matched : check.matched ≡ check.wanted → TakesArguments type_of argument_of model t args
    all_matched e =
        let given = take_all check.matched args (omega arith) in
        let wanted = take_all check.matched types (omega (arith, h.wanted_is)) in
        let all : Match model args types = subst (λ ts. Match model args ts) wanted
        (subst (λ xs. Match model xs (take check.matched types)) given h.matching) in
        let types_are = types_matched model args types all in
        record {
          takes = subst (signatures.TakesTypes model t) (sym types_are) takes;
          typed = subst (HasTypes model (map argument_of args)) (sym types_are) (typed_matched model args types all);
        }

  -- The pieces so far were given, and the arguments are checked against the types that they take.
  pub record IsChecked (model : Model) (pieces : Pieces) (t : Text) (args : List A) (check : ArgumentCheck) : Type 0 where
    pub types : List ArgType
    pub found : HasFound model pieces t types
    pub checked : HasChecked type_of argument_of model check args types

  -- no piece was given yet
  pub none_checked : (model : Model) (pieces : Pieces) (t : Text) (args : List A) → HasGiven pieces t [] []
      → IsChecked model pieces t args (record { wanted = 0; matched = 0 })
  none_checked model pieces t args given =
      record {
        types = [];
        found = record { read = []; items = []; given = given; types_are = refl };
        checked = record { wanted_is = refl; within = omega arith; matching = tt; wrong = λ type is. cc };
      }

module _ {A : Type 0} {type_of : A → ArgType} {argument_of : A → Argument} where
  module _ (model : Model) {before : Pieces} {t : Text} {args : List A} {check : ArgumentCheck}
      (h : IsChecked type_of argument_of model before t args check) where
    -- a text has few directives
    pub few_found : length h.types ≤ MAX_TEXT_LEN
    few_found = let found = h.found in omega (
      arith,
      ap length found.types_are,
      length_types model found.items,
      length_items found.read found.items
          found.given.reads,
      found.given.limit,
    )

    pub all_checked : {new : Pieces} → NextReturns before None new → signatures.TakesTypes model t h.types
    all_checked {new} steps = all_found model before new t h.types h.found steps

    module _ {new : Pieces} {r : Result Piece Refusal} (steps : NextReturns before (Some r) new) {piece : Piece} (is : r ≡ Ok piece)
        (after : ArgumentCheck) where
      piece_checked : (wanted : List ArgType) → wanted ≡ types model (items_of piece) → HasChecked type_of argument_of model after args (h.types ++ wanted)
          → IsChecked type_of argument_of model new t args after
      piece_checked wanted same checked =
          let found = h.found in
          let g = more_given model before new t h.types found r steps piece is in
          record {
            types = h.types ++ wanted;
            found = record {
              read = found.read ++ g.more;
              items = found.items ++ items_of piece;
              given = g.given;
              types_are = ap (λ f. f ++ wanted) found.types_are ∙ ap (λ m. types model found.items ++ m) same
                  ∙ sym (types-append model found.items (items_of piece));
            };
            checked = checked;
          }

      pub directive_checked : (d : Specification) (type : ArgType) → piece ≡ pieces.Directive d → type ≡ arg_type model d
          → HasChecked type_of argument_of model after args (h.types ++ type ∷ []) → IsChecked type_of argument_of model new t args after
      directive_checked d type e same checked = piece_checked (type ∷ []) (ap (λ x. x ∷ []) same ∙ sym (ap (λ p. types model (items_of p)) e)) checked

      pub other_checked : ((d : Specification) → piece ≡ pieces.Directive d → ⊥) → HasChecked type_of argument_of model after args h.types
          → IsChecked type_of argument_of model new t args after
      other_checked other checked = piece_checked [] (sym (no_types model piece other))
          (subst (HasChecked type_of argument_of model after args) (sym (append-nil h.types)) checked)
