-- Reading the words of arguments one after another, and giving each argument its type.
use Rattle.std.proofs.Common.{◌≡◌, ◌≢◌, ℕ, ◌+◌, ◌<◌, List, [], ◌∷◌, ◌++◌, Bor, Option, Some, ap, ap₂, arith, get_or, length, map, option_map, sym, take, ◌∙◌}
use Rattle.std.specs.List.{AllByRecursion}
use Rattle.std.proofs.lemmas.List.{length-map, length-take-le, map-append, map_more, take-map, take_more}
use Rattle.std.proofs.lemmas.Option.{slice_get-get_or, slice_get-map}
use Rattle.std.proofs.lemmas.Slice.Zip.{AllZip-long, all_zipped_more}
use Rattle.pf_text.specs.Signatures as signatures
use Rattle.pf_values.specs.declared.arguments.Arg.{Arg}
use Rattle.pf_values.specs.declared.models.Model.{Model}
use Rattle.pf_values.specs.declared.types.ArgType.{ArgType}
use Rattle.pf_values.specs.Arg.{argument_of, type_of}
use Rattle.pf_values.specs.meaning.Arguments.{Argument, HasType, HasTypes}
use Rattle.pf_values.specs.meaning.Text.{Text}
use Rattle.fmtcanon.specs.ArgumentWords.{SpellsArgument}
use Rattle.fmtcanon.specs.declared.outcome.Outcome.TheVariants.{WrongCount}
use Rattle.fmtcanon.specs.declared.arguments.UntypedArg.{UntypedArg}
use Rattle.fmtcanon.specs.FormatArguments.{SpellsSomeArgument, IsArgumentFault, IsFirstBadWord, IsFirstWrongType, SpellArguments}
use Rattle.fmtcanon.specs.UntypedArgs.{argument_given}

all_give : (words : List Text) (arguments : List Argument) → SpellArguments words arguments → AllByRecursion SpellsSomeArgument words
all_give [] arguments h = tt
all_give (word ∷ words) [] h = absurd h
all_give (word ∷ words) (argument ∷ arguments) h = ((argument, h.0), all_give words arguments h.1)

-- the words before the one with this index gave the arguments
module _ (words : List (Bor Text)) (at : ℕ) (given : List UntypedArg)
    (before : SpellArguments (map (λ s. s.now) (take at words)) (map argument_given given)) (here : at < length words) where
  pub given_so_far : length given ≡ at
  given_so_far = sym (length-map given argument_given) ∙ AllZip-long SpellsArgument _ _ before ∙ length-map (take at words) (λ s. s.now)
      ∙ length-take-le at words (omega arith)

  module _ (d : Bor Text) (word : Text) (is_here : word ≡ (get_or words at d).now) where
    pub one_more_spelled : (argument : UntypedArg) → SpellsArgument word (argument_given argument)
        → SpellArguments (map (λ s. s.now) (take (at + 1) words)) (map argument_given (given ++ argument ∷ []))
    one_more_spelled argument h =
        rw (map_more (λ (s : Bor Text). s.now) words at d here, map-append argument_given given (argument ∷ []), ← is_here)
        (all_zipped_more SpellsArgument _ _ word (argument_given argument) before h)

    pub first_bad_word : (SpellsSomeArgument word → ⊥) → IsFirstBadWord (map (λ s. s.now) words) at
    first_bad_word bad = record {
      word = word;
      here = slice_get-map (λ (s : Bor Text). s.now) words at ∙ ap (λ (o : Option (Bor Text)). option_map (λ s. s.now) o) (slice_get-get_or words at d here)
          ∙ ap Some (sym is_here);
      bad = bad;
      good_before = rw take-map (all_give _ _ before);
    }

-- the arguments before the one with this index have their types
pub record AreTyped (model : Model) (given : List UntypedArg) (wanted : List ArgType) (args : List Arg) (at : ℕ) : Type 0 where
  pub same : map argument_of args ≡ map argument_given (take at given)
  pub types_are : map type_of args ≡ take at wanted
  pub typed : HasTypes model (map argument_given (take at given)) (take at wanted)

module _ (model : Model) (given : List UntypedArg) (wanted : List ArgType) (args : List Arg) (at : ℕ) (before : AreTyped model given wanted args at) where
  pub typed_so_far : at < length given → length args ≡ at
  typed_so_far here = sym (length-map args argument_of) ∙ ap length before.same ∙ length-map (take at given) argument_given
      ∙ length-take-le at given (omega arith)

  module _ (argument : UntypedArg) (type : ArgType) (here : at < length given) (type_here : at < length wanted)
      (is_here : (d : UntypedArg) → argument ≡ get_or given at d) (type_is_here : (d : ArgType) → type ≡ get_or wanted at d) where
    pub one_more_typed : (arg : Arg) → argument_of arg ≡ argument_given argument → type_of arg ≡ type → HasType model (argument_given argument) type
        → AreTyped model given wanted (args ++ arg ∷ []) (at + 1)
    one_more_typed arg same type_is typed =
        let first = map_more argument_given given at argument here in
        let second = take_more wanted at type type_here in
        let pushed : List Argument → Argument → List Argument = λ xs x. xs ++ x ∷ [] in
        record {
          same = map-append argument_of args (arg ∷ []) ∙ ap₂ pushed before.same (same ∙ ap argument_given (is_here argument)) ∙ sym first;
          types_are = map-append type_of args (arg ∷ []) ∙ ap₂ (λ (xs : List ArgType) x. xs ++ x ∷ []) before.types_are (type_is ∙ type_is_here type)
              ∙ sym second;
          typed = rw (first, second, ← is_here argument, ← type_is_here type)
              (all_zipped_more (HasType model) _ _ (argument_given argument) type before.typed typed);
        }

    pub first_wrong_type : (HasType model (argument_given argument) type → ⊥) → IsFirstWrongType model (map argument_given given) wanted at
    first_wrong_type wrong = record {
      argument = argument_given argument;
      type = type;
      here = slice_get-map argument_given given at ∙ ap (option_map argument_given)
          (slice_get-get_or given at argument here ∙ ap Some (sym (is_here argument)));
      type_here = slice_get-get_or wanted at type type_here ∙ ap Some (sym (type_is_here type));
      wrong = wrong;
      right_before = rw take-map before.typed;
    }

-- there are more or fewer words than the format takes arguments
pub wrong_count_hinders : (model : Model) (format : Text) (words : List Text) (wanted : List ArgType) → signatures.TakesTypes model format wanted
    → (arguments : List Argument) → SpellArguments words arguments
    → (count given : ℕ) → count ≡ length wanted → given ≡ length arguments → count ≢ given → IsArgumentFault model format words (WrongCount count given)
wrong_count_hinders model format words wanted takes arguments spelled count given is_count is_given differ = (
  takes.items,
  arguments,
  record { accepted = takes.accepted; spelled = spelled },
  is_count ∙ ap length takes.types_are,
  is_given ∙ AllZip-long SpellsArgument _ _ spelled,
  differ,
)
