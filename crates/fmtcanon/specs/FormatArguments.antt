-- The arguments that words give for a format, why they give none, and what it prints for them. This
-- project's own.
use Rattle.std.specs.Prelude.{◌≡◌, ◌≢◌, ℕ, List, length, map, take, None, Some, slice_get, ⊤}
use Rattle.std.specs.List.{AllByRecursion, AllZip}
use Rattle.pf_values.specs.declared.arguments.Arg.{Arg}
use Rattle.pf_values.specs.declared.models.Model.{Model}
use Rattle.pf_values.specs.declared.types.ArgType.{ArgType}
use Rattle.pf_values.specs.Arg.{argument_of, type_of}
use Rattle.pf_values.specs.meaning.Arguments.{Argument, HasType, HasTypes}
use Rattle.pf_values.specs.meaning.Items.{HasItems, IsAccepted, Item, types}
use Rattle.pf_values.specs.meaning.Printing.{PrintsAll}
use Rattle.pf_values.specs.meaning.Refusals.{IsRefusedAt}
use Rattle.pf_values.specs.meaning.Text.{Text}
use Rattle.fmtcanon.specs.declared.outcome.Outcome.{Outcome}
use Rattle.fmtcanon.specs.declared.outcome.Outcome.TheVariants.{Refused, BadWord, WrongCount, WrongType, Memory}
use Rattle.fmtcanon.specs.ArgumentWords.{SpellsArgument}

-- each word gives an argument, in order
abbrev pub SpellArguments : List Text → List Argument → Type 0
SpellArguments words arguments = AllZip SpellsArgument words arguments

-- a word gives some argument
abbrev pub SpellsSomeArgument : Text → Type 0
SpellsSomeArgument word = (argument : Argument) × SpellsArgument word argument

-- the word with this index gives no argument, and each before it gives one
pub record IsFirstBadWord (words : List Text) (index : ℕ) : Type 0 where
  pub word : Text
  pub here : slice_get words index ≡ Some word
  pub bad : ¬ SpellsSomeArgument word
  pub good_before : AllByRecursion SpellsSomeArgument (take index words)

-- the argument with this index is not of its type, and each before it is
pub record IsFirstWrongType (model : Model) (arguments : List Argument) (wanted : List ArgType)
    (index : ℕ) : Type 0 where
  pub argument : Argument
  pub type : ArgType
  pub here : slice_get arguments index ≡ Some argument
  pub type_here : slice_get wanted index ≡ Some type
  pub wrong : ¬ HasType model argument type
  pub right_before : HasTypes model (take index arguments) (take index wanted)

-- what stops the reading of words
abbrev pub IsBadWord : List Text → Outcome → Type 0
IsBadWord words (BadWord index) = IsFirstBadWord words index
IsBadWord words Memory = ⊤
IsBadWord words _ = ⊥

-- what stops the pairing of arguments with types
abbrev pub IsWrongType : Model → List Argument → List ArgType → Outcome → Type 0
IsWrongType model arguments wanted (WrongType index) = IsFirstWrongType model arguments wanted index
IsWrongType model arguments wanted Memory = ⊤
IsWrongType model arguments wanted _ = ⊥

-- the items of an accepted format, and the arguments that words give
pub record IsGiven (format : Text) (words : List Text) (items : List Item)
    (arguments : List Argument) : Type 0 where
  pub accepted : HasItems format items
  pub spelled : SpellArguments words arguments

-- the words give these arguments for a format, each of its type
pub record AreArgumentsFor (model : Model) (format : Text) (words : List Text)
    (args : List Arg) : Type 0 where
  pub items : List Item
  pub given : IsGiven format words items (map argument_of args)
  pub typed : HasTypes model (map argument_of args) (types model items)
  pub types_are : map type_of args ≡ types model items

-- Why there are no arguments: the first that holds, in this order.
abbrev pub IsArgumentFault : Model → Text → List Text → Outcome → Type 0
IsArgumentFault model format words (Refused None refusal) =
    IsRefusedAt format refusal.kind refusal.at
IsArgumentFault model format words (BadWord index) = IsAccepted format × IsFirstBadWord words index
IsArgumentFault model format words (WrongCount wanted given) =
    (items : List Item) × (arguments : List Argument) × IsGiven format words items arguments
    × (wanted ≡ length (types model items)) × (given ≡ length words) × (wanted ≢ given)
IsArgumentFault model format words (WrongType index) =
    (items : List Item) × (arguments : List Argument) × IsGiven format words items arguments
    × (length arguments ≡ length (types model items))
    × IsFirstWrongType model arguments (types model items) index
IsArgumentFault model format words Memory = IsAccepted format
IsArgumentFault model format words _ = ⊥

-- what a format prints for the arguments that words give, and nothing else (C11 7.21.6.1 p2, p3)
pub record IsPrinted (model : Model) (format : Text) (words : List Text) (out : Text) : Type 0 where
  pub items : List Item
  pub arguments : List Argument
  pub given : IsGiven format words items arguments
  pub typed : HasTypes model arguments (types model items)
  pub prints : PrintsAll model items arguments out
  pub only : (other : Text) → PrintsAll model items arguments other → other ≡ out
