-- The words of the arguments for which two formats print different bytes. This project's own.
use Rattle.std.specs.Prelude.{[], ◌∷◌, ◌++◌, List, Option, Some, None, codes, flat_map}
use Rattle.pf_values.specs.meaning.Text.{Text}
use Rattle.pf_compare.specs.Owned.{argument_of_owned}
use Rattle.pf_compare.specs.Words.{argument_word}
use Rattle.pf_compare.specs.declared.owned_args.OwnedArg.{OwnedArg}

-- the word of an argument, or of one that may be any
abbrev pub word_or_any : Option OwnedArg → Text
word_or_any None = codes "any"
word_or_any (Some arg) = argument_word (argument_of_owned arg)

-- the words of arguments, each with a NUL after it
abbrev pub ended_words : List (Option OwnedArg) → Text
ended_words args = flat_map (λ arg. word_or_any arg ++ 0 ∷ []) args
