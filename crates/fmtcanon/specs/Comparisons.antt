-- What a comparison prints, in the profile and in the whole language. This project's own.
use Rattle.std.specs.Prelude.{◌≡◌, ◌++◌, ℕ, Option, None, Some, codes, decimal, flat_map}
use Rattle.pf_values.specs.declared.models.Model.{Model}
use Rattle.pf_values.specs.declared.types.ArgType.{ArgType}
use Rattle.pf_values.specs.meaning.Arguments.{Argument, HasType}
use Rattle.pf_values.specs.meaning.Text.{Text}
use Rattle.pf_compare.specs.Owned.{argument_of_owned}
use Rattle.pf_compare.specs.Words.{argument_word}
use Rattle.pf_compare.specs.declared.owned_args.OwnedArg.{OwnedArg}
use Rattle.pf_whole.specs.Comparisons.{IsComparison, IsProfileVerdict}
use Rattle.pf_whole.specs.declared.verdicts.WholeVerdict.{WholeVerdict}
use Rattle.pf_whole.specs.declared.verdicts.WholeVerdict.TheVariants.{Same, Types, Directives, Args}
use Rattle.fmtcanon.specs.declared.answer.Ending.{Ending}
use Rattle.fmtcanon.specs.declared.answer.Ending.TheVariants as endings
use Rattle.fmtcanon.specs.ArgumentWords.{SpellsArgument}
use Rattle.fmtcanon.specs.Lines.{line}

-- it is read as that argument
abbrev pub PrintedWordIsRead : Model → Type 0
PrintedWordIsRead model =
    (argument : Argument) (type : ArgType) → HasType model argument type
    → SpellsArgument (argument_word argument) argument

-- the line of an argument, which may be any
abbrev pub shown_line : Option OwnedArg → Text
shown_line None = line (codes "any")
shown_line (Some arg) = line (argument_word (argument_of_owned arg))

-- a line, and where the bytes differ one more for each argument
abbrev pub verdict_lines : WholeVerdict → Text
verdict_lines Same = line (codes "same")
verdict_lines (Types index) = line (codes "types differ at argument " ++ decimal index)
verdict_lines (Directives index) = line (codes "directives differ at argument " ++ decimal index)
verdict_lines (Args shown) = line (codes "different") ++ flat_map shown_line shown.items

-- how a run with this verdict ends
abbrev pub ending_of : WholeVerdict → Ending
ending_of Same = endings.Same
ending_of (Types index) = endings.Different
ending_of (Directives index) = endings.Different
ending_of (Args shown) = endings.Different

-- a verdict is answered
pub record IsVerdictAnswer (verdict : WholeVerdict) (out : Text) (ending : Ending) : Type 0 where
  pub lines : out ≡ verdict_lines verdict
  pub ends : ending ≡ ending_of verdict

-- the verdict on two accepted formats of the profile is answered
abbrev pub IsComparisonAnswer : Model → Text → Text → Text → Ending → Type 0
IsComparisonAnswer model first second out ending = (verdict : WholeVerdict) × (renderings : ℕ)
    × IsProfileVerdict model first second verdict renderings × IsVerdictAnswer verdict out ending

-- that of two of the whole language is
abbrev pub IsAlikeAnswer : Model → Text → Text → Text → Ending → Type 0
IsAlikeAnswer model first second out ending = (verdict : WholeVerdict)
    × IsComparison model first second verdict × IsVerdictAnswer verdict out ending
