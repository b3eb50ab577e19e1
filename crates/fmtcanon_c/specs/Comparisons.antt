-- What a comparison of two formats answers, in the profile and in the whole language. This project's own.
use Rattle.std.specs.Prelude.{◌≡◌, ◌⊎◌, ℕ, ℤ, pos, [], length}
use Rattle.pf_values.specs.declared.models.Model.{Model}
use Rattle.pf_values.specs.meaning.Text.{Text}
use Rattle.pf_compare.specs.declared.comparisons.CompareFault.{CompareFault}
use Rattle.pf_compare.specs.declared.comparisons.CompareFault.TheVariants.{Refused, Memory}
use Rattle.pf_whole.specs.Comparisons.{IsComparison, ShowsArguments}
use Rattle.pf_whole.specs.declared.verdicts.WholeVerdict.{WholeVerdict}
use Rattle.pf_whole.specs.declared.verdicts.WholeVerdict.TheVariants.{Same, Types, Directives, Args}
use Rattle.fmtcanon_c.specs.declared.comparison.CComparison.{CComparison}
use Rattle.fmtcanon_c.specs.declared.interface.CError.{CError}
use Rattle.fmtcanon_c.specs.declared.interface.TheConstants.{NO_MEMORY}
use Rattle.fmtcanon_c.specs.Buffers.{put}
use Rattle.fmtcanon_c.specs.Errors.{IsRefusalCode}
use Rattle.fmtcanon_c.specs.Words.{ended_words}

-- the words of the arguments that a verdict shows
abbrev pub words_of : WholeVerdict → Text
words_of Same = []
words_of (Types index) = []
words_of (Directives index) = []
words_of (Args shown) = ended_words shown.items

-- the code of a verdict
abbrev pub verdict_code : WholeVerdict → ℕ
verdict_code Same = 1
verdict_code (Types index) = 2
verdict_code (Args shown) = 3
verdict_code (Directives index) = 4

-- the argument at which types or calls differ, or how many arguments are shown
abbrev pub verdict_number : WholeVerdict → ℕ
verdict_number Same = 0
verdict_number (Types index) = index
verdict_number (Directives index) = index
verdict_number (Args shown) = length shown.items

-- the answer of a comparison
pub record IsComparisonCode (verdict : WholeVerdict) (renderings : ℕ) (answer : CComparison) : Type 0 where
  pub verdict_is : answer.verdict ≡ verdict_code verdict
  pub number : answer.number ≡ verdict_number verdict
  pub renderings_are : answer.renderings ≡ renderings

-- a comparison is answered, the words of its arguments are put where the buffer has room for them, and
-- how many bytes they are is returned
pub record PutsVerdict (verdict : WholeVerdict) (renderings : ℕ) (out : Text) (error : CError) (code : ℤ)
    (out_now : Text) (answer_now : CComparison) (error_now : CError) : Type 0 where
  pub answer_is : IsComparisonCode verdict renderings answer_now
  pub code_is : code ≡ pos (length (words_of verdict))
  pub out_is : out_now ≡ put (words_of verdict) out
  pub error_is : error_now ≡ error

-- the code of a fault
abbrev pub IsFaultCode : CompareFault → CError → ℤ → CError → Type 0
IsFaultCode (Refused side refusal) error code error_now = IsRefusalCode side refusal code error_now
IsFaultCode Memory error code error_now = (code ≡ NO_MEMORY) × (error_now ≡ error)

-- nothing is put or answered, for this reason
pub record PutsNoVerdict (fault : CompareFault) (out : Text) (answer : CComparison) (error : CError)
    (code : ℤ) (out_now : Text) (answer_now : CComparison) (error_now : CError) : Type 0 where
  pub out_is : out_now ≡ out
  pub answer_is : answer_now ≡ answer
  pub code_is : IsFaultCode fault error code error_now

-- a comparison is answered, or there is a fault: one text is rejected, or memory is out
abbrev pub PutsComparison : (WholeVerdict → ℕ → Type 0) → (CompareFault → Type 0) → Text → CComparison
    → CError → ℤ → Text → CComparison → CError → Type 0
PutsComparison Is IsFault out answer error code out_now answer_now error_now =
    ((verdict : WholeVerdict) × (renderings : ℕ) × Is verdict renderings
    × PutsVerdict verdict renderings out error code out_now answer_now error_now)
    ⊎ ((fault : CompareFault) × IsFault fault
    × PutsNoVerdict fault out answer error code out_now answer_now error_now)

-- two formats of the whole language are compared, which counts no candidates
abbrev pub IsUncountedVerdict : Model → Text → Text → WholeVerdict → ℕ → Type 0
IsUncountedVerdict model first second verdict renderings =
    IsComparison model first second verdict × (renderings ≡ 0)

-- the answer of a comparison that was made
abbrev pub AnswersVerdict : WholeVerdict → ℕ → Text → CComparison → CError → ℤ → Text → CComparison → CError
    → Type 0
AnswersVerdict verdict renderings out answer error code out_now answer_now error_now =
    PutsVerdict verdict renderings out error code out_now answer_now error_now
    ⊎ (ShowsArguments verdict
    × PutsNoVerdict Memory out answer error code out_now answer_now error_now)
