-- The answers to questions, and why there is none. This project's own.
use Rattle.std.specs.Prelude.{◌≡◌, ℕ, ◌≤◌, List, ◌⊎◌, length, Option, None, Some, map}
use Rattle.pf_values.specs.declared.models.Model.{Model}
use Rattle.pf_values.specs.meaning.Text.{Text}
use Rattle.pf_canon.specs.Answers.{IsCanonicalFor}
use Rattle.pf_compare.specs.Answers.{FaultForCompare}
use Rattle.pf_compare.specs.declared.comparisons.CompareFault.TheVariants as compare_faults
use Rattle.pf_whole.specs.Answers.{IsWholeCanonicalFor}
use Rattle.pf_whole.specs.Comparisons.{FaultForWholeCompare}
use Rattle.pf_text.specs.Refusals.{RefusesOne}
use Rattle.pf_text.specs.declared.refusals.Side.{Side}
use Rattle.pf_text.specs.declared.refusals.Side.TheVariants as sides
use Rattle.fmtcanon.specs.declared.answer.Ending.{Ending}
use Rattle.fmtcanon.specs.declared.answer.Ending.TheVariants as endings
use Rattle.fmtcanon.specs.declared.outcome.Outcome.{Outcome}
use Rattle.fmtcanon.specs.declared.outcome.Outcome.TheVariants.{Refused, BadLiteral, BadWord, WrongCount, WrongType, Memory}
use Rattle.fmtcanon.specs.declared.formats.GivenFormat.{GivenFormat}
use Rattle.fmtcanon.specs.declared.formats.FormatNotation.{FormatNotation}
use Rattle.fmtcanon.specs.declared.questions.FormatQuestion.{FormatQuestion}
use Rattle.fmtcanon.specs.declared.questions.FormatQuestion.TheVariants.{Types, WholeTypes, Canonical, WholeCanonical, Parts, Bounds}
use Rattle.fmtcanon.specs.declared.questions.OneQuestion.{OneQuestion}
use Rattle.fmtcanon.specs.declared.questions.OneQuestion.TheVariants.{Any, Printed}
use Rattle.fmtcanon.specs.declared.models.Models.{Models}
use Rattle.fmtcanon.specs.declared.models.Models.TheVariants as models
use Rattle.fmtcanon.specs.declared.questions.PairQuestion.{PairQuestion}
use Rattle.fmtcanon.specs.declared.questions.PairQuestion.TheVariants.{Fits, FitsFewer, Same, WholeSame}
use Rattle.fmtcanon.specs.declared.questions.Question.{Question}
use Rattle.fmtcanon.specs.declared.questions.Question.TheVariants.{One, Two}
use Rattle.fmtcanon.specs.ArgumentLines.{HasArgumentLines}
use Rattle.fmtcanon.specs.ByteCounts.{HasBoundsLine}
use Rattle.fmtcanon.specs.FormatArguments.{IsArgumentFault, IsPrinted}
use Rattle.fmtcanon.specs.Formats.{HoldsAt, HoldsOf, IsFormat, IsNoFormat, IsOffsetInText, MakesBytes, written_in}
use Rattle.pf_whole.specs.Languages.{Language, AcceptsText, IsFirstIn, RefusesText}
use Rattle.fmtcanon.specs.Lines.{line}
use Rattle.fmtcanon.specs.Models.{asked_models}
use Rattle.fmtcanon.specs.PairAnswers.{IsPairAnswerIn}
use Rattle.fmtcanon.specs.Questions.{language_of, language_of_format}
use Rattle.fmtcanon.specs.Shows.{HasShownLines}
use Rattle.fmtcanon.specs.TypeLines.{HasTypeLines}

-- the canonical text of an accepted format, in a notation, and a newline
abbrev pub HasCanonicalLine : FormatNotation → (Text → Type 0) → Text → Type 0
HasCanonicalLine notation IsCanonical out =
    (canonical : Text) × IsCanonical canonical × (out ≡ line (written_in notation canonical))

-- what is answered about the bytes of a format, whatever it is
abbrev pub HasAnswer : FormatQuestion → FormatNotation → Model → Text → Text → Type 0
HasAnswer Types notation model bytes out = HasTypeLines model bytes out
HasAnswer WholeTypes notation model bytes out = HasArgumentLines model bytes out
HasAnswer Canonical notation model bytes out = HasCanonicalLine notation (IsCanonicalFor model bytes) out
HasAnswer WholeCanonical notation model bytes out = HasCanonicalLine notation (IsWholeCanonicalFor model bytes) out
HasAnswer Parts notation model bytes out = HasShownLines model bytes out
HasAnswer Bounds notation model bytes out = HasBoundsLine model bytes out

-- what is answered about the bytes of one format
abbrev pub HasOneAnswer : OneQuestion → FormatNotation → Model → Text → Text → Type 0
HasOneAnswer (Any question) notation model bytes out = HasAnswer question notation model bytes out
HasOneAnswer (Printed words) notation model bytes out =
    IsPrinted model bytes (map (λ s. s.now) words.items) out

-- These bytes answer a question, and a run that writes them all ends so.
abbrev pub IsAnswer : Question → Text → Ending → Type 0
IsAnswer (One question model format) out ending = (bytes : Text) × IsFormat format bytes
    × HasOneAnswer question format.notation model bytes out × (ending ≡ endings.Done)
IsAnswer (Two question models first second) out ending = (first_bytes second_bytes : Text)
    × IsFormat first first_bytes × IsFormat second second_bytes
    × IsPairAnswerIn question models first_bytes second_bytes out ending

-- Why the bytes of a format have no answer: they are rejected. Memory can be refused only if they are
-- accepted.
abbrev pub IsFormatFault : Language → Model → Text → Outcome → Type 0
IsFormatFault language model format (Refused None refusal) =
    RefusesText language model format refusal.kind refusal.at
IsFormatFault language model format Memory = AcceptsText language model format
IsFormatFault language model format _ = ⊥

-- the refusal of the first of two
abbrev pub IsRefusalOfFirst : Language → Model → Text → Outcome → Type 0
IsRefusalOfFirst language model first (Refused (Some sides.First) refusal) =
    RefusesText language model first refusal.kind refusal.at
IsRefusalOfFirst language model first _ = ⊥

-- both formats of a question are accepted
abbrev pub AcceptsBoth : PairQuestion → Model → Text → Text → Type 0
AcceptsBoth question model first second =
    AcceptsText (language_of question) model first × AcceptsText (language_of question) model second

-- When an answer in one data model needs memory: for arguments that tell two formats apart, whose types
-- and calls are equal.
abbrev pub NeedsMemory : PairQuestion → Model → Text → Text → Type 0
NeedsMemory Fits model first second = ⊥
NeedsMemory FitsFewer model first second = ⊥
NeedsMemory Same model first second = FaultForCompare model first second compare_faults.Memory
NeedsMemory WholeSame model first second = FaultForWholeCompare model first second compare_faults.Memory

-- when an answer in the data models that are asked for does: if they are several, it is gathered there
abbrev pub lacks_in : Models → PairQuestion → Model → Text → Text → Type 0
lacks_in (models.One model) = NeedsMemory
lacks_in models.Both = AcceptsBoth
lacks_in models.All = AcceptsBoth

-- Why two have none: the refusal of the first, otherwise of the second. Memory can be refused only if
-- it is needed.
abbrev pub IsPairFault : (PairQuestion → Model → Text → Text → Type 0) → PairQuestion → Model → Text → Text
    → Outcome → Type 0
IsPairFault Needs question model first second (Refused (Some side) refusal) =
    RefusesOne (AcceptsText (language_of question) model) (RefusesText (language_of question) model)
    first second side refusal
IsPairFault Needs question model first second Memory = Needs question model first second
IsPairFault Needs question model first second _ = ⊥

-- why two texts have no answer in some data models
abbrev pub IsFirstPairFault : (PairQuestion → Model → Text → Text → Type 0) → PairQuestion → List Model
    → Text → Text → Outcome → Type 0
IsFirstPairFault Needs question models first second fault = IsFirstIn models
    (λ model. AcceptsBoth question model first second)
    (λ model. IsPairFault Needs question model first second fault)

-- in those that are asked for
abbrev pub IsPairFaultIn : PairQuestion → Models → Text → Text → Outcome → Type 0
IsPairFaultIn question models = IsFirstPairFault (lacks_in models) question (asked_models models)

-- Why a format that is given has none, by why its bytes have none: a refusal is reported at its offset in
-- the text.
abbrev pub IsGivenFault : (Text → Outcome → Type 0) → GivenFormat → Outcome → Type 0
IsGivenFault IsFault given (Refused None refusal) = HoldsAt given
    (λ bytes at. IsFault bytes (Refused None (record refusal { at = at }))) refusal.at
IsGivenFault IsFault given (Refused (Some side) refusal) = ⊥
IsGivenFault IsFault given (BadLiteral None refusal) = IsNoFormat given refusal
IsGivenFault IsFault given (BadLiteral (Some side) refusal) = ⊥
IsGivenFault IsFault given (BadWord index) = HoldsOf given (λ bytes. IsFault bytes (BadWord index))
IsGivenFault IsFault given (WrongCount wanted had) =
    HoldsOf given (λ bytes. IsFault bytes (WrongCount wanted had))
IsGivenFault IsFault given (WrongType index) =
    HoldsOf given (λ bytes. IsFault bytes (WrongType index))
IsGivenFault IsFault given Memory =
    MakesBytes given.notation ⊎ HoldsOf given (λ bytes. IsFault bytes Memory)
IsGivenFault IsFault given _ = ⊥

-- Why two that are given have none: what is wrong with the first, otherwise with the second, if the
-- first is accepted.
abbrev pub IsGivenPairFault : (PairQuestion → Model → Text → Text → Type 0) → PairQuestion → Model
    → GivenFormat → GivenFormat → Outcome → Type 0
IsGivenPairFault Needs question model first second (Refused (Some sides.First) refusal) =
    IsGivenFault (IsFormatFault (language_of question) model) first (Refused None refusal)
IsGivenPairFault Needs question model first second (Refused (Some sides.Second) refusal) =
    HoldsOf first (AcceptsText (language_of question) model)
    × IsGivenFault (IsFormatFault (language_of question) model) second (Refused None refusal)
IsGivenPairFault Needs question model first second (BadLiteral (Some sides.First) refusal) =
    IsNoFormat first refusal
IsGivenPairFault Needs question model first second (BadLiteral (Some sides.Second) refusal) =
    HoldsOf first (AcceptsText (language_of question) model) × IsNoFormat second refusal
IsGivenPairFault Needs question model first second Memory =
    MakesBytes first.notation ⊎ MakesBytes second.notation
    ⊎ HoldsOf first (λ bytes. HoldsOf second (Needs question model bytes))
IsGivenPairFault Needs question model first second _ = ⊥

-- why two that are given have none in the data models that are asked for
abbrev pub IsGivenPairFaultIn : PairQuestion → Models → GivenFormat → GivenFormat → Outcome → Type 0
IsGivenPairFaultIn question models first second fault = IsFirstIn (asked_models models)
    (λ model. HoldsOf first (AcceptsText (language_of question) model)
    × HoldsOf second (AcceptsText (language_of question) model))
    (λ model. IsGivenPairFault (lacks_in models) question model first second fault)

-- why the bytes of a format have no answer to what is asked about them
abbrev pub IsOneFault : OneQuestion → Model → Text → Outcome → Type 0
IsOneFault (Any question) model bytes fault =
    IsFormatFault (language_of_format question) model bytes fault
IsOneFault (Printed words) model bytes fault =
    IsArgumentFault model bytes (map (λ s. s.now) words.items) fault

-- why a question has none
abbrev pub IsQuestionFault : Question → Outcome → Type 0
IsQuestionFault (One question model format) fault =
    IsGivenFault (IsOneFault question model) format fault
IsQuestionFault (Two question models first second) fault =
    IsGivenPairFaultIn question models first second fault

-- the side that is rejected
abbrev pub side_of : Outcome → Option Side
side_of (Refused side refusal) = side
side_of _ = None

-- an index in the bytes of a format is reported as this offset in the text
abbrev pub IsOffsetOfByte : GivenFormat → ℕ → ℕ → Type 0
IsOffsetOfByte given at reported = (bytes : Text) → IsFormat given bytes → at ≤ length bytes
    → IsOffsetInText given.notation given.text.now at reported

-- A refusal of the bytes of a format is reported at its offset in the text, any other fault as it is.
abbrev pub IsFaultInText : GivenFormat → Outcome → Outcome → Type 0
IsFaultInText given (Refused side refusal) reported = (at : ℕ)
    × (reported ≡ Refused side (record refusal { at = at })) × IsOffsetOfByte given refusal.at at
IsFaultInText given fault reported = reported ≡ fault

-- a refusal of the bytes of two formats is reported by the side that is rejected
abbrev pub IsFaultInTexts : GivenFormat → GivenFormat → Option Side → Outcome → Outcome → Type 0
IsFaultInTexts first second (Some sides.Second) fault reported = IsFaultInText second fault reported
IsFaultInTexts first second (Some sides.First) fault reported = IsFaultInText first fault reported
IsFaultInTexts first second None fault reported = IsFaultInText first fault reported
