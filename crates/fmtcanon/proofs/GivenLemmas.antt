-- What holds of the bytes of a format that is given.
use Rattle.std.proofs.Common.{◌≡◌, ℕ, ◌≤◌, List, ◌∷◌, ◌++◌, Option, None, Some, ap, arith, length, length-append, map, subst, sym, unwrap_or}
use Rattle.std.specs.Prelude.{MatchOption, ⊤}
use Rattle.pf_literals.specs.Answers.{HasNoOffset, IsOffsetOf}
use Rattle.pf_literals.specs.Sources.{IsSourceOf}
use Rattle.pf_literals.proofs.HasOffsetLemmas.{has_offset}
use Rattle.pf_posix.specs.Refusals.{IsWholeRefusedAt}
use Rattle.pf_posix.specs.Unnumbered.{IsNumberedAt, IsUnnumberedRefusedAt}
use Rattle.pf_text.specs.declared.refusals.Refusal.{Refusal}
use Rattle.pf_values.specs.declared.models.Model.{Model}
use Rattle.pf_values.specs.declared.refusals.RefusalKind.{RefusalKind}
use Rattle.pf_values.specs.declared.refusals.RefusalKind.TheVariants as kinds
use Rattle.pf_values.specs.meaning.Refusals.{IsRefusedAt}
use Rattle.pf_values.specs.meaning.Text.{Text, dollar, percent}
use Rattle.pf_whole.specs.Languages.{Language, Profile, Numbered, RefusesText, Unnumbered}
use Rattle.fmtcanon.specs.Answers.{IsFormatFault, IsPairFault, IsGivenFault, IsGivenPairFault, IsOneFault, IsRefusalOfFirst, IsFaultInTexts, IsFaultInText}
use Rattle.fmtcanon.specs.Answers.{side_of}
use Rattle.fmtcanon.specs.FormatArguments.{IsArgumentFault}
use Rattle.fmtcanon.specs.Formats.{HoldsFormat, IsFormat, IsOffsetInText}
use Rattle.fmtcanon.specs.Questions.{language_of, language_of_format}
use Rattle.fmtcanon.specs.declared.questions.PairQuestion.{PairQuestion}
use Rattle.fmtcanon.specs.declared.outcome.Outcome.{Outcome}
use Rattle.fmtcanon.specs.declared.outcome.Outcome.TheVariants.{Refused, BadWord, WrongCount, WrongType, Memory}
use Rattle.fmtcanon.specs.declared.formats.GivenFormat.{GivenFormat}
use Rattle.fmtcanon.specs.declared.formats.FormatNotation.TheVariants.{Literals}
use Rattle.fmtcanon.specs.declared.questions.OneQuestion.{OneQuestion}
use Rattle.fmtcanon.specs.declared.questions.OneQuestion.TheVariants.{Any, Printed}

refused_within : (bytes : Text) (kind : RefusalKind) (at : ℕ) → IsRefusedAt bytes kind at → at ≤ length bytes
refused_within bytes kind at h =
    let offset = h.offset in
    let split = ap length h.split in
    let both = length-append h.front h.rest in
    omega (arith, offset, split, both)

whole_within : (model : Model) (bytes : Text) (kind : RefusalKind) (at : ℕ) → IsWholeRefusedAt model bytes kind at → at ≤ length bytes
whole_within model bytes kind at h =
    let offset = h.offset in
    let split = ap length h.split in
    let both = length-append h.front h.rest in
    omega (arith, offset, split, both)

numbered_within : (bytes : Text) (at : ℕ) → IsNumberedAt bytes at → at ≤ length bytes
numbered_within bytes at h =
    let front = h.whole ++ percent ∷ h.digits in
    let offset = h.offset in
    let split = ap length h.split in
    let both = length-append front (dollar ∷ h.rest) in
    omega (arith, offset, split, both)

unnumbered_within : (model : Model) (bytes : Text) (kind : RefusalKind) (at : ℕ) → IsUnnumberedRefusedAt model bytes kind at → at ≤ length bytes
unnumbered_within model bytes kinds.Numbered at h = numbered_within bytes at h.0
unnumbered_within model bytes kind at h = whole_within model bytes kind at h.0

offset_there : (text bytes : Text) (index : ℕ) (found : Option ℕ)
    → MatchOption found (HasNoOffset text index) (IsOffsetOf text index) → IsSourceOf text bytes → index ≤ length bytes
    → IsOffsetOf text index (unwrap_or found index)
offset_there text bytes index None none is within = let there = has_offset text bytes index is within in absurd (none there.0 there.1)
offset_there text bytes index (Some at) offset is within = offset

-- the offset of a byte in literals
pub offset_in_literals : (given : GivenFormat) (index at : ℕ) (found : Option ℕ) → given.notation ≡ Literals
    → MatchOption found (HasNoOffset given.text.now index) (IsOffsetOf given.text.now index) → at ≡ unwrap_or found index
    → (bytes : Text) → IsFormat given bytes → index ≤ length bytes → IsOffsetInText given.notation given.text.now index at
offset_in_literals given index at found is offset e bytes gives within =
    let text = given.text.now in
    let there = offset_there text bytes index found offset (subst (λ n. HoldsFormat n text bytes) is gives) within in
    subst (λ n. IsOffsetInText n text index at) (sym is) (subst (IsOffsetOf text index) (sym e) there)

-- the offset of a refusal is within the bytes, and nothing else that fails is about literals or devices
abbrev pub IsOfBytes : Text → Outcome → Type 0
IsOfBytes bytes (Refused None refusal) = refusal.at ≤ length bytes
IsOfBytes bytes (BadWord index) = ⊤
IsOfBytes bytes (WrongCount wanted given) = ⊤
IsOfBytes bytes (WrongType index) = ⊤
IsOfBytes bytes Memory = ⊤
IsOfBytes bytes _ = ⊥

-- why the bytes of a format have no answer, at the offset in the text
pub given_fault : (IsFault : Text → Outcome → Type 0) (given : GivenFormat) (bytes : Text) (fault reported : Outcome)
    → ((f : Outcome) → IsFault bytes f → IsOfBytes bytes f)
    → IsFormat given bytes → IsFault bytes fault → IsFaultInText given fault reported → IsGivenFault IsFault given reported
given_fault IsFault given bytes fault reported of gives h is = grind arith

-- in each language a refusal is within the bytes
refusal_within : (language : Language) (model : Model) (bytes : Text) (refusal : Refusal)
    → RefusesText language model bytes refusal.kind refusal.at → refusal.at ≤ length bytes
refusal_within Profile model bytes refusal h = refused_within bytes refusal.kind refusal.at h
refusal_within Numbered model bytes refusal h = whole_within model bytes refusal.kind refusal.at h
refusal_within Unnumbered model bytes refusal h = unnumbered_within model bytes refusal.kind refusal.at h

format_of_bytes : (language : Language) (model : Model) (bytes : Text) (fault : Outcome)
    → IsFormatFault language model bytes fault → IsOfBytes bytes fault
format_of_bytes language model bytes fault h = grind (arith, refusal_within)

arguments_of_bytes : (model : Model) (words : List Text) (bytes : Text) (fault : Outcome)
    → IsArgumentFault model bytes words fault → IsOfBytes bytes fault
arguments_of_bytes model words bytes fault h = grind (arith, refused_within)

-- no fault of a question about bytes is one of literals
pub one_of_bytes : (question : OneQuestion) (model : Model) (bytes : Text) (fault : Outcome)
    → IsOneFault question model bytes fault → IsOfBytes bytes fault
one_of_bytes (Any question) model bytes fault h = format_of_bytes (language_of_format question) model bytes fault h
one_of_bytes (Printed words) model bytes fault h = arguments_of_bytes model (map (λ s. s.now) words.items) bytes fault h

module _ (Needs : PairQuestion → Model → Text → Text → Type 0) (question : PairQuestion) (model : Model) (first second : GivenFormat)
    (first_bytes : Text) (g : IsFormat first first_bytes) where
  -- the refusal of the first of two formats, at the offset in the text
  pub first_refused : (fault reported : Outcome) → IsRefusalOfFirst (language_of question) model first_bytes fault → IsFaultInText first fault reported
      → IsGivenPairFault Needs question model first second reported
  first_refused fault reported h is = grind (arith, refusal_within)

  -- why two formats have no answer
  pub pair_fault : (second_bytes : Text) → IsFormat second second_bytes → (fault reported : Outcome)
      → IsPairFault Needs question model first_bytes second_bytes fault
      → IsFaultInTexts first second (side_of fault) fault reported → IsGivenPairFault Needs question model first second reported
  pair_fault second_bytes h fault reported hinders is = grind (arith, refusal_within, first_refused)
