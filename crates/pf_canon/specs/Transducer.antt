-- A transducer after some bytes.
use Rattle.std.specs.Prelude.{◌≡◌, ◌≢◌, ℕ, ◌+◌, ◌*◌, ◌<◌, ◌≤◌, ◌^◌, List, [], ◌∷◌, ◌++◌, length, Result, Ok, Err, ◌⊎◌}
use Rattle.pf_values.specs.declared.models.Model.{Model}
use Rattle.pf_values.specs.declared.refusals.RefusalKind.{RefusalKind}
use Rattle.pf_values.specs.declared.refusals.RefusalKind.TheVariants.{Truncated}
use Rattle.pf_values.specs.meaning.Canonical.{IsCanonicalOf, IsCanonicalText}
use Rattle.pf_values.specs.Settled.{IsSettled}
use Rattle.pf_values.specs.meaning.Items.{Item, Byte, Directive, Reads}
use Rattle.pf_values.specs.meaning.Refusals.{IsGoodFront, IsRefusedAt}
use Rattle.pf_values.specs.meaning.Specification.{Specification}
use Rattle.pf_values.specs.meaning.Text.{Text, percent}
use Rattle.pf_text.specs.declared.refusals.Refusal.{Refusal}
use Rattle.pf_text.specs.declared.scanner.Scanner.{Scanner}
use Rattle.pf_text.specs.declared.scanner.Step.{Step}
use Rattle.pf_text.specs.declared.scanner.Step.TheVariants as steps
use Rattle.pf_text.specs.History.{IsAfter, IsLiteral, with_step}
use Rattle.pf_canon.specs.declared.output.SettledText.{SettledText}
use Rattle.pf_canon.specs.declared.output.StepOutput.{StepOutput}
use Rattle.pf_canon.specs.declared.output.StepOutput.TheVariants as outputs
use Rattle.pf_canon.specs.declared.transducer.Transducer.{Transducer}
use Rattle.pf_canon.specs.Answers.{most_len}
use Rattle.pf_canon.specs.Making.{IsMaking}
use Rattle.pf_canon.specs.Output.{output_text}

-- `s` is what the whole items of `t` settle
pub record SettlesTo (model : Model) (t s : Text) : Type 0 where
  pub items : List Item
  pub part : Text
  pub good : IsGoodFront t items part
  pub settled : IsSettled model good.splits.whole s

-- `s` is what the whole items of a text settle that may be rejected: `front` is the longest front of
-- it that isn't.
pub record SettlesWhole (model : Model) (t s : Text) : Type 0 where
  pub front : Text
  pub rest : Text
  pub split : t ≡ front ++ rest
  pub settles : SettlesTo model front s
  pub longest : (rest ≡ []) ⊎ ((rest ≢ []) × (kind : RefusalKind)
      × IsRefusedAt t kind (length front))

abbrev pub data_model_of : Transducer → Model
data_model_of r = r.model

abbrev pub scanner_of : Transducer → Scanner
scanner_of r = r.scanner

abbrev pub held_silents_of : Transducer → ℕ
held_silents_of r = r.silents

-- The transducer, in this data model, took the text, which has these whole items, and what it
-- settled of them is `out`.
pub record IsThrough (model : Model) (r : Transducer) (t : Text) (items : List Item)
    (out : Text) : Type 0 where
  pub model_is : r.model ≡ model
  pub after : IsAfter r.scanner t items
  pub made : IsMaking model out r.silents items []
  pub few : r.silents ≤ length t
  pub short : length out + 4 * r.silents ≤ most_len items

-- whatever a transducer took before, it took bytes after that, and what they settle was put
abbrev pub PutsBytes : {A : Type 0} → (A → A → Text → Type 0) → A → A → Transducer → Transducer → Text
    → Type 0
PutsBytes given old new before after bytes = (more : Text) × given old new more
    × ((model : Model) (t out : Text) (items : List Item) → IsThrough model before t items out
    → (now : List Item) × IsThrough model after (t ++ bytes) now (out ++ more))

-- the item that a step ends, if it does
abbrev pub more_of : Step → List Item
more_of steps.More = []
more_of (steps.Byte b) = Byte b ∷ []
more_of steps.Percent = Byte percent ∷ []
more_of (steps.Directive d) = Directive d ∷ []

-- what a byte settled
abbrev pub byte_output_text : StepOutput → ℕ → Text
byte_output_text outputs.Nothing byte = []
byte_output_text outputs.Literal byte = byte ∷ []
byte_output_text (outputs.Output output) byte = output_text output

-- one more byte was taken
pub record GrowsByByte (model : Model) (t : Text) (items : List Item) (out : Text) (byte : ℕ)
    (output : StepOutput) (new : Transducer) : Type 0 where
  pub more : List Item
  pub through : IsThrough model new (t ++ byte ∷ []) (items ++ more)
      (out ++ byte_output_text output byte)

-- the byte `last` after `front` is rejected, however the text goes on
abbrev pub StaysRefused : Text → ℕ → Refusal → Type 0
StaysRefused front last refusal =
    (rest : Text) → IsRefusedAt (front ++ last ∷ rest) refusal.kind refusal.at

abbrev pub TakesByte : Model → Text → List Item → Text → ℕ → Result StepOutput Refusal → Transducer
    → Type 0
TakesByte model t items out byte (Ok output) new = GrowsByByte model t items out byte output new
TakesByte model t items out byte (Err refusal) new = (refusal.at ≡ length t)
    × StaysRefused t byte refusal

-- a literal byte is the one that was fed
abbrev pub IsStepOf : Step → ℕ → Type 0
IsStepOf (steps.Byte b) byte = (b ≡ byte) × IsLiteral byte
IsStepOf steps.More byte = Unit {0}
IsStepOf steps.Percent byte = Unit {0}
IsStepOf (steps.Directive d) byte = Unit {0}

abbrev pub Settles : Model → Step → ℕ → List Item → Text → ℕ → StepOutput → ℕ → Type 0
Settles model step byte items out held output still = IsStepOf step byte → held < 2 ^ 63
    → IsMaking model out held items []
    → IsMaking model (out ++ byte_output_text output byte) still (with_step items step) []

abbrev pub SettlesDirective : Model → Specification → List Item → List Item → Text → ℕ → SettledText → ℕ
    → Type 0
SettlesDirective model s items rest out held output still = held < 2 ^ 63
    → IsMaking model out held items (Directive s ∷ rest)
    → IsMaking model (out ++ output_text output) still items rest

-- The byte `last` of a text that follows `t` is rejected, and what comes before it settles `out`.
pub record RefusesBlock (model : Model) (t out text : Text) (refusal : Refusal) : Type 0 where
  pub fed : Text
  pub last : ℕ
  pub rest : Text
  pub split : text ≡ fed ++ last ∷ rest
  pub kind : refusal.kind ≢ Truncated
  pub offset : refusal.at ≡ length (t ++ fed)
  pub refused : StaysRefused (t ++ fed) last refusal
  pub settles : SettlesTo model (t ++ fed) out
  pub few : length out < 2 ^ 128

-- a block that follows `t` was taken, or a byte of it is rejected, and all that was taken settles `out`
abbrev pub TakesBlock : Model → Text → Text → Text → Result (Unit {0}) Refusal → Transducer → Type 0
TakesBlock model t out block (Ok done) new = (items : List Item) × IsThrough model new (t ++ block) items out
TakesBlock model t out block (Err refusal) new = RefusesBlock model t out block refusal

-- the text is whole, and with these bytes its canonical text
abbrev pub SettlesEnd : Model → Text → List Item → Text → Result SettledText Refusal → Type 0
SettlesEnd model t items out (Ok output) = Reads t items
    × IsCanonicalOf model t (out ++ output_text output)
    × (IsCanonicalText model t → out ++ output_text output ≡ t)
SettlesEnd model t items out (Err refusal) = (refusal.kind ≡ Truncated) × (refusal.at ≡ length t)
    × IsRefusedAt t refusal.kind refusal.at
