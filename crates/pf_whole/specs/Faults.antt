-- Why a call has no answer.
use Rattle.std.specs.Prelude.{◌≢◌, ◌↔◌, Bool, IsTrue, []}
use Rattle.pf_values.specs.declared.models.Model.{Model}
use Rattle.pf_values.specs.meaning.Text.{Text}
use Rattle.pf_text.specs.declared.refusals.Refusal.{Refusal}
use Rattle.pf_text.specs.declared.refusals.Side.{Side}
use Rattle.pf_text.specs.declared.refusals.TextFault.{TextFault}
use Rattle.pf_text.specs.declared.refusals.TextFault.TheVariants.{Refused, Memory}
use Rattle.pf_text.specs.Refusals.{RefusesOne}
use Rattle.pf_posix.specs.Stretches.{IsUnnumberedAccepted}
use Rattle.pf_posix.specs.Unnumbered.{IsUnnumberedRefusedAt}
use Rattle.pf_whole.specs.Answers.{HaveOneWholeCanonical, IsWholeCanonicalFor}
use Rattle.pf_whole.specs.meaning.Traces.{AreWholeAlike}

-- why there is no canonical text: memory is wanting only where that has bytes to be kept
abbrev pub FaultForWholeCanonical : Model → Text → TextFault → Type 0
FaultForWholeCanonical model t (Refused refusal) = IsUnnumberedRefusedAt model t refusal.kind refusal.at
FaultForWholeCanonical model t Memory = (c : Text) × IsWholeCanonicalFor model t c × (c ≢ [])

-- why two texts are not compared: the first is rejected, or the first is accepted and the second rejected
abbrev pub FaultForWholeSame : Model → Text → Text → Side × Refusal → Type 0
FaultForWholeSame model t u fault =
    RefusesOne IsUnnumberedAccepted (IsUnnumberedRefusedAt model) t u fault.0 fault.1

-- two accepted texts, and whether they are alike, and whether they have one canonical text
pub record AreWholeSame (model : Model) (t u : Text) (is : Bool) : Type 0 where
  pub first : IsUnnumberedAccepted t
  pub second : IsUnnumberedAccepted u
  pub same : IsTrue is ↔ AreWholeAlike model t u
  pub one : IsTrue is ↔ HaveOneWholeCanonical model t u
