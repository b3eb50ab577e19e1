-- Which parts of a conversion specification have no effect: without them, it is alike.
use Rattle.std.specs.Prelude.{◌≡◌, ◌↔◌, ◌⊎◌, IsTrue, List, [], ◌∷◌}
use Rattle.pf_values.specs.declared.models.Model.{Model}
use Rattle.pf_values.specs.meaning.Text.{Text}
use Rattle.pf_posix.specs.Items.{Specification, IsWholeReadAs}
use Rattle.pf_posix.specs.OpaqueParts.{parts_of_opaque}
use Rattle.pf_posix.specs.Specifications.{WholeSpecification}
use Rattle.pf_posix.specs.Spelling.{SpellsWhole}
use Rattle.pf_whole.specs.declared.needless.NeedlessParts.{NeedlessParts}
use Rattle.pf_whole.specs.declared.needless.NeedlessQuestion.{NeedlessQuestion}
use Rattle.pf_whole.specs.declared.parts.Part.{Part}
use Rattle.pf_whole.specs.declared.parts.PartSet.{PartSet}
use Rattle.pf_whole.specs.Parts.{all_parts, given_parts, has_part, no_parts, only, with_part, without}
use Rattle.pf_whole.specs.meaning.Traces.{AreWholeAlike}

-- A text that is the specification alone, and one that is it without these parts, are alike, however they are spelled.
-- So both are accepted, within the limit.
abbrev pub HaveNoEffect : Model → WholeSpecification → PartSet → Type 0
HaveNoEffect model s set = (t u : Text) → SpellsWhole t s → SpellsWhole u (without s set) → AreWholeAlike model t u

-- some parts and one more, if it is one of `each` and has no effect together with them; otherwise these alone
abbrev pub GathersPart : Model → WholeSpecification → PartSet → PartSet → Part → PartSet → Type 0
GathersPart model s each some part more =
    (IsTrue (has_part each part) × HaveNoEffect model s (with_part some part) × (more ≡ with_part some part))
    ⊎ (¬ (IsTrue (has_part each part) × HaveNoEffect model s (with_part some part)) × (more ≡ some))

-- these parts are asked one after another, beginning with some
abbrev pub AreGathered : Model → WholeSpecification → PartSet → PartSet → List Part → PartSet → Type 0
AreGathered model s each some [] found = found ≡ some
AreGathered model s each some (part ∷ parts) found =
    (more : PartSet) × GathersPart model s each some part more × AreGathered model s each more parts found

-- The parts that a specification has; those that have no effect, each by itself, and no others; and those of these that
-- have none together: in order, each that has none with those before it.
pub record AreNeedless (model : Model) (s : WholeSpecification) (found : NeedlessParts) : Type 0 where
  pub given : found.given ≡ given_parts s
  pub each : (part : Part) → IsTrue (has_part found.each part)
      ↔ (IsTrue (has_part (given_parts s) part) × HaveNoEffect model s (only part))
  pub among : (part : Part) → IsTrue (has_part found.together part) → IsTrue (has_part found.each part)
  pub together : HaveNoEffect model s found.together
  pub gathered : AreGathered model s found.each no_parts all_parts found.together

-- The rest is about how the code asks. No public contract names it.

-- a question about a specification that some text is
pub record IsPartQuestion (question : NeedlessQuestion) : Type 0 where
  pub text : Text
  pub spelled : IsWholeReadAs text (Specification (parts_of_opaque question.directive))
  pub given : question.given ≡ given_parts (parts_of_opaque question.directive)

-- of these parts, those that the specification has and that have no effect are found
abbrev pub AreFound : NeedlessQuestion → PartSet → PartSet → Type 0
AreFound question asked each = (part : Part) → IsTrue (has_part each part)
    ↔ (IsTrue (has_part asked part) × IsTrue (has_part question.given part)
    × HaveNoEffect question.model (parts_of_opaque question.directive) (only part))
