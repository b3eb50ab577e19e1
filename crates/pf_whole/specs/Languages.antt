-- The languages of formats: the profile, and the whole language of POSIX fprintf with numbered arguments
-- and without. What is accepted there, and how other texts are rejected.
use Rattle.std.specs.Prelude.{◌≡◌, ℕ, List, ◌∷◌, ◌++◌}
use Rattle.std.specs.List.{AllByRecursion}
use Rattle.pf_values.specs.declared.models.Model.{Model}
use Rattle.pf_values.specs.meaning.Items.{IsAccepted}
use Rattle.pf_values.specs.meaning.Refusals.{IsRefusedAt}
use Rattle.pf_values.specs.meaning.Text.{Text}
use Rattle.pf_values.specs.declared.refusals.RefusalKind.{RefusalKind}
use Rattle.pf_posix.specs.Items.{IsWholeAccepted}
use Rattle.pf_posix.specs.Refusals.{IsWholeRefusedAt}
use Rattle.pf_posix.specs.Stretches.{IsUnnumberedAccepted}
use Rattle.pf_posix.specs.Unnumbered.{IsUnnumberedRefusedAt}

pub data Language : Type 0 where
  Profile : Language
  Numbered : Language
  Unnumbered : Language

-- a text is accepted
abbrev pub AcceptsText : Language → Model → Text → Type 0
AcceptsText Profile model = IsAccepted
AcceptsText Numbered model = IsWholeAccepted model
AcceptsText Unnumbered model = IsUnnumberedAccepted

-- a text is rejected, for this reason at this offset
abbrev pub RefusesText : Language → Model → Text → RefusalKind → ℕ → Type 0
RefusesText Profile model = IsRefusedAt
RefusesText Numbered model = IsWholeRefusedAt model
RefusesText Unnumbered model = IsUnnumberedRefusedAt model

-- it is so in the first of some data models in which not all is accepted
pub record IsFirstIn (models : List Model) (Accepts Is : Model → Type 0) : Type 0 where
  pub before : List Model
  pub model : Model
  pub after : List Model
  pub split : models ≡ before ++ model ∷ after
  pub accepted : AllByRecursion Accepts before
  pub is : Is model
