-- The result of a call in the data model with a number.
use Rattle.std.proofs.Common.{◌≡◌, ◌∙◌, ℤ, Some, ap, of_z, subst, to_z}
use Rattle.std.specs.Int.{w32}
use Rattle.std.specs.Prelude.{FitsSigned, MatchOption}
use Rattle.std.proofs.lemmas.Int.{to_z-of_z}
use Rattle.pf_values.specs.declared.models.Model.{Model}
use Rattle.fmtcanon_c.specs.Models.{InModel, model_of}
use Rattle.fmtcanon_c.specs.declared.interface.TheConstants.{NO_MODEL}

pub in_model : (number : ℤ) (Is : Model → Type 0) (code : ℤ) (Unchanged : Type 0) (model : Model) → FitsSigned w32 number
    → Some model ≡ model_of (to_z w32 (of_z w32 number)) → Is model → InModel number Is code Unchanged
in_model number Is code Unchanged model fits is h =
    subst (λ found. MatchOption found ((code ≡ NO_MODEL) × Unchanged) Is) (is ∙ ap model_of (to_z-of_z w32 number fits)) h
