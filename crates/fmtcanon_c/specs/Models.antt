-- Which data model a number is. This project's own.
use Rattle.std.specs.Prelude.{◌≡◌, ℤ, pos, negsuc, MatchOption, Option, None, slice_get}
use Rattle.pf_values.specs.declared.models.Model.{Model}
use Rattle.pf_values.specs.declared.models.TheConstants.Model.{ALL}
use Rattle.fmtcanon_c.specs.declared.interface.TheConstants.{NO_MODEL}

-- the data model at this place of the list of all, if there is one
abbrev pub model_of : ℤ → Option Model
model_of (pos n) = slice_get ALL n
model_of (negsuc n) = None

-- it is so in the data model with the number; or there is none, which is answered, and nothing changes
abbrev pub InModel : ℤ → (Model → Type 0) → ℤ → Type 0 → Type 0
InModel number Is code Unchanged = MatchOption (model_of number) ((code ≡ NO_MODEL) × Unchanged) Is
