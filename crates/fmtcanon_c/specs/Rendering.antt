-- What the call that prints answers. This project's own.
use Rattle.std.specs.Prelude.{◌≡◌, ◌≤◌, ◌<◌, ◌^◌, ◌⊎◌, ℕ, ℤ, pos, neg_ℤ, List, [], ◌∷◌, ◌++◌, length, Result, Ok, Err}
use Rattle.pf_values.specs.declared.models.Model.{Model}
use Rattle.pf_values.specs.meaning.Text.{Text}
use Rattle.pf_text.specs.declared.refusals.Side.TheVariants.{First}
use Rattle.pf_render.specs.declared.faults.RenderVecFault.{RenderVecFault}
use Rattle.pf_render.specs.Rendering.{FaultForRenderIntoBy, HasWrongCount, HasWrongTypeBy, RendersToBy}
use Rattle.fmtcanon_c.specs.declared.arguments.CArgument.{CArgument}
use Rattle.fmtcanon_c.specs.declared.interface.CError.{CError}
use Rattle.fmtcanon_c.specs.declared.interface.TheConstants.{NO_MEMORY, WRONG_COUNT, WRONG_TYPE}
use Rattle.fmtcanon_c.specs.Arguments.{type_in_c, value_in_c}
use Rattle.fmtcanon_c.specs.Buffers.{put}
use Rattle.fmtcanon_c.specs.Errors.{IsRefusedBy}

-- the error has this kind and this number, and the code is minus the kind
pub record IsArgumentError (kind at : ℕ) (code : ℤ) (error : CError) : Type 0 where
  pub code_is : code ≡ neg_ℤ (pos kind)
  pub at_is : error.at ≡ at
  pub kind_is : error.kind ≡ kind
  pub side_is : error.side ≡ 0

-- the text takes another number of arguments, and the error has it
abbrev pub IsCountError : Model → Text → List CArgument → ℤ → CError → Type 0
IsCountError model t args code error =
    HasWrongCount model t args error.at (length args)
    × IsArgumentError WRONG_COUNT error.at code error

-- an argument is not of its type, and the error has the index of the first one
abbrev pub IsTypeError : Model → Text → List CArgument → ℤ → CError → Type 0
IsTypeError model t args code error =
    HasWrongTypeBy type_in_c value_in_c model t args error.at
    × IsArgumentError WRONG_TYPE error.at code error

-- What is printed and a zero are put, where the buffer has room for them, and its length is answered;
-- no memory holds a text with 2^63 bytes. Or the text is rejected, or the arguments are.
abbrev pub PutsPrinted : Model → Text → List CArgument → Text → CError → ℤ → Text → CError → Type 0
PutsPrinted model t args out error code out_now error_now =
    RendersToBy type_in_c value_in_c model t args (λ printed. (error_now ≡ error)
    × (((length printed < 2 ^ 63) × (code ≡ pos (length printed))
    × (out_now ≡ put (printed ++ 0 ∷ []) out))
    ⊎ ((2 ^ 63 ≤ length printed) × (code ≡ NO_MEMORY) × (out_now ≡ out))))
    ⊎ ((out_now ≡ out) × (IsRefusedBy First t code error_now
    ⊎ (IsCountError model t args code error_now ⊎ IsTypeError model t args code error_now)))

-- what is printed and a zero are put, where there is room for both, and its length is returned; or
-- nothing is put
abbrev pub PrintsInto : Model → Text → List CArgument → Text → Text → Result ℕ RenderVecFault
    → Type 0
PrintsInto model t args out out_now (Ok len) =
    RendersToBy type_in_c value_in_c model t args (λ printed. (len ≡ length printed)
    × (len < 2 ^ 63) × (out_now ≡ put (printed ++ 0 ∷ []) out))
PrintsInto model t args out out_now (Err fault) =
    FaultForRenderIntoBy type_in_c value_in_c model t args fault × (out_now ≡ out)
