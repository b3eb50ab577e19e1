-- What calls that render a format answer. The calls and their faults are this project's own.
use Rattle.std.specs.Prelude.{◌≡◌, ◌≢◌, ℕ, ◌<◌, ◌≤◌, ◌^◌, List, [], ◌++◌, length, map, take, drop, slice_get, Some, Result, Ok, Err}
use Rattle.std.specs.List.{AllZip}
use Rattle.pf_values.specs.declared.arguments.Arg.{Arg}
use Rattle.pf_values.specs.declared.counted.Counted.{Counted}
use Rattle.pf_values.specs.declared.models.Model.{Model}
use Rattle.pf_values.specs.declared.types.ArgType.{ArgType}
use Rattle.pf_values.specs.Arg.{argument_of, type_of}
use Rattle.pf_values.specs.meaning.Arguments.{Argument, HasType, HasTypes}
use Rattle.pf_values.specs.Counting.{Known, WritesAll, WritesFirst}
use Rattle.pf_values.specs.meaning.Printing.{PrintsAll}
use Rattle.pf_values.specs.meaning.Refusals.{IsRefusedAt}
use Rattle.pf_values.specs.meaning.Text.{Text}
use Rattle.pf_text.specs.Signatures.{TakesTypes}
use Rattle.pf_render.specs.declared.faults.RenderFault.{RenderFault}
use Rattle.pf_render.specs.declared.faults.RenderFault.TheVariants as faults
use Rattle.pf_render.specs.declared.faults.RenderVecFault.{RenderVecFault}
use Rattle.pf_render.specs.declared.faults.RenderVecFault.TheVariants as vec_faults

-- arguments whose types and values these functions give
module _ {A : Type 0} (type_of : A → ArgType) (argument_of : A → Argument) where
  -- an argument is of a type; any other than that of its directive is undefined (C11 7.21.6.1 p9)
  pub record IsOfTypeBy (model : Model) (arg : A) (type : ArgType) : Type 0 where
    pub same : type_of arg ≡ type
    pub typed : HasType model (argument_of arg) type

  -- an accepted text prints this for arguments of its types, and nothing else (C11 7.21.6.1 p2, p3)
  pub record RendersBy (model : Model) (t : Text) (args : List A) (out : Text) : Type 0 where
    pub takes : TakesTypes model t (map type_of args)
    pub typed : HasTypes model (map argument_of args) (map type_of args)
    pub prints : PrintsAll model takes.items (map argument_of args) out
    pub only : (other : Text) → PrintsAll model takes.items (map argument_of args) other
        → other ≡ out

  -- an accepted text prints a text with this property
  abbrev pub RendersToBy : Model → Text → List A → (Text → Type 0) → Type 0
  RendersToBy model t args IsLeft = (out : Text) × RendersBy model t args out × IsLeft out

-- an accepted text takes another number of arguments; too few are undefined (C11 7.21.6.1 p2), and
-- too many are wrong in this project alone
pub record HasWrongCount {A : Type 0} (model : Model) (t : Text) (args : List A)
    (wanted given : ℕ) : Type 0 where
  pub types : List ArgType
  pub takes : TakesTypes model t types
  pub wanted_is : wanted ≡ length types
  pub given_is : given ≡ length args
  pub differ : wanted ≢ given

-- two lists are equal before this index, and differ at it
pub record DifferFirstAt {A : Type 0} (xs ys : List A) (index : ℕ) : Type 0 where
  pub same : take index xs ≡ take index ys
  pub differ : slice_get xs index ≢ slice_get ys index

module _ {A : Type 0} (type_of : A → ArgType) (argument_of : A → Argument) where
  -- an accepted text takes as many arguments, and this is the first one that is not of its type (C11
  -- 7.21.6.1 p9)
  pub record HasWrongTypeBy (model : Model) (t : Text) (args : List A) (index : ℕ) : Type 0 where
    pub types : List ArgType
    pub takes : TakesTypes model t types
    pub same_count : length args ≡ length types
    pub before : AllZip (IsOfTypeBy type_of argument_of model) (take index args) (take index types)
    pub arg : A
    pub wanted : ArgType
    pub arg_is : slice_get args index ≡ Some arg
    pub wanted_is : slice_get types index ≡ Some wanted
    pub wrong : IsOfTypeBy type_of argument_of model arg wanted → ⊥

  -- why nothing is written
  abbrev pub FaultForRenderBy : Model → Text → List A → RenderFault → Type 0
  FaultForRenderBy model t args (faults.Refused refusal) = IsRefusedAt t refusal.kind refusal.at
  FaultForRenderBy model t args (faults.WrongCount wanted given) =
      HasWrongCount model t args wanted given
  FaultForRenderBy model t args (faults.WrongType index) = HasWrongTypeBy model t args index
  FaultForRenderBy model t args (faults.Write written) = ⊥

-- what a call leaves where it puts bytes, and answers: all that is printed, nothing, or exactly the
-- first bytes
module _ {A O : Type 0} (type_of : A → ArgType) (argument_of : A → Argument)
    (wrote : O → O → Text → Type 0) (stopped : O → O → Text → ℕ → Type 0)
    (model : Model) (old new : O) (t : Text) (args : List A) where
  -- what a fault leaves: nothing was put, or where that failed, exactly the first bytes
  abbrev pub StopsWithBy : RenderFault → Type 0
  StopsWithBy (faults.Write written) =
      RendersToBy type_of argument_of model t args (λ out. stopped old new out written
      × (written < length out))
  StopsWithBy fault = FaultForRenderBy type_of argument_of model t args fault × (new ≡ old)

  -- what a call leaves and answers: all that is printed was put, or there is a fault
  abbrev pub RendersIntoBy : Result (Unit {0}) RenderFault → Type 0
  RendersIntoBy (Ok done) =
      RendersToBy type_of argument_of model t args (λ out. wrote old new out)
  RendersIntoBy (Err fault) = StopsWithBy fault

-- all of this for the arguments of the program
abbrev pub Renders : Model → Text → List Arg → Text → Type 0
Renders = RendersBy type_of argument_of

abbrev pub RendersTo : Model → Text → List Arg → (Text → Type 0) → Type 0
RendersTo = RendersToBy type_of argument_of

abbrev pub HasWrongType : Model → Text → List Arg → ℕ → Type 0
HasWrongType = HasWrongTypeBy type_of argument_of

abbrev pub FaultForRender : Model → Text → List Arg → RenderFault → Type 0
FaultForRender = FaultForRenderBy type_of argument_of

-- what a call leaves in a writer, and answers
abbrev pub RendersInto : Model → {W : Type 0} → (W → Known) → Counted W → Counted W → Text
    → List Arg → Result (Unit {0}) RenderFault → Type 0
RendersInto model contents old new t args =
    RendersIntoBy type_of argument_of (WritesAll contents) (WritesFirst contents) model old new t args

-- why a call doesn't return what is printed; it asks for memory only if something is printed
abbrev pub FaultForRenderVec : Model → Text → List Arg → RenderVecFault → Type 0
FaultForRenderVec model t args (vec_faults.Refused refusal) =
    FaultForRender model t args (faults.Refused refusal)
FaultForRenderVec model t args (vec_faults.WrongCount wanted given) =
    FaultForRender model t args (faults.WrongCount wanted given)
FaultForRenderVec model t args (vec_faults.WrongType index) =
    FaultForRender model t args (faults.WrongType index)
FaultForRenderVec model t args vec_faults.Memory = RendersTo model t args (λ out. out ≢ [])

-- why a call doesn't put what is printed into a buffer; no buffer has 2^63 bytes
abbrev pub FaultForRenderIntoBy : {A : Type 0} → (A → ArgType) → (A → Argument) → Model → Text
    → List A → RenderVecFault → Type 0
FaultForRenderIntoBy type_of argument_of model t args (vec_faults.Refused refusal) =
    FaultForRenderBy type_of argument_of model t args (faults.Refused refusal)
FaultForRenderIntoBy type_of argument_of model t args (vec_faults.WrongCount wanted given) =
    FaultForRenderBy type_of argument_of model t args (faults.WrongCount wanted given)
FaultForRenderIntoBy type_of argument_of model t args (vec_faults.WrongType index) =
    FaultForRenderBy type_of argument_of model t args (faults.WrongType index)
FaultForRenderIntoBy type_of argument_of model t args vec_faults.Memory =
    RendersToBy type_of argument_of model t args (λ out. 2 ^ 63 ≤ length out)

-- these bytes are put at the front of a buffer that has room for them; any other is left as it was
pub record IsPutIfFits (bytes old new : Text) : Type 0 where
  pub fits : length bytes ≤ length old → new ≡ bytes ++ drop (length bytes) old
  pub no_room : length old < length bytes → new ≡ old

-- what is printed is put where there is room for it, and its length is returned; or nothing is put
abbrev pub RendersIfFitsBy : {A : Type 0} → (A → ArgType) → (A → Argument) → Model → Text
    → List A → Text → Text → Result ℕ RenderVecFault → Type 0
RendersIfFitsBy type_of argument_of model t args old new (Ok len) =
    RendersToBy type_of argument_of model t args (λ out. (len ≡ length out) × (len < 2 ^ 63)
    × IsPutIfFits out old new)
RendersIfFitsBy type_of argument_of model t args old new (Err fault) =
    FaultForRenderIntoBy type_of argument_of model t args fault × (new ≡ old)

-- the fault of a call that renders into memory: there a write fails only if an allocation does
abbrev pub memory_fault : RenderFault → RenderVecFault
memory_fault (faults.Refused refusal) = vec_faults.Refused refusal
memory_fault (faults.WrongCount wanted given) = vec_faults.WrongCount wanted given
memory_fault (faults.WrongType index) = vec_faults.WrongType index
memory_fault (faults.Write written) = vec_faults.Memory
