-- If arguments of the command line give a format its arguments, it is printed unless memory is
-- refused.
use Rattle.std.proofs.Common.{◌≡◌, ◌∙◌, ℕ, zero, suc, List, [], ◌∷◌, Some, ap, length, map, refl, slice_get, subst, sym}
use Rattle.std.proofs.lemmas.List.{length-map}
use Rattle.pf_text.proofs.Texts.{Reads-unique}
use Rattle.pf_text.specs.Signatures as signatures
use Rattle.pf_render.specs.declared.faults.RenderVecFault.{RenderVecFault}
use Rattle.pf_render.specs.declared.faults.RenderVecFault.TheVariants.{Refused, WrongCount, WrongType, Memory}
use Rattle.pf_render.specs.Rendering.{FaultForRenderVec}
use Rattle.pf_values.specs.declared.arguments.Arg.{Arg}
use Rattle.pf_values.specs.declared.models.Model.{Model}
use Rattle.pf_values.specs.declared.types.ArgType.{ArgType}
use Rattle.pf_values.specs.Arg.{argument_of, type_of}
use Rattle.pf_values.specs.meaning.Arguments.{HasType, HasTypes}
use Rattle.pf_values.specs.meaning.Items.{types}
use Rattle.pf_values.specs.meaning.Text.{Text}
use Rattle.fmtcanon.specs.FormatArguments.{AreArgumentsFor}

-- the type that an argument has by the list of types
type_at : (args : List Arg) (index : ℕ) (arg : Arg) (wanted : ArgType) → slice_get args index ≡ Some arg → slice_get (map type_of args) index ≡ Some wanted
    → type_of arg ≡ wanted
type_at [] index arg wanted e f = absurd (cc)
type_at (a ∷ args) zero arg wanted e f =
    let here : a ≡ arg = cc in
    let its : type_of a ≡ wanted = cc in
    sym (ap type_of here) ∙ its
type_at (a ∷ args) (suc index) arg wanted e f = type_at args index arg wanted e f

-- each of the arguments is of its type
typed_at : (model : Model) (args : List Arg) (index : ℕ) (arg : Arg) → HasTypes model (map argument_of args) (map type_of args)
    → slice_get args index ≡ Some arg
    → HasType model (argument_of arg) (type_of arg)
typed_at model [] index arg h e = absurd (cc)
typed_at model (a ∷ args) zero arg h e =
    let here : a ≡ arg = cc in
    subst (λ x. HasType model (argument_of x) (type_of x)) here h.0
typed_at model (a ∷ args) (suc index) arg h e = typed_at model args index arg h.1 e

module _ (model : Model) (format : Text) (words : List Text) (args : List Arg) (gives : AreArgumentsFor model format words args) where
  -- the types that the format takes are those of the arguments
  its_types : (wanted : List ArgType) → signatures.TakesTypes model format wanted → wanted ≡ map type_of args
  its_types wanted takes =
      takes.types_are ∙ ap (types model)
      (Reads-unique format takes.items gives.items takes.accepted.reads gives.given.accepted.reads)
      ∙ sym gives.types_are

  pub only_memory_hinders : (fault : RenderVecFault) → FaultForRenderVec model format args fault → fault ≡ Memory
  only_memory_hinders Memory h = refl
  only_memory_hinders (Refused refusal) h =
      absurd (h.not_accepted (gives.items, gives.given.accepted))
  only_memory_hinders (WrongCount wanted given) h = absurd (h.differ
      (h.wanted_is ∙ ap length (its_types h.types h.takes) ∙ length-map args type_of ∙ sym h.given_is))
  only_memory_hinders (WrongType index) h =
      let wanted = sym (ap (λ ts. slice_get ts index) (its_types h.types h.takes)) ∙ h.wanted_is in
      let same = type_at args index h.arg h.wanted h.arg_is wanted in
      let typed = typed_at model args index h.arg (subst (HasTypes model (map argument_of args)) (sym gives.types_are) gives.typed) h.arg_is in
      absurd (h.wrong (record { same = same; typed = subst (HasType model (argument_of h.arg)) same typed }))
