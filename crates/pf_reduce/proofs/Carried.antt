-- What a core prints, carried over to the directive that is reduced to it.
use Rattle.std.proofs.Common.{◌≡◌, ℕ, Option, sym, ◌∙◌, subst}
use Rattle.pf_values.specs.declared.flags.FlagSet.{FlagSet}
use Rattle.pf_values.specs.declared.models.Model.{Model}
use Rattle.pf_values.specs.meaning.Arguments.{Argument, HasType}
use Rattle.pf_values.specs.meaning.DataModel.{arg_type}
use Rattle.pf_values.specs.meaning.Printing.{Prints}
use Rattle.pf_values.specs.meaning.Specification.{Specification}
use Rattle.pf_values.specs.meaning.Text.{Text}
use Rattle.pf_values.proofs.PrintsOnce.{Prints-unique, printed_text, printed-is}
use Rattle.pf_reduce.specs.declared.padding.Padding.{Padding}
use Rattle.pf_reduce.specs.declared.results.Reduced.{Reduced}
use Rattle.pf_reduce.specs.Cores.{IsReducedAs, padded_core}
use Rattle.pf_reduce.specs.Reducing.{IsReducedTo, PrintsReduced, around, core_of}

-- one direction is enough, since each prints one text
abbrev pub Carries : Model → Specification → Reduced → Type 0
Carries model s r = (argument : Argument) (inner : Text) → HasType model argument (arg_type model s) → Prints model (core_of r.core) argument inner
    → Prints model s argument (around r inner)

pub prints_reduced : (model : Model) (s : Specification) (r : Reduced) → arg_type model (core_of r.core) ≡ arg_type model s → Carries model s r
    → PrintsReduced model s r
prints_reduced model s r e h argument out typed =
    let typed_core : HasType model argument (arg_type model (core_of r.core)) = subst (HasType model argument) (sym e) typed in
    let inner = printed_text model (core_of r.core) argument in
    let inner_is = printed-is model (core_of r.core) argument typed_core in
    let same = Prints-unique model s argument (around r inner) typed (h argument inner typed inner_is) in (
      λ p. (inner, inner_is, Prints-unique model s argument out typed p ∙ sym same),
      λ p. subst (Prints model s argument) (sym p.2) (h argument p.0 typed p.1),
    )

-- what a directive is reduced to
abbrev pub Reduction : Model → Specification → Type 0
Reduction model s = (r : Reduced) × IsReducedTo model s r

pub made : (model : Model) (s : Specification) (p : Padding) (flags : FlagSet) (precision : Option ℕ) → IsReducedAs model s p flags precision
    → Reduction model s
made model s p flags precision h = (padded_core model s p flags precision, h.reduced)
