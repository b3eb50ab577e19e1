use Rattle.std.proofs.Common.{◌∙◌, ◌++◌, ap, subst, sym}
use Rattle.std.proofs.lemmas.Result.{IfOk-weaker}
use Rattle.pf_values.specs.Arg.{argument_of}
use Rattle.pf_values.specs.meaning.Printing.{Prints}
use Rattle.pf_values.specs.meaning.Text.{Text}
use Rattle.pf_compare.proofs.neutral_texts.print.Goals as goal

pub returns : goal.returns
returns c = IfOk-weaker c.print_after.result _ _ (λ bytes h. subst (Prints c.args.model c.args.directive.now (argument_of c.args.argument))
    (sym (h.2 ∙ ap (λ (t : Text). t ++ h.0) c.in_ok-with_capacity.ensures.items)) h.1) c.print_after.ensures
