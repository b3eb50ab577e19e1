use Rattle.std.proofs.Common.{[], arith, length, refl, subst, sym}
use Rattle.std.proofs.lemmas.List.{take_all}
use Rattle.pf_values.specs.declared.limits.TheConstants.{MAX_TEXT_LEN}
use Rattle.pf_posix.specs.Directives.{HasDirectiveCount}
use Rattle.pf_posix.proofs.FrontRefusals.{IsRefused, long_accepted, long_refused}
use Rattle.pf_posix.proofs.directive_spans.directives.Goals as goal

pub returns-then-text-gt-MAX_TEXT_LEN-clause-directives : goal.returns-then-text-gt-MAX_TEXT_LEN-clause-directives
returns-then-text-gt-MAX_TEXT_LEN-clause-directives c =
    let given = c.in-Ok.ensures.directives.listed in
    subst (IsRefused c.args.model c.args.text.now) (sym c.too_long.ensures) (long_accepted c.args.model c.args.text.now [] [] (length given.types)
    (record { types = given.types; accepted = given.accepted; count_is = refl; front = refl }) (omega (arith, c.if-text-gt-MAX_TEXT_LEN.true)))

pub returns-else-text-gt-MAX_TEXT_LEN-clause-directives : goal.returns-else-text-gt-MAX_TEXT_LEN-clause-directives
returns-else-text-gt-MAX_TEXT_LEN-clause-directives c =
    subst (λ u. HasDirectiveCount c.args.model u c.args.out.now c.directives_within.new.out c.in-Ok.count)
    (take_all MAX_TEXT_LEN c.args.text.now (omega (arith, c.if-text-gt-MAX_TEXT_LEN.false))) c.in-Ok.ensures.directives

pub returns-in-Err-clause-directives : goal.returns-in-Err-clause-directives
returns-in-Err-clause-directives c =
    subst (IsRefused c.args.model c.args.text.now) (sym c.of_long.ensures)
    (long_refused c.args.model c.args.text.now c.in-Err.refusal c.in-Err.ensures.directives)
