use Rattle.std.proofs.Common.{arith, subst, sym}
use Rattle.std.proofs.lemmas.List.{take_all}
use Rattle.pf_values.specs.declared.limits.TheConstants.{MAX_TEXT_LEN}
use Rattle.pf_posix.specs.Laws.{HasCount}
use Rattle.pf_posix.proofs.FrontRefusals.{IsRefused, long_accepted, long_refused}
use Rattle.pf_posix.proofs.argument_types.arguments.Goals as goal

pub returns-then-text-gt-MAX_TEXT_LEN-clause-types : goal.returns-then-text-gt-MAX_TEXT_LEN-clause-types
returns-then-text-gt-MAX_TEXT_LEN-clause-types c =
    subst (IsRefused c.args.model c.args.text.now) (sym c.too_long.ensures) (long_accepted c.args.model c.args.text.now c.args.out.now
    c.arguments_within.new.out c.in-Ok.count c.in-Ok.ensures.types (omega (arith, c.if-text-gt-MAX_TEXT_LEN.true)))

pub returns-else-text-gt-MAX_TEXT_LEN-clause-types : goal.returns-else-text-gt-MAX_TEXT_LEN-clause-types
returns-else-text-gt-MAX_TEXT_LEN-clause-types c =
    subst (λ u. HasCount c.args.model u c.args.out.now c.arguments_within.new.out c.in-Ok.count)
    (take_all MAX_TEXT_LEN c.args.text.now (omega (arith, c.if-text-gt-MAX_TEXT_LEN.false))) c.in-Ok.ensures.types

pub returns-in-Err-clause-types : goal.returns-in-Err-clause-types
returns-in-Err-clause-types c =
    subst (IsRefused c.args.model c.args.text.now) (sym c.of_long.ensures)
    (long_refused c.args.model c.args.text.now c.in-Err.refusal c.in-Err.ensures.types)
