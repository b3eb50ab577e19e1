use Rattle.std.proofs.Common.{arith, rules}
use Rattle.pf_text.proofs.SignatureLemmas.{refused}
use Rattle.pf_render.proofs.MatchingLemmas.{all_checked, directive_checked, few_found, none_checked, other_checked}
use Rattle.pf_render.proofs.argument_lists.check_arguments.Goals as goal

pub loop-piece-init : goal.loop-piece-init
loop-piece-init g c = record { can = tt; finite = tt; so_far = none_checked g.A.FormatArgument.type_of g.A.FormatArgument.argument_of c.args.model _ c.args.text.now c.args.args.now (search rules) }

pub returns-in-Err : goal.returns-in-Err
returns-in-Err g c = let found = c.loop-piece.invariant.so_far.found in
    (refused c.args.model c.loop-piece.piece-iterator c.next.new.self c.args.text.now _ found c.in-Some.piece c.in-Some.ensures.steps c.in-Err.refusal
    c.in-Err.is).refused

pub with_next-check-requires : goal.with_next-check-requires
with_next-check-requires g c =
    let so_far = c.loop-piece.invariant.so_far in
    record { few = omega (arith, so_far.checked.wanted_is, few_found c.args.model so_far) }

pub loop-piece-preserved-in-Directive : goal.loop-piece-preserved-in-Directive
loop-piece-preserved-in-Directive g c =
    let so_far = c.loop-piece.invariant.so_far in
    let d = c.in-Directive.directive in
    record {
      can = tt;
      finite = tt;
      so_far = directive_checked c.args.model so_far c.in-Some.ensures.steps c.in-Ok.is _ d c.arg_type.result c.in-Directive.is c.arg_type.ensures
          (c.with_next-check.ensures so_far.types so_far.checked);
    }

pub loop-piece-preserved : goal.loop-piece-preserved
loop-piece-preserved g c =
    let so_far = c.loop-piece.invariant.so_far in
    record {
      can = tt;
      finite = tt;
      so_far = other_checked c.args.model so_far c.in-Some.ensures.steps c.in-Ok.is _ c.in_default.not-Directive so_far.checked;
    }

pub returns : goal.returns
returns g c =
    let so_far = c.loop-piece.invariant.so_far in
    c.conclude.ensures c.args.model c.args.text.now so_far.types (all_checked c.args.model so_far c.in-None.ensures.steps) so_far.checked
