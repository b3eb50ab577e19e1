use Rattle.std.proofs.Common.{◌≡◌, ap, arith, length, map, refl, rules, take_all, true, ◌∙◌}
use Rattle.std.proofs.lemmas.Bool.{false≢true}
use Rattle.std.proofs.lemmas.List.{length_push}
use Rattle.std.proofs.lemmas.Slice.Zip.{zip_end, zip_turn}
use Rattle.std.specs.Result.{is_ok}
use Rattle.fmtcanon.proofs.FormatArgumentLemmas.{first_wrong_type, one_more_typed, typed_so_far}
use Rattle.fmtcanon.specs.UntypedArgs.{argument_given}
use Rattle.fmtcanon.proofs.arguments.at_types.Goals as goal

pub returns-in-None-as_type-clause-err : goal.returns-in-None-as_type-clause-err
returns-in-None-as_type-clause-err c =
    let given = c.args.given.now in
    let wanted = c.args.wanted.now in
    let args = c.loop-argument.args in
    let turn = zip_turn given wanted c.loop-argument.yielded c.into_iter-argument-iterator.result _ c.next.new.self _ (search rules)
    (search rules) c.loop-argument.yielded_by _ c.in-Some.is c.next.ensures.steps in
    let at = length c.loop-argument.yielded in
    let index : c.len.result ≡ at = omega (arith, args.ok.0, typed_so_far c.args.model given wanted args.items at c.loop-argument.invariant turn.0) in
    rw index (first_wrong_type c.args.model given wanted args.items at c.loop-argument.invariant _ _ turn.0 turn.1 turn.2 turn.3
    (λ typed. false≢true (c.in-None-as_type.ensures.typed.1 typed)))

pub loop-argument-preserved : goal.loop-argument-preserved
loop-argument-preserved c =
    let given = c.args.given.now in
    let wanted = c.args.wanted.now in
    let args = c.loop-argument.args in
    let turn = zip_turn given wanted c.loop-argument.yielded c.into_iter-argument-iterator.result _ c.next.new.self _ (search rules)
    (search rules) c.loop-argument.yielded_by _ c.in-Some.is c.next.ensures.steps in
    let pushed : is_ok c.push.result ≡ true = c.if-is_err.ensures.negation in
    let some = c.in-Some-as_type.ensures.some in
    rw (c.push.ensures.items, pushed, length_push)
    (one_more_typed c.args.model given wanted args.items _ c.loop-argument.invariant _ _ turn.0 turn.1 turn.2 turn.3 c.in-Some-as_type.arg some.1 some.0
    (c.in-Some-as_type.ensures.typed.0 refl))

pub returns-clause-ok : goal.returns-clause-ok
returns-clause-ok c =
    let given = c.args.given.now in
    let wanted = c.args.wanted.now in
    let end = zip_end given wanted c.loop-argument.yielded c.into_iter-argument-iterator.result _ c.next.new.self _ (search rules)
    (search rules) c.loop-argument.yielded_by c.in-None.is c.next.ensures.steps in
    let at = length c.loop-argument.yielded in
    let all_given = take_all at given (omega arith) in
    let all_wanted = take_all at wanted (omega arith) in
    let so_far = c.loop-argument.invariant in
    let same = so_far.same ∙ ap (map argument_given) all_given in
    (same, rw (all_given, all_wanted, ← same) at so_far.typed, so_far.types_are ∙ all_wanted)
