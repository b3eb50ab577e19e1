use Rattle.std.proofs.Common.{inr}
use Rattle.pf_posix.proofs.PlainFrontLemmas.{typed_profile, typed_put}
use Rattle.pf_posix.proofs.argument_types.put_other.Goals as goal

pub returns-in-Some : goal.returns-in-Some
returns-in-Some c =
    let found = c.in-Some.found in
    inr (typed_put c.args.model c.args.text.now c.args.at _ found.stop c.args.out.now c.put.new.out c.args.count
    (typed_profile c.args.model c.args.text.now c.args.at found c.arg_type.result c.in-Some.ensures c.arg_type.ensures) c.put.ensures.filled c.put.ensures.length)
