use Rattle.std.proofs.Common.{◌+◌, inr}
use Rattle.pf_posix.proofs.PlainFrontLemmas.{typed_bare, typed_put}
use Rattle.pf_posix.proofs.argument_types.put_specification.Goals as goal

pub returns-in-Some : goal.returns-in-Some
returns-in-Some c =
    let wanted = c.in-Some.wanted in
    inr (typed_put c.args.model c.args.text.now c.args.at wanted (c.args.at + 2) c.args.out.now c.put.new.out c.args.count
    (typed_bare c.args.model c.args.text.now c.args.at wanted c.requires.percent (c.in-Some.ensures c.args.model)) c.put.ensures.filled c.put.ensures.length)
