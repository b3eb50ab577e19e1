use Rattle.std.proofs.Common.{inr}
use Rattle.pf_posix.proofs.ListingLemmas.{typed_listed}
use Rattle.pf_posix.proofs.PlainFrontLemmas.{typed_profile}
use Rattle.pf_posix.proofs.listings.put_other_directive.Goals as goal

pub returns-in-Some : goal.returns-in-Some
returns-in-Some c =
    let found = c.in-Some.found in
    let there = typed_profile c.args.model c.args.text.now c.args.at found c.arg_type.result c.in-Some.ensures c.arg_type.ensures in
    inr (typed_listed c.args.model c.args.text.now c.args.at _ found.stop c.args.out.now c.put.new.out c.args.count c.args.fetched there
    c.plain_span.result c.plain_span.ensures c.put.ensures.filled c.put.ensures.length)
