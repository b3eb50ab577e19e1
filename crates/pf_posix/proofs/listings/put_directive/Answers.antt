use Rattle.std.proofs.Common.{◌+◌, inr}
use Rattle.pf_posix.proofs.ListingLemmas.{typed_listed}
use Rattle.pf_posix.proofs.PlainFrontLemmas.{typed_bare}
use Rattle.pf_posix.proofs.listings.put_directive.Goals as goal

pub returns-in-Some : goal.returns-in-Some
returns-in-Some c =
    let kind = c.in-Some.kind in
    let there = typed_bare c.args.model c.args.text.now c.args.at kind c.requires.percent (c.in-Some.ensures c.args.model) in
    inr (typed_listed c.args.model c.args.text.now c.args.at kind (c.args.at + 2) c.args.out.now c.put.new.out c.args.count c.args.fetched there
    c.plain_span.result c.plain_span.ensures c.put.ensures.filled c.put.ensures.length)
