use Rattle.std.proofs.Common.{◌≡◌, ◌-◌, arith, drop, length, take}
use Rattle.std.proofs.lemmas.List.{length-drop, length-take-le}
use Rattle.pf_bounds.proofs.TallyLemmas.{directive_tallied}
use Rattle.pf_bounds.proofs.known_bounds.parts_tally_at.Goals as goal

pub returns : goal.returns
returns c =
    let found = c.in_ok-found.found in
    let there = c.in_ok-found.ensures in
    let n = found.stop - c.args.at in
    let t = take n (drop c.args.at c.args.text.now) in
    let long : length t ≡ n = length-take-le n (drop c.args.at c.args.text.now) (omega (arith, there.within, length-drop c.args.at c.args.text.now)) in
    let tally = c.tally_of in (
      there.some,
      there.within,
      directive_tallied c.args.model t found.directive tally.result there.read
          (rw (tally.ensures.greatest, tally.ensures.least) c.directive_bounds.ensures.value)
          (omega (arith, long, there.some))
          (omega (arith, tally.ensures.least, c.directive_bounds.ensures.few.least_is))
          tally.ensures.few,
    )
