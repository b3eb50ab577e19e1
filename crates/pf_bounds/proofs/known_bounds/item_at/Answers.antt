use Rattle.std.proofs.Common.{◌≡◌, ◌+◌, ◌-◌, ◌∙◌, arith, drop, subst, sym, take}
use Rattle.pf_bounds.specs.Tallies.{IsTallied}
use Rattle.pf_bounds.proofs.TallyLemmas.{bare_tallied, percent_tallied}
use Rattle.pf_bounds.proofs.known_bounds.item_at.Goals as goal

pub returns-then-text-at-eq37 : goal.returns-then-text-at-eq37
returns-then-text-at-eq37 c =
    let at = c.args.at in
    let tally = c.exactly in
    let two : at + 2 - at ≡ 2 = omega arith in (
      omega arith,
      omega (arith, c.requires.0),
      subst (λ k. IsTallied c.args.model (take k (drop at c.args.text.now)) tally.result) (sym two)
          (percent_tallied c.args.model c.args.text.now at tally.result c.requires c.if-text-at-eq37.true tally.ensures.least tally.ensures.spread
          tally.ensures.bounded),
    )

pub returns-in-Some : goal.returns-in-Some
returns-in-Some c =
    let at = c.args.at in
    let tally = c.bare_tally in
    let two : at + 2 - at ≡ 2 = omega arith in (
      omega arith,
      omega (arith, c.requires.0),
      subst (λ k. IsTallied c.args.model (take k (drop at c.args.text.now)) tally.result) (sym two)
          (bare_tallied c.args.model c.args.text.now at c.in-Some.conv tally.result c.requires (sym c.conv_of.ensures ∙ c.in-Some.is) tally.ensures.value
          tally.ensures.few.0 tally.ensures.few.1),
    )
