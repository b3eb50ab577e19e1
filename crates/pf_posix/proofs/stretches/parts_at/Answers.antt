use Rattle.std.proofs.Common.{◌+◌, subst, sym, ◌∙◌}
use Rattle.pf_posix.specs.StretchesInText.{HasPartsAt}
use Rattle.pf_posix.proofs.PlainFrontLemmas.{bare_at}
use Rattle.pf_posix.proofs.stretches.parts_at.Goals as goal

pub returns-in-Some : goal.returns-in-Some
returns-in-Some c =
    let t = c.args.text.now in
    subst (λ d. HasPartsAt t c.args.at (d, c.args.at + 2)) (sym c.bare.ensures)
    (bare_at t c.args.at c.in-Some.conversion (c.if-at-text.true, c.requires.percent) (sym c.conversion_of.ensures ∙ c.in-Some.is))
