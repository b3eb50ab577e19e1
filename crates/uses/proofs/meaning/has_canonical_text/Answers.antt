use Rattle.uses.proofs.meaning.has_canonical_text.Goals as goal

pub returns-in-Ok : goal.returns-in-Ok
returns-in-Ok c accepted =
    let h = c.headline.ensures c.args.model c.args.format.now c.args.format.now c.in-Ok.ensures c.in-Ok.ensures in
    (h.first.canonical, h.first.is, h.first.means_the_same, h.first.is_its_own)
