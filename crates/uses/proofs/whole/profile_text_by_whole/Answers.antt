use Rattle.uses.proofs.whole.profile_text_by_whole.Goals as goal

pub returns-in-Ok-canonical : goal.returns-in-Ok-canonical
returns-in-Ok-canonical c =
    let h = c.profile_coincides.ensures c.args.model c.args.format.now c.args.format.now c.in-Ok.ensures c.in-Ok.ensures in
    (h.canonical c.in-Ok-canonical.text.items).0 c.in-Ok-canonical.ensures.canonical_is
