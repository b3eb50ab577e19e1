use Rattle.uses.proofs.whole.whole_text_by_profile.Goals as goal

pub returns-in-Ok : goal.returns-in-Ok
returns-in-Ok c =
    let a = c.in-Ok.ensures in
    let h = c.profile_coincides.ensures c.args.model c.args.format.now c.args.format.now (a.items, a.accepted) (a.items, a.accepted) in
    (h.canonical c.in-Ok.text.items).1 a.canonical_is
