use Rattle.uses.proofs.whole.are_alike_by_profile.Goals as goal

pub returns-in-Ok : goal.returns-in-Ok
returns-in-Ok c =
    let a = c.in-Ok.ensures in
    let h = c.profile_coincides.ensures c.args.model c.args.first.now c.args.second.now a.first a.second in
    (λ same. h.alike.1 (a.same.0 same), λ alike. a.same.1 (h.alike.0 alike))
