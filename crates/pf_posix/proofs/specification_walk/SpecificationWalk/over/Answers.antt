use Rattle.pf_posix.proofs.specification_walk.SpecificationWalk.over.Goals as goal

pub of-requires : goal.of-requires
of-requires c = let h = c.in-Ok.ensures.types.accepted in (h.items, h.reads, h.limit)

pub returns-in-Ok : goal.returns-in-Ok
returns-in-Ok c =
    let h = c.in-Ok.ensures.types in record { types = h.types; accepted = h.accepted; ahead = c.of.ensures h.accepted.items h.accepted.reads }
