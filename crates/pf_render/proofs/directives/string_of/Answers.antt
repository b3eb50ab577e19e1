use Rattle.pf_render.proofs.directives.string_of.Goals as goal

pub unreachable-requires : goal.unreachable-requires
unreachable-requires g c = let number = c.in-None.ensures in c.requires number.0 number.1
