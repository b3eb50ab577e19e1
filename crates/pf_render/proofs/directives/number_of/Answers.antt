use Rattle.pf_render.proofs.directives.number_of.Goals as goal

pub unreachable-requires : goal.unreachable-requires
unreachable-requires g c = let string = c.in-None.ensures in c.requires string.0 string.1
