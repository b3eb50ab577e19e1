use Rattle.pf_posix.proofs.Unique.{never_both}
use Rattle.pf_whole.proofs.calls.argument_count.Goals as goal

pub unreachable-requires : goal.unreachable-requires
unreachable-requires c = never_both c.args.model c.args.text.now c.requires.0 _ _ c.requires.1 c.in-Err.ensures.types
