-- What two reductions have in common. This project's own.
use Rattle.std.specs.Prelude.{◌≡◌}
use Rattle.pf_reduce.specs.Reducing.{core_of}
use Rattle.pf_reduce.specs.declared.results.Reduced.{Reduced}

-- two reductions print the same around the same directive
pub record HaveSameParts (first second : Reduced) : Type 0 where
  pub spaces : first.spaces ≡ second.spaces
  pub zeros : first.zeros ≡ second.zeros
  pub core : core_of first.core ≡ core_of second.core
  pub trail : first.trail ≡ second.trail
