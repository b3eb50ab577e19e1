use Rattle.pf_canon.specs.Comparison.{IsInStep}
use Rattle.pf_canon.specs.CanonicalBytes.{units}
use Rattle.pf_canon.proofs.comparison.same_bytes.Given as goal

abbrev pub invariant-loop-first : goal.invariant-loop-first
invariant-loop-first g l = record {
  in_step : IsInStep l.fn.model l.first (g.A.ByteSource.left l.a) l.second (g.B.ByteSource.left l.b) (g.A.ByteSource.left l.fn.a) (g.B.ByteSource.left l.fn.b);
  kept_a : g.A.ByteSource.kept l.fn.a l.a;
  kept_b : g.B.ByteSource.kept l.fn.b l.b;
}

abbrev pub decreases-loop-first : goal.decreases-loop-first
decreases-loop-first g l = units l.first
