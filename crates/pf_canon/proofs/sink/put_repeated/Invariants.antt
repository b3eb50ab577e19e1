use Rattle.std.proofs.Common.{◌≡◌, ℕ, ◌≤◌, ◌-◌, ◌*◌, ◌/◌, replicate}
use Rattle.pf_canon.specs.declared.limits.TheConstants.{BLOCK}
use Rattle.pf_values.specs.declared.padding.TheConstants.{MAX_RUN}
use Rattle.pf_canon.proofs.sink.put_repeated.Given as goal

-- those that are not left were put
abbrev pub invariant-loop-left : goal.invariant-loop-left
invariant-loop-left g l = record {
  within : l.left ≤ l.times / BLOCK;
  put : ((byte : ℕ) → l.block ≡ replicate MAX_RUN byte → g.S.Sink.given l.fn.sink l.sink (replicate ((l.times / BLOCK - l.left) * BLOCK) byte));
}

abbrev pub decreases-loop-left : goal.decreases-loop-left
decreases-loop-left g l = l.left
