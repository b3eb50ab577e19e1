use Rattle.std.proofs.Common.{arith}
use Rattle.std.proofs.lemmas.Grind.{common_steps}
use Rattle.std.proofs.lemmas.List.{take_rest}
use Rattle.pf_values.proofs.WriteLemmas.{WritesAll-more}
use Rattle.pf_values.proofs.writes.write_bytes.Goals as goal

pub loop-written-preserved : goal.loop-written-preserved
loop-written-preserved g c =
    record {
      within = grind (arith, common_steps, c.in-Ok.ensures.bound);
      out = WritesAll-more _ _ _ _ _ _ _ c.loop-written.invariant.out (rw take_rest at c.in-Ok.ensures.bytes) (grind (arith, common_steps));
    }
