use Rattle.std.proofs.Common.{◌-◌, ◌≤◌, length, take}
use Rattle.pf_values.specs.Counting.{WritesAll}
use Rattle.pf_values.proofs.writes.write_bytes.Given as goal

-- the bytes so far went out, and no call failed
abbrev pub invariant-loop-written : goal.invariant-loop-written
invariant-loop-written g l =
    record {
      within : l.written ≤ length l.bytes;
      out : WritesAll g.W.Write.contents l.fn.writer l.writer (take l.written l.bytes);
    }

abbrev pub decreases-loop-written : goal.decreases-loop-written
decreases-loop-written g l = length l.bytes - l.written
