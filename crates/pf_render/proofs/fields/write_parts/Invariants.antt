use Rattle.std.proofs.Common.{◌≡◌, length, take}
use Rattle.pf_render.specs.Parts.{join}
use Rattle.pf_render.proofs.fields.write_parts.Given as goal

-- the parts so far went out, and no call failed
abbrev pub invariant-loop-part : goal.invariant-loop-part
invariant-loop-part g l =
    record {
      written : l.written ≡ length (join (take l.part-index l.parts));
      out : g.O.Output.wrote l.fn.writer l.writer (join (take l.part-index l.parts));
    }
