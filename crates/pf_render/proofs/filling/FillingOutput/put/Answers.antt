use Rattle.std.proofs.Common.{◌+◌, ◌≤◌, length, refl, sym, ◌∙◌, arith}
use Rattle.std.proofs.lemmas.List.{drop-drop}
use Rattle.pf_render.proofs.BufferLemmas.{after_end, before_end}
use Rattle.pf_render.proofs.filling.FillingOutput.put.Goals as goal

pub returns : goal.returns
returns c =
    let old = c.args.self.now.buffer.now in
    let at = c.args.self.now.len in
    let bytes = c.args.bytes.now in
    let within : at + length bytes ≤ length old = omega (arith, c.if-self-start.false) in
    record {
      filled = before_end old bytes _ at within c.put_at.ensures;
      unfilled = after_end old bytes _ at within c.put_at.ensures ∙ sym (drop-drop (length bytes) at old);
      same = refl;
    }
