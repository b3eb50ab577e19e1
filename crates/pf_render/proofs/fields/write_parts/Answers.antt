use Rattle.std.proofs.Common.{◌≤◌, arith, [], length, slice_index_or}
use Rattle.std.proofs.Math.Nat.{le_refl}
use Rattle.pf_render.proofs.PartLemmas.{part-within, part-stopped}
use Rattle.pf_render.proofs.fields.write_parts.Goals as goal

pub overflow_add-result : goal.overflow_add-result
overflow_add-result g c =
    let part = slice_index_or c.args.parts.now c.loop-part.part-index (record { ref_ptr = (0, 0); now = [] }) in
    let fewer : c.in-Err.short.written ≤ length part.now = omega (arith, c.in-Err.ensures.1) in
    omega (
      arith,
      c.requires,
      part-within c.args.parts.now c.loop-part.part-index _ c.loop-part-test.true c.loop-part.written c.in-Err.short.written
          c.loop-part.invariant.written fewer,
    )

pub returns-in-Err : goal.returns-in-Err
returns-in-Err g c = part-stopped c.args.parts.now c.loop-part.part-index _ c.loop-part-test.true g.met.O.Output.laws _ _ _ _ _ c.loop-part.invariant.written
    c.loop-part.invariant.out c.in-Err.ensures.0 c.in-Err.ensures.1

pub overflow_add-written : goal.overflow_add-written
overflow_add-written g c =
    let part = slice_index_or c.args.parts.now c.loop-part.part-index (record { ref_ptr = (0, 0); now = [] }) in
    omega (
      arith,
      c.requires,
      part-within c.args.parts.now c.loop-part.part-index _ c.loop-part-test.true c.loop-part.written
          (length part.now) c.loop-part.invariant.written (le_refl (length part.now)),
    )
