use Rattle.std.proofs.Common.{rules}
use Rattle.std.proofs.lemmas.Result.{err_from_is_err_and}
use Rattle.pf_render.proofs.FormatLemmas.{counts, no_refusal, others_are, piece_written, text_written, under_way}
use Rattle.pf_render.proofs.ProgressLemmas.{next_typed, next_within, wrote_part}
use Rattle.pf_render.proofs.formats.write_pieces.Goals as goal

pub loop-piece-init : goal.loop-piece-init
loop-piece-init g c = record {
  can = tt;
  finite = tt;
  so_far = under_way c.args.model g.met.O.Output.laws _ c.new-progress.result c.requires
      (search rules) c.new-progress.ensures;
}

pub unreachable-requires : goal.unreachable-requires
unreachable-requires g c = no_refusal c.args.model g.met.O.Output.laws c.loop-piece.invariant.so_far c.in-Some.ensures.steps c.in-Err.is

pub write-requires-clause-few : goal.write-requires-clause-few
write-requires-clause-few g c = counts c.args.model g.met.O.Output.laws c.loop-piece.invariant.so_far

pub write-requires-clause-within : goal.write-requires-clause-within
write-requires-clause-within g c =
    let so_far = c.loop-piece.invariant.so_far in
    next_within c.args.model g.met.O.Output.laws so_far.printing c.of.result _
    (others_are c.args.model g.met.O.Output.laws so_far c.in-Some.ensures.steps c.in-Ok.is c.of.result c.of.ensures)

pub write-requires-clause-typed : goal.write-requires-clause-typed
write-requires-clause-typed g c =
    let so_far = c.loop-piece.invariant.so_far in
    next_typed c.args.model g.met.O.Output.laws so_far.printing c.of.result _
    (others_are c.args.model g.met.O.Output.laws so_far c.in-Some.ensures.steps c.in-Ok.is c.of.result c.of.ensures)

pub loop-piece-preserved : goal.loop-piece-preserved
loop-piece-preserved g c =
    let text = c.in_ok-write.ensures in
    record {
      can = tt;
      finite = tt;
      so_far = piece_written c.args.model g.met.O.Output.laws c.loop-piece.invariant.so_far c.in-Some.ensures.steps c.in-Ok.is c.of.result
          c.of.ensures c.write.new.self c.write.new.writer text.0 text.1 text.2;
    }

pub returns-in_err-write : goal.returns-in_err-write
returns-in_err-write g c =
    let so_far = c.loop-piece.invariant.so_far in
    let p = err_from_is_err_and c.from_residual.result c.from_residual.ensures.1 in
    let text = c.in_err-write.ensures in (
      so_far.out,
      so_far.renders,
      rw (p.1, p.2) (wrote_part c.args.model g.met.O.Output.laws so_far.printing c.of.result _
          (others_are c.args.model g.met.O.Output.laws so_far c.in-Some.ensures.steps c.in-Ok.is c.of.result c.of.ensures) c.write.new.writer c.write.new.self text.0 text.1 _
          text.2),
    )

pub returns : goal.returns
returns g c = text_written c.args.model g.met.O.Output.laws c.loop-piece.invariant.so_far c.in-None.ensures.steps
