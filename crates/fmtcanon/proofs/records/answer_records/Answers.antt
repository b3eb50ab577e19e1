use Rattle.std.proofs.Common.{arith, inr, rules}
use Rattle.fmtcanon.specs.declared.outcome.Outcome.TheVariants.{Write}
use Rattle.fmtcanon.proofs.RecordEnds.{at_start, left_read, left_ready, left_stopped}
use Rattle.fmtcanon.proofs.records.answer_records.Goals as goal

pub loop-turn-init : goal.loop-turn-init
loop-turn-init g c =
    let new = c.new-run.ensures in
    record {
      calls = search rules;
      at = at_start c.args.asked g.R.Read.remaining g.W.Write.contents (g.I.Input.reader_of c.args.input.now) c.args.writer.now
          c.new-run.result new.part new.first new.none;
    }

pub loop-turn-preserved : goal.loop-turn-preserved
loop-turn-preserved g c =
    let asked = c.args.asked in
    let start = c.args.writer.now in
    let inv = c.loop-turn.invariant in
    let at = inv.at in
    let text = at.replied in
    let flushed = c.in_default.ensures.said asked start text.0 text.1 text.3 in
    let counted = c.read_block.ensures.calls in
    let before = inv.calls in
    let less = c.loop-turn-test.true in
    record {
      calls = omega (arith, counted, before, less);
      at = c.in_default-read_block.ensures.answered asked (g.I.Input.reader_of c.args.input.now) start
          (record { taken = at.taken; took = at.took; well = at.well; replied = (text.0, text.1, text.2, flushed) });
    }

pub returns-in-Err : goal.returns-in-Err
returns-in-Err g c =
    let asked = c.args.asked in
    let start = c.args.writer.now in
    let at = c.loop-turn.invariant.at in
    let text = at.replied in
    left_stopped asked g.R.Read.remaining g.W.Write.contents (g.I.Input.reader_of c.args.input.now)
    (g.I.Input.reader_of c.loop-turn.input) start c.flush.new.writer at.taken text.0 text.1 text.2 at.took at.well
    (Write c.in-Err.count) (c.in-Err.ensures.said asked start text.0 text.1 text.3)

pub returns-in-Some : goal.returns-in-Some
returns-in-Some g c =
    let asked = c.args.asked in
    let start = c.args.writer.now in
    let at = c.loop-turn.invariant.at in
    let text = at.replied in
    let flushed = c.in_default.ensures.said asked start text.0 text.1 text.3 in
    c.in-Some.ensures.answered asked (g.I.Input.reader_of c.args.input.now) start
    (record { taken = at.taken; took = at.took; well = at.well; replied = (text.0, text.1, text.2, flushed) })

pub returns-in-Ok : goal.returns-in-Ok
returns-in-Ok g c =
    let asked = c.args.asked in
    let start = c.args.writer.now in
    let inv = c.loop-turn.invariant in
    let at = inv.at in
    let text = at.replied in
    let out = c.in-Ok.ensures in
    let flushed = out.said asked start text.0 text.1 text.3 in
    let before = inv.calls in
    let all = c.loop-turn-test.false in
    left_read asked g.R.Read.remaining g.W.Write.contents (g.I.Input.reader_of c.args.input.now)
    (g.I.Input.reader_of c.loop-turn.input) start c.flush-2.new.writer at.taken text.0 text.1 text.2 at.took c.flush-2.new.self flushed
    out.none out.flushed (inr (omega (arith, before, all)))

pub returns : goal.returns
returns g c =
    let asked = c.args.asked in
    let start = c.args.writer.now in
    let at = c.loop-turn.invariant.at in
    let text = at.replied in
    left_stopped asked g.R.Read.remaining g.W.Write.contents (g.I.Input.reader_of c.args.input.now)
    (g.I.Input.reader_of c.loop-turn.input) start c.flush-2.new.writer at.taken text.0 text.1 text.2 at.took at.well
    (Write c.in-Err-flush.count) (c.in-Err-flush.ensures.said asked start text.0 text.1 text.3)

pub read_block-requires-clause-ready : goal.read_block-requires-clause-ready
read_block-requires-clause-ready g c =
    let asked = c.args.asked in
    let start = c.args.writer.now in
    let at = c.loop-turn.invariant.at in
    let text = at.replied in
    let out = c.in_default.ensures in
    let flushed = out.said asked start text.0 text.1 text.3 in
    c.requires.ready c.loop-turn.input c.flush.new.writer
    (left_ready asked g.R.Read.remaining g.W.Write.contents (g.I.Input.reader_of c.args.input.now)
    (g.I.Input.reader_of c.loop-turn.input) start c.flush.new.writer at.taken text.0 text.1 text.2 at.took c.flush.new.self flushed
    out.none out.flushed at.well)
