use Rattle.std.proofs.Common.{◌≡◌, ◌∙◌, ◌++◌, ◌<◌, inl, length, rules, subst, take}
use Rattle.std.specs.Prelude.{true}
use Rattle.std.proofs.KnownBytes.{Consumes-kept, Consumes-trans}
use Rattle.pf_values.specs.Counting.{failures_after, failures_of}
use Rattle.pf_canon.proofs.CopyLemmas.{read_end}
use Rattle.fmtcanon.specs.Records.{last_record}
use Rattle.fmtcanon.proofs.RecordEnds.{left_at_end, left_read, left_stopped}
use Rattle.fmtcanon.proofs.records.RecordRun.read_block.Goals as goal

pub returns-in-Ok-eq0-clause-answered : goal.returns-in-Ok-eq0-clause-answered
returns-in-Ok-eq0-clause-answered g c =
    let some : 0 < length c.read_next.new.block = search rules in
    λ asked begin start h.
    let text = h.replied in
    let end = read_end _ _ _ h.taken c.read_next.new.block c.in-Ok-eq0.field-0 (search rules) some h.took c.in-Ok-eq0.ensures.bytes in
    left_at_end asked g.R.Read.remaining g.W.Write.contents begin (g.I.Input.reader_of c.read_next.new.self) start c.end.new.writer
    h.taken text.0 text.1 text.2 end.0 (c.in-Ok-eq0.ensures.failures ∙ h.well) end.1 c.end.result
    (c.end.ensures asked start text.0 text.1 text.3)

pub returns-in-Ok-take-clause-answered : goal.returns-in-Ok-take-clause-answered
returns-in-Ok-take-clause-answered g c =
    let part = take c.in-Ok.len c.read_next.new.block in
    λ asked begin start h. record {
      taken = h.taken ++ part;
      took = Consumes-trans _ _ _ h.taken part h.took c.in-Ok.ensures.bytes.0;
      well = c.in-Ok.ensures.failures ∙ h.well;
      replied = c.in-Ok-take.ensures asked start h.taken h.replied;
    }

pub returns-in-Err-take-clause-answered : goal.returns-in-Err-take-clause-answered
returns-in-Err-take-clause-answered g c =
    let part = take c.in-Ok.len c.read_next.new.block in
    λ asked begin start h.
    let stopped = c.in-Err-take.ensures asked start h.taken h.replied in
    left_stopped asked g.R.Read.remaining g.W.Write.contents begin (g.I.Input.reader_of c.read_next.new.self) start c.break_off.new.writer
    (h.taken ++ part) stopped.0 stopped.1 stopped.2 (Consumes-trans _ _ _ h.taken part h.took c.in-Ok.ensures.bytes.0)
    (c.in-Ok.ensures.failures ∙ h.well) c.break_off.result
    (c.break_off.ensures asked start (stopped.0 ++ last_record stopped.1) stopped.3)

pub returns-in-Err-clause-answered : goal.returns-in-Err-clause-answered
returns-in-Err-clause-answered g c =
    let left = g.I.Input.reader_of c.read_next.new.self in
    λ asked begin start h.
    let text = h.replied in
    let failed = subst (λ n. failures_of left ≡ failures_after n true) h.well c.in-Err.ensures.failures in
    left_read asked g.R.Read.remaining g.W.Write.contents begin left start c.args.writer.now h.taken text.0 text.1 text.2
    (Consumes-kept _ _ _ h.taken h.took c.in-Err.ensures.bytes) c.args.self.now text.3 c.requires.none c.requires.flushed (inl failed)
