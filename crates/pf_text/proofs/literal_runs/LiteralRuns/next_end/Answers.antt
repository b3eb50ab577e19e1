use Rattle.pf_text.proofs.WalkLemmas.{marks_of_runs, next_end_of}
use Rattle.pf_text.proofs.literal_runs.LiteralRuns.next_end.Goals as goal

pub returns-in-Some : goal.returns-in-Some
returns-in-Some c =
    let marked = marks_of_runs c.args.self c.args.text.now c.in-Some.marks c.in-Some.is c.requires.runs in
    next_end_of c.in-Some.marks c.args.text.now c.args.from c.next_from.result marked.0 marked.1 c.next_from.ensures
