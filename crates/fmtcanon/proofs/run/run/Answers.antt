use Rattle.std.proofs.Common.{map}
use Rattle.fmtcanon.proofs.RunLemmas.{asks_for, asks_of}
use Rattle.fmtcanon.proofs.run.run.Goals as goal

pub run_found-requires : goal.run_found-requires
run_found-requires g c = record {
  ready = λ task left now e h. c.requires.ready task left now (asks_of (map (λ s. s.now) c.args.words.now) c.task_of.result task c.task_of.ensures.ok e) h;
}

pub returns : goal.returns
returns g c =
    let found = c.task_of.result in
    (found, asks_for (map (λ s. s.now) c.args.words.now) found c.task_of.ensures.ok c.task_of.ensures.err, c.run_found.ensures)
