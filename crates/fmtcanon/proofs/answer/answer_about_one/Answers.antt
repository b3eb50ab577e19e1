use Rattle.std.proofs.Common.{subst, sym}
use Rattle.fmtcanon.specs.Answers.{IsOneFault}
use Rattle.fmtcanon.specs.Formats.{IsFormat}
use Rattle.fmtcanon.proofs.GivenLemmas.{given_fault, one_of_bytes}
use Rattle.fmtcanon.proofs.answer.answer_about_one.Goals as goal

pub returns : goal.returns
returns c =
    let asked = c.args.asked.now in
    let bytes = c.as_slice.result.now in
    let gives = subst (IsFormat c.args.format.now) (sym c.as_slice.ensures.value) c.in_ok-bytes.ensures in
    given_fault (IsOneFault asked c.args.model) c.args.format.now bytes c.in-Err.fault c.fault_in_text.result
    (one_of_bytes asked c.args.model bytes) gives c.in-Err.ensures c.fault_in_text.ensures
