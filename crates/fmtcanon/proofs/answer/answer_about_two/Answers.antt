use Rattle.std.proofs.Common.{subst, sym}
use Rattle.fmtcanon.specs.Formats.{IsFormat}
use Rattle.fmtcanon.proofs.PairLemmas.{first_missing, pair_faults, second_missing}
use Rattle.fmtcanon.proofs.answer.answer_about_two.Goals as goal

pub returns : goal.returns
returns c =
    let gives_first = subst (IsFormat c.args.first.now) (sym c.as_slice-2.ensures.value) c.in-Ok.ensures in
    let gives_second = subst (IsFormat c.args.second.now) (sym c.as_slice-3.ensures.value) c.in-Ok-bytes.ensures in
    pair_faults c.args.asked c.args.first.now c.args.second.now c.as_slice-2.result.now c.as_slice-3.result.now
    gives_first gives_second c.args.models c.in-Err-pair_answer.fault c.fault_in_texts.result c.in-Err-pair_answer.ensures
    c.fault_in_texts.ensures

pub returns-in-Err : goal.returns-in-Err
returns-in-Err c =
    first_missing c.args.asked c.args.first.now c.args.second.now c.args.models c.in-Err.fault c.of_literal.result
    c.in-Err.ensures c.of_literal.ensures

pub returns-in-Err-bytes : goal.returns-in-Err-bytes
returns-in-Err-bytes c =
    let gives_first = subst (IsFormat c.args.first.now) (sym c.as_slice.ensures.value) c.in-Ok.ensures in
    second_missing c.args.asked c.args.first.now c.args.second.now c.args.models c.first.result c.as_slice.result.now
    c.refused.result c.in-Err-bytes.fault c.without_second.result c.first.ensures gives_first (c.refused.ensures gives_first) c.in-Err-bytes.ensures
    c.without_second.ensures
