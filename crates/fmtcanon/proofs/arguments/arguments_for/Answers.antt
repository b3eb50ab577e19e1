use Rattle.std.proofs.Common.{◌≡◌, ◌≢◌, arith, length, map}
use Rattle.std.proofs.lemmas.List.{length-map}
use Rattle.fmtcanon.specs.UntypedArgs.{argument_given}
use Rattle.fmtcanon.proofs.FormatArgumentLemmas.{wrong_count_hinders}
use Rattle.fmtcanon.proofs.arguments.arguments_for.Goals as goal

pub returns-then-len-clause-err : goal.returns-then-len-clause-err
returns-then-len-clause-err c =
    let given = c.in_ok-given.given in
    let count : c.len-then-len-2.result ≡ length (map argument_given given.items) = omega (arith, given.ok.0, length-map given.items argument_given) in
    let differ : c.len-then-len.result ≢ c.len-then-len-2.result = omega arith in
    wrong_count_hinders c.args.model _ _ _ c.in_ok-wanted.ensures _ c.in_ok-given.ensures.ok _ _ c.len-then-len.ensures count differ
