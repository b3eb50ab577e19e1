use Rattle.std.proofs.Common.{◌≡◌, get_or, rules}
use Rattle.std.proofs.lemmas.List.Elements.{recursion_from_All}
use Rattle.fmtcanon.proofs.ArgumentWordLemmas.{no_argument, rest_of_two}
use Rattle.fmtcanon.proofs.arguments.read_argument.Goals as goal

pub returns-in_err-number_of-in-110-clause-none : goal.returns-in_err-number_of-in-110-clause-none
returns-in_err-number_of-in-110-clause-none c =
    let first : get_or c.args.word.now 0 0 ≡ 110 = search rules in
    let second : get_or c.args.word.now 1 0 ≡ 58 = search rules in
    let whole = rest_of_two c.args.word.now c.in-110.len_at_least in
    no_argument _ _ _ c.from_residual.ensures (rw (first, second) at whole) c.in_err-number_of-in-110.ensures.none

pub returns-in_ok-new-in-115-clause-some : goal.returns-in_ok-new-in-115-clause-some
returns-in_ok-new-in-115-clause-some c =
    let first : get_or c.args.word.now 0 0 ≡ 115 = search rules in
    let second : get_or c.args.word.now 1 0 ≡ 58 = search rules in
    let whole = rest_of_two c.args.word.now c.in-115.len_at_least in
    let bytes = c.in_ok-new-in-115.field-0 in
    (recursion_from_All _ bytes.bytes.now bytes.in_range, rw (first, second, ← c.in_ok-new-in-115.ensures.value) at whole)
