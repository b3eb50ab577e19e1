use Rattle.std.proofs.Common.{◌≡◌, ◌≤◌, arith, get_or, length, rules}
use Rattle.fmtcanon.proofs.ArgumentWordLemmas.{no_number_behind_minus, none_without_minus, rest_of}
use Rattle.fmtcanon.proofs.arguments.number_of.Goals as goal

pub returns-in_err-magnitude_of-in-45-clause-none :
    goal.returns-in_err-magnitude_of-in-45-clause-none
returns-in_err-magnitude_of-in-45-clause-none c =
    let minus : get_or c.args.text.now 0 0 ≡ 45 = search rules in
    let whole = rest_of c.args.text.now c.in-45.len_at_least in
    rw c.from_residual.ensures (no_number_behind_minus _ _ (rw minus at whole) c.in_err-magnitude_of-in-45.ensures.none)

pub returns-in_default-clause-none : goal.returns-in_default-clause-none
returns-in_default-clause-none c =
    let no_minus : get_or c.args.text.now 0 0 ≡ 45 → 1 ≤ length c.args.text.now → ⊥ = grind arith in
    none_without_minus c.magnitude_of-in_default.result c.args.text.now no_minus c.magnitude_of-in_default.ensures.none
