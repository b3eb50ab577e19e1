use Rattle.std.proofs.Common.{ℕ, ◌<◌, ◌≤◌, ◌^◌, ap, arith, length}
use Rattle.std.specs.Prelude.{decimal}
use Rattle.std.proofs.lemmas.Fmt.{length-decimal-le}
use Rattle.std.proofs.lemmas.List.{length-append}
use Rattle.pf_whole.proofs.spelling.push_amount.Goals as goal

-- a number of 16 bits has five digits at most
five : (n : ℕ) → n < 2 ^ 16 → length (decimal n) ≤ 5
five n small = length-decimal-le 5 n (omega arith) (omega (arith, small)) (omega (arith, small))

pub push_number-requires : goal.push_number-requires
push_number-requires c = omega (arith, c.requires, five c.in-Number.n (omega arith))

pub returns-in-Number-clause-len : goal.returns-in-Number-clause-len
returns-in-Number-clause-len c =
    let n = c.in-Number.n in
    omega (arith, ap length c.push_number.ensures, length-append c.args.out.now.items (decimal n), five n (omega arith))
