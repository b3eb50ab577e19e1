use Rattle.std.proofs.Common.{◌≡◌, arith, length, refl}
use Rattle.pf_posix.proofs.DifferenceLemmas.{compared_few}
use Rattle.pf_posix.proofs.comparison.compared.Goals as goal

pub of_many-requires : goal.of_many-requires
of_many-requires c =
    let h = c.in-Ok.ensures.types in
    let k = c.in-Ok-arguments.ensures.types in
    record {
      types = h.types;
      others = k.types;
      first_accepted = h.accepted;
      second_accepted = k.accepted;
      count_is = h.count_is;
      second_count_is = k.count_is;
    }

pub returns-else-min : goal.returns-else-min
returns-else-min c =
    let long : length c.arguments.new.out ≡ 16 = c.in-Ok.ensures.length in
    compared_few c.args.model c.args.first.now c.args.second.now _ _ _ _ _ _ _ c.in-Ok.ensures.types c.in-Ok-arguments.ensures.types c.difference.ensures
    _ refl refl (omega (arith, long, c.min.ensures, c.if-min.false))
