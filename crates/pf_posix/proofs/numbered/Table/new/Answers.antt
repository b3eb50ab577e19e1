use Rattle.std.proofs.Common.{refl, arith}
use Rattle.std.specs.Prelude.{None, Option}
use Rattle.pf_posix.specs.declared.types.WholeArgType.{WholeArgType}
use Rattle.std.proofs.lemmas.List.{get_or-replicate, length-replicate}
use Rattle.pf_posix.proofs.numbered.Table.new.Goals as goal

pub returns : goal.returns
returns c = record {
  full = length-replicate {A = Option WholeArgType} 4095 None;
  types = λ index less. get_or-replicate 4095 index None None less;
  count = refl;
  room = omega arith;
  one_type = tt;
}
