use Rattle.std.proofs.Common.{refl}
use Rattle.pf_posix.proofs.DifferenceLemmas.{many_left}
use Rattle.pf_posix.proofs.types_in_order.TypesInOrder.new.Goals as goal

pub returns : goal.returns
returns c model types h many = many_left model _ types refl refl h many
