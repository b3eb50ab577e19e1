use Rattle.std.proofs.Common.{◌≡◌, true, refl}
use Rattle.pf_values.specs.declared.types.ArgType.{ArgType}
use Rattle.pf_values.specs.declared.types.ArgType.TheVariants as types
use Rattle.pf_values.specs.contracts.types.ArgTypePartialEq.TheImpl.{eq-value}
use Rattle.pf_canon.proofs.EarlyLemmas.{unequal_types}
use Rattle.pf_canon.proofs.early_difference.are_unequal.Goals as goal

reflexive : (a : ArgType) → eq-value.it a a ≡ true
reflexive types.Int = refl
reflexive types.UInt = refl
reflexive types.Long = refl
reflexive types.ULong = refl
reflexive types.LongLong = refl
reflexive types.ULongLong = refl
reflexive types.Str = refl

pub returns : goal.returns
returns c = unequal_types eq-value.it reflexive c.args.first.now c.args.second.now c.ne.result c.ne.ensures
