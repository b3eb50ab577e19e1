use Rattle.std.proofs.Common.{rules}
use Rattle.pf_reduce.proofs.TextCores.{normal_string}
use Rattle.pf_reduce.proofs.texts.reduce_string.Goals as goal

pub padded_core-requires : goal.padded_core-requires
padded_core-requires c = normal_string c.args.model c.args.directive.now c.right_justify_if_unseen-padding.result c.empty.result c.precision-precision.result
    c.of.ensures.defined.allowed c.requires (search rules)
