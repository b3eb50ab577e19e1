use Rattle.std.proofs.Common.{arith}
use Rattle.pf_values.specs.declared.padding.TheConstants.{MAX_RUN}
use Rattle.pf_canon.proofs.OffsetLemmas.{few_repeated, many_repeated}
use Rattle.pf_canon.proofs.output.repeated.Goals as goal

pub returns-then-count : goal.returns-then-count
returns-then-count c byte e = few_repeated c.args.block.now MAX_RUN c.args.count byte e c.if-count.true

pub returns : goal.returns
returns c byte e = many_repeated c.args.block.now MAX_RUN c.args.count byte (omega arith) e c.if-count.false
