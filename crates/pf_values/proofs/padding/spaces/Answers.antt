use Rattle.std.proofs.lemmas.List.{take-replicate}
use Rattle.pf_values.specs.declared.padding.TheConstants.{MAX_RUN}
use Rattle.pf_values.proofs.padding.spaces.Goals as goal

pub returns : goal.returns
returns c = take-replicate c.args.count MAX_RUN 32 c.requires
