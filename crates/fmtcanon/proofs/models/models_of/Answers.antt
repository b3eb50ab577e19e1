use Rattle.std.proofs.Common.{◌∙◌}
use Rattle.fmtcanon.proofs.command_line.ModelLemmas.{models_given}
use Rattle.fmtcanon.proofs.models.models_of.Goals as goal

pub returns-in-Some : goal.returns-in-Some
returns-in-Some c = c.models_named.ensures ∙ models_given c.args.inner.now c.get_str.result _ c.get_str.ensures c.in-Some.is

pub returns-in-None : goal.returns-in-None
returns-in-None c = models_given c.args.inner.now c.get_str.result _ c.get_str.ensures c.in-None.is
