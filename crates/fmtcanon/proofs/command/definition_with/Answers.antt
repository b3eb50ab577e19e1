use Rattle.std.proofs.lemmas.Result.{IfOk-weaker}
use Rattle.fmtcanon.specs.Words.{the_command}
use Rattle.fmtcanon.proofs.command.definition_with.Goals as goal

pub returns : goal.returns
unfolding the_command
returns c = IfOk-weaker c.with_subcommands.result _ _ (λ command h. h) c.with_subcommands.ensures
