use Rattle.std.proofs.Common.{◌≡◌, take}
use Rattle.std.specs.List.{fold}
use Rattle.clap.specs.Words.{app_of}
use Rattle.fmtcanon.specs.Words.{top_app, with_row}
use Rattle.fmtcanon.proofs.command.with_subcommands.Given as goal

-- the commands so far
abbrev pub invariant-loop-row : goal.invariant-loop-row
invariant-loop-row l = app_of l.command ≡ fold with_row top_app (take l.row-index l.rows)
