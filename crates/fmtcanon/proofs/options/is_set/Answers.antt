use Rattle.std.proofs.Common.{◌∙◌, Bool, Option, codes, false}
use Rattle.std.specs.Option.{option_map_or}
use Rattle.std.specs.Str.{bytes_eq}
use Rattle.clap.specs.Walk.{Text}
use Rattle.fmtcanon.proofs.command_line.ModelLemmas.{value_of_row}
use Rattle.fmtcanon.proofs.options.is_set.Goals as goal

abbrev says_true : Option Text → Bool
says_true o = option_map_or (λ value. bytes_eq value (codes "true")) o false

pub returns-in-Some : goal.returns-in-Some
returns-in-Some c = c.is_true.ensures ∙ value_of_row says_true c.args.id.now c.args.inner.now c.get_str.result _ c.get_str.ensures c.in-Some.is

pub returns-in-None : goal.returns-in-None
returns-in-None c = value_of_row says_true c.args.id.now c.args.inner.now c.get_str.result _ c.get_str.ensures c.in-None.is
