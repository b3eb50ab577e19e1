use Rattle.std.proofs.Common.{◌-◌, drop, take}
use Rattle.pf_text.proofs.ReadingLemmas.{directive_typed}
use Rattle.pf_text.proofs.known_argument_types.parts_type_at.Goals as goal

pub returns : goal.returns
returns c =
    let found = c.in_ok-found.found in
    let there = c.in_ok-found.ensures in (
      there.some,
      there.within,
      directive_typed c.args.model (take (found.stop - c.args.at) (drop c.args.at c.args.text.now)) found.directive c.arg_type.result there.read
          c.arg_type.ensures,
    )
