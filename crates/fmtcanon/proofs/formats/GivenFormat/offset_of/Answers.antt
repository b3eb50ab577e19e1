use Rattle.fmtcanon.proofs.GivenLemmas.{offset_in_literals}
use Rattle.fmtcanon.proofs.formats.GivenFormat.offset_of.Goals as goal

pub returns-in-Literals : goal.returns-in-Literals
returns-in-Literals c =
    offset_in_literals c.args.self.now c.args.index c.unwrap_or.result c.source_offset.result c.in-Literals.is c.source_offset.ensures c.unwrap_or.ensures
