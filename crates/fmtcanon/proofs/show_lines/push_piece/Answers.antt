use Rattle.std.proofs.Common.{ap}
use Rattle.fmtcanon.specs.Shows.{shown_of}
use Rattle.fmtcanon.proofs.ReductionLemmas.{shown_directive}
use Rattle.fmtcanon.proofs.show_lines.push_piece.Goals as goal

pub returns-in-Directive : goal.returns-in-Directive
returns-in-Directive c = shown_directive c.args.model _ _ _ _ c.push_directive.result (ap shown_of c.in-Directive.is) c.push_directive.ensures
