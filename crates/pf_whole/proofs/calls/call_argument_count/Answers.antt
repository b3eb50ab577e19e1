use Rattle.std.proofs.Common.{arith}
use Rattle.pf_posix.specs.OpaqueParts.{parts_of_opaque}
use Rattle.pf_whole.proofs.CountLemmas.{opaque_count}
use Rattle.pf_whole.proofs.calls.call_argument_count.Goals as goal

pub returns-in-Directive : goal.returns-in-Directive
returns-in-Directive c = λ model. rw c.in-Directive.is (omega (
  arith,
  opaque_count model (parts_of_opaque c.in-Directive.directive),
  c.star_count.ensures.count,
  c.star_count-in-Directive.ensures.count,
))
