use Rattle.std.proofs.Common.{List, ◌+◌, ◌-◌, length}
use Rattle.std.specs.Prelude.{if◌then◌else◌}
use Rattle.pf_values.specs.declared.types.ArgType.{ArgType}
use Rattle.pf_values.specs.meaning.Items.{IsAccepted}
use Rattle.pf_values.specs.meaning.Text.{Text}
use Rattle.pf_compare.specs.TypeLists.{HasGivenTypes}
use Rattle.pf_compare.proofs.differences.next_type.Given as goal

abbrev pub invariant-loop-piece : goal.invariant-loop-piece
invariant-loop-piece l = (t : Text) (done : List ArgType) → IsAccepted t → HasGivenTypes l.model l.initial.pieces t done → HasGivenTypes l.model l.pieces t done

abbrev pub decreases-loop-piece : goal.decreases-loop-piece
decreases-loop-piece l = if l.pieces.is_over then 0 else length l.pieces.text.now - l.pieces.at + 1
