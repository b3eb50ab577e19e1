use Rattle.std.proofs.Common.{ℕ, ◌+◌, ◌-◌, length}
use Rattle.std.specs.Prelude.{if◌then◌else◌}
use Rattle.pf_values.specs.meaning.Items.{IsAccepted}
use Rattle.pf_values.specs.meaning.Text.{Text}
use Rattle.pf_compare.specs.Spans.{HaveGivenSpans}
use Rattle.pf_compare.proofs.neutral_texts.Spans.next.Given as goal

abbrev pub invariant-loop-piece : goal.invariant-loop-piece
invariant-loop-piece l = (t : Text) (count : ℕ) → IsAccepted t → HaveGivenSpans l.model l.initial.self t count → HaveGivenSpans l.model l.self t count

abbrev pub decreases-loop-piece : goal.decreases-loop-piece
decreases-loop-piece l = if l.self.pieces.is_over then 0 else length l.self.pieces.text.now - l.self.pieces.at + 1
