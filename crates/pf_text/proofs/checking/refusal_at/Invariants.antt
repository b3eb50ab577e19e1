use Rattle.std.proofs.Common.{◌-◌, ◌≤◌, List, length, take}
use Rattle.pf_values.specs.meaning.Items.{Item, Reads}
use Rattle.pf_text.specs.History.{IsAfter}
use Rattle.pf_text.specs.Walks.{IsItemsEnd}
use Rattle.pf_text.proofs.checking.refusal_at.Given as goal

abbrev pub invariant-loop-at : goal.invariant-loop-at
invariant-loop-at l = record {
  from : l.start ≤ l.at;
  after : (items : List Item) → IsItemsEnd l.text l.start → Reads (take l.start l.text) items
      → (l.at ≤ length l.text) × IsAfter l.scanner (take l.at l.text) items;
}

abbrev pub decreases-loop-at : goal.decreases-loop-at
decreases-loop-at l = length l.text - l.at
