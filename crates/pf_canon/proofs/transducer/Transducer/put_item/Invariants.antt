use Rattle.std.proofs.Common.{◌≡◌, ◌-◌, ◌≤◌, ◌++◌, List, length, take}
use Rattle.pf_values.specs.declared.models.Model.{Model}
use Rattle.pf_values.specs.meaning.Items.{Item}
use Rattle.pf_values.specs.meaning.Text.{Text}
use Rattle.pf_canon.specs.Transducer.{IsThrough}
use Rattle.pf_canon.proofs.transducer.Transducer.put_item.Given as goal

abbrev pub invariant-loop-at : goal.invariant-loop-at
invariant-loop-at g l = record {
  within : l.at ≤ length l.text;
  sink : l.sink ≡ l.fn.sink;
  through : (model : Model) (t out : Text) (items : List Item) → IsThrough model l.fn.self t items out
      → (now : List Item) × IsThrough model l.self (t ++ take l.at l.text) now out;
}

abbrev pub decreases-loop-at : goal.decreases-loop-at
decreases-loop-at g l = length l.text - l.at
