-- A stretch, and what the calls of the profile say of it.
use Rattle.std.proofs.Common.{◌≡◌, List}
use Rattle.std.specs.Prelude.{◌↔◌}
use Rattle.pf_values.specs.declared.models.Model.{Model}
use Rattle.pf_values.specs.meaning.Items.{Item, Reads}
use Rattle.pf_values.specs.meaning.Printing.{AreEquivalent, PrintAlike}
use Rattle.pf_values.specs.meaning.Text.{Text}
use Rattle.pf_text.proofs.Texts.{Reads-unique}

-- two stretches are equivalent if and only if their items print alike
pub stretches_equivalent : (model : Model) (t u : Text) (a b : List Item) → Reads t a → Reads u b → (AreEquivalent model t u ↔ PrintAlike model a b)
stretches_equivalent model t u a b h g = (
  λ e.
      let first : e.first ≡ a = Reads-unique t e.first a e.reads_first h in
      let second : e.second ≡ b = Reads-unique u e.second b e.reads_second g in
      rw (first, second) at e.alike,
  λ alike. record { first = a; second = b; reads_first = h; reads_second = g; alike = alike },
)
