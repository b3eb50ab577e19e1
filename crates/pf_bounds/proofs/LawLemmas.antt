-- Laws of the numbers of bytes that texts print.
use Rattle.std.proofs.Common.{ℕ, ◌+◌, ◌≤◌, List, ◌++◌, length, sym, subst}
use Rattle.std.specs.Prelude.{Option, Some, None, IfSome}
use Rattle.pf_values.specs.declared.limits.TheConstants.{MAX_TEXT_LEN}
use Rattle.pf_values.specs.declared.models.Model.{Model}
use Rattle.pf_values.specs.meaning.Arguments.{Argument, HasTypes}
use Rattle.pf_values.specs.meaning.Items.{HasItems, IsAccepted, Item, types}
use Rattle.pf_values.specs.meaning.Printing.{AreEquivalent, PrintsAll}
use Rattle.pf_values.specs.meaning.Text.{Text}
use Rattle.pf_text.proofs.CanonicalRunLemmas.{Reads-append}
use Rattle.pf_text.proofs.Texts.{Reads-unique}
use Rattle.pf_bounds.specs.Bounds.{AreBounds, AreBoundsOf, IsBetween, IsGreatest, CanPrintAll, sum_of}
use Rattle.pf_bounds.proofs.BoundsLemmas.{items_append, of_same}

below_greatest : (Printed : Text → Type 0) (greatest : Option ℕ) (out : Text) → IsGreatest Printed greatest → Printed out
    → IfSome greatest (λ g. length out ≤ g)
below_greatest Printed None out h p = tt
below_greatest Printed (Some n) out h p = h.0 out p

pub printed_between : (model : Model) (t out : Text) (least : ℕ) (greatest : Option ℕ) (items : List Item) (args : List Argument)
    → AreBounds model t least greatest → HasItems t items → HasTypes model args (types model items) → PrintsAll model items args out
    → IsBetween least greatest (length out)
printed_between model t out least greatest items args h k typed prints =
    let same = Reads-unique t items h.items k.reads h.accepted.reads in
    let printed : CanPrintAll model h.items out =
    subst (λ i. CanPrintAll model i out) same (record { args = args; typed = typed; prints = prints }) in
    record {
      from_least = h.bounds.at_least out printed;
      to_greatest = below_greatest (CanPrintAll model h.items) greatest out h.bounds.most printed;
    }

pub bounds_of_both : (model : Model) (t u : Text) (least fewer : ℕ) (greatest more : Option ℕ) → AreBounds model t least greatest
    → AreBounds model u fewer more → length (t ++ u) ≤ MAX_TEXT_LEN → AreBounds model (t ++ u) (least + fewer) (sum_of greatest more)
bounds_of_both model t u least fewer greatest more h k limit =
    record {
      items = h.items ++ k.items;
      accepted = record { reads = Reads-append t u h.items k.items h.accepted.reads k.accepted.reads; limit = limit };
      bounds = items_append model h.items k.items least fewer greatest more h.bounds k.bounds;
    }

pub equivalent_bounds : (model : Model) (t u : Text) (least : ℕ) (greatest : Option ℕ) → AreEquivalent model t u → IsAccepted u
    → AreBounds model t least greatest → AreBounds model u least greatest
equivalent_bounds model t u least greatest e accepted h =
    let own = Reads-unique t h.items e.first h.accepted.reads e.reads_first in
    let bounds : AreBoundsOf (CanPrintAll model e.first) least greatest = subst (λ i. AreBoundsOf (CanPrintAll model i) least greatest) own h.bounds in
    record {
      items = e.second;
      accepted = record { reads = e.reads_second; limit = accepted.1.limit };
      bounds = of_same (CanPrintAll model e.first) (CanPrintAll model e.second) least greatest to from bounds;
    } where
      to : (out : Text) → CanPrintAll model e.first out → CanPrintAll model e.second out
      to out p =
          record {
            args = p.args;
            typed = subst (HasTypes model p.args) e.alike.same_types p.typed;
            prints = (e.alike.same_bytes p.args out p.typed).0 p.prints;
          }

      from : (out : Text) → CanPrintAll model e.second out → CanPrintAll model e.first out
      from out p =
          let typed = subst (HasTypes model p.args) (sym e.alike.same_types) p.typed in
          record { args = p.args; typed = typed; prints = (e.alike.same_bytes p.args out typed).1 p.prints }
