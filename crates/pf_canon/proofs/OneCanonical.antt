-- Two texts are equivalent if and only if they have one canonical text.
use Rattle.std.specs.Prelude.{◌↔◌, Bool, IsTrue}
use Rattle.pf_values.specs.declared.models.Model.{Model}
use Rattle.pf_values.specs.meaning.Items.{IsAccepted}
use Rattle.pf_values.specs.meaning.Printing.{AreEquivalent}
use Rattle.pf_values.specs.meaning.Text.{Text}
use Rattle.pf_values.specs.Counting.{Known}
use Rattle.pf_values.proofs.Alike.{alike-equivalent, alike_sym, printed-alike}
use Rattle.pf_canon.specs.Comparison.{AreTextsSame, EndsBoth, HasCanonical, HaveOneCanonical, IsReadWhole}
use Rattle.pf_canon.proofs.EquivalentTexts.{equivalent_by}

equivalent_back : (model : Model) (t u : Text) → AreEquivalent model t u → AreEquivalent model u t
equivalent_back model t u e =
    alike-equivalent model u t e.second e.first e.reads_second e.reads_first
    (alike_sym model e.first e.second (printed-alike model e.first e.second e.alike))

pub by_one : (model : Model) (t u : Text) → HaveOneCanonical model t u → AreEquivalent model t u
by_one model t u h = equivalent_by model t u h.0 h.1.equivalent h.2.equivalent

pub have_one : (model : Model) (t u : Text) → HasCanonical model t → AreEquivalent model t u → HaveOneCanonical model t u
have_one model t u c e =
    let back = equivalent_by model u c.0 t (equivalent_back model t u e) (equivalent_back model t c.0 c.1.equivalent) in
    (c.0, c.1, record { canonical = c.1.canonical; equivalent = back })

one_exactly : (model : Model) (t u : Text) (is : Bool) → HasCanonical model t → (IsTrue is ↔ AreEquivalent model t u)
    → (IsTrue is ↔ HaveOneCanonical model t u)
one_exactly model t u is c same = (λ yes. have_one model t u c (same.0 yes), λ one. same.1 (by_one model t u one))

-- what is said of two texts in memory, and of two that were read to their ends
module _ (model : Model) (t u : Text) (is : Bool) (same : IsTrue is ↔ AreEquivalent model t u) where
  pub are_same : IsAccepted t → IsAccepted u → HasCanonical model t → HasCanonical model u → AreTextsSame model t u is
  are_same first second c d = record {
    first = first;
    second = second;
    first_canonical = c;
    second_canonical = d;
    same = same;
    one = one_exactly model t u is c same;
  }

  pub end_both : (f f_left g g_left : Known) → IsReadWhole model f f_left t → IsReadWhole model g g_left u → EndsBoth model f f_left g g_left is
  end_both f f_left g g_left first second = record {
    t = t;
    u = u;
    first = first;
    second = second;
    same = same;
    one = one_exactly model t u is first.canonical same;
  }
