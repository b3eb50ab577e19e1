-- What follows of a canonical text, and of whether two texts are alike.
use Rattle.std.proofs.Common.{◌≡◌, Bool, subst, sym}
use Rattle.std.specs.Prelude.{◌↔◌, IsTrue}
use Rattle.pf_values.specs.declared.models.Model.{Model}
use Rattle.pf_values.specs.meaning.Text.{Text}
use Rattle.pf_posix.specs.Stretches.{IsUnnumberedAccepted}
use Rattle.pf_whole.specs.Answers.{HaveOneWholeCanonical, IsWholeCanonicalFor, IsWholeComparisonOf, IsWholeVerdict, WholeVerdict, Same}
use Rattle.pf_whole.specs.Faults.{AreWholeSame}
use Rattle.pf_whole.specs.meaning.Traces.{AreWholeAlike}
use Rattle.pf_whole.specs.meaning.WholeCanonical.{IsWholeCanonicalOf}
use Rattle.pf_whole.proofs.Completeness.{alike_have_one_canonical}
use Rattle.pf_whole.proofs.OneCanonical.{alike_to_it, one_canonical_is_alike}
use Rattle.pf_whole.proofs.SomeCanonical.{headline}

pub canonical_for : (model : Model) (t c : Text) → IsUnnumberedAccepted t → IsWholeCanonicalOf model t c → IsWholeCanonicalFor model t c
canonical_for model t c accepted is = record {
  accepted = accepted;
  canonical_is = is;
  alike = alike_to_it model t c is;
  kept = λ own. alike_have_one_canonical model t t c t (one_canonical_is_alike model t t c is is) is own;
}

-- a fact that holds if and only if two texts are alike holds if and only if they have one canonical
-- text
module _ (model : Model) (t u : Text) (first : IsUnnumberedAccepted t) (second : IsUnnumberedAccepted u) where
  one_exactly : (P : Type 0) → (P ↔ AreWholeAlike model t u) → (P ↔ HaveOneWholeCanonical model t u)
  one_exactly P same =
      let both = headline model t u first second in (
        λ p. (both.first.canonical, both.first.is, subst (IsWholeCanonicalOf model u) (sym (both.same.0 (same.0 p))) both.second.is),
        λ one. same.1 (one_canonical_is_alike model t u one.0 one.1 one.2),
      )

  pub are_same : (is : Bool) → (IsTrue is ↔ AreWholeAlike model t u) → AreWholeSame model t u is
  are_same is same = record { first = first; second = second; same = same; one = one_exactly (IsTrue is) same }

  pub comparison_is : (verdict : WholeVerdict) → ((verdict ≡ Same) ↔ AreWholeAlike model t u)
      → IsWholeVerdict model first.stretches second.stretches verdict → IsWholeComparisonOf model t u verdict
  comparison_is verdict same is =
      record { first = first; second = second; same = same; one = one_exactly (verdict ≡ Same) same; is = is }
