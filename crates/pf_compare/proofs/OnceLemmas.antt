-- Two texts have one comparison.
use Rattle.std.proofs.Common.{◌≡◌, ◌<◌, ◌+◌, ℕ, zero, suc, List, [], ◌∷◌, take, refl, sym, ap, ◌∙◌, subst, inl, inr, arith}
use Rattle.std.specs.Prelude.{Some, ◌⊎◌, ◌↔◌, slice_get}
use Rattle.std.proofs.lemmas.Bool.{cases_order}
use Rattle.pf_values.specs.declared.models.Model.{Model}
use Rattle.pf_values.specs.meaning.Arguments.{Argument}
use Rattle.pf_values.specs.Candidates.{candidates, neutrals}
use Rattle.pf_values.specs.meaning.Items.{Item, types}
use Rattle.pf_values.specs.meaning.Text.{Text}
use Rattle.pf_text.proofs.Texts.{Reads-unique}
use Rattle.pf_render.specs.Rendering.{DifferFirstAt}
use Rattle.pf_compare.specs.declared.comparisons.Comparison.{Comparison}
use Rattle.pf_compare.specs.declared.comparisons.Difference.{Difference}
use Rattle.pf_compare.specs.declared.comparisons.Difference.TheVariants as differences
use Rattle.pf_compare.specs.declared.comparisons.Verdict.{Verdict}
use Rattle.pf_compare.specs.declared.comparisons.Verdict.TheVariants.{Same, Types, Args}
use Rattle.pf_compare.specs.declared.witnesses.Probe.{Probe}
use Rattle.pf_compare.specs.Answers.{
  AreOneDifference,
  AreOneProbe,
  AreOneVerdict,
  IsCandidateAt,
  IsComparisonOf,
  IsDifference,
  IsDifferenceOf,
  IsEarlier,
  IsFirstProbe,
  IsNeutralProbe,
  IsOtherProbe,
  IsProbeOf,
  IsVerdict,
  PrintTheSame,
  PrintUnlike,
  probe_at,
}

-- one of two probes is earlier, or their indexes and their candidates' indexes are equal
pub which_first : (i k j l : ℕ) → IsEarlier i k j l ⊎ (IsEarlier j l i k ⊎ ((i ≡ j) × (k ≡ l)))
which_first i k j l = by_index (cases_order i j)
  where
    by_candidate : i ≡ j → (k ≡ l) ⊎ ((k < l) ⊎ (l < k)) → IsEarlier i k j l ⊎ (IsEarlier j l i k ⊎ ((i ≡ j) × (k ≡ l)))
    by_candidate e (inl same) = inr (inr (e, same))
    by_candidate e (inr (inl less)) = inl (inr (e, less))
    by_candidate e (inr (inr more)) = inr (inl (inr (sym e, more)))

    by_index : (i ≡ j) ⊎ ((i < j) ⊎ (j < i)) → IsEarlier i k j l ⊎ (IsEarlier j l i k ⊎ ((i ≡ j) × (k ≡ l)))
    by_index (inl same) = by_candidate same (cases_order k l)
    by_index (inr (inl less)) = inl (inl less)
    by_index (inr (inr more)) = inr (inl (inl more))

module _ (model : Model) (xs ys : List Item) where
  -- no arguments are printed both alike and not
  both_ways : (args : List Argument) → PrintUnlike model xs ys args → PrintTheSame model xs ys args → ⊥
  both_ways args h same = h.4 (same h.0 h.1 h.2 h.3)

  one_candidate : (i k : ℕ) (x y : Argument) → IsCandidateAt model (types model xs) i k x → IsCandidateAt model (types model xs) i k y → x ≡ y
  one_candidate i k x y h g =
      let type : Some h.type ≡ Some g.type = sym h.type_is ∙ g.type_is in
      let same_type : h.type ≡ g.type = cc in
      let argument : Some x ≡ Some y = sym h.argument_is ∙ ap (λ t. slice_get (candidates model t) k) same_type ∙ g.argument_is in
      cc

  -- the first of the probes that tell them apart
  one_probe : (i k j l : ℕ) (x y : Argument) → IsFirstProbe model xs ys i k x → IsFirstProbe model xs ys j l y → (i ≡ j) × (k ≡ l) × (x ≡ y)
  one_probe i k j l x y h g = by (which_first i k j l)
    where
      by : IsEarlier i k j l ⊎ (IsEarlier j l i k ⊎ ((i ≡ j) × (k ≡ l))) → (i ≡ j) × (k ≡ l) × (x ≡ y)
      by (inl first) = absurd (both_ways (probe_at (types model xs) i x) h.unlike (g.earlier i k x h.candidate first))
      by (inr (inl first)) = absurd (both_ways (probe_at (types model xs) j y) g.unlike (h.earlier j l y g.candidate first))
      by (inr (inr same)) =
          let moved = subst (λ n. IsCandidateAt model (types model xs) n k x) same.0 h.candidate in
          (same.0, same.1, one_candidate j l x y (subst (λ n. IsCandidateAt model (types model xs) j n x) same.1 moved) g.candidate)

  -- what is shown, and with which number
  shown_once : (args others : List Argument) (n m : ℕ) → IsNeutralProbe model xs ys args n ⊎ IsOtherProbe model xs ys args n
      → IsNeutralProbe model xs ys others m ⊎ IsOtherProbe model xs ys others m → (args ≡ others) × (n ≡ m)
  shown_once args others n m (inl h) (inl g) = (h.args_are ∙ sym g.args_are, h.renderings_are ∙ sym g.renderings_are)
  shown_once args others n m (inl h) (inr g) =
      absurd (both_ways (neutrals (types model xs)) (subst (PrintUnlike model xs ys) h.args_are h.unlike) g.neutral_same)
  shown_once args others n m (inr h) (inl g) =
      absurd (both_ways (neutrals (types model xs)) (subst (PrintUnlike model xs ys) g.args_are g.unlike) h.neutral_same)
  shown_once args others n m (inr h) (inr g) =
      let same = one_probe h.index h.candidate_index g.index g.candidate_index h.argument g.argument h.probe g.probe in (
        h.args_are ∙ ap (λ i. probe_at (types model xs) i h.argument) same.0 ∙ ap (probe_at (types model xs) g.index) same.2 ∙ sym g.args_are,
        h.renderings_are ∙ ap (λ k. k + 1) same.1 ∙ sym g.renderings_are,
      )

-- what is before an index is in the front up to it
taken_get : {A : Type 0} (xs : List A) (i j : ℕ) → i < j → slice_get (take j xs) i ≡ slice_get xs i
taken_get xs i zero less = absurd (omega (arith, less))
taken_get [] i (suc j) less = refl
taken_get (x ∷ xs) zero (suc j) less = refl
taken_get (x ∷ xs) (suc i) (suc j) less = taken_get xs i j (omega (arith, less))

-- two lists differ first at one index, and not if they are equal
differ_first_once : {A : Type 0} (xs ys : List A) (i j : ℕ) → DifferFirstAt xs ys i → DifferFirstAt xs ys j → i ≡ j
differ_first_once xs ys i j h g = by (cases_order i j)
  where
    by : (i ≡ j) ⊎ ((i < j) ⊎ (j < i)) → i ≡ j
    by (inl same) = same
    by (inr (inl less)) = absurd (h.differ (sym (taken_get xs i j less) ∙ ap (λ l. slice_get l i) g.same ∙ taken_get ys i j less))
    by (inr (inr more)) = absurd (g.differ (sym (taken_get xs j i more) ∙ ap (λ l. slice_get l j) h.same ∙ taken_get ys j i more))

equal_nowhere : {A : Type 0} (xs ys : List A) (i : ℕ) → DifferFirstAt xs ys i → xs ≡ ys → ⊥
equal_nowhere xs ys i h same = h.differ (ap (λ l. slice_get l i) same)

module _ (model : Model) (t u : Text) (xs ys : List Item) where
  settled : (v w : Verdict) (n m : ℕ) {Alike : Type 0} → ((v ≡ Same) ↔ Alike) → ((w ≡ Same) ↔ Alike) → IsVerdict model t u xs ys v n
      → IsVerdict model t u xs ys w m → AreOneVerdict v w × (n ≡ m)
  settled Same Same n m h g x y = (tt, x.1 ∙ sym y.1)
  settled Same (Types j) n m h g x y = let no = g.1 (h.0 refl) in cc
  settled Same (Args others) n m h g x y = let no = g.1 (h.0 refl) in cc
  settled (Types i) Same n m h g x y = let no = h.1 (g.0 refl) in cc
  settled (Types i) (Types j) n m h g x y = (differ_first_once (types model xs) (types model ys) i j x.0 y.0, x.1 ∙ sym y.1)
  settled (Types i) (Args others) n m h g x y = absurd (equal_nowhere (types model xs) (types model ys) i x.0 y.0)
  settled (Args args) Same n m h g x y = let no = h.1 (g.0 refl) in cc
  settled (Args args) (Types j) n m h g x y = absurd (equal_nowhere (types model xs) (types model ys) j y.0 x.0)
  settled (Args args) (Args others) n m h g x y =
      let same = shown_once model xs ys _ _ n m x.2 y.2 in
      ((x.1 ∙ sym y.1, same.0), same.1)

  probes_once : (probe other : Probe) → IsProbeOf model xs ys probe → IsProbeOf model xs ys other → AreOneProbe probe other
  probes_once probe other h g =
      let same = one_probe model xs ys probe.index h.candidate_index other.index g.candidate_index _ _ h.probe_is g.probe_is in
      let type = sym h.type_is ∙ ap (slice_get (types model xs)) same.0 ∙ g.type_is in
      record {
        index = same.0;
        value = same.2;
        type = cc;
        renderings = h.renderings_are ∙ ap (λ k. k + 1) same.1 ∙ sym g.renderings_are;
      }

  parted : (d e : Difference) {Alike : Type 0} → ((d ≡ differences.Nowhere) ↔ Alike) → ((e ≡ differences.Nowhere) ↔ Alike)
      → IsDifference model t u xs ys d → IsDifference model t u xs ys e → AreOneDifference d e
  parted differences.Nowhere differences.Nowhere h g x y = tt
  parted differences.Nowhere (differences.Types j) h g x y = let no = g.1 (h.0 refl) in cc
  parted differences.Nowhere differences.Neutral h g x y = let no = g.1 (h.0 refl) in cc
  parted differences.Nowhere (differences.Probe other) h g x y = let no = g.1 (h.0 refl) in cc
  parted (differences.Types i) differences.Nowhere h g x y = let no = h.1 (g.0 refl) in cc
  parted (differences.Types i) (differences.Types j) h g x y = differ_first_once (types model xs) (types model ys) i j x y
  parted (differences.Types i) differences.Neutral h g x y = absurd (equal_nowhere (types model xs) (types model ys) i x y.0)
  parted (differences.Types i) (differences.Probe other) h g x y = absurd (equal_nowhere (types model xs) (types model ys) i x y.0)
  parted differences.Neutral differences.Nowhere h g x y = let no = h.1 (g.0 refl) in cc
  parted differences.Neutral (differences.Types j) h g x y = absurd (equal_nowhere (types model xs) (types model ys) j y x.0)
  parted differences.Neutral differences.Neutral h g x y = tt
  parted differences.Neutral (differences.Probe other) h g x y = absurd (both_ways model xs ys (neutrals (types model xs)) x.1 y.1)
  parted (differences.Probe probe) differences.Nowhere h g x y = let no = h.1 (g.0 refl) in cc
  parted (differences.Probe probe) (differences.Types j) h g x y = absurd (equal_nowhere (types model xs) (types model ys) j y x.0)
  parted (differences.Probe probe) differences.Neutral h g x y = absurd (both_ways model xs ys (neutrals (types model xs)) y.1 x.1)
  parted (differences.Probe probe) (differences.Probe other) h g x y = probes_once probe other x.2 y.2

pub one_comparison : (model : Model) (t u : Text) (comparison other : Comparison) → IsComparisonOf model t u comparison → IsComparisonOf model t u other
    → AreOneVerdict comparison.verdict other.verdict × (comparison.renderings ≡ other.renderings)
one_comparison model t u comparison other h g =
    let first : g.first ≡ h.first = Reads-unique t g.first h.first g.accepted_first.reads h.accepted_first.reads in
    let second : g.second ≡ h.second = Reads-unique u g.second h.second g.accepted_second.reads h.accepted_second.reads in
    settled model t u h.first h.second comparison.verdict other.verdict comparison.renderings other.renderings h.same g.same h.verdict
    (subst (λ b. IsVerdict model t u h.first b other.verdict other.renderings) second
    (subst (λ a. IsVerdict model t u a g.second other.verdict other.renderings) first g.verdict))

pub one_difference : (model : Model) (t u : Text) (difference other : Difference) → IsDifferenceOf model t u difference → IsDifferenceOf model t u other
    → AreOneDifference difference other
one_difference model t u difference other h g =
    let first : g.first ≡ h.first = Reads-unique t g.first h.first g.accepted_first.reads h.accepted_first.reads in
    let second : g.second ≡ h.second = Reads-unique u g.second h.second g.accepted_second.reads h.accepted_second.reads in
    parted model t u h.first h.second difference other h.same g.same h.is
    (subst (λ b. IsDifference model t u h.first b other) second (subst (λ a. IsDifference model t u a g.second other) first g.is))
