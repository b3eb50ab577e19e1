-- What a comparison of the profile answers, as a verdict on the whole texts.
use Rattle.std.proofs.Common.{◌≡◌, ◌≢◌, ℕ, zero, suc, ◌<◌, List, [], ◌∷◌, map, refl, sym, ap, ◌∙◌, arith, subst, inl, inr}
use Rattle.std.specs.Global.{Vec}
use Rattle.std.specs.Prelude.{Option, Some, slice_get, take, ◌⊎◌}
use Rattle.std.specs.List.{AllZip}
use Rattle.pf_values.specs.declared.models.Model.{Model}
use Rattle.pf_values.specs.declared.types.ArgType.{ArgType}
use Rattle.pf_values.specs.meaning.Items.{HasItems, Item, IsAccepted, types}
use Rattle.pf_values.specs.meaning.Text.{Text}
use Rattle.pf_compare.specs.Answers.{FaultForCompare, IsDifferenceOf, IsNeutralProbe, IsOtherProbe, IsShown, PrintUnlike}
use Rattle.pf_compare.specs.declared.comparisons.CompareFault.TheVariants as faults
use Rattle.pf_compare.specs.declared.comparisons.Difference.{Difference}
use Rattle.pf_compare.specs.declared.comparisons.Difference.TheVariants as differences
use Rattle.pf_compare.specs.declared.owned_args.OwnedArg.{OwnedArg}
use Rattle.pf_compare.specs.Owned.{argument_of_owned, type_of_owned}
use Rattle.pf_compare.proofs.VerdictLemmas.{neutral_shown, probe_shown, probe_typed}
use Rattle.pf_values.specs.meaning.Printing.{AreEquivalent}
use Rattle.pf_posix.specs.Stretches.{IsUnnumberedAccepted, Stretches, Last, ReadsStretches, whole_types}
use Rattle.pf_posix.specs.Types.{widened}
use Rattle.pf_posix.proofs.ReadOnce.{read_once}
use Rattle.pf_whole.specs.Answers.{HaveOneShape, IsWholeComparisonOf, IsWholeVerdict, WholeVerdict, Same, TypesDiffer, Different, ShowsNeutral, ShowsProbe}
use Rattle.pf_whole.specs.Comparisons.{FaultForWholeCompare, HasShownType, IsComparison, IsVerdictOf, ShowDifference, ShowsArguments, ShowsDifference, shown_as}
use Rattle.pf_whole.specs.Laws.{CoincidesWithProfile, Correspond}
use Rattle.pf_whole.specs.declared.verdicts.WholeVerdict as declared
use Rattle.pf_whole.specs.declared.verdicts.WholeVerdict.TheVariants as verdicts
use Rattle.pf_whole.specs.meaning.Traces.{AreWholeAlike}
use Rattle.pf_whole.proofs.AnswerLemmas.{comparison_is}
use Rattle.pf_whole.proofs.Corresponding.{alike_is_corresponding}
use Rattle.pf_whole.proofs.FindingLemmas.{shows_neutral, shows_probe}
use Rattle.pf_whole.proofs.FindingLoops.{compared_from, ends_with_probe}
use Rattle.pf_whole.proofs.ProfileTexts.{profile_coincides}
use Rattle.pf_whole.proofs.ShownLoops.{neutral_end, some_shown, typed_end, typed_from}
use Rattle.pf_whole.proofs.StretchDifferences.{telling_probe}
use Rattle.pf_whole.proofs.VerdictLemmas.{same_verdict}

-- types that are widened differ where they do
narrowed_again : (xs ys : List ArgType) (i : ℕ) → slice_get (map widened xs) i ≡ slice_get (map widened ys) i → slice_get xs i ≡ slice_get ys i
narrowed_again [] [] i e = refl
narrowed_again [] (y ∷ ys) zero e = cc
narrowed_again [] (y ∷ ys) (suc i) e = narrowed_again [] ys i e
narrowed_again (x ∷ xs) [] zero e = cc
narrowed_again (x ∷ xs) [] (suc i) e = narrowed_again xs [] i e
narrowed_again (x ∷ xs) (y ∷ ys) zero e =
    let wide : widened x ≡ widened y = cc in
    cc
narrowed_again (x ∷ xs) (y ∷ ys) (suc i) e = narrowed_again xs ys i e

widened_before : (xs ys : List ArgType) (i k : ℕ) → take i xs ≡ take i ys → k < i → slice_get (map widened xs) k ≡ slice_get (map widened ys) k
widened_before xs ys zero k e h = absurd (omega (arith, h))
widened_before [] [] (suc i) k e h = refl
widened_before [] (y ∷ ys) (suc i) k e h = cc
widened_before (x ∷ xs) [] (suc i) k e h = cc
widened_before (x ∷ xs) (y ∷ ys) (suc i) zero e h = let first : x ≡ y = cc in ap (λ z. Some (widened z)) first
widened_before (x ∷ xs) (y ∷ ys) (suc i) (suc k) e h = widened_before xs ys i k (cc) (omega (arith, h))

accepted_whole : (t : Text) → IsAccepted t → IsUnnumberedAccepted t
accepted_whole t h = record { stretches = Last h.0; reads = h.1.reads; limit = h.1.limit }

last_shape : (model : Model) (t u : Text) (xs ys : List Item) (a b : Stretches) → HasItems t xs → HasItems u ys → types model xs ≡ types model ys
    → ReadsStretches t a → ReadsStretches u b → HaveOneShape model a b
last_shape model t u xs ys a b h g same k l =
    subst (λ z. HaveOneShape model z b) (read_once t (Last xs) a h.reads k)
    (subst (λ z. HaveOneShape model (Last xs) z) (read_once u (Last ys) b g.reads l) same)

pub profile_memory : (model : Model) (t u : Text) → FaultForCompare model t u faults.Memory → FaultForWholeCompare model t u faults.Memory
profile_memory model t u h =
    let first : IsAccepted t = (h.0.first.items, h.0.first.accepted) in
    let second : IsAccepted u = (h.0.second.items, h.0.second.accepted) in (
      accepted_whole t first,
      accepted_whole u second,
      λ alike. h.1 ((profile_coincides model t u first second).alike.0 alike),
      λ a b k l. last_shape model t u h.0.first.items h.0.second.items a b h.0.first.accepted h.0.second.accepted
          (sym h.0.first.types_are ∙ h.0.second.types_are) k l,
    )

-- two texts of the profile, and their items
module _ (model : Model) (t u : Text) (xs ys : List Item) (g : HasItems t xs) (h : HasItems u ys) where
  both_coincide : CoincidesWithProfile model t u
  both_coincide = profile_coincides model t u (xs, g) (ys, h)

  pub profile_same : AreEquivalent model t u → IsWholeComparisonOf model t u Same
  profile_same same = same_verdict model t u (accepted_whole t (xs, g)) (accepted_whole u (ys, h)) (both_coincide.alike.1 same)

  module _ (other : ¬ AreEquivalent model t u) where
    apart : ¬ AreWholeAlike model t u
    apart = λ alike. other (both_coincide.alike.0 alike)

    verdict_apart : (verdict : WholeVerdict) → verdict ≢ Same → IsWholeVerdict model (Last xs) (Last ys) verdict → IsWholeComparisonOf model t u verdict
    verdict_apart verdict differ is = comparison_is model t u (record { stretches = Last xs; reads = g.reads; limit = g.limit })
        (record { stretches = Last ys; reads = h.reads; limit = h.limit }) verdict
        (λ e. absurd (differ e), λ alike. absurd (apart alike)) is

    pub profile_types : (index : ℕ) → slice_get (types model xs) index ≢ slice_get (types model ys) index
        → take index (types model xs) ≡ take index (types model ys) → IsWholeComparisonOf model t u (TypesDiffer index)
    profile_types index differ same = verdict_apart (TypesDiffer index) (λ e. cc) (
      λ e. differ (narrowed_again (types model xs) (types model ys) index e),
      λ k less. widened_before (types model xs) (types model ys) index k same less,
    )

    -- arguments of the profile are all shown
    shown_last : (args : List OwnedArg) (renderings : ℕ) → HaveOneShape model (Last xs) (Last ys)
        → IsNeutralProbe model xs ys (map argument_of_owned args) renderings ⊎ IsOtherProbe model xs ys (map argument_of_owned args) renderings
        → ShowsDifference model (Last xs) (Last ys) (shown_as (map Some args))
    shown_last args renderings shape (inl neutral) =
        let is = neutral_end model (Last xs) xs [] args refl neutral.args_are in
        let unlike = subst (PrintUnlike model xs ys) neutral.args_are neutral.unlike in
        inl (subst (ShowsNeutral model (Last xs) (Last ys)) (sym is)
        (shows_neutral model t u (Last xs) (Last ys) g.reads h.reads shape unlike))
    shown_last args renderings shape (inr probe) =
        let tells = telling_probe model xs ys (map argument_of_owned args) renderings probe in
        let differ : ¬ Correspond model (Last xs) (Last ys) = λ same.
        apart ((alike_is_corresponding model t u (Last xs) (Last ys) g.reads h.reads).1 same) in
        let telling = ends_with_probe model (Last xs) (Last ys) xs ys [] (map argument_of_owned args)
        (compared_from model (Last xs) (Last ys)) tells in
        inr (subst (ShowsProbe model (Last xs) (Last ys)) (sym (some_shown args))
        (shows_probe model t u (Last xs) (Last ys) (map Some (map argument_of_owned args)) g.reads h.reads shape telling))

    pub profile_shown : (args : List OwnedArg) (renderings : ℕ) → types model xs ≡ types model ys
        → IsNeutralProbe model xs ys (map argument_of_owned args) renderings ⊎ IsOtherProbe model xs ys (map argument_of_owned args) renderings
        → IsWholeComparisonOf model t u (Different (shown_as (map Some args)))
    profile_shown args renderings same is = verdict_apart (Different (shown_as (map Some args))) (λ e. cc)
        (ap (map widened) same, refl, shown_last args renderings same is)

  profile_typed : (args : List OwnedArg) → map type_of_owned args ≡ types model xs → (a : Stretches) → ReadsStretches t a
      → AllZip HasShownType (map Some args) (whole_types model a)
  profile_typed args is a reads =
      subst (λ z. AllZip HasShownType (map Some args) (whole_types model z)) (read_once t (Last xs) a g.reads reads)
      (typed_end model (Last xs) xs [] args (typed_from model (Last xs)) is)

-- in what one text of the profile differs from another one, and a verdict on that
module _ (model : Model) (t u : Text) where
  other_than : (difference : Difference) → IsDifferenceOf model t u difference → difference ≢ differences.Nowhere → ¬ AreEquivalent model t u
  other_than difference h other = λ same. other (h.same.1 same)

  shown_is : (difference : Difference) (h : IsDifferenceOf model t u difference) (shown : Vec (Option OwnedArg)) (args : List OwnedArg)
      → ShowDifference model h.first difference args → shown.items ≡ map Some args → IsComparison model t u (verdicts.Args shown)
  shown_is differences.Nowhere h shown args is all = absurd is
  shown_is (differences.Types index) h shown args is all = absurd is
  shown_is differences.Neutral h shown args is all = record {
    is = subst (λ l. IsWholeComparisonOf model t u (Different (shown_as l))) (sym all)
        (profile_shown model t u h.first h.second h.accepted_first h.accepted_second (other_than differences.Neutral h (λ e. cc)) args 1 h.is.0
        (inl (neutral_shown model h.first h.second args h.is.1 is)));
    typed = λ a k. subst (λ l. AllZip HasShownType l (whole_types model a)) (sym all)
        (profile_typed model t u h.first h.second h.accepted_first h.accepted_second args is.types_are a k);
  }
  shown_is (differences.Probe probe) h shown args is all = record {
    is = subst (λ l. IsWholeComparisonOf model t u (Different (shown_as l))) (sym all)
        (profile_shown model t u h.first h.second h.accepted_first h.accepted_second (other_than (differences.Probe probe) h (λ e. cc)) args
        probe.renderings h.is.0
        (inr (probe_shown model h.first h.second args probe h.is.1 h.is.2 is)));
    typed = λ a k. subst (λ l. AllZip HasShownType l (whole_types model a)) (sym all)
        (profile_typed model t u h.first h.second h.accepted_first h.accepted_second args
        (probe_typed model h.first h.second args probe h.is.1 h.is.2 is) a k);
  }

  pub profile_is : (difference : Difference) → IsDifferenceOf model t u difference → (verdict : declared.WholeVerdict)
      → IsVerdictOf model t difference verdict → IsComparison model t u verdict
  profile_is difference h verdicts.Same e = record {
    is = profile_same model t u h.first h.second h.accepted_first h.accepted_second (h.same.0 e);
    typed = tt;
  }
  profile_is difference h (verdicts.Types index) e =
      let k : IsDifferenceOf model t u (differences.Types index) = subst (IsDifferenceOf model t u) e h in
      record {
        is = profile_types model t u k.first k.second k.accepted_first k.accepted_second (other_than (differences.Types index) k (λ e. cc)) index k.is.differ k.is.same;
        typed = tt;
      }
  profile_is difference h (verdicts.Directives index) e = absurd e
  profile_is difference h (verdicts.Args shown) e =
      let given = e h.first h.accepted_first.reads in
      shown_is difference h shown given.0 given.1 given.2

  -- a verdict that shows arguments is of a difference that does
  pub shows_shown : (difference : Difference) → IsDifferenceOf model t u difference → (verdict : declared.WholeVerdict)
      → IsVerdictOf model t difference verdict → ShowsArguments verdict → IsShown difference
  shows_shown difference h verdicts.Same e shows = absurd shows
  shows_shown difference h (verdicts.Types index) e shows = absurd shows
  shows_shown difference h (verdicts.Directives index) e shows = absurd shows
  shows_shown differences.Nowhere h (verdicts.Args shown) e shows = (e h.first h.accepted_first.reads).1
  shows_shown (differences.Types index) h (verdicts.Args shown) e shows = (e h.first h.accepted_first.reads).1
  shows_shown differences.Neutral h (verdicts.Args shown) e shows = tt
  shows_shown (differences.Probe probe) h (verdicts.Args shown) e shows = tt
