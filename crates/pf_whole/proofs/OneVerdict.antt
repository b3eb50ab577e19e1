-- A pair of texts has one verdict at most.
use Rattle.std.proofs.Common.{◌≡◌, ℕ, zero, suc, List, [], ◌∷◌, ◌++◌, map, refl, sym, ap, ◌∙◌, subst, inl, inr}
use Rattle.std.specs.Prelude.{Option, Some, None, ◌↔◌, ◌⊎◌, slice_get, slice_set}
use Rattle.std.specs.List.{AllZip}
use Rattle.std.proofs.lemmas.List.{map-append}
use Rattle.pf_values.specs.declared.models.Model.{Model}
use Rattle.pf_values.specs.declared.types.ArgType.{ArgType}
use Rattle.pf_values.specs.declared.types.ArgType.TheVariants as profile
use Rattle.pf_values.specs.meaning.Arguments.{Argument, HasType}
use Rattle.pf_values.specs.Candidates.{candidates, neutral}
use Rattle.pf_values.specs.meaning.Items.{types}
use Rattle.pf_values.specs.meaning.Text.{Text}
use Rattle.pf_compare.specs.Answers.{IsEarlier}
use Rattle.pf_compare.proofs.CandidateLemmas.{candidate_has_type}
use Rattle.pf_compare.proofs.OnceLemmas.{which_first}
use Rattle.pf_posix.specs.declared.types.WholeArgType.{WholeArgType}
use Rattle.pf_posix.specs.Types.{widened}
use Rattle.pf_posix.specs.Stretches.{Stretches, Last, Before, types_of_opaque, whole_types}
use Rattle.pf_posix.proofs.DifferenceLemmas.{one_difference}
use Rattle.pf_posix.proofs.ReadOnce.{read_once}
use Rattle.pf_whole.specs.Answers.{
  Agrees,
  CallsDifferAt,
  IsWholeComparisonOf,
  IsWholeProbe,
  IsWholeVerdict,
  ShowsNeutral,
  ShowsProbe,
  TracesApart,
  TracesTogether,
  WholeVerdict,
  Same,
  TypesDiffer,
  DirectivesDiffer,
  Different,
  neutral_shown,
}
use Rattle.pf_whole.specs.meaning.Traces.{PlacedCall, placed_calls}
use Rattle.pf_whole.specs.meaning.WholeArguments.{WholeArgument, Known, HasNarrowedType, HasWholeTypes, narrowed}
use Rattle.pf_whole.proofs.CallLemmas.{differ_not, differ_once}
use Rattle.pf_whole.proofs.SomeTrace.{some_trace}
use Rattle.pf_whole.proofs.TwoValues.{whole_neutral, whole_neutrals, whole_neutrals_typed}
use Rattle.pf_compare.proofs.ListLemmas.{zip_append}

-- arguments that agree with those that are shown
record CanBeGiven (model : Model) (a : Stretches) (shown : List (Option Argument)) : Type 0 where
  pub args : List WholeArgument
  pub typed : HasWholeTypes model args (whole_types model a)
  pub agree : AllZip Agrees shown args

neutral_agrees : (type : ArgType) → Agrees (Some (neutral type)) (whole_neutral (widened type))
neutral_agrees profile.Int = refl
neutral_agrees _ = refl

neutrals_agree : (ts : List ArgType) → AllZip Agrees (map (λ type. Some (neutral type)) ts) (whole_neutrals (map widened ts))
neutrals_agree [] = tt
neutrals_agree (type ∷ ts) = (neutral_agrees type, neutrals_agree ts)

any_agree : (ts : List WholeArgType) → AllZip Agrees (map (λ type. None) ts) (whole_neutrals ts)
any_agree [] = tt
any_agree (type ∷ ts) = (tt, any_agree ts)

shown_agree : (model : Model) (a : Stretches) → AllZip Agrees (neutral_shown model a) (whole_neutrals (whole_types model a))
shown_agree model (Last items) = neutrals_agree (types model items)
shown_agree model (Before items s rest) =
    let here = map widened (types model items) in
    let own = types_of_opaque model s in
    let back = whole_types model rest in
    let split : whole_neutrals (here ++ (own ++ back)) ≡ whole_neutrals here ++ (whole_neutrals own ++ whole_neutrals back)
    = map-append whole_neutral here (own ++ back) ∙ ap (λ l. whole_neutrals here ++ l) (map-append whole_neutral own back) in
    subst (λ l. AllZip Agrees (neutral_shown model (Before items s rest)) l) (sym split)
    (zip_append Agrees (map (λ type. Some (neutral type)) (types model items)) (map (λ type. None) own ++ neutral_shown model rest) (whole_neutrals here)
    (whole_neutrals own ++ whole_neutrals back)
    (neutrals_agree (types model items))
    (zip_append Agrees (map (λ type. None) own) (neutral_shown model rest) (whole_neutrals own) (whole_neutrals back) (any_agree own) (shown_agree model rest)))

neutral_given : (model : Model) (a : Stretches) → CanBeGiven model a (neutral_shown model a)
neutral_given model a = record {
  args = whole_neutrals (whole_types model a);
  typed = whole_neutrals_typed model (whole_types model a);
  agree = shown_agree model a;
}

set_agrees : (shown : List (Option Argument)) (args : List WholeArgument) (i : ℕ) (argument : Argument) → AllZip Agrees shown args
    → AllZip Agrees (slice_set shown i (Some argument)) (slice_set args i (Known argument))
set_agrees [] [] i argument h = tt
set_agrees [] (x ∷ args) i argument h = absurd h
set_agrees (o ∷ shown) [] i argument h = absurd h
set_agrees (o ∷ shown) (x ∷ args) zero argument h = (refl, h.1)
set_agrees (o ∷ shown) (x ∷ args) (suc i) argument h = (h.0, set_agrees shown args i argument h.1)

set_typed : (model : Model) (args : List WholeArgument) (ts : List WholeArgType) (i : ℕ) (argument : Argument) (type : ArgType) (wide : WholeArgType)
    → slice_get ts i ≡ Some wide → narrowed wide ≡ Some type → HasType model argument type → HasWholeTypes model args ts
    → HasWholeTypes model (slice_set args i (Known argument)) ts
set_typed model [] [] i argument type wide e n typed h = tt
set_typed model [] (t ∷ ts) i argument type wide e n typed h = absurd h
set_typed model (x ∷ args) [] i argument type wide e n typed h = absurd h
set_typed model (x ∷ args) (t ∷ ts) zero argument type wide e n typed h =
    let same : t ≡ wide = cc in
    (subst (λ o. HasNarrowedType model (Known argument) o) (sym (ap narrowed same ∙ n)) typed, h.1)
set_typed model (x ∷ args) (t ∷ ts) (suc i) argument type wide e n typed h = (h.0, set_typed model args ts i argument type wide e n typed h.1)

probe_given : (model : Model) (a : Stretches) (i k : ℕ) (shown : List (Option Argument)) → IsWholeProbe model a i k shown → CanBeGiven model a shown
probe_given model a i k shown h =
    let before = neutral_given model a in
    record {
      args = slice_set before.args i (Known h.argument);
      typed = set_typed model before.args (whole_types model a) i h.argument h.type h.wide h.wide_is h.type_is
          (candidate_has_type model h.type k h.argument h.candidate) before.typed;
      agree = subst (λ l. AllZip Agrees l (slice_set before.args i (Known h.argument))) (sym h.shown_is)
          (set_agrees (neutral_shown model a) before.args i h.argument before.agree);
    }

-- no arguments both tell traces apart and leave them together
never_both : (model : Model) (a b : Stretches) (shown : List (Option Argument)) → CanBeGiven model a shown → TracesApart model a b shown
    → TracesTogether model a b shown → ⊥
never_both model a b shown given apart together =
    let traced = some_trace model a given.args given.typed in
    apart given.args traced.0 traced.0 given.typed given.agree traced.1 ((together given.args traced.0 given.typed given.agree).0 traced.1) refl

-- an index and a candidate's index have one probe
one_probe : (model : Model) (a : Stretches) (i k : ℕ) (x y : List (Option Argument)) → IsWholeProbe model a i k x → IsWholeProbe model a i k y → x ≡ y
one_probe model a i k x y h g =
    let wide : Some h.wide ≡ Some g.wide = sym h.wide_is ∙ g.wide_is in
    let same_wide : h.wide ≡ g.wide = cc in
    let type : Some h.type ≡ Some g.type = sym h.type_is ∙ ap narrowed same_wide ∙ g.type_is in
    let same_type : h.type ≡ g.type = cc in
    let argument : Some h.argument ≡ Some g.argument = sym h.candidate ∙ ap (λ t. slice_get (candidates model t) k) same_type ∙ g.candidate in
    let same : h.argument ≡ g.argument = cc in
    h.shown_is ∙ ap (λ z. slice_set (neutral_shown model a) i (Some z)) same ∙ sym g.shown_is

shown_once : (model : Model) (a b : Stretches) (x y : List (Option Argument)) → ShowsNeutral model a b x ⊎ ShowsProbe model a b x
    → ShowsNeutral model a b y ⊎ ShowsProbe model a b y → x ≡ y
shown_once model a b x y (inl h) (inl g) = h.shown_is ∙ sym g.shown_is
shown_once model a b x y (inl h) (inr g) =
    absurd (never_both model a b (neutral_shown model a) (neutral_given model a) (subst (λ l. TracesApart model a b l) h.shown_is h.apart) g.neutral_same)
shown_once model a b x y (inr h) (inl g) =
    absurd (never_both model a b (neutral_shown model a) (neutral_given model a) (subst (λ l. TracesApart model a b l) g.shown_is g.apart) h.neutral_same)
shown_once model a b x y (inr h) (inr g) = by (which_first h.index h.candidate_index g.index g.candidate_index)
  where
    by : IsEarlier h.index h.candidate_index g.index g.candidate_index
        ⊎ (IsEarlier g.index g.candidate_index h.index h.candidate_index ⊎ ((h.index ≡ g.index) × (h.candidate_index ≡ g.candidate_index))) → x ≡ y
    by (inl first) = absurd (never_both model a b x (probe_given model a h.index h.candidate_index x h.probe) h.apart
        (g.earlier h.index h.candidate_index x h.probe first))
    by (inr (inl first)) = absurd (never_both model a b y (probe_given model a g.index g.candidate_index y g.probe) g.apart
        (h.earlier g.index g.candidate_index y g.probe first))
    by (inr (inr same)) =
        let moved : IsWholeProbe model a g.index h.candidate_index x = subst (λ i. IsWholeProbe model a i h.candidate_index x) same.0 h.probe in
        one_probe model a g.index g.candidate_index x y (subst (λ k. IsWholeProbe model a g.index k x) same.1 moved) g.probe

no_call : (calls others : List PlacedCall) (i : ℕ) → CallsDifferAt calls others i → calls ≡ others → ⊥
no_call calls others i h same = differ_not calls i (subst (λ l. CallsDifferAt calls l i) (sym same) h)

settled : (model : Model) (a b : Stretches) (v w : WholeVerdict) → {Alike : Type 0} → ((v ≡ Same) ↔ Alike) → ((w ≡ Same) ↔ Alike)
    → IsWholeVerdict model a b v → IsWholeVerdict model a b w → v ≡ w
settled model a b Same w h g x y = sym (g.1 (h.0 refl))
settled model a b (TypesDiffer i) Same h g x y = h.1 (g.0 refl)
settled model a b (TypesDiffer i) (TypesDiffer j) h g x y =
    let same = one_difference (whole_types model a) (whole_types model b) (Some i) (Some j) x y in
    let index : i ≡ j = cc in
    ap TypesDiffer index
settled model a b (TypesDiffer i) (DirectivesDiffer j) h g x y = let no = one_difference (whole_types model a) (whole_types model b) (Some i) None x y.0 in cc
settled model a b (TypesDiffer i) (Different shown) h g x y = let no = one_difference (whole_types model a) (whole_types model b) (Some i) None x y.0 in cc
settled model a b (DirectivesDiffer i) Same h g x y = h.1 (g.0 refl)
settled model a b (DirectivesDiffer i) (TypesDiffer j) h g x y = let no = one_difference (whole_types model a) (whole_types model b) None (Some j) x.0 y in cc
settled model a b (DirectivesDiffer i) (DirectivesDiffer j) h g x y =
    ap DirectivesDiffer (differ_once (placed_calls model 0 a) (placed_calls model 0 b) i j x.1 y.1)
settled model a b (DirectivesDiffer i) (Different shown) h g x y =
    absurd (no_call (placed_calls model 0 a) (placed_calls model 0 b) i x.1 y.1)
settled model a b (Different shown) Same h g x y = h.1 (g.0 refl)
settled model a b (Different shown) (TypesDiffer j) h g x y = let no = one_difference (whole_types model a) (whole_types model b) None (Some j) x.0 y in cc
settled model a b (Different shown) (DirectivesDiffer j) h g x y =
    absurd (no_call (placed_calls model 0 a) (placed_calls model 0 b) j y.1 x.1)
settled model a b (Different shown) (Different other) h g x y = ap Different (shown_once model a b shown other x.2 y.2)

pub one_verdict : (model : Model) (t u : Text) (v w : WholeVerdict) → IsWholeComparisonOf model t u v → IsWholeComparisonOf model t u w → v ≡ w
one_verdict model t u v w h g =
    let first : g.first.stretches ≡ h.first.stretches = read_once t g.first.stretches h.first.stretches g.first.reads h.first.reads in
    let second : g.second.stretches ≡ h.second.stretches = read_once u g.second.stretches h.second.stretches g.second.reads h.second.reads in
    settled model h.first.stretches h.second.stretches v w h.same g.same h.is
    (subst (λ b. IsWholeVerdict model h.first.stretches b w) second (subst (λ a. IsWholeVerdict model a g.second.stretches w) first g.is))
