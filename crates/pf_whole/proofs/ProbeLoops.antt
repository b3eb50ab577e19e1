-- The probe that is found where the stretches of two texts are compared, and its place in the whole.
use Rattle.std.proofs.Common.{◌≡◌, ℕ, ◌+◌, ◌<◌, ◌≤◌, Bool, true, false, List, [], ◌++◌, drop, map, length, length-append, refl, sym, ap, ◌∙◌, arith, subst}
use Rattle.std.specs.Prelude.{Option, Some, None, slice_get, slice_set}
use Rattle.std.proofs.lemmas.List.{append-nil}
use Rattle.std.proofs.lemmas.Option.{slice_get_within}
use Rattle.pf_values.specs.declared.models.Model.{Model}
use Rattle.pf_values.specs.declared.types.ArgType.{ArgType}
use Rattle.pf_values.specs.Candidates.{neutral, neutrals}
use Rattle.pf_values.specs.meaning.Arguments.{Argument}
use Rattle.pf_values.specs.meaning.Items.{Item, types}
use Rattle.pf_values.specs.meaning.Printing.{PrintAlike}
use Rattle.pf_values.specs.meaning.Text.{Text}
use Rattle.pf_compare.specs.declared.witnesses.Probe.{Probe}
use Rattle.pf_compare.specs.Answers.{IsProbeOf, PrintTheSame, probe_at}
use Rattle.pf_compare.specs.Owned.{argument_of_owned, type_of_owned}
use Rattle.pf_posix.specs.declared.types.WholeArgType.{WholeArgType}
use Rattle.pf_posix.specs.Opaque.{OpaqueItem}
use Rattle.pf_posix.specs.Stretches.{Stretches, Last, Before, ReadsStretches, types_of_opaque, whole_types}
use Rattle.pf_posix.specs.Types.{widened}
use Rattle.pf_posix.proofs.ReadOnce.{read_once}
use Rattle.pf_whole.specs.declared.calls.Rest.{Rest}
use Rattle.pf_whole.specs.declared.verdicts.Finding.TheVariants as findings
use Rattle.pf_whole.specs.Answers.{HaveOneShape, neutral_shown}
use Rattle.pf_whole.specs.Comparisons.{IsFinding, IsFoundDifference, IsTypedProbe, shown_for}
use Rattle.pf_whole.specs.Findings.{ShowsTelling, shown_any, shown_neutrals}
use Rattle.pf_whole.specs.Laws.{Correspond}
use Rattle.pf_whole.specs.meaning.NormalSpellings.{normal_spelling}
use Rattle.pf_whole.proofs.FindingLemmas.{alike_neutrally}
use Rattle.pf_whole.proofs.FindingLoops.{IsComparedUpTo, compared_from, ends_alike, ends_same, ends_with_probe, join, past_alike, past_probe, past_same}
use Rattle.pf_whole.proofs.Slots.{get_first, get_second, probe_count, probe_shown, set_first, set_second, wide_at}
use Rattle.pf_whole.proofs.StretchDifferences.{probe_tells}
use Rattle.pf_whole.proofs.TraceLemmas.{length_map}

abbrev pub is_found : Option Probe → Bool
is_found None = false
is_found (Some probe) = true

-- The texts were searched up to what is left of them. `shown` are the arguments that are shown so far, `before` their types, and `index` is
-- how many they are.
pub record IsSearchedUpTo (model : Model) (a b left more : Stretches) (index : ℕ) (found : Option Probe) : Type 0 where
  pub shown : List (Option Argument)
  pub compared : IsComparedUpTo model a b left more shown (is_found found)
  pub long : length shown ≡ index
  pub whole : shown ++ neutral_shown model left ≡ shown_for model a found
  pub before : List WholeArgType
  pub types_are : whole_types model a ≡ before ++ whole_types model left
  pub before_long : length before ≡ index
  pub typed : IsTypedProbe model a found

pub searched_from : (model : Model) (a b : Stretches) → IsSearchedUpTo model a b a b 0 None
searched_from model a b = record {
  shown = [];
  compared = compared_from model a b;
  long = refl;
  whole = refl;
  before = [];
  types_are = refl;
  before_long = refl;
  typed = tt;
}

-- a probe of a stretch, after what is shown before it
set_placed : (shown back : List (Option Argument)) (ts : List ArgType) (index i : ℕ) (argument : Argument) → length shown ≡ index → i < length ts
    → slice_set (shown ++ (map (λ type. Some (neutral type)) ts ++ back)) (index + i) (Some argument) ≡ shown ++ (map Some (probe_at ts i argument) ++ back)
set_placed shown back ts index i argument long less =
    let count = length_map {B = Option Argument} (λ type. Some (neutral type)) ts in
    set_second shown (map (λ type. Some (neutral type)) ts ++ back) i (index + i) (Some argument) (omega (arith, long))
    ∙ ap (λ l. shown ++ l) (set_first (map (λ type. Some (neutral type)) ts) back i (Some argument) (omega (arith, count, less))
    ∙ ap (λ l. l ++ back) (probe_shown ts i argument))

type_placed : (before back : List WholeArgType) (ts : List ArgType) (index i : ℕ) (type : ArgType) → length before ≡ index → slice_get ts i ≡ Some type
    → slice_get (before ++ (map widened ts ++ back)) (index + i) ≡ Some (widened type)
type_placed before back ts index i type long at =
    let count = length_map widened ts in
    let less = slice_get_within ts i type at in
    get_second before (map widened ts ++ back) i (index + i) (omega (arith, long))
    ∙ get_first (map widened ts) back i (omega (arith, count, less)) ∙ wide_at ts i type at

-- two stretches more
module _ (model : Model) (a b rest more : Stretches) (xs ys : List Item) (s p : OpaqueItem) (index : ℕ)
    (spelling : normal_spelling model s ≡ normal_spelling model p) where
  abbrev passed : ℕ
  passed = index + length (types model xs) + length (types_of_opaque model s)

  module _ (before : List WholeArgType) (before_long : length before ≡ index)
      (types_are : whole_types model a ≡ before ++ whole_types model (Before xs s rest)) where
    abbrev types_passed : List WholeArgType
    types_passed = (before ++ map widened (types model xs)) ++ types_of_opaque model s

    types_passed_are : whole_types model a ≡ types_passed ++ whole_types model rest
    types_passed_are = types_are ∙ join before (map widened (types model xs)) (types_of_opaque model s) (whole_types model rest)

    types_passed_long : length types_passed ≡ passed
    types_passed_long = omega (
      arith,
      before_long,
      length-append (before ++ map widened (types model xs)) (types_of_opaque model s),
      length-append before (map widened (types model xs)),
      length_map widened (types model xs),
    )

  shown_long : (shown args : List (Option Argument)) → length shown ≡ index → length args ≡ length (types model xs)
      → length ((shown ++ args) ++ shown_any model s) ≡ passed
  shown_long shown args long count = omega (
    arith,
    long,
    count,
    length-append (shown ++ args) (shown_any model s),
    length-append shown args,
    length_map {B = Option Argument} (λ type. None) (types_of_opaque model s),
  )

  pub searched_past : (found now : Option Probe) → IsSearchedUpTo model a b (Before xs s rest) (Before ys p more) index found
      → IsFinding model xs ys index found (findings.Probe now) → IsSearchedUpTo model a b rest more passed now
  searched_past (Some told) now h (same, e) = subst (IsSearchedUpTo model a b rest more passed) (sym e) (record {
    shown = (h.shown ++ shown_neutrals model xs) ++ shown_any model s;
    compared = past_same model a b rest more xs ys s p h.shown h.compared same;
    long = shown_long h.shown (shown_neutrals model xs) h.long (length_map {B = Option Argument} (λ type. Some (neutral type)) (types model xs));
    whole = sym (join h.shown (shown_neutrals model xs) (shown_any model s) (neutral_shown model rest)) ∙ h.whole;
    before = types_passed h.before h.before_long h.types_are;
    types_are = types_passed_are h.before h.before_long h.types_are;
    before_long = types_passed_long h.before h.before_long h.types_are;
    typed = h.typed;
  })
  searched_past None None h alike = record {
    shown = (h.shown ++ shown_neutrals model xs) ++ shown_any model s;
    compared = past_alike model a b rest more xs ys s p h.shown false h.compared alike spelling;
    long = shown_long h.shown (shown_neutrals model xs) h.long (length_map {B = Option Argument} (λ type. Some (neutral type)) (types model xs));
    whole = sym (join h.shown (shown_neutrals model xs) (shown_any model s) (neutral_shown model rest)) ∙ h.whole;
    before = types_passed h.before h.before_long h.types_are;
    types_are = types_passed_are h.before h.before_long h.types_are;
    before_long = types_passed_long h.before h.before_long h.types_are;
    typed = tt;
  }
  searched_past None (Some now) h (probe, same, is, e) =
      let argument = argument_of_owned probe.argument in
      let args = probe_at (types model xs) probe.index argument in
      let less = slice_get_within (types model xs) probe.index (type_of_owned probe.argument) is.type_is in
      let placed : Probe = record { index = index + probe.index; argument = probe.argument; renderings = probe.renderings } in
      subst (λ n. IsSearchedUpTo model a b rest more passed (Some n)) (sym e) (record {
        shown = (h.shown ++ map Some args) ++ shown_any model s;
        compared = past_probe model a b rest more xs ys s p h.shown args h.compared (probe_tells model xs ys probe same is);
        long = shown_long h.shown (map Some args) h.long
            (length_map {B = Option Argument} Some args ∙ probe_count (types model xs) probe.index argument);
        whole = sym (join h.shown (map Some args) (shown_any model s) (neutral_shown model rest))
            ∙ sym (set_placed h.shown (shown_any model s ++ neutral_shown model rest) (types model xs) index probe.index argument h.long less)
            ∙ ap (λ l. slice_set l (index + probe.index) (Some argument)) h.whole;
        before = types_passed h.before h.before_long h.types_are;
        types_are = types_passed_are h.before h.before_long h.types_are;
        before_long = types_passed_long h.before h.before_long h.types_are;
        typed = ap (λ l. slice_get l (index + probe.index)) h.types_are
            ∙ type_placed h.before (types_of_opaque model s ++ whole_types model rest) (types model xs) index probe.index (type_of_owned probe.argument)
            h.before_long is.type_is;
      })

pub searched_next : (model : Model) (a b left more rest others : Stretches) (xs ys : List Item) (s p : OpaqueItem) (index after : ℕ) (found now : Option Probe)
    → left ≡ Before xs s rest → more ≡ Before ys p others → IsSearchedUpTo model a b left more index found
    → IsFinding model xs ys index found (findings.Probe now) → normal_spelling model s ≡ normal_spelling model p
    → after ≡ index + length (types model xs) + length (types_of_opaque model s) → IsSearchedUpTo model a b rest others after now
searched_next model a b left more rest others xs ys s p index after found now left_is more_is h finding spelling after_is =
    let here = subst (λ l. IsSearchedUpTo model a b (Before xs s rest) l index found) more_is
    (subst (λ l. IsSearchedUpTo model a b l more index found) left_is h) in
    subst (λ k. IsSearchedUpTo model a b rest others k now) (sym after_is)
    (searched_past model a b rest others xs ys s p index spelling found now here finding)

-- the last stretches: unless all correspond, the probe tells the whole apart
pub searched_end : (model : Model) (a b : Stretches) (xs ys : List Item) (index : ℕ) (found now : Option Probe)
    → IsSearchedUpTo model a b (Last xs) (Last ys) index found → IsFinding model xs ys index found (findings.Probe now) → ¬ Correspond model a b
    → ShowsTelling model a b (shown_for model a now) × IsTypedProbe model a now
searched_end model a b xs ys index (Some told) now h (same, e) apart =
    subst (λ n. ShowsTelling model a b (shown_for model a n) × IsTypedProbe model a n) (sym e)
    (subst (ShowsTelling model a b) h.whole (ends_same model a b xs ys h.shown h.compared same), h.typed)
searched_end model a b xs ys index None None h alike apart = absurd (apart (ends_alike model a b xs ys h.shown h.compared alike))
searched_end model a b xs ys index None (Some now) h (probe, same, is, e) apart =
    let argument = argument_of_owned probe.argument in
    let ts = types model xs in
    let less = slice_get_within ts probe.index (type_of_owned probe.argument) is.type_is in
    let set = set_placed h.shown [] ts index probe.index argument h.long less in
    let whole = sym (ap (λ l. h.shown ++ l) (append-nil (map Some (probe_at ts probe.index argument)))) ∙ sym set
    ∙ ap (λ l. slice_set (h.shown ++ l) (index + probe.index) (Some argument)) (append-nil (shown_neutrals model xs))
    ∙ ap (λ l. slice_set l (index + probe.index) (Some argument)) h.whole in
    let typed = ap (λ l. slice_get l (index + probe.index)) (h.types_are ∙ ap (λ l. h.before ++ l) (sym (append-nil (map widened ts))))
    ∙ type_placed h.before [] ts index probe.index (type_of_owned probe.argument) h.before_long is.type_is in
    subst (λ n. ShowsTelling model a b (shown_for model a (Some n)) × IsTypedProbe model a (Some n)) (sym e) (
      subst (ShowsTelling model a b) whole
          (ends_with_probe model a b xs ys h.shown (probe_at ts probe.index argument) h.compared (probe_tells model xs ys probe same is)),
      typed,
    )

-- what a loop over the stretches of two texts keeps
pub record AreSearched (model : Model) (t u : Text) (rest : Rest) (from : ℕ) (found : Option Probe) : Type 0 where
  pub a : Stretches
  pub b : Stretches
  pub left : Stretches
  pub more : Stretches
  pub first : ReadsStretches t a
  pub second : ReadsStretches u b
  pub left_reads : ReadsStretches (drop rest.at t) left
  pub more_reads : ReadsStretches (drop from u) more
  pub within : rest.at ≤ length t
  pub within_other : from ≤ length u
  pub few : rest.index ≤ rest.at
  pub shape : HaveOneShape model left more
  pub searched : IsSearchedUpTo model a b left more rest.index found

-- stretches that print alike
pub alike_found : (model : Model) (xs ys : List Item) (index : ℕ) (found : Option Probe) → PrintAlike model xs ys
    → IsFinding model xs ys index found (findings.Probe found)
alike_found model xs ys index None alike = alike
alike_found model xs ys index (Some told) alike = (alike_neutrally model xs ys alike, refl)

-- a probe that was found before
pub kept_found : (model : Model) (xs ys : List Item) (index : ℕ) (found : Option Probe) (told : Probe) → found ≡ Some told
    → PrintTheSame model xs ys (neutrals (types model xs)) → IsFinding model xs ys index found (findings.Probe found)
kept_found model xs ys index None told e same = absurd cc
kept_found model xs ys index (Some before) told e same = (same, refl)

-- the first one
pub none_found : (model : Model) (xs ys : List Item) (index : ℕ) (found : Option Probe) (probe : Probe) → found ≡ None
    → PrintTheSame model xs ys (neutrals (types model xs)) → IsProbeOf model xs ys probe
    → IsFinding model xs ys index found
    (findings.Probe (Some (record { index = index + probe.index; argument = probe.argument; renderings = probe.renderings })))
none_found model xs ys index None probe e same is = (probe, same, is, refl)
none_found model xs ys index (Some before) probe e same is = absurd cc

-- what holds of one reading holds of each
pub found_once : (model : Model) (t u : Text) (a b x y : Stretches) (found : Option Probe) → ReadsStretches t a → ReadsStretches u b
    → ReadsStretches t x → ReadsStretches u y → IsFoundDifference model a b found → IsFoundDifference model x y found
found_once model t u a b x y found h g k l is =
    subst (λ z. IsFoundDifference model x z found) (read_once u b y g l) (subst (λ z. IsFoundDifference model z b found) (read_once t a x h k) is)
