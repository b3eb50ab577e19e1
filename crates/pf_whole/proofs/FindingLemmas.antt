-- What is found where stretches are compared, as a verdict on the whole.
use Rattle.std.proofs.Common.{◌≡◌, ℕ, ◌+◌, ◌-◌, ◌<◌, List, ◌++◌, map, length, refl, sym, ap, ◌∙◌, arith, inl, inr}
use Rattle.std.specs.Prelude.{Option, Some, None, slice_get, slice_set, ◌⊎◌}
use Rattle.std.proofs.lemmas.Bool.{cases_lt}
use Rattle.std.proofs.lemmas.Option.{slice_get_within}
use Rattle.pf_values.specs.declared.models.Model.{Model}
use Rattle.pf_values.specs.declared.types.ArgType.{ArgType}
use Rattle.pf_values.specs.Candidates.{candidates, neutral, neutrals}
use Rattle.pf_values.specs.meaning.Arguments.{Argument, HasTypes}
use Rattle.pf_values.specs.meaning.Items.{Item, types}
use Rattle.pf_values.specs.meaning.Printing.{PrintAlike}
use Rattle.pf_values.specs.meaning.Text.{Text}
use Rattle.pf_values.proofs.Alike.{PrintsAll-unique}
use Rattle.pf_probes.proofs.Probes.{probe_typed}
use Rattle.pf_compare.proofs.CandidateLemmas.{contains_at}
use Rattle.pf_compare.specs.Answers.{IsCandidateAt, IsEarlier, PrintTheSame, probe_at}
use Rattle.pf_posix.specs.Opaque.{OpaqueItem}
use Rattle.pf_posix.specs.Types.{widened}
use Rattle.pf_whole.specs.Answers.{
  AgreeEverywhere,
  HaveOneShape,
  IsWholeProbe,
  ShowsNeutral,
  ShowsProbe,
  StretchesAgree,
  TellSomewhere,
  TellStretches,
  neutral_shown,
}
use Rattle.pf_whole.specs.Findings.{IsTellingProbe, NeutralAgrees, NeutralTells, ShowsTelling, shown_any, shown_neutrals}
use Rattle.pf_posix.specs.Stretches.{Stretches, Last, Before, ReadsStretches, types_of_opaque, whole_types}
use Rattle.pf_whole.proofs.Slots.{
  get_first,
  get_second,
  neutral_at,
  neutrals_shown,
  none_shown,
  probe_count,
  probe_shown,
  set_first,
  set_second,
  typed_at,
  wide_at,
}
use Rattle.pf_whole.proofs.Telling.{telling_is_apart}
use Rattle.pf_whole.proofs.Together.{agreeing_is_together}
use Rattle.pf_whole.proofs.TraceLemmas.{length_map}

neutrals_typed : (model : Model) (ts : List ArgType) → HasTypes model (neutrals ts) ts
neutrals_typed model ts = probe_typed model ts (neutrals ts) (inl refl)

candidate_typed : (model : Model) (ts : List ArgType) (i k : ℕ) (argument : Argument) → IsCandidateAt model ts i k argument
    → HasTypes model (probe_at ts i argument) ts
candidate_typed model ts i k argument h = probe_typed model ts (probe_at ts i argument)
    (inr (i, h.type, argument, h.type_is, contains_at (candidates model h.type) k argument h.argument_is, refl))

-- stretches that print alike print the same for arguments of their types
alike_same : (model : Model) (a b : List Item) (known : List Argument) → PrintAlike model a b → HasTypes model known (types model a)
    → PrintTheSame model a b known
alike_same model a b known alike typed x y p q =
    let there : HasTypes model known (types model b) = rw (← alike.same_types) typed in
    PrintsAll-unique model b known x there ((alike.same_bytes known x typed).0 p) ∙ sym (PrintsAll-unique model b known y there q)

pub alike_neutrally : (model : Model) (a b : List Item) → PrintAlike model a b → PrintTheSame model a b (neutrals (types model a))
alike_neutrally model a b alike = alike_same model a b (neutrals (types model a)) alike (neutrals_typed model (types model a))

agree_neutrally : (model : Model) (a b : List Item) → PrintTheSame model a b (neutrals (types model a)) → StretchesAgree model a b (shown_neutrals model a)
agree_neutrally model a b h = record {
  known = neutrals (types model a);
  shown_is = neutrals_shown (types model a);
  typed = neutrals_typed model (types model a);
  same = h;
}

agree_for : (model : Model) (a b : List Item) (i k : ℕ) (argument : Argument) → IsCandidateAt model (types model a) i k argument
    → PrintTheSame model a b (probe_at (types model a) i argument) → StretchesAgree model a b (map Some (probe_at (types model a) i argument))
agree_for model a b i k argument h same = record {
  known = probe_at (types model a) i argument;
  shown_is = refl;
  typed = candidate_typed model (types model a) i k argument h;
  same = same;
}

any_count : (model : Model) (s : OpaqueItem) → length (shown_any model s) ≡ length (types_of_opaque model s)
any_count model s = length_map (λ type. None) (types_of_opaque model s)

neutrals_count : (model : Model) (items : List Item) → length (shown_neutrals model items) ≡ length (types model items)
neutrals_count model items = length_map (λ type. Some (neutral type)) (types model items)

pub neutral_somewhere : (model : Model) (a b : Stretches) → NeutralTells model a b → TellSomewhere model a b (neutral_shown model a)
neutral_somewhere model (Last a) (Last b) h = record {
  known = neutrals (types model a);
  shown_is = neutrals_shown (types model a);
  typed = neutrals_typed model (types model a);
  unlike = h;
}
neutral_somewhere model (Last a) (Before b p more) h = h
neutral_somewhere model (Before a s rest) (Last b) h = h
neutral_somewhere model (Before a s rest) (Before b p more) h = (
  shown_neutrals model a,
  shown_any model s,
  neutral_shown model rest,
  refl,
  neutrals_count model a,
  any_count model s,
  elim h [
    | inl here ↦ inl (record {
      known = neutrals (types model a);
      shown_is = neutrals_shown (types model a);
      typed = neutrals_typed model (types model a);
      unlike = here;
    })
    | inr there ↦ inr (neutral_somewhere model rest more there)
  ],
)

pub neutral_everywhere : (model : Model) (a b : Stretches) → NeutralAgrees model a b → AgreeEverywhere model a b (neutral_shown model a)
neutral_everywhere model (Last a) (Last b) h = agree_neutrally model a b h
neutral_everywhere model (Last a) (Before b p more) h = h
neutral_everywhere model (Before a s rest) (Last b) h = h
neutral_everywhere model (Before a s rest) (Before b p more) h = (
  shown_neutrals model a,
  shown_any model s,
  neutral_shown model rest,
  refl,
  any_count model s,
  agree_neutrally model a b h.0,
  neutral_everywhere model rest
      more h.1,
)

tells_here : (model : Model) (a b : List Item) (args : List Argument) → IsTellingProbe model a b args → TellStretches model a b (map Some args)
tells_here model a b args h = record {
  known = args;
  shown_is = refl;
  typed = rw h.args_are (candidate_typed model (types model a) h.index h.candidate_index h.argument h.probe.candidate);
  unlike = rw h.args_are h.probe.unlike;
}

pub telling_somewhere : (model : Model) (a b : Stretches) (shown : List (Option Argument)) → ShowsTelling model a b shown → TellSomewhere model a b shown
telling_somewhere model (Last a) (Last b) shown h = rw h.1 (tells_here model a b h.0 h.2)
telling_somewhere model (Last a) (Before b p more) shown h = h
telling_somewhere model (Before a s rest) (Last b) shown h = h
telling_somewhere model (Before a s rest) (Before b p more) shown (inl h) = (
  map Some h.0,
  shown_any model s,
  neutral_shown model rest,
  h.1,
  length_map Some h.0 ∙ ap length h.2.args_are ∙ probe_count (types model a) h.2.index h.2.argument,
  any_count model s,
  inl (tells_here model a b h.0 h.2),
)
telling_somewhere model (Before a s rest) (Before b p more) shown (inr h) =
    (shown_neutrals model a, shown_any model s, h.0, h.1, neutrals_count model a, any_count model s, inr (telling_somewhere model rest more h.0 h.3))

pub telling_agrees : (model : Model) (a b : Stretches) (shown : List (Option Argument)) → ShowsTelling model a b shown → NeutralAgrees model a b
telling_agrees model (Last a) (Last b) shown h = h.2.neutral_same
telling_agrees model (Last a) (Before b p more) shown h = h
telling_agrees model (Before a s rest) (Last b) shown h = h
telling_agrees model (Before a s rest) (Before b p more) shown (inl h) = (h.2.neutral_same, h.3)
telling_agrees model (Before a s rest) (Before b p more) shown (inr h) =
    (alike_neutrally model a b h.2, telling_agrees model rest more h.0 h.3)

-- a probe of the first stretch, or one of what follows
record IsProbeHere (model : Model) (a : List Item) (s : OpaqueItem) (rest : Stretches) (i k : ℕ) (shown : List (Option Argument)) : Type 0 where
  within : i < length (types model a)
  argument : Argument
  candidate : IsCandidateAt model (types model a) i k argument
  shown_is : shown ≡ map Some (probe_at (types model a) i argument) ++ (shown_any model s ++ neutral_shown model rest)

record IsProbeLater (model : Model) (a : List Item) (s : OpaqueItem) (rest : Stretches) (i k : ℕ) (shown : List (Option Argument)) : Type 0 where
  index : ℕ
  index_is : i ≡ length (types model a) + (length (types_of_opaque model s) + index)
  back : List (Option Argument)
  probe : IsWholeProbe model rest index k back
  shown_is : shown ≡ shown_neutrals model a ++ (shown_any model s ++ back)

probe_here : (model : Model) (a : List Item) (s : OpaqueItem) (rest : Stretches) (i k : ℕ) (shown : List (Option Argument))
    → IsWholeProbe model (Before a s rest) i k shown → i < length (types model a) → IsProbeHere model a s rest i k shown
probe_here model a s rest i k shown h few =
    let ts = types model a in
    let own = shown_any model s ++ neutral_shown model rest in
    let wide : slice_get (map widened ts) i ≡ Some h.wide =
    sym (get_first (map widened ts) (types_of_opaque model s ++ whole_types model rest) i (omega (arith, few, length_map widened ts))) ∙ h.wide_is in
    let first = neutrals_count model a in
    record {
      within = few;
      argument = h.argument;
      candidate = record { type = h.type; type_is = typed_at ts i h.type h.wide wide h.type_is; argument_is = h.candidate };
      shown_is = h.shown_is ∙ set_first (shown_neutrals model a) own i (Some h.argument) (omega (arith, few, first))
          ∙ ap (λ l. l ++ own) (probe_shown ts i h.argument);
    }

probe_later : (model : Model) (a : List Item) (s : OpaqueItem) (rest : Stretches) (i k m : ℕ) (shown : List (Option Argument))
    → IsWholeProbe model (Before a s rest) i k shown → i ≡ length (types model a) + (length (types_of_opaque model s) + m)
    → IsProbeLater model a s rest i k shown
probe_later model a s rest i k m shown h e =
    let ts = types model a in
    let first = neutrals_count model a in
    let own = any_count model s in
    let wide = length_map widened ts in
    let n = length (types_of_opaque model s) + m in
    let back = slice_set (neutral_shown model rest) m (Some h.argument) in
    record {
      index = m;
      index_is = e;
      back = back;
      probe = record {
        type = h.type;
        wide = h.wide;
        argument = h.argument;
        in_stretch = sym (get_second (shown_neutrals model a) (shown_any model s ++ neutral_shown model rest) n i (omega (arith, e, first))
            ∙ get_second (shown_any model s) (neutral_shown model rest) m n (omega (arith, own))) ∙ h.in_stretch;
        wide_is = sym (get_second (map widened ts) (types_of_opaque model s ++ whole_types model rest) n i (omega (arith, e, wide))
            ∙ get_second (types_of_opaque model s) (whole_types model rest) m n (omega arith)) ∙ h.wide_is;
        type_is = h.type_is;
        candidate = h.candidate;
        shown_is = refl;
      };
      shown_is = h.shown_is ∙ set_second (shown_neutrals model a) (shown_any model s ++ neutral_shown model rest) n i (Some h.argument)
          (omega (arith, e, first))
          ∙ ap (λ l. shown_neutrals model a ++ l) (set_second (shown_any model s) (neutral_shown model rest) m n (Some h.argument) (omega (arith, own)));
    }

-- an argument of an opaque directive is not shown
not_between : (model : Model) (a : List Item) (s : OpaqueItem) (rest : Stretches) (i k m : ℕ) (shown : List (Option Argument))
    → IsWholeProbe model (Before a s rest) i k shown → i ≡ length (types model a) + m → m < length (types_of_opaque model s) → ⊥
not_between model a s rest i k m shown h e few =
    let first = neutrals_count model a in
    let own = any_count model s in
    none_shown (types_of_opaque model s) m (neutral h.type) (
    sym (get_second (shown_neutrals model a) (shown_any model s ++ neutral_shown model rest) m i (omega (arith, e, first))
    ∙ get_first (shown_any model s) (neutral_shown model rest) m (omega (arith, few, own))) ∙ h.in_stretch
    )

split_probe : (model : Model) (a : List Item) (s : OpaqueItem) (rest : Stretches) (i k : ℕ) (shown : List (Option Argument))
    → IsWholeProbe model (Before a s rest) i k shown → IsProbeHere model a s rest i k shown ⊎ IsProbeLater model a s rest i k shown
split_probe model a s rest i k shown h = elim (cases_lt i (length (types model a))) [
  | inl few ↦ inl (probe_here model a s rest i k shown h few)
  | inr past ↦ elim (cases_lt (i - length (types model a)) (length (types_of_opaque model s))) [
    | inl few ↦ absurd (not_between model a s rest i k (i - length (types model a)) shown h (omega (arith, past)) few)
    | inr also ↦ inr (probe_later model a s rest i k (i - length (types model a) - length (types_of_opaque model s)) shown h (omega (arith, past, also)))
  ]
]

-- the probe that is shown is the first one that tells stretches apart
pub record IsTold (model : Model) (a b : Stretches) (shown : List (Option Argument)) : Type 0 where
  pub index : ℕ
  pub candidate_index : ℕ
  pub probe : IsWholeProbe model a index candidate_index shown
  pub earlier : (i k : ℕ) (before : List (Option Argument)) → IsWholeProbe model a i k before → IsEarlier i k index candidate_index
      → AgreeEverywhere model a b before

told_last : (model : Model) (a b : List Item) (shown : List (Option Argument)) → ShowsTelling model (Last a) (Last b) shown
    → IsTold model (Last a) (Last b) shown
told_last model a b shown h =
    let ts = types model a in
    let telling = h.2 in
    let candidate = telling.probe.candidate in
    record {
      index = telling.index;
      candidate_index = telling.candidate_index;
      probe = record {
        type = candidate.type;
        wide = widened candidate.type;
        argument = telling.argument;
        in_stretch = neutral_at ts telling.index candidate.type candidate.type_is;
        wide_is = wide_at ts telling.index candidate.type candidate.type_is;
        type_is = refl;
        candidate = candidate.argument_is;
        shown_is = h.1 ∙ ap (map Some) telling.args_are ∙ sym (probe_shown ts telling.index telling.argument);
      };
      earlier = λ i k before g e.
          let at : IsCandidateAt model ts i k g.argument = record {
            type = g.type;
            type_is = typed_at ts i g.type g.wide g.wide_is g.type_is;
            argument_is = g.candidate;
          } in
          let same = telling.probe.earlier i k g.argument at e in
          rw (g.shown_is, probe_shown ts i g.argument) (agree_for model a b i k g.argument at same);
    }

told_here : (model : Model) (a b : List Item) (s p : OpaqueItem) (rest more : Stretches) (args : List Argument) (shown : List (Option Argument))
    → shown ≡ map Some args ++ (shown_any model s ++ neutral_shown model rest) → IsTellingProbe model a b args → NeutralAgrees model rest more
    → IsTold model (Before a s rest) (Before b p more) shown
told_here model a b s p rest more args shown shown_is telling agrees =
    let ts = types model a in
    let own = shown_any model s ++ neutral_shown model rest in
    let candidate = telling.probe.candidate in
    let within = slice_get_within ts telling.index candidate.type candidate.type_is in
    let first = neutrals_count model a in
    let wide = length_map widened ts in
    record {
      index = telling.index;
      candidate_index = telling.candidate_index;
      probe = record {
        type = candidate.type;
        wide = widened candidate.type;
        argument = telling.argument;
        in_stretch = get_first (shown_neutrals model a) own telling.index (omega (arith, within, first))
            ∙ neutral_at ts telling.index candidate.type candidate.type_is;
        wide_is = get_first (map widened ts) (types_of_opaque model s ++ whole_types model rest) telling.index (omega (arith, within, wide))
            ∙ wide_at ts telling.index candidate.type candidate.type_is;
        type_is = refl;
        candidate = candidate.argument_is;
        shown_is = shown_is ∙ ap (λ l. map Some l ++ own) telling.args_are
            ∙ sym (set_first (shown_neutrals model a) own telling.index (Some telling.argument) (omega (arith, within, first))
            ∙ ap (λ l. l ++ own) (probe_shown ts telling.index telling.argument));
      };
      earlier = λ i k before g e.
          let few : i < length ts = not_later i k telling.index telling.candidate_index (length ts) e within in
          let at = probe_here model a s rest i k before g few in (
            map Some (probe_at ts i at.argument),
            shown_any model s,
            neutral_shown model rest,
            at.shown_is,
            any_count model s,
            agree_for model a b i k at.argument at.candidate (telling.probe.earlier i k at.argument at.candidate e),
            neutral_everywhere model rest more agrees,
          );
    }
  where
    not_later : (i k j l n : ℕ) → IsEarlier i k j l → j < n → i < n
    not_later i k j l n (inl less) few = omega (arith, less, few)
    not_later i k j l n (inr same) few = omega (arith, same.0, few)

told_later : (model : Model) (a b : List Item) (s p : OpaqueItem) (rest more : Stretches) (shown back : List (Option Argument))
    → shown ≡ shown_neutrals model a ++ (shown_any model s ++ back) → PrintAlike model a b → NeutralAgrees model rest more → IsTold model rest more back
    → IsTold model (Before a s rest) (Before b p more) shown
told_later model a b s p rest more shown back shown_is alike agrees told =
    let ts = types model a in
    let first = neutrals_count model a in
    let own = any_count model s in
    let wide = length_map widened ts in
    let m = told.index in
    let n = length (types_of_opaque model s) + m in
    let i = length ts + n in
    let probe = told.probe in
    record {
      index = i;
      candidate_index = told.candidate_index;
      probe = record {
        type = probe.type;
        wide = probe.wide;
        argument = probe.argument;
        in_stretch = get_second (shown_neutrals model a) (shown_any model s ++ neutral_shown model rest) n i (omega (arith, first))
            ∙ get_second (shown_any model s) (neutral_shown model rest) m n (omega (arith, own)) ∙ probe.in_stretch;
        wide_is = get_second (map widened ts) (types_of_opaque model s ++ whole_types model rest) n i (omega (arith, wide))
            ∙ get_second (types_of_opaque model s) (whole_types model rest) m n (omega arith) ∙ probe.wide_is;
        type_is = probe.type_is;
        candidate = probe.candidate;
        shown_is = shown_is ∙ ap (λ l. shown_neutrals model a ++ (shown_any model s ++ l)) probe.shown_is
            ∙ sym (set_second (shown_neutrals model a) (shown_any model s ++ neutral_shown model rest) n i (Some probe.argument) (omega (arith, first))
            ∙ ap (λ l. shown_neutrals model a ++ l) (set_second (shown_any model s) (neutral_shown model rest) m n (Some probe.argument) (omega (arith, own))));
      };
      earlier = λ j k before g e. elim (split_probe model a s rest j k before g) [
        | inl here ↦ (
          map Some (probe_at ts j here.argument),
          shown_any model s,
          neutral_shown model rest,
          here.shown_is,
          any_count model s,
          agree_for model a b j k here.argument here.candidate
              (alike_same model a b (probe_at ts j here.argument) alike (candidate_typed model ts j k here.argument here.candidate)),
          neutral_everywhere model rest more agrees,
        )
        | inr later ↦ (
          shown_neutrals model a,
          shown_any model s,
          later.back,
          later.shown_is,
          any_count model s,
          agree_neutrally model a b (alike_neutrally model a b alike),
          told.earlier later.index k later.back later.probe (earlier_behind j k m told.candidate_index later.index n i e later.index_is),
        )
      ];
    }
  where
    earlier_behind : (j k m l x n i : ℕ) → IsEarlier j k (length (types model a) + (length (types_of_opaque model s) + m)) l
        → j ≡ length (types model a) + (length (types_of_opaque model s) + x) → IsEarlier x k m l
    earlier_behind j k m l x n i (inl less) e = inl (omega (arith, less, e))
    earlier_behind j k m l x n i (inr same) e = inr (omega (arith, same.0, e), same.1)

pub told : (model : Model) (a b : Stretches) (shown : List (Option Argument)) → ShowsTelling model a b shown → IsTold model a b shown
told model (Last a) (Last b) shown h = told_last model a b shown h
told model (Last a) (Before b p more) shown h = absurd h
told model (Before a s rest) (Last b) shown h = absurd h
told model (Before a s rest) (Before b p more) shown (inl h) = told_here model a b s p rest more h.0 shown h.1 h.2 h.3
told model (Before a s rest) (Before b p more) shown (inr h) =
    told_later model a b s p rest more shown h.0 h.1 h.2 (telling_agrees model rest more h.0 h.3) (told model rest more h.0 h.3)

-- the two kinds of arguments that are shown
pub shows_neutral : (model : Model) (t u : Text) (a b : Stretches) → ReadsStretches t a → ReadsStretches u b → HaveOneShape model a b → NeutralTells model a b
    → ShowsNeutral model a b (neutral_shown model a)
shows_neutral model t u a b h g one tells =
    record { shown_is = refl; apart = telling_is_apart model t u a b (neutral_shown model a) h g one (neutral_somewhere model a b tells) }

pub shows_probe : (model : Model) (t u : Text) (a b : Stretches) (shown : List (Option Argument)) → ReadsStretches t a → ReadsStretches u b
    → HaveOneShape model a b
    → ShowsTelling model a b shown → ShowsProbe model a b shown
shows_probe model t u a b shown h g one telling =
    let first = told model a b shown telling in
    record {
      neutral_same = agreeing_is_together model t u a b (neutral_shown model a) h g one (neutral_everywhere model a b (telling_agrees model a b shown telling));
      index = first.index;
      candidate_index = first.candidate_index;
      probe = first.probe;
      apart = telling_is_apart model t u a b shown h g one (telling_somewhere model a b shown telling);
      earlier = λ i k before probe e. agreeing_is_together model t u a b before h g one (first.earlier i k before probe e);
    }
