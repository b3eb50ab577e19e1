-- Alike lists of stretches make their first call in the same place. So their first stretches print alike, and what comes after the
-- first call is alike, too.
use Rattle.std.proofs.Common.{◌≡◌, ℕ, ◌+◌, List, [], ◌∷◌, ◌++◌, map, length, refl, sym, ap, ap₂, ◌∙◌, arith, subst}
use Rattle.std.proofs.lemmas.List.{append_assoc}
use Rattle.std.proofs.lemmas.Slice.Zip.{AllZip-long}
use Rattle.pf_values.specs.declared.models.Model.{Model}
use Rattle.pf_values.specs.meaning.Arguments.{Argument, HasTypes}
use Rattle.pf_values.specs.meaning.Items.{Item, types}
use Rattle.pf_values.specs.meaning.Printing.{PrintAlike, PrintsAll}
use Rattle.pf_values.specs.meaning.Text.{Text}
use Rattle.pf_posix.specs.Opaque.{OpaqueErrno, OpaqueItem, OpaqueSpecification, SpellsOpaqueItem}
use Rattle.pf_posix.specs.Types.{widened}
use Rattle.pf_posix.specs.Stretches.{Stretches, Before, types_of_opaque, whole_types}
use Rattle.pf_posix.proofs.ItemsOnce.{errno_alone}
use Rattle.pf_posix.proofs.SpecificationsOnce.{one_specification, parts_of}
use Rattle.pf_whole.specs.Laws.{HaveSameTraces}
use Rattle.pf_whole.specs.meaning.NormalSpellings.{directive_spelling, normal_parts, normal_spelling}
use Rattle.pf_whole.specs.meaning.Traces.{Calls, HasTrace, PlacedCall, Trace, TraceAlike, placed_calls}
use Rattle.pf_whole.specs.meaning.WholeArguments.{WholeArgument, Known, HasWholeType, HasWholeTypes}
use Rattle.pf_whole.proofs.KnownArguments.{known_once, known_typed, widened_once}
use Rattle.pf_whole.proofs.NormalLemmas.{types_again}
use Rattle.pf_whole.proofs.SomeTrace.{call_of, known_printed, some_trace, trace_before}
use Rattle.pf_whole.proofs.SpelledNormally.{opaque_normally}
use Rattle.pf_whole.proofs.TraceLemmas.{calls_back, known_count, length_map, traces_of_alike, traces_sym}
use Rattle.pf_whole.proofs.TwoValues.{whole_neutrals_typed, whole_neutrals}
use Rattle.pf_compare.proofs.ListLemmas.{zip_append}

-- what has the same normal spelling takes the same types
pub spelling_types : (model : Model) (t u : Text) (s p : OpaqueItem) → SpellsOpaqueItem t s → SpellsOpaqueItem u p
    → normal_spelling model s ≡ normal_spelling model p → types_of_opaque model s ≡ types_of_opaque model p
spelling_types model t u OpaqueErrno OpaqueErrno h g e = refl
spelling_types model t u OpaqueErrno (OpaqueSpecification p) h g e =
    absurd (errno_alone [] (directive_spelling model p) [] (normal_parts model p) (opaque_normally model u p g).spelled (ap (λ l. l ++ []) e))
spelling_types model t u (OpaqueSpecification s) OpaqueErrno h g e =
    absurd (errno_alone [] (directive_spelling model s) [] (normal_parts model s) (opaque_normally model t s h).spelled (ap (λ l. l ++ []) (sym e)))
spelling_types model t u (OpaqueSpecification s) (OpaqueSpecification p) h g e =
    let a = opaque_normally model t s h in
    let b = opaque_normally model u p g in
    let same = one_specification (directive_spelling model s) (directive_spelling model p) [] [] (normal_parts model s) (normal_parts model p)
    (parts_of (directive_spelling model s) (normal_parts model s) a.spelled a.unnumbered)
    (parts_of (directive_spelling model p) (normal_parts model p) b.spelled b.unnumbered)
    (ap (λ l. l ++ []) e) in
    sym (types_again model s) ∙ ap (λ q. types_of_opaque model (OpaqueSpecification q)) same.0 ∙ types_again model p

-- lists that begin alike
pub same_parts : {A : Type 0} (a b c d : List A) → length a ≡ length c → a ++ b ≡ c ++ d → (a ≡ c) × (b ≡ d)
same_parts [] b [] d n e = (refl, e)
same_parts [] b (y ∷ c) d n e = absurd (omega (arith, n))
same_parts (x ∷ a) b [] d n e = absurd (omega (arith, n))
same_parts (x ∷ a) b (y ∷ c) d n e =
    let rest = same_parts a b c d (omega (arith, n)) (cc) in
    let first : a ≡ c = rest.0 in
    let head : x ≡ y = cc in
    (ap₂ (λ z l. z ∷ l) head first, rest.1)

-- what the first calls of two lists say, where the lists are equal
pub record HaveFirstCalls (model : Model) (index : ℕ) (items own : List Item) (s p : OpaqueItem) (rest more : Stretches) : Type 0 where
  pub spelling : normal_spelling model s ≡ normal_spelling model p
  pub many : length (types model items) ≡ length (types model own)
  pub later : placed_calls model (index + length (types model items) + length (types_of_opaque model s)) rest
      ≡ placed_calls model (index + length (types model own) + length (types_of_opaque model p)) more

pub first_calls : (model : Model) (index : ℕ) (items own : List Item) (s p : OpaqueItem) (rest more : Stretches)
    → placed_calls model index (Before items s rest) ≡ placed_calls model index (Before own p more) → HaveFirstCalls model index items own s p rest more
first_calls model index items own s p rest more e =
    let x : PlacedCall = record { index = index + length (types model items); spelling = normal_spelling model s } in
    let y : PlacedCall = record { index = index + length (types model own); spelling = normal_spelling model p } in
    let call : x ≡ y = cc in
    let same : index + length (types model items) ≡ index + length (types model own) = ap (λ call. call.index) call in
    record { spelling = ap (λ call. call.spelling) call; many = omega (arith, same); later = cc }

-- stretches with the same traces, whose first calls are the same
module _ (model : Model) (t u : Text) (items own : List Item) (s p : OpaqueItem) (rest more : Stretches) (spelled : SpellsOpaqueItem t s)
    (also : SpellsOpaqueItem u p) (h : HaveSameTraces model (Before items s rest) (Before own p more))
    (spelling : normal_spelling model s ≡ normal_spelling model p) (many : length (types model items) ≡ length (types model own)) where
  same_own : types_of_opaque model s ≡ types_of_opaque model p
  same_own = spelling_types model t u s p spelled also spelling

  one_length : length (map widened (types model items)) ≡ length (map widened (types model own))
  one_length = length_map widened (types model items) ∙ many ∙ sym (length_map widened (types model own))

  outer : (map widened (types model items) ≡ map widened (types model own))
      × (types_of_opaque model s ++ whole_types model rest ≡ types_of_opaque model p ++ whole_types model more)
  outer = same_parts (map widened (types model items)) (types_of_opaque model s ++ whole_types model rest) (map widened (types model own))
      (types_of_opaque model p ++ whole_types model more) one_length h.same_types

  pub one_types : types model items ≡ types model own
  one_types = widened_once (types model items) (types model own) outer.0

  pub rest_types : whole_types model rest ≡ whole_types model more
  rest_types = (same_parts (types_of_opaque model s) (whole_types model rest) (types_of_opaque model p) (whole_types model more) (ap length same_own) outer.1).1

  -- the arguments of the stretch, of the directive, and of the rest
  whole_typed : (first mine back : List WholeArgument) → HasWholeTypes model first (map widened (types model items))
      → HasWholeTypes model mine (types_of_opaque model s) → HasWholeTypes model back (whole_types model rest)
      → HasWholeTypes model ((first ++ mine) ++ back) (whole_types model (Before items s rest))
  whole_typed first mine back a b c =
      subst (λ l. HasWholeTypes model l (whole_types model (Before items s rest))) (sym (append_assoc first mine back))
      (zip_append (HasWholeType model) first (mine ++ back) (map widened (types model items)) (types_of_opaque model s ++ whole_types model rest) a
      (zip_append (HasWholeType model) mine back (types_of_opaque model s) (whole_types model rest) b c))

  pub first_goes : (args : List Argument) (out : Text) → HasTypes model args (types model items) → PrintsAll model items args out → PrintsAll model own args out
  first_goes args out typed prints =
      let mine = whole_neutrals (types_of_opaque model s) in
      let back = whole_neutrals (whole_types model rest) in
      let first = map Known args in
      let first_typed = known_typed model args (types model items) typed in
      let mine_typed = whole_neutrals_typed model (types_of_opaque model s) in
      let back_typed = whole_neutrals_typed model (whole_types model rest) in
      let trace = some_trace model rest back back_typed in
      let one = trace_before model items s rest first mine back out trace.0 (args, refl, prints) mine_typed trace.1 in
      let k = (h.same_traces ((first ++ mine) ++ back) (Calls out (call_of model s mine) trace.0)
      (whole_typed first mine back first_typed mine_typed back_typed)).0 one in
      let many : length first ≡ length k.0 = sym (AllZip-long (HasWholeType model) first (map widened (types model items)) first_typed) ∙ one_length
      ∙ sym (known_count model own k.0 out k.4) in
      let same : first ≡ k.0 = (same_parts first (mine ++ back) k.0 (k.1 ++ k.2) many
      (sym (append_assoc first mine back) ∙ k.3 ∙ append_assoc k.0 k.1 k.2)).0 in
      let known : args ≡ k.4.0 = known_once args k.4.0 (same ∙ k.4.1) in
      subst (λ l. PrintsAll model own l out) (sym known) k.4.2

  pub rest_goes : (args : List WholeArgument) (trace : Trace) → HasWholeTypes model args (whole_types model rest) → HasTrace model rest args trace
      → HasTrace model more args trace
  rest_goes args trace typed g =
      let first = whole_neutrals (map widened (types model items)) in
      let mine = whole_neutrals (types_of_opaque model s) in
      let first_typed = whole_neutrals_typed model (map widened (types model items)) in
      let mine_typed = whole_neutrals_typed model (types_of_opaque model s) in
      let printed = known_printed model items first first_typed in
      let one = trace_before model items s rest first mine args printed.0 trace printed.1 mine_typed g in
      let k = (h.same_traces ((first ++ mine) ++ args) (Calls printed.0 (call_of model s mine) trace)
      (whole_typed first mine args first_typed mine_typed typed)).0 one in
      let many : length first ≡ length k.0 = sym (AllZip-long (HasWholeType model) first (map widened (types model items)) first_typed) ∙ one_length
      ∙ sym (known_count model own k.0 printed.0 k.4) in
      let behind = (same_parts first (mine ++ args) k.0 (k.1 ++ k.2) many (sym (append_assoc first mine args) ∙ k.3 ∙ append_assoc k.0 k.1 k.2)).1 in
      let also : length mine ≡ length k.1 = sym (AllZip-long (HasWholeType model) mine (types_of_opaque model s) mine_typed) ∙ ap length same_own
      ∙ sym k.5.as_many in
      let last : args ≡ k.2 = (same_parts mine args k.1 k.2 also behind).1 in
      subst (λ l. HasTrace model more l trace) (sym last) k.6

-- the first stretches print alike, and the rests have the same traces
module _ (model : Model) (t u : Text) (items own : List Item) (s p : OpaqueItem) (rest more : Stretches) (spelled : SpellsOpaqueItem t s)
    (also : SpellsOpaqueItem u p) (h : HaveSameTraces model (Before items s rest) (Before own p more))
    (spelling : normal_spelling model s ≡ normal_spelling model p) (many : length (types model items) ≡ length (types model own)) where
  same : types model items ≡ types model own
  same = one_types model t u items own s p rest more spelled also h spelling many

  turned : HaveSameTraces model (Before own p more) (Before items s rest)
  turned = traces_sym model (Before items s rest) (Before own p more) h

  pub stretches_alike : PrintAlike model items own
  stretches_alike = record {
    same_types = same;
    same_bytes = λ args out typed. (
      λ g. first_goes model t u items own s p rest more spelled also h spelling many args out typed g,
      λ g. first_goes model u t own items p s more rest also spelled turned (sym spelling) (sym many) args out (rw (← same) typed) g,
    );
  }

  pub rests_traced : HaveSameTraces model rest more
  rests_traced =
      let rest_same = rest_types model t u items own s p rest more spelled also h spelling many in
      record {
        same_types = rest_same;
        same_traces = λ args trace typed. (
          λ g. rest_goes model t u items own s p rest more spelled also h spelling many args trace typed g,
          λ g. rest_goes model u t own items p s more rest also spelled turned (sym spelling) (sym many) args trace (rw (← rest_same) typed) g,
        );
      }

-- alike stretches have the same first call
module _ (model : Model) (t u : Text) (items own : List Item) (s p : OpaqueItem) (rest more : Stretches) (spelled : SpellsOpaqueItem t s)
    (also : SpellsOpaqueItem u p) (h : TraceAlike model (Before items s rest) (Before own p more)) where
  calls : HaveFirstCalls model 0 items own s p rest more
  calls = first_calls model 0 items own s p rest more h.same_calls

  traces : HaveSameTraces model (Before items s rest) (Before own p more)
  traces = traces_of_alike model (Before items s rest) (Before own p more) h

  pub one_spelling : normal_spelling model s ≡ normal_spelling model p
  one_spelling = calls.spelling

  pub firsts_alike : PrintAlike model items own
  firsts_alike = stretches_alike model t u items own s p rest more spelled also traces calls.spelling calls.many

  pub rests_alike : TraceAlike model rest more
  rests_alike =
      let back = rests_traced model t u items own s p rest more spelled also traces calls.spelling calls.many in
      let mine = ap length (spelling_types model t u s p spelled also calls.spelling) in
      let next : 0 + length (types model items) + length (types_of_opaque model s) ≡ 0 + length (types model own) + length (types_of_opaque model p) =
      ap₂ (λ m n. 0 + m + n) calls.many mine in
      let later = calls.later ∙ ap (λ k. placed_calls model k more) (sym next) in
      record {
        same_types = back.same_types;
        same_calls = calls_back model (0 + length (types model items) + length (types_of_opaque model s)) rest more later;
        same_traces = back.same_traces;
      }
