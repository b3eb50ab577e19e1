-- Without `%m`, stretches that have the same types and traces make the same calls in the same places: each call has an argument,
-- and that shows where it is.
use Rattle.std.proofs.Common.{◌≡◌, ◌≢◌, ℕ, zero, List, [], ◌∷◌, ◌++◌, map, length, refl, sym, ap, ◌∙◌, arith, inl, inr}
use Rattle.std.specs.Prelude.{Some}
use Rattle.std.proofs.lemmas.List.{append_assoc}
use Rattle.std.proofs.lemmas.Bool.{cases_lt}
use Rattle.pf_values.specs.declared.models.Model.{Model}
use Rattle.pf_values.specs.meaning.Items.{Item, types}
use Rattle.pf_values.specs.meaning.Text.{Text}
use Rattle.pf_posix.specs.declared.types.WholeArgType.{WholeArgType}
use Rattle.pf_posix.specs.Opaque.{OpaqueErrno, OpaqueItem, OpaqueSpecification, SpellsOpaqueItem}
use Rattle.pf_posix.specs.Specifications.{WholeSpecification}
use Rattle.pf_posix.specs.Types.{conversion_type, fetch, star_fetches, widened}
use Rattle.pf_posix.specs.Stretches.{Stretches, Last, Before, ReadsStretches, types_of_opaque, whole_types}
use Rattle.pf_whole.specs.Laws.{AlikeShareErrno, Correspond, HasNoErrno, HaveSameTraces, TracesSuffice}
use Rattle.pf_whole.specs.meaning.NormalSpellings.{normal_spelling}
use Rattle.pf_whole.specs.meaning.Traces.{AreWholeAlike, Ends, Calls, HasTrace, Trace}
use Rattle.pf_whole.specs.meaning.WholeArguments.{WholeArgument, HasWholeTypes}
use Rattle.pf_whole.proofs.Apart.{rests_traced, spelling_types, stretches_alike}
use Rattle.pf_whole.proofs.Corresponding.{alike_is_corresponding}
use Rattle.pf_whole.proofs.ProfileTexts.{traced_last}
use Rattle.pf_whole.proofs.SomeTrace.{some_trace}
use Rattle.pf_whole.proofs.TraceLemmas.{known_count, length_map, trace_sym, traces_sym}
use Rattle.pf_whole.proofs.TwoValues.{count, count_is, whole_neutrals_typed, nth, nth_another, nth_behind, nth_neutral, one_other, one_other_typed, two_values}
use Rattle.pf_whole.proofs.TwoValues.{whole_another, whole_neutral, whole_neutrals}

-- an opaque directive takes at least one argument
some_type : (model : Model) (s : WholeSpecification) → (type : WholeArgType) × (more : List WholeArgType)
    × (types_of_opaque model (OpaqueSpecification s) ≡ type ∷ more)
some_type model s = go (star_fetches s.width ++ star_fetches s.precision) where
  go : (front : List _) → (type : WholeArgType) × (more : List WholeArgType)
      × (map (λ f. f.wanted) (front ++ fetch s.position (conversion_type model s.modifier s.conversion) ∷ []) ≡ type ∷ more)
  go [] = (_, _, refl)
  go (f ∷ front) = (_, _, refl)

-- the first arguments, one for each of the first types
first_of : (args : List WholeArgument) (type : WholeArgType) (more ts : List WholeArgType) → ts ≡ type ∷ more → length args ≡ length ts
    → (x : WholeArgument) × (rest : List WholeArgument) × (args ≡ x ∷ rest)
first_of [] type more ts e n = absurd (omega (arith, n, ap length e))
first_of (x ∷ args) type more ts e n = (x, args, refl)

-- the argument after those of the first stretch is the first one of the call
behind : (args first own back : List WholeArgument) (x : WholeArgument) (rest : List WholeArgument) (n : ℕ) → args ≡ (first ++ own) ++ back → own ≡ x ∷ rest
    → length first ≡ n → nth args (count first) ≡ Some x
behind args first own back x rest n e o l =
    ap (λ l. nth l (count first)) (e ∙ append_assoc first own back) ∙ nth_behind first (own ++ back) ∙ ap (λ l. nth (l ++ back) zero) o

same_count : {A B : Type 0} (xs : List A) (ys : List B) → length xs ≡ length ys → count xs ≡ count ys
same_count xs ys e = omega (arith, count_is xs, count_is ys, e)

-- equal traces have the same first call
record AreCalledAlike (model : Model) (items own : List Item) (s p : OpaqueItem) (args : List WholeArgument) : Type 0 where
  spelling : normal_spelling model s ≡ normal_spelling model p
  argument : nth args (count (map widened (types model items))) ≡ nth args (count (map widened (types model own)))

called_alike : (model : Model) (items own : List Item) (s : WholeSpecification) (p : OpaqueItem) (rest more : Stretches) (args : List WholeArgument)
    (trace : Trace) → HasTrace model (Before items (OpaqueSpecification s) rest) args trace → HasTrace model (Before own p more) args trace
    → AreCalledAlike model items own (OpaqueSpecification s) p args
called_alike model items own s p rest more args (Ends text) h g = absurd h
called_alike model items own s p rest more args (Calls text call trace) h g =
    let some = some_type model s in
    let calls : h.1 ≡ g.1 = sym h.5.args_are ∙ g.5.args_are in
    let one = first_of h.1 some.0 some.1 (types_of_opaque model (OpaqueSpecification s)) some.2 h.5.as_many in
    let a = behind args h.0 h.1 h.2 one.0 one.1 _ h.3 one.2 (known_count model items h.0 text h.4) in
    let b = behind args g.0 g.1 g.2 one.0 one.1 _ g.3 (sym calls ∙ one.2) (known_count model own g.0 text g.4) in
    let m : count h.0 ≡ count (map widened (types model items)) = same_count h.0 _ (known_count model items h.0 text h.4) in
    let n : count g.0 ≡ count (map widened (types model own)) = same_count g.0 _ (known_count model own g.0 text g.4) in
    record {
      spelling = sym h.5.spelling ∙ g.5.spelling;
      argument = ap (nth args) (sym m) ∙ a ∙ sym b ∙ ap (nth args) n;
    }

module _ (model : Model) (t u : Text) (items own : List Item) (s : WholeSpecification) (p : OpaqueItem) (rest more : Stretches)
    (spelled : SpellsOpaqueItem t (OpaqueSpecification s)) (also : SpellsOpaqueItem u p)
    (h : HaveSameTraces model (Before items (OpaqueSpecification s) rest) (Before own p more)) where
  called : (args : List WholeArgument) → HasWholeTypes model args (whole_types model (Before items (OpaqueSpecification s) rest))
      → AreCalledAlike model items own (OpaqueSpecification s) p args
  called args typed =
      let trace = some_trace model (Before items (OpaqueSpecification s) rest) args typed in
      called_alike model items own s p rest more args trace.0 trace.1 ((h.same_traces args trace.0 typed).0 trace.1)

  one_spelling : normal_spelling model (OpaqueSpecification s) ≡ normal_spelling model p
  one_spelling = (called (whole_neutrals (whole_types model (Before items (OpaqueSpecification s) rest)))
      (whole_neutrals_typed model (whole_types model (Before items (OpaqueSpecification s) rest)))).spelling

  same_own : types_of_opaque model (OpaqueSpecification s) ≡ types_of_opaque model p
  same_own = spelling_types model t u (OpaqueSpecification s) p spelled also one_spelling

  not_shifted : count (map widened (types model items)) ≢ count (map widened (types model own)) → ⊥
  not_shifted other =
      let a = map widened (types model items) in
      let b = map widened (types model own) in
      let ts = whole_types model (Before items (OpaqueSpecification s) rest) in
      let some = some_type model s in
      let call = called (one_other (count a) ts) (one_other_typed model (count a) ts) in
      let here : nth ts (count a) ≡ Some some.0 = nth_behind a (types_of_opaque model (OpaqueSpecification s) ++ whole_types model rest)
      ∙ ap (λ l. nth (l ++ whole_types model rest) zero) some.2 in
      let there : nth ts (count b) ≡ Some some.0 = ap (λ l. nth l (count b)) h.same_types ∙ nth_behind b (types_of_opaque model p ++ whole_types model more)
      ∙ ap (λ l. nth (l ++ whole_types model more) zero) (sym same_own ∙ some.2) in
      let same : Some (whole_another some.0) ≡ Some (whole_neutral some.0) =
      sym (nth_another (count a) ts some.0 here) ∙ call.argument ∙ nth_neutral (count a) (count b) ts some.0 other there in
      two_values some.0 (cc)

  one_count : count (map widened (types model items)) ≡ count (map widened (types model own))
  one_count = equal _ _ not_shifted where
    equal : (n m : ℕ) → (n ≢ m → ⊥) → n ≡ m
    equal n m never = elim (cases_lt n m) [
      | inl less ↦ absurd (never (λ e. omega (arith, e, less)))
      | inr le ↦ elim (cases_lt m n) [
        | inl less ↦ absurd (never (λ e. omega (arith, e, less)))
        | inr ge ↦ omega (arith, le, ge)
      ]
    ]

  many : length (types model items) ≡ length (types model own)
  many = sym (length_map widened (types model items))
      ∙ omega (arith, count_is (map widened (types model items)), count_is (map widened (types model own)), one_count)
      ∙ length_map widened (types model own)

-- of such lists, both make a call or neither does
no_call : (model : Model) (items own : List Item) (p : OpaqueItem) (more : Stretches) → HaveSameTraces model (Last items) (Before own p more) → ⊥
no_call model items own p more h =
    let ts = whole_types model (Last items) in
    let args = whole_neutrals ts in
    let typed = whole_neutrals_typed model ts in
    let trace = some_trace model (Last items) args typed in
    go args trace.0 trace.1 ((h.same_traces args trace.0 typed).0 trace.1) where
      go : (args : List _) (trace : Trace) → HasTrace model (Last items) args trace → HasTrace model (Before own p more) args trace → ⊥
      go args (Ends text) x y = y
      go args (Calls text call rest) x y = x

corresponding : (model : Model) (t u : Text) (a b : Stretches) → ReadsStretches t a → ReadsStretches u b → HasNoErrno a → HasNoErrno b
    → HaveSameTraces model a b
    → Correspond model a b
corresponding model t u (Last items) (Last own) h g m n same = traced_last model items own same
corresponding model t u (Last items) (Before own p more) h g m n same = no_call model items own p more same
corresponding model t u (Before items s rest) (Last own) h g m n same =
    no_call model own items s rest (traces_sym model (Before items s rest) (Last own) same)
corresponding model t u (Before items OpaqueErrno rest) (Before own p more) h g m n same = absurd m
corresponding model t u (Before items s rest) (Before own OpaqueErrno more) h g m n same = absurd n
corresponding model t u (Before items (OpaqueSpecification s) rest) (Before own (OpaqueSpecification p) more) h g m n same =
    let mine = OpaqueSpecification s in
    let other = OpaqueSpecification p in
    let spelling = one_spelling model h.1 g.1 items own s other rest more h.4 g.4 same in
    let long = many model h.1 g.1 items own s other rest more h.4 g.4 same in (
      stretches_alike model h.1 g.1 items own mine other rest more h.4 g.4 same spelling long,
      spelling,
      corresponding model h.2 g.2 rest more h.5 g.5 m n (rests_traced model h.1 g.1 items own mine other rest more h.4 g.4 same spelling long),
    )

pub traces_suffice : (model : Model) → TracesSuffice model
traces_suffice model t u a b h g m n same = (alike_is_corresponding model t u a b h g).1 (corresponding model t u a b h g m n same)

-- alike texts share `%m`, since a specification has another normal spelling
shared : (model : Model) (t u : Text) (a b : Stretches) → ReadsStretches t a → ReadsStretches u b → Correspond model a b → HasNoErrno a → HasNoErrno b
shared model t u (Last items) (Last own) h g same m = tt
shared model t u (Last items) (Before own p more) h g same m = absurd same
shared model t u (Before items s rest) (Last own) h g same m = absurd same
shared model t u (Before items OpaqueErrno rest) (Before own p more) h g same m = absurd m
shared model t u (Before items (OpaqueSpecification s) rest) (Before own (OpaqueSpecification p) more) h g same m =
    shared model h.2 g.2 rest more h.5 g.5 same.2 m
shared model t u (Before items (OpaqueSpecification s) rest) (Before own OpaqueErrno more) h g same m =
    no_type model s (sym (spelling_types model h.1 g.1 (OpaqueSpecification s) OpaqueErrno h.4 g.4 same.1)) where
      no_type : (model : Model) (s : WholeSpecification) → [] ≡ types_of_opaque model (OpaqueSpecification s) → ⊥
      no_type model s e = let some = some_type model s in let no = e ∙ some.2 in cc

pub alike_share_errno : (model : Model) → AlikeShareErrno model
alike_share_errno model t u a b h g alike =
    let same = (alike_is_corresponding model t u a b h g).0 alike in
    let back = (alike_is_corresponding model u t b a g h).0 (alike_back alike) in
    (shared model t u a b h g same, shared model u t b a g h back) where
      alike_back : AreWholeAlike model t u → AreWholeAlike model u t
      alike_back h = record {
        first = h.second;
        second = h.first;
        reads_first = h.reads_second;
        reads_second = h.reads_first;
        alike = trace_sym model h.first h.second h.alike;
      }
