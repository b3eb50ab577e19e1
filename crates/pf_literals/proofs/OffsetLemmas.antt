-- Where the bytes of a source come from.
use Rattle.std.proofs.Common.{◌≡◌, ℕ, zero, suc, ◌+◌, ◌-◌, ◌<◌, ◌≤◌, List, [], ◌∷◌, ◌++◌, length, sym, ap, ap₂, ◌∙◌, arith, inl, inr, length-append}
use Rattle.std.specs.Prelude.{MatchOption, Option, Some, None, slice_get}
use Rattle.std.specs.List.{range_with_len}
use Rattle.std.proofs.lemmas.Bool.{cases_lt}
use Rattle.std.proofs.lemmas.List.FromFn.{get_or-range_with_len, length-range_with_len}
use Rattle.std.proofs.lemmas.Option.{slice_get-get_or, slice_get_within}
use Rattle.pf_literals.specs.declared.cursor.Cursor.{Cursor}
use Rattle.pf_literals.specs.declared.faults.LiteralKind.{LiteralKind}
use Rattle.pf_literals.specs.Answers.{HasNoOffset, IsOffsetOf}
use Rattle.pf_literals.specs.Elements.{Bytes}
use Rattle.pf_literals.specs.Readings.{Fault, HasNoFault, SourceReading, Whole, prefixed, source_reading}
use Rattle.pf_literals.specs.Sources.{HasOffsets, literal_bytes}
use Rattle.pf_literals.specs.Walks.{IsFoundOffset}
use Rattle.pf_literals.specs.Walks.{reading_left as rest_of}
use Rattle.pf_literals.proofs.Complete.{read_from-source}
use Rattle.pf_literals.proofs.DecodingLemmas.{all_read, moved}
use Rattle.pf_literals.proofs.Unique.{read_whole}

pub range_at : (at n i : ℕ) → i < n → Some (at + i) ≡ slice_get (range_with_len at n) i
range_at at n i less =
    sym (slice_get-get_or (range_with_len at n) i 0 (omega (arith, length-range_with_len at n)) ∙ ap Some (get_or-range_with_len at n i 0 less))

-- after a list, and at its front
get_behind : (xs ys : List ℕ) (n : ℕ) → slice_get (xs ++ ys) (length xs + n) ≡ slice_get ys n
get_behind [] ys n = let same : 0 + n ≡ n = omega arith in ap (slice_get ys) same
get_behind (x ∷ xs) ys n = let same : suc (length xs) + n ≡ suc (length xs + n) = omega arith in ap (slice_get (x ∷ (xs ++ ys))) same ∙ get_behind xs ys n

get_front : (xs ys : List ℕ) (n x : ℕ) → slice_get xs n ≡ Some x → slice_get (xs ++ ys) n ≡ Some x
get_front [] ys n x e = absurd (cc)
get_front (y ∷ xs) ys zero x e = e
get_front (y ∷ xs) ys (suc n) x e = get_front xs ys n x e

-- the offsets of a source are those that are read
offsets_read : (t : Bytes) (found : List ℕ) (close : ℕ) → HasOffsets t found close → (bytes : List ℕ) × (source_reading t ≡ Whole bytes found close)
offsets_read t found close h = (
  literal_bytes h.literals,
  read_from-source t h.literals h.source ∙ ap₂ (λ p c. Whole (literal_bytes h.literals) p c) (sym h.offsets_are) (sym h.close_is),
)

same_offsets : (bytes found : List ℕ) (close : ℕ) (others there : List ℕ) (last : ℕ) → Whole bytes found close ≡ Whole others there last
    → (found ≡ there) × (close ≡ last)
same_offsets bytes found close others there last e = (cc, cc)

pub one_offset : (t found others : List ℕ) (close last : ℕ) → HasOffsets t found close → HasOffsets t others last → (found ≡ others) × (close ≡ last)
one_offset t found others close last h g =
    let a = offsets_read t found close h in
    let b = offsets_read t others last g in
    same_offsets a.0 found close b.0 others last (sym a.1 ∙ b.1)

pub no_offset : (t : Bytes) (index at : ℕ) (kind : LiteralKind) → source_reading t ≡ Fault kind at → HasNoOffset t index
no_offset t index at kind e there (found, close, h, is) = let whole = sym e ∙ (offsets_read t found close h).1 in absurd (cc)

module _ (t : Bytes) (bytes found : List ℕ) (old : SourceReading) (so_far : source_reading t ≡ prefixed bytes found old) where
  -- a fault further on
  pub none_behind : (index at : ℕ) (kind : LiteralKind) → old ≡ Fault kind at → HasNoOffset t index
  none_behind index at kind e = no_offset t index at kind (so_far ∙ ap (prefixed bytes found) e)

  module _ (close : ℕ) (e : old ≡ Whole [] [] close) where
    abbrev known : HasOffsets t found close
    known = (all_read t bytes found old so_far close e).1

    last_is : (index left at : ℕ) → index ≡ length found + left → left ≡ 0 → at ≡ close → IsOffsetOf t index at
    last_is index left at all none there = (
      found,
      close,
      known,
      ap (slice_get (found ++ close ∷ [])) (all ∙ ap (λ n. length found + n) none) ∙ get_behind found (close ∷ []) 0 ∙ ap Some (sym there),
    )

    none_at_end : (index left : ℕ) → index ≡ length found + left → 0 < left → HasNoOffset t index
    none_at_end index left all some at (others, last, h, is) =
        let same = (one_offset t others found last close h known).0 in
        let few = slice_get_within (others ++ last ∷ []) index at is in
        let long = length-append others (last ∷ []) in
        let as_long = ap length same in
        omega (arith, few, long, as_long, all, some)

    pub at_end : (index left : ℕ) (result : Option ℕ) → index ≡ length found + left → MatchOption result (0 < left) (λ at. (left ≡ 0) × (at ≡ close))
        → MatchOption result (HasNoOffset t index) (IsOffsetOf t index)
    at_end index left None all some = none_at_end index left all some
    at_end index left (Some at) all h = last_is index left at all h.0 h.1

  -- an offset that is found in what comes next
  found_there : (more others : List ℕ) (new : SourceReading) (index left at : ℕ) → old ≡ prefixed more others new → index ≡ length found + left
      → slice_get others left ≡ Some at → HasNoFault new → IsOffsetOf t index at
  found_there more others new index left at e all is (rest, last, close, whole) =
      let all_found = found ++ others ++ last in
      let known = read_whole t (bytes ++ more ++ rest) all_found close
      (moved t bytes found old so_far more others new e ∙ ap (prefixed (bytes ++ more) (found ++ others)) whole) in
      let there : slice_get (found ++ others) index ≡ Some at = ap (slice_get (found ++ others)) all ∙ get_behind found others left ∙ is in
      (all_found, close, known.1, get_front all_found (close ∷ []) index at (get_front (found ++ others) last index at there))

  none_there : (more others : List ℕ) (new : SourceReading) (index at : ℕ) (kind : LiteralKind) → old ≡ prefixed more others new → new ≡ Fault kind at
      → HasNoOffset t index
  none_there more others new index at kind e stop = no_offset t index at kind
      (moved t bytes found old so_far more others new e ∙ ap (prefixed (bytes ++ more) (found ++ others)) stop)

  pub there_or_not : (more others : List ℕ) (cursor : Cursor) (index left at : ℕ) (result : Option ℕ) → old ≡ prefixed more others (rest_of t cursor)
      → index ≡ length found + left
      → Some at ≡ slice_get others left → IsFoundOffset t cursor at result → MatchOption result (HasNoOffset t index) (IsOffsetOf t index)
  there_or_not more others cursor index left at None e all is (kind, context, stop) = none_there more others (rest_of t cursor) index context kind e stop
  there_or_not more others cursor index left at (Some there) e all is (same, whole) =
      found_there more others (rest_of t cursor) index left there e all (sym is ∙ ap Some (sym same)) whole

  -- one part further
  pub further : (more others : List ℕ) (new : SourceReading) (index left len : ℕ) → old ≡ prefixed more others new → index ≡ length found + left
      → len ≡ length others → len ≤ left
      → (b p : List ℕ) × (source_reading t ≡ prefixed b p new) × (index ≡ length p + (left - len))
  further more others new index left len e all long few = (
    bytes ++ more,
    found ++ others,
    moved t bytes found old so_far more others new e,
    (let both = length-append found others in omega (arith, both, all, long, few)),
  )

pub none_past : (xs : List ℕ) (n len : ℕ) → None ≡ slice_get xs n → len ≡ length xs → len ≤ n
none_past xs n len e long = elim (cases_lt n len) [
  | inl less ↦ let there = slice_get-get_or xs n 0 (omega (arith, less, long)) in absurd (cc)
  | inr le ↦ le
]
