-- Each byte of a source has an offset, and so does the last closing quote after them, each before its end.
use Rattle.std.proofs.Common.{◌≡◌, ◌≢◌, ℕ, zero, suc, get_or, subst, ◌+◌, ◌<◌, ◌≤◌, List, [], ◌∷◌, ◌++◌, length, map, refl, sym, ap, ap₂, ◌∙◌, arith}
use Rattle.std.proofs.Common.{length-append}
use Rattle.std.specs.Prelude.{Some, flat_map, slice_get}
use Rattle.std.specs.List.{AllByRecursion}
use Rattle.std.proofs.lemmas.Option.{slice_get-get_or}
use Rattle.pf_literals.specs.Answers.{IsOffsetOf}
use Rattle.pf_literals.specs.Elements.{Bytes, Element, quote, value, written}
use Rattle.pf_literals.specs.Sources.{IsSourceOf, StringLiteral, literal_bytes, close_of, element_offsets, literal_text, offsets}

count_elements : (at : ℕ) (elements : List Element) → length (element_offsets at elements) ≡ length (map value elements)
count_elements at [] = refl
count_elements at (element ∷ elements) = ap suc (count_elements (at + length (written element)) elements)

count_offsets : (at : ℕ) (literals : List StringLiteral) → length (offsets at literals) ≡ length (literal_bytes literals)
count_offsets at [] = refl
count_offsets at (l ∷ literals) =
    let behind = offsets (at + length (literal_text l)) literals in
    length-append (element_offsets (at + 1) l.elements) behind
    ∙ ap₂ (λ n m. n + m) (count_elements (at + 1) l.elements) (count_offsets (at + length (literal_text l)) literals)
    ∙ sym (length-append (map value l.elements) (literal_bytes literals))

-- offsets before a bound
abbrev AreWithin : ℕ → List ℕ → Type 0
AreWithin bound found = AllByRecursion (λ at. at < bound) found

within_both : (bound : ℕ) (xs ys : List ℕ) → AreWithin bound xs → AreWithin bound ys → AreWithin bound (xs ++ ys)
within_both bound [] ys h g = g
within_both bound (x ∷ xs) ys h g = (h.0, within_both bound xs ys h.1 g)

within_at : (bound : ℕ) (xs : List ℕ) (index at : ℕ) → AreWithin bound xs → slice_get xs index ≡ Some at → at < bound
within_at bound [] index at h e = absurd (cc)
within_at bound (x ∷ xs) zero at h e = let same : x ≡ at = cc in subst (λ n. n < bound) same h.0
within_at bound (x ∷ xs) (suc index) at h e = within_at bound xs index at h.1 e

elements_within : (bound at : ℕ) (elements : List Element) → at + length (flat_map written elements) < bound → AreWithin bound (element_offsets at elements)
elements_within bound at [] h = tt
elements_within bound at (element ∷ elements) h =
    let long = length-append (written element) (flat_map written elements) in
    (omega (arith, h), elements_within bound (at + length (written element)) elements (omega (arith, h, long)))

-- how long a literal is
literal_length : (l : StringLiteral) → length (literal_text l) ≡ 2 + length (flat_map written l.elements) + length l.behind
literal_length l = let both = length-append (flat_map written l.elements) (quote ∷ l.behind) in omega (arith, both)

literals_within : (bound at : ℕ) (literals : List StringLiteral) → at + length (flat_map literal_text literals) ≤ bound → AreWithin bound (offsets at literals)
literals_within bound at [] h = tt
literals_within bound at (l ∷ literals) h =
    let long = length-append (literal_text l) (flat_map literal_text literals) in
    let one = literal_length l in
    within_both bound (element_offsets (at + 1) l.elements) (offsets (at + length (literal_text l)) literals)
    (elements_within bound (at + 1) l.elements (omega (arith, h, long, one)))
    (literals_within bound (at + length (literal_text l)) literals (omega (arith, h, long)))

close_within : (bound before at : ℕ) (literals : List StringLiteral) → before < bound → at + length (flat_map literal_text literals) ≤ bound
    → close_of before at literals < bound
close_within bound before at [] b h = b
close_within bound before at (l ∷ literals) b h =
    let long = length-append (literal_text l) (flat_map literal_text literals) in
    let one = literal_length l in
    close_within bound (at + 1 + length (flat_map written l.elements)) (at + length (literal_text l)) literals (omega (arith, h, long, one))
    (omega (arith, h, long))

some_bytes : (literals : List StringLiteral) → literals ≢ [] → 0 < length (flat_map literal_text literals)
some_bytes [] h = absurd (h refl)
some_bytes (l ∷ literals) h = omega (arith, length-append (literal_text l) (flat_map literal_text literals), literal_length l)

-- each offset is before the end of the source
pub offset_within : (t : Bytes) (index at : ℕ) → IsOffsetOf t index at → at < length t
offset_within t index at (found, close, h, is) =
    let all = length-append h.source.front (flat_map literal_text h.literals) in
    let whole = ap length h.source.whole in
    let room : length h.source.front + length (flat_map literal_text h.literals) ≤ length t = omega (arith, all, whole) in
    let some = some_bytes h.literals h.source.some in
    let ends = subst (λ n. n < length t) (sym h.close_is) (close_within (length t) 0 (length h.source.front) h.literals (omega (arith, room, some)) room) in
    let begins = subst (AreWithin (length t)) (sym h.offsets_are) (literals_within (length t) (length h.source.front) h.literals room) in
    within_at (length t) (found ++ close ∷ []) index at (within_both (length t) found (close ∷ []) begins (ends, tt)) is

pub has_offset : (t bytes : Bytes) (index : ℕ) → IsSourceOf t bytes → index ≤ length bytes → (at : ℕ) × IsOffsetOf t index at
has_offset t bytes index (literals, source, same) within =
    let found = offsets (length source.front) literals in
    let close = close_of 0 (length source.front) literals in
    let all = found ++ close ∷ [] in
    let long : length all ≡ length found + 1 = length-append found (close ∷ []) in
    let few = count_offsets (length source.front) literals in
    let as_many = ap length same in
    let less : index < length all = omega (arith, long, few, as_many, within) in (
      get_or all index 0,
      (
        found,
        close,
        record { literals = literals; source = source; offsets_are = refl; close_is = refl },
        slice_get-get_or all index 0 less,
      ),
    )
