-- How many bytes are printed of a value.
use Rattle.std.proofs.Common.{◌≡◌, ℕ, ◌+◌, ◌-◌, ◌≤◌, max, Bool, true, false, [], ◌∷◌, length, refl, ap, ◌∙◌, arith, ℤ, pos, negsuc}
use Rattle.std.specs.Prelude.{Option, Some, None, ◌&&◌, not, is_none, nat_abs, unwrap_or, if◌then◌else◌}
use Rattle.std.proofs.lemmas.Bool.Decides.{nat_tests}
use Rattle.std.proofs.lemmas.List.{length-append, length-replicate}
use Rattle.pf_values.specs.declared.bases.Alternative.{Alternative}
use Rattle.pf_values.specs.declared.bases.Alternative.TheVariants.{Undefined, Raised, Prefixed}
use Rattle.pf_values.specs.declared.bases.Base.{Base}
use Rattle.pf_values.specs.declared.conversions.Conv.{Conv}
use Rattle.pf_values.specs.declared.conversions.Conv.TheVariants.{O}
use Rattle.pf_values.specs.declared.conversions.Kind.{Kind}
use Rattle.pf_values.specs.declared.conversions.Kind.TheVariants as kinds
use Rattle.pf_values.specs.declared.flags.Flag.TheVariants.{Alt, Minus, Plus, Space, Zero}
use Rattle.pf_values.specs.meaning.Bases.{alternative_of, prefix_of}
use Rattle.pf_values.specs.meaning.Conversions.{base_of, is_octal, kind_of}
use Rattle.pf_values.specs.meaning.Flags.{has}
use Rattle.pf_values.specs.meaning.Normal.{precision_of}
use Rattle.pf_values.specs.meaning.Printing.{field, field_of, front_under, is_zero, is_zero_filled, padding, prefix_under, sign_or_prefix}
use Rattle.pf_values.specs.meaning.Specification.{Specification, width_of}
use Rattle.pf_values.specs.meaning.Text.{Text, space}
use Rattle.pf_values.proofs.Printed.{count_of, filled_precision, length-printed_digits, natural_len, natural_of, precision_under, printed_digits, printed_precision}
use Rattle.pf_values.proofs.PrintsOnce.{value_text}
use Rattle.pf_values.specs.Directives.{effective_precision}
use Rattle.pf_render.specs.declared.integer_parts.IntegerParts.{IntegerParts}
use Rattle.pf_render.specs.IntegerParts.{HasParts, parts_len, sign_or_prefix_text}
use Rattle.pf_render.specs.Zeros.{fewest_digits}
use Rattle.pf_bounds.specs.FieldLengths.{field_len}

length-padding : (width : ℕ) (body : Text) → length (padding width body) ≡ width - length body
length-padding width body = length-replicate (width - length body) space

length-under : (left : Bool) (width : ℕ) (body : Text) → length (field_of left width body) ≡ max width (length body)
length-under true width body = omega (arith, length-append body (padding width body), length-padding width body)
length-under false width body = omega (arith, length-append (padding width body) body, length-padding width body)

pub length-field : (s : Specification) (body : Text) → length (field s body) ≡ max (width_of s) (length body)
length-field s body = length-under (has s.flags Minus) (width_of s) body

fewest_under : (conv : Conv) (alt : Bool) (n : ℕ)
    → natural_len (is_octal conv && alt) (base_of conv) n
    ≡ (if is_octal conv && alt then count_of (base_of conv) n + 1 else count_of (base_of conv) n)
fewest_under O true n = omega arith
fewest_under O false n = refl
fewest_under _ alt n = refl

natural_is : (s : Specification) (n : ℕ) → natural_of s n ≡ fewest_digits s (count_of (base_of s.conv) n)
natural_is s n = fewest_under s.conv (has s.flags Alt) n

none_given : (zero minus : Bool) (precision : Option ℕ) → (zero && not minus && is_none precision) ≡ true → unwrap_or precision 1 ≡ 1
none_given a b None e = refl
none_given true true (Some p) e = cc
none_given true false (Some p) e = cc
none_given false true (Some p) e = cc
none_given false false (Some p) e = cc

filled_one : (s : Specification) → is_zero_filled s ≡ true → precision_of s ≡ 1
filled_one s e = none_given (has s.flags Zero) (has s.flags Minus) s.precision e

filled_fits : (width front natural : ℕ)
    → max width (front + max (filled_precision width front natural) natural) ≡ max width (front + max 1 natural)
filled_fits width front natural = grind (arith, nat_tests)

-- zeros that fill a field make no number longer than spaces do
as_wide : (b : Bool) (s : Specification) (v : ℤ) (natural : ℕ) → is_zero_filled s ≡ b → natural ≡ natural_of s (nat_abs v)
    → max (width_of s) (length (sign_or_prefix s v) + max (precision_under b s v) natural)
    ≡ max (width_of s) (length (sign_or_prefix s v) + max (precision_of s) natural)
as_wide true s v natural e n =
    rw (n, filled_one s e) (filled_fits (width_of s) (length (sign_or_prefix s v)) (natural_of s (nat_abs v)))
as_wide false s v natural e n = refl

pub length-value : (s : Specification) (v : ℤ) → length (field s (value_text s v)) ≡ field_len s v (count_of (base_of s.conv) (nat_abs v))
length-value s v =
    let digits = length-printed_digits s (printed_precision s v) (nat_abs v) in
    let whole = length-append (sign_or_prefix s v) (printed_digits s (printed_precision s v) (nat_abs v)) in
    let filled = as_wide (is_zero_filled s) s v (natural_of s (nat_abs v)) refl refl in
    let fewest = natural_is s (nat_abs v) in
    length-field s (value_text s v)
    ∙ ap (max (width_of s)) (whole ∙ ap (λ n. length (sign_or_prefix s v) + n) digits)
    ∙ filled
    ∙ ap (λ n. max (width_of s) (length (sign_or_prefix s v) + max (precision_of s) n)) fewest

no_flag : (alt : Bool) (letters : Text) → (if alt && false then letters else []) ≡ []
no_flag true letters = refl
no_flag false letters = refl

prefix_low : (a : Alternative) (base : Base) (capitals : Bool) (s : Specification) → prefix_under a base capitals s (pos 0) ≡ []
prefix_low Undefined base capitals s = refl
prefix_low Raised base capitals s = refl
prefix_low Prefixed base capitals s = no_flag (has s.flags Alt) (prefix_of base capitals)

one_sign : (plus other : Bool) → length {A = ℕ} (if plus then 43 ∷ [] else (if other then 32 ∷ [] else [])) ≤ 1
one_sign true other = omega arith
one_sign false true = omega arith
one_sign false false = omega arith

-- 0 has the shortest sign or prefix
front_least : (k : Kind) (s : Specification) (v : ℤ) → length (front_under k s (pos 0)) ≤ length (front_under k s v)
front_least kinds.Signed s (pos n) = omega arith
front_least kinds.Signed s (negsuc n) = one_sign (has s.flags Plus) (has s.flags Space)
front_least (kinds.Unsigned base capitals) s v = omega (arith, ap length (prefix_low (alternative_of base) base capitals s))
front_least kinds.Char s v = omega arith
front_least kinds.String s v = omega arith

prefix_high : (a : Alternative) (base : Base) (capitals : Bool) (s : Specification) (v : ℤ)
    → length (prefix_under a base capitals s v) ≤ length (prefix_under a base capitals s (negsuc 0))
prefix_high Undefined base capitals s v = omega arith
prefix_high Raised base capitals s v = omega arith
prefix_high Prefixed base capitals s v = go (has s.flags Alt) (is_zero (nat_abs v)) where
  go : (alt none : Bool) → length (if alt && not none then prefix_of base capitals else []) ≤ length (if alt && true then prefix_of base capitals else [])
  go true true = omega arith
  go true false = omega arith
  go false true = omega arith
  go false false = omega arith

-- and -1 the longest
front_most : (k : Kind) (s : Specification) (v : ℤ) → length (front_under k s v) ≤ length (front_under k s (negsuc 0))
front_most kinds.Signed s (pos n) = one_sign (has s.flags Plus) (has s.flags Space)
front_most kinds.Signed s (negsuc n) = omega arith
front_most (kinds.Unsigned base capitals) s v = prefix_high (alternative_of base) base capitals s v
front_most kinds.Char s v = omega arith
front_most kinds.String s v = omega arith

fewest_grows : (raised : Bool) (few many : ℕ) → few ≤ many → (if raised then few + 1 else few) ≤ (if raised then many + 1 else many)
fewest_grows true few many h = omega (arith, h)
fewest_grows false few many h = h

-- more digits and a longer sign or prefix are more bytes
pub more_bytes : (s : Specification) (v w : ℤ) (few many : ℕ) → length (sign_or_prefix s v) ≤ length (sign_or_prefix s w) → few ≤ many
    → field_len s v few ≤ field_len s w many
more_bytes s v w few many h k = omega (arith, h, fewest_grows (is_octal s.conv && has s.flags Alt) few many k)

pub fewest_bytes : (s : Specification) (v : ℤ) → field_len s (pos 0) 0 ≤ length (field s (value_text s v))
fewest_bytes s v =
    let more = more_bytes s (pos 0) v 0 (count_of (base_of s.conv) (nat_abs v)) (front_least (kind_of s.conv) s v) (omega arith) in
    omega (arith, more, length-value s v)

pub most_bytes : (s : Specification) (v : ℤ) (most : ℕ) → count_of (base_of s.conv) (nat_abs v) ≤ most
    → length (field s (value_text s v)) ≤ field_len s (negsuc 0) most
most_bytes s v most few =
    let more = more_bytes s v (negsuc 0) (count_of (base_of s.conv) (nat_abs v)) most (front_most (kind_of s.conv) s v) few in
    omega (arith, more, length-value s v)

more_than : (raised : Bool) (count : ℕ) → count ≤ (if raised then count + 1 else count)
more_than true count = omega arith
more_than false count = omega arith

by_width : (width front filling count fewest precision : ℕ) → count ≤ fewest → filling ≡ max precision fewest - count
    → max width (front + filling + count) ≡ max width (front + max precision fewest)
by_width width front filling count fewest precision h e = omega (arith, h, e)

filled_width : (width front fewest : ℕ) → max width (front + max (max (width - front) 1) fewest) ≡ max width (front + max 1 fewest)
filled_width width front fewest = omega arith

as_given : (b : Bool) (s : Specification) (front fewest : ℕ) → is_zero_filled s ≡ b
    → max (width_of s) (front + max (if b then max (width_of s - front) 1 else precision_of s) fewest) ≡ max (width_of s) (front + max (precision_of s) fewest)
as_given true s front fewest e = rw (filled_one s e) (filled_width (width_of s) front fewest)
as_given false s front fewest e = refl

-- the parts of a value, in its field
pub parts_in_field : (s : Specification) (v : ℤ) (count : ℕ) (parts : IntegerParts) → HasParts s v count parts
    → max (width_of s) (parts_len parts) ≡ field_len s v count
parts_in_field s v count parts h =
    let front = ap length h.prefix in
    let fewest = more_than (is_octal s.conv && has s.flags Alt) count in
    let n = length (sign_or_prefix_text parts.prefix) in
    let whole = by_width (width_of s) n parts.zeros count (fewest_digits s count) (effective_precision s n) fewest h.zeros in
    ap (λ k. max (width_of s) (n + parts.zeros + k)) h.count_is
    ∙ whole
    ∙ as_given (is_zero_filled s) s n (fewest_digits s count) refl
    ∙ ap (λ k. max (width_of s) (k + max (precision_of s) (fewest_digits s count))) front
