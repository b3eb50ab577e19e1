-- How long the spellings are.
use Rattle.std.proofs.Common.{◌≡◌, ℕ, ◌+◌, ◌/◌, ◌%◌, ◌^◌, ◌<◌, ◌≤◌, Bool, true, false, cond, List, [], ◌∷◌, ◌++◌, map, length, take, get_or, refl, sym, ap, ◌∙◌}
use Rattle.std.proofs.Common.{arith, inl, inr}
use Rattle.std.specs.Prelude.{decimal, filter, count_by, Option, Some, None, not, ◌&&◌, ◌⊎◌}
use Rattle.std.specs.Int.Digits.{digits_of}
use Rattle.std.proofs.lemmas.Fmt.{decimal-digits_of, length-decimal-le}
use Rattle.std.proofs.lemmas.Int.Digits.{digits_of_step}
use Rattle.std.proofs.lemmas.List.{append_assoc, length-append, length-map, length_push, map-append, map_push, take_more}
use Rattle.std.proofs.lemmas.List.Elements.{filter-append}
use Rattle.std.proofs.lemmas.List.Sums.{count_by-le-length, length-filter}
use Rattle.pf_values.specs.declared.bases.Base.{Base}
use Rattle.pf_values.specs.declared.bases.Base.TheVariants.{Binary, Octal, Decimal, Hexadecimal}
use Rattle.pf_values.specs.declared.conversions.Kind.{Kind}
use Rattle.pf_values.specs.declared.conversions.Kind.TheVariants as kinds
use Rattle.pf_values.specs.declared.flags.Flag.{Flag}
use Rattle.pf_values.specs.declared.flags.FlagSet.{FlagSet}
use Rattle.pf_values.specs.declared.lengths.Length.{Length}
use Rattle.pf_values.specs.declared.lengths.Length.TheVariants as lengths
use Rattle.pf_values.specs.meaning.Bases.{alternative_of, is_defined, is_grouped}
use Rattle.pf_values.specs.meaning.Conversions.{alternative_under, kind_of, prints_grouped}
use Rattle.pf_values.specs.meaning.Defined.{IsDefined, is_above_limit}
use Rattle.pf_values.specs.meaning.Flags.{all_flags, flag_byte, has}
use Rattle.pf_values.specs.meaning.Lengths.{length_letters}
use Rattle.pf_values.specs.meaning.Specification.{Specification}
use Rattle.pf_values.specs.meaning.Spelling.{
  flags_spelled,
  precision_spelled,
  spelling_of,
  width_spelled,
}
use Rattle.pf_values.specs.meaning.Text.{Text}
use Rattle.pf_text.specs.Letters.{flags_kept}
use Rattle.pf_text.proofs.Complete.{fits_le}
use Rattle.pf_values.proofs.DefinedLemmas.{none_broken}

-- what two calls appended, one after the other
pub appended_both : (before between after one two : Text) → between ≡ before ++ one → after ≡ between ++ two → after ≡ before ++ (one ++ two)
appended_both before between after one two h g = g ∙ ap (λ t. t ++ two) h ∙ append_assoc before one two

pub length-appended : (before after more : Text) → after ≡ before ++ more → length after ≡ length before + length more
length-appended before after more h = ap length h ∙ length-append before more

-- a number of several digits is its front and its last digit
pub decimal-push : (n : ℕ) → 10 ≤ n → n < 2 ^ 16 → decimal n ≡ decimal (n / 10) ++ (48 + n % 10) ∷ []
decimal-push n many small =
    decimal-digits_of n (omega arith) (omega arith)
    ∙ ap (map (λ d. 48 + d)) (digits_of_step 10 n (omega arith) (omega arith))
    ∙ map_push (λ d. 48 + d) (digits_of 10 (n / 10)) (n % 10)
    ∙ ap (λ t. t ++ (48 + n % 10) ∷ []) (sym (decimal-digits_of (n / 10) (omega arith) (omega arith)))

pub length-decimal-push : (n : ℕ) → 10 ≤ n → n < 2 ^ 16 → length (decimal n) ≡ length (decimal (n / 10)) + 1
length-decimal-push n many small = ap length (decimal-push n many small) ∙ length_push (decimal (n / 10)) (48 + n % 10)

-- a number within the limits has at most four digits
pub length-width_spelled : (width : Option ℕ) → is_above_limit width ≡ false → length (width_spelled width) ≤ 4
length-width_spelled None few = omega arith
length-width_spelled (Some n) few = length-decimal-le 4 n (omega arith) (omega (arith, fits_le n few)) (omega (arith, fits_le n few))

length-precision_spelled : (precision : Option ℕ) → is_above_limit precision ≡ false → length (precision_spelled precision) ≤ 5
length-precision_spelled None few = omega arith
length-precision_spelled (Some n) few = omega (arith, length-width_spelled (Some n) few)

length-length_letters : (l : Length) → length (length_letters l) ≤ 2
length-length_letters lengths.None = omega arith
length-length_letters lengths.Hh = omega arith
length-length_letters lengths.H = omega arith
length-length_letters lengths.L = omega arith
length-length_letters lengths.Ll = omega arith
length-length_letters lengths.J = omega arith
length-length_letters lengths.Z = omega arith
length-length_letters lengths.T = omega arith

flags_kept-append : (set : FlagSet) (flags more : List Flag) → flags_kept set (flags ++ more) ≡ flags_kept set flags ++ flags_kept set more
flags_kept-append set flags more = ap (map flag_byte) (filter-append (has set) flags more)
    ∙ map-append flag_byte (filter (has set) flags) (filter (has set) more)

pub flags_kept-more : (set : FlagSet) (flags : List Flag) (i : ℕ) (d : Flag) → i < length flags
    → flags_kept set (take (i + 1) flags) ≡ flags_kept set (take i flags) ++ flags_kept set (get_or flags i d ∷ [])
flags_kept-more set flags i d h = ap (flags_kept set) (take_more flags i d h) ∙ flags_kept-append set (take i flags) (get_or flags i d ∷ [])

-- how many of some flags are in a set
length-flags_kept : (set : FlagSet) (flags : List Flag) → length (flags_kept set flags) ≡ count_by (has set) flags
length-flags_kept set flags = length-map (filter (has set) flags) flag_byte ∙ length-filter (has set) flags

pub flags_kept-le : (set : FlagSet) (flags : List Flag) → length (flags_kept set flags) ≤ length flags
flags_kept-le set flags = omega (arith, length-flags_kept set flags, count_by-le-length (has set) flags)

-- no base is given both `#` and `'`
one_missing_in : (base : Base) (alt group : Bool)
    → (not (is_defined (alternative_of base)) && alt) ≡ false
    → (not (is_grouped base) && group) ≡ false → (alt ≡ false) ⊎ (group ≡ false)
one_missing_in Binary alt group h g = inr g
one_missing_in Octal alt group h g = inr g
one_missing_in Decimal alt group h g = inl h
one_missing_in Hexadecimal alt group h g = inr g

-- and no conversion
one_missing : (k : Kind) (alt group : Bool)
    → (not (is_defined (alternative_under k)) && alt) ≡ false
    → (not (prints_grouped k) && group) ≡ false → (alt ≡ false) ⊎ (group ≡ false)
one_missing kinds.Signed alt group h g = inl h
one_missing (kinds.Unsigned base capitals) alt group h g = one_missing_in base alt group h g
one_missing kinds.Char alt group h g = inl h
one_missing kinds.String alt group h g = inl h

counts_one : (b : Bool) → cond b 1 0 ≤ 1
counts_one true = omega arith
counts_one false = omega arith

counts_none : (b : Bool) → b ≡ false → cond {A = ℕ} b 1 0 ≡ 0
counts_none b e = rw e refl

length-flags_spelled : (set : FlagSet) → (set.alt ≡ false) ⊎ (set.group ≡ false) → length (flags_spelled set) ≤ 5
length-flags_spelled set missing =
    let all = length-flags_kept set all_flags in
    let minus = counts_one set.minus in
    let plus = counts_one set.plus in
    let space = counts_one set.space in
    let zero = counts_one set.zero in
    let alt = counts_one set.alt in
    let group = counts_one set.group in
    elim missing [
      | inl off ↦ omega (arith, counts_none set.alt off)
      | inr off ↦ omega (arith, counts_none set.group off)
    ]

-- the longest spelling
pub length-spelled : (s : Specification) → IsDefined s → length (spelling_of s) ≤ 18
length-spelled s defined =
    let none = none_broken s defined.allowed in
    let flags = length-flags_spelled s.flags (one_missing (kind_of s.conv) s.flags.alt s.flags.group none.1.1.1.0 none.1.1.1.1.1.0) in
    let width = length-width_spelled s.width none.0 in
    let precision = length-precision_spelled s.precision none.1.0 in
    let letters = length-length_letters s.length in
    simp length-append (omega arith)
