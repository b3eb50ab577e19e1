-- Whole specifications at the front of a text.
use Rattle.std.proofs.Common.{◌≡◌, ℕ, ◌+◌, ◌-◌, ◌*◌, ◌<◌, ◌≤◌, false, true, List, [], ◌∷◌, ◌++◌, length, get_or, map, take, refl, sym, ap, ◌∙◌, subst, arith}
use Rattle.std.specs.Prelude.{Some}
use Rattle.std.specs.Fmt.{digit_glyph}
use Rattle.std.specs.Int.Digits.{number_from_digits_after}
use Rattle.std.specs.List.{AllByRecursion}
use Rattle.std.proofs.lemmas.Bool.Decides.{nat_tests}
use Rattle.std.proofs.lemmas.Grind.{fold-append}
use Rattle.std.proofs.lemmas.Int.Digits.{number_after_append}
use Rattle.std.proofs.lemmas.List.{append_assoc, append-nil, map_push, take_more}
use Rattle.pf_values.specs.declared.flags.Flag.{Flag}
use Rattle.pf_values.specs.declared.flags.FlagSet.{FlagSet}
use Rattle.pf_values.specs.declared.limits.TheConstants.{MAX_NUMBER}
use Rattle.pf_values.specs.meaning.Defined.{is_above_limit}
use Rattle.pf_values.specs.meaning.Flags.{flag_byte, flag_set, no_flags, with_flag}
use Rattle.pf_values.specs.meaning.Spelling.{SpellsPrecision, SpellsWidth}
use Rattle.pf_values.specs.meaning.Text.{Text}
use Rattle.pf_text.specs.Letters.{flag_of}
use Rattle.pf_text.specs.Offsets.{ContinuesNumber, HasBytes}
use Rattle.pf_text.specs.States.{is_digit}
use Rattle.pf_text.proofs.Complete.{digit_is, small}
use Rattle.pf_text.proofs.NumberDigits.{below-push, digit_of, glyph_push}
use Rattle.pf_text.proofs.Sound.{SpellsPrecision-point, SpellsPrecision-push, SpellsWidth-one, SpellsWidth-push, byte_of_flag}

pub bytes_none : (t : Text) (at : ℕ) → at ≤ length t → HasBytes t at at []
bytes_none t at few = record { from = omega arith; within = few; whole = sym (append-nil (take at t)) }

-- one more byte
pub bytes_more : (t : Text) (start at : ℕ) (bytes : Text) → HasBytes t start at bytes → at < length t → HasBytes t start (at + 1) (bytes ++ get_or t at 0 ∷ [])
bytes_more t start at bytes h some =
    record {
      from = omega (arith, h.from);
      within = omega (arith, some);
      whole = take_more t at 0 some ∙ ap (λ u. u ++ get_or t at 0 ∷ []) h.whole ∙ append_assoc (take start t) bytes (get_or t at 0 ∷ []);
    }

-- one flag more
pub flags_more : (t : Text) (start at : ℕ) (set : FlagSet) (flag : Flag) → flag_of (get_or t at 0) ≡ Some flag → at < length t
    → (flags : List Flag) × (set ≡ flag_set flags) × HasBytes t start at (map flag_byte flags)
    → (flags : List Flag) × (with_flag set flag ≡ flag_set flags) × HasBytes t start (at + 1) (map flag_byte flags)
flags_more t start at set flag e some h =
    let bytes : map flag_byte h.0 ++ get_or t at 0 ∷ [] ≡ map flag_byte (h.0 ++ flag ∷ []) = ap (λ b. map flag_byte h.0 ++ b ∷ [])
    (byte_of_flag (get_or t at 0) flag e) ∙ sym (map_push flag_byte h.0 flag) in (
      h.0 ++ flag ∷ [],
      ap (λ s. with_flag s flag) h.1 ∙ sym (fold-append with_flag no_flags h.0 (flag ∷ [])),
      subst (HasBytes t start (at + 1)) bytes (bytes_more t start at (map flag_byte h.0) h.2 some),
    )

-- one digit more
pub digits_more : (t : Text) (start at first number : ℕ) → is_digit (get_or t at 0) ≡ true → at < length t
    → (bytes : Text) × ContinuesNumber first bytes number × HasBytes t start at bytes
    → (bytes : Text) × ContinuesNumber first bytes (10 * number + (get_or t at 0 - 48)) × HasBytes t start (at + 1) bytes
digits_more t start at first number e some h =
    let byte = get_or t at 0 in
    let g = h.1 in (
      h.0 ++ byte ∷ [],
      record {
        digits = g.digits ++ (byte - 48) ∷ [];
        below = below-push g.digits (byte - 48) g.below (digit_of byte e).0;
        spelled = ap (λ u. u ++ byte ∷ []) g.spelled ∙ glyph_push g.digits byte e;
        value = omega (arith, g.value, number_after_append 10 first g.digits ((byte - 48) ∷ []));
      },
      bytes_more t start at h.0 h.2 some,
    )

-- a width and a precision go on with more digits
after_digit : (t : Text) (d : ℕ) (ds : List ℕ) → (t ++ digit_glyph false d ∷ []) ++ map (digit_glyph false) ds ≡ t ++ map (digit_glyph false) (d ∷ ds)
after_digit t d ds = append_assoc t (digit_glyph false d ∷ []) (map (digit_glyph false) ds)

next_number : (n d : ℕ) → d < 10 → 10 * n + (digit_glyph false d - 48) ≡ n * 10 + d
next_number n d small = omega (arith, (digit_is d small).1)

-- what holds of a text and its number, and still with one digit more, holds with more digits
more_digits : (P : Text → ℕ → Type 0) → ((t : Text) (n byte : ℕ) → is_digit byte ≡ true → P t n → P (t ++ byte ∷ []) (10 * n + (byte - 48)))
    → (ds : List ℕ) (t : Text) (n : ℕ) → AllByRecursion (λ d. d < 10) ds → P t n → P (t ++ map (digit_glyph false) ds) (number_from_digits_after 10 n ds)
more_digits P push [] t n below h = subst (λ u. P u n) (sym (append-nil t)) h
more_digits P push (d ∷ ds) t n below h =
    let one = push t n (digit_glyph false d) (digit_is d below.0).0 h in
    let here = subst (P (t ++ digit_glyph false d ∷ [])) (next_number n d below.0) one in
    subst (λ u. P u (number_from_digits_after 10 (n * 10 + d) ds)) (after_digit t d ds)
    (more_digits P push ds (t ++ digit_glyph false d ∷ []) (n * 10 + d) below.1 here)

goes_on : (P : Text → ℕ → Type 0) → ((t : Text) (n byte : ℕ) → is_digit byte ≡ true → P t n → P (t ++ byte ∷ []) (10 * n + (byte - 48)))
    → (t bytes : Text) (n m : ℕ) → ContinuesNumber n bytes m → P t n → P (t ++ bytes) m
goes_on P push t bytes n m g h =
    subst (P (t ++ bytes)) (sym g.value) (subst (λ u. P (t ++ u) (number_from_digits_after 10 n g.digits)) (sym g.spelled)
    (more_digits P push g.digits t n g.below h))

-- bytes, and those after them
pub bytes_join : (t : Text) (start at stop : ℕ) (bytes more : Text) → HasBytes t start at bytes → HasBytes t at stop more
    → HasBytes t start stop (bytes ++ more)
bytes_join t start at stop bytes more h g =
    record {
      from = omega (arith, h.from, g.from);
      within = g.within;
      whole = g.whole ∙ ap (λ u. u ++ more) h.whole ∙ append_assoc (take start t) bytes more;
    }

pub bytes_one : (t : Text) (at byte : ℕ) → at < length t → byte ≡ get_or t at 0 → HasBytes t at (at + 1) (byte ∷ [])
bytes_one t at byte some e = subst (λ b. HasBytes t at (at + 1) (b ∷ [])) (sym e) (bytes_more t at at [] (bytes_none t at (omega arith)) some)

pub width_read : (t : Text) (start stop n : ℕ) → start < length t → 48 < get_or t start 0 → get_or t start 0 ≤ 57 → n ≤ MAX_NUMBER
    → (bytes : Text) × ContinuesNumber (get_or t start 0 - 48) bytes n × HasBytes t (start + 1) stop bytes
    → (bytes : Text) × SpellsWidth bytes (Some n) × (is_above_limit (Some n) ≡ false) × HasBytes t start stop bytes
width_read t start stop n some low high few h =
    let byte = get_or t start 0 in
    let digit : is_digit byte ≡ true = grind (arith, nat_tests, low, high) in
    let more = goes_on (λ u m. SpellsWidth u (Some m)) SpellsWidth-push (byte ∷ []) h.0 (byte - 48) n h.1 (SpellsWidth-one byte digit low) in
    (byte ∷ [] ++ h.0, more, small n few, bytes_join t start (start + 1) stop (byte ∷ []) h.0 (bytes_one t start byte some refl) h.2)

pub precision_read : (t : Text) (start stop n : ℕ) → start < length t → get_or t start 0 ≡ 46 → n ≤ MAX_NUMBER
    → (bytes : Text) × ContinuesNumber 0 bytes n × HasBytes t (start + 1) stop bytes
    → (bytes : Text) × SpellsPrecision bytes (Some n) × (is_above_limit (Some n) ≡ false) × HasBytes t start stop bytes
precision_read t start stop n some e few h =
    let more = goes_on (λ u m. SpellsPrecision u (Some m)) SpellsPrecision-push (46 ∷ []) h.0 0 n h.1 SpellsPrecision-point in
    (46 ∷ [] ++ h.0, more, small n few, bytes_join t start (start + 1) stop (46 ∷ []) h.0 (bytes_one t start 46 some (sym e)) h.2)
