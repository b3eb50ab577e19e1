-- The parts of a specification at offsets of a text: the bytes between two offsets, further digits of a
-- number, and where a part ends. This project's own.
use Rattle.std.specs.Prelude.{◌≡◌, ◌≢◌, ℕ, ◌+◌, ◌*◌, ◌-◌, ◌<◌, ◌≤◌, Bool, true, false, ◌==◌, List, ◌++◌, get_or, is_some, length, map, take, Option, Some, None}
use Rattle.std.specs.Fmt.{digit_glyph}
use Rattle.std.specs.Int.Digits.{number_from_digits_after}
use Rattle.std.specs.List.{AllByRecursion}
use Rattle.pf_values.specs.declared.lengths.Length.{Length}
use Rattle.pf_values.specs.declared.lengths.Length.TheVariants as lengths
use Rattle.pf_values.specs.declared.limits.TheConstants.{MAX_NUMBER}
use Rattle.pf_values.specs.meaning.Text.{Text, point, zero_digit}
use Rattle.pf_text.specs.Letters.{flag_of, modifier_of}
use Rattle.pf_text.specs.States.{is_digit}

-- a text has these bytes from one offset up to another
pub record HasBytes (t : Text) (start stop : ℕ) (bytes : Text) : Type 0 where
  pub from : start ≤ stop
  pub within : stop ≤ length t
  pub whole : take stop t ≡ take start t ++ bytes

-- these bytes are decimal digits, and a number with them after its own digits is `longer`
pub record ContinuesNumber (number : ℕ) (bytes : Text) (longer : ℕ) : Type 0 where
  pub digits : List ℕ
  pub below : AllByRecursion (λ d. d < 10) digits
  pub spelled : bytes ≡ map (digit_glyph false) digits
  pub value : longer ≡ number_from_digits_after 10 number digits

-- at an offset comes no flag
abbrev pub EndsFlags : Text → ℕ → Type 0
EndsFlags t at = at < length t → flag_of (get_or t at 0) ≡ None

-- a digit that comes would take a number past the limit
abbrev pub EndsNumber : ℕ → Text → ℕ → Type 0
EndsNumber n t at = at < length t → is_digit (get_or t at 0) ≡ true
    → MAX_NUMBER < 10 * n + (get_or t at 0 - zero_digit)

-- nor one that could begin a field width, if there is none
abbrev pub EndsWidth : Option ℕ → Text → ℕ → Type 0
EndsWidth None t at = at < length t → is_digit (get_or t at 0) ≡ true → get_or t at 0 ≡ zero_digit
EndsWidth (Some n) t at = EndsNumber n t at

-- nor the point of a precision, if there is none
abbrev pub EndsPrecision : Option ℕ → Text → ℕ → Type 0
EndsPrecision None t at = at < length t → get_or t at 0 ≢ point
EndsPrecision (Some n) t at = EndsNumber n t at

-- whether a length modifier goes on with a byte (C11 7.21.6.1 p7)
abbrev pub goes_on : Length → ℕ → Bool
goes_on lengths.None byte = is_some (modifier_of byte)
goes_on lengths.H byte = byte == 104
goes_on lengths.L byte = byte == 108
goes_on _ byte = false

-- it doesn't
abbrev pub EndsModifier : Length → Text → ℕ → Type 0
EndsModifier modifier t at = at < length t → goes_on modifier (get_or t at 0) ≡ false
