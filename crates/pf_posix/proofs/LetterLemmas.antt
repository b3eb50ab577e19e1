-- Single bytes of a specification, and their signs.
use Rattle.std.proofs.Common.{◌≡◌, ◌≢◌, ℕ, ◌-◌, ◌<◌, false, [], ◌∷◌, refl, sym, arith, ◌+◌, ◌*◌, true, inl, inr}
use Rattle.std.specs.Prelude.{Some, None, ◌==◌, ⊤, Option}
use Rattle.std.specs.Fmt.{digit_glyph}
use Rattle.std.proofs.lemmas.Bool.Decides.{nat_tests}
use Rattle.pf_values.specs.declared.lengths.Length.TheVariants as lengths
use Rattle.pf_values.specs.meaning.Flags.{flag_byte}
use Rattle.pf_values.specs.meaning.Text.{dollar, point, star}
use Rattle.pf_values.specs.declared.limits.TheConstants.{MAX_NUMBER}
use Rattle.pf_values.specs.declared.refusals.RefusalKind.{RefusalKind}
use Rattle.pf_text.proofs.Complete.{digit_is}
use Rattle.pf_text.proofs.NumberDigits.{digit_of as small_digit}
use Rattle.pf_text.specs.States.{is_digit}
use Rattle.pf_posix.specs.declared.conversions.WholeConv.{WholeConv}
use Rattle.pf_posix.specs.declared.conversions.WholeLength.TheVariants.{Integer}
use Rattle.pf_posix.specs.Items.{errno_letter}
use Rattle.pf_posix.specs.Letters.{conversion_of, length_modifier_of, is_first_digit}
use Rattle.pf_posix.specs.Specifications.{conversion_letter, modifier_letters}
use Rattle.pf_posix.specs.declared.specifications.Numbering.{Numbering}
use Rattle.pf_posix.specs.declared.specifications.Numbering.TheVariants.{Undecided, Unnumbered, Numbered}
use Rattle.pf_posix.specs.Refusals.{MixesFirst, MixesStar, PassesLimit}
use Rattle.pf_posix.proofs.Steps.{Sign, Digit, Dollar, Asterisk, Dot, Mark, Letter, Last, Strange, sign_of}
use Rattle.pf_posix.proofs.Outcomes.{mixes_first, mixes_opened, mixes_star, mixes_star_digits, passes}

pub record LetterTests (conversion : WholeConv) : Type 0 where
  pub modifier : length_modifier_of (conversion_letter conversion) ≡ None
  pub no_h : (conversion_letter conversion == 104) ≡ false
  pub no_l : (conversion_letter conversion == 108) ≡ false
  pub high : 57 < conversion_letter conversion
  pub no_errno : conversion_letter conversion ≢ errno_letter
  pub conversion_is : conversion_of (conversion_letter conversion) ≡ Some conversion
  pub sign_is : sign_of (conversion_letter conversion) ≡ Last conversion

pub letter_tests : (conversion : WholeConv) → LetterTests conversion
letter_tests conversion =
    record { modifier = grind arith; no_h = grind arith; no_l = grind arith; high = grind arith; no_errno = λ e. grind arith; conversion_is = grind arith; sign_is = grind arith }

pub byte_of_conversion : (byte : ℕ) (conversion : WholeConv) → conversion_of byte ≡ Some conversion → byte ≡ conversion_letter conversion
byte_of_conversion byte conversion e = grind (arith, nat_tests)

-- the bytes with a sign
abbrev pub HasSign : Sign → ℕ → Type 0
HasSign (Digit n) byte = (n < 10) × (byte ≡ digit_glyph false n)
HasSign Dollar byte = byte ≡ dollar
HasSign Asterisk byte = byte ≡ star
HasSign Dot byte = byte ≡ point
HasSign (Mark flag) byte = byte ≡ flag_byte flag
HasSign (Letter modifier) byte = (modifier_letters modifier ≡ byte ∷ []) × (modifier ≢ Integer lengths.None)
HasSign (Last conversion) byte = byte ≡ conversion_letter conversion
HasSign Strange byte = ⊤

pub digit_of : (byte n : ℕ) → sign_of byte ≡ Digit n → (is_digit byte ≡ true) × (n ≡ byte - 48)
digit_of byte n e = (grind (arith, nat_tests), grind (arith, nat_tests))

pub has_sign : (byte : ℕ) → HasSign (sign_of byte) byte
has_sign byte = go (sign_of byte) refl where
  go : (sign : Sign) → sign_of byte ≡ sign → HasSign sign byte
  go (Digit n) e = let is = digit_of byte n e in let digit = small_digit byte is.0 in rw (is.1) (digit.0, sym digit.1)
  go Dollar e = grind (arith, nat_tests)
  go Asterisk e = grind (arith, nat_tests)
  go Dot e = grind (arith, nat_tests)
  go (Mark flag) e = grind (arith, nat_tests)
  go (Letter modifier) e = (grind (arith, nat_tests), λ none. grind (arith, nat_tests))
  go (Last conversion) e = grind (arith, nat_tests)
  go Strange e = tt

pub digit_sign : (d : ℕ) → d < 10 → sign_of (digit_glyph false d) ≡ Digit d
digit_sign d small = let digit = digit_is d small in rw (digit.0, digit.1) refl

pub sign_of_digit : (byte : ℕ) → is_digit byte ≡ true → sign_of byte ≡ Digit (byte - 48)
sign_of_digit byte d = rw d refl

pub dollar_of : (byte : ℕ) → sign_of byte ≡ Dollar → byte ≡ 36
dollar_of byte e = grind (arith, nat_tests)

-- where numbered specifications and others are mixed
pub mixes_after_percent : (numbering : Numbering) (byte : ℕ) → mixes_opened numbering (sign_of byte) ≡ true
    → (numbering ≡ Numbered) × (is_first_digit byte ≡ false)
mixes_after_percent Numbered byte e = (refl, grind (arith, nat_tests))
mixes_after_percent _ byte e = cc

pub mixes_after_first : (numbering : Numbering) (byte : ℕ) → mixes_first numbering (sign_of byte) ≡ true → MixesFirst numbering byte
mixes_after_first Undecided byte e = cc
mixes_after_first Unnumbered byte e = inl (refl, grind (arith, nat_tests))
mixes_after_first Numbered byte e = inr (refl, grind (arith, nat_tests), λ f. grind (arith, nat_tests))

pub mixes_after_star : (position : Option ℕ) (byte : ℕ) → mixes_star position (sign_of byte) ≡ true → MixesStar position byte
mixes_after_star None byte e = grind (arith, nat_tests)
mixes_after_star (Some n) byte e = grind (arith, nat_tests)

pub mixes_after_digits : (byte : ℕ) → mixes_star_digits (sign_of byte) ≡ true → (is_digit byte ≡ false) × (byte ≢ 36)
mixes_after_digits byte e = (grind (arith, nat_tests), λ f. grind (arith, nat_tests))

-- and back
pub percent_mixes : (byte : ℕ) → is_first_digit byte ≡ false → mixes_opened Numbered (sign_of byte) ≡ true
percent_mixes byte f = grind (arith, nat_tests)

pub first_mixes : (numbering : Numbering) (byte : ℕ) → MixesFirst numbering byte → mixes_first numbering (sign_of byte) ≡ true
first_mixes numbering byte (inl m) = rw m.0 (grind (arith, nat_tests, m.1))
first_mixes numbering byte (inr m) = rw m.0 (grind (arith, nat_tests, m.1, m.2))

pub star_mixes : (position : Option ℕ) (byte : ℕ) → MixesStar position byte → mixes_star position (sign_of byte) ≡ true
star_mixes None byte m = grind (arith, nat_tests)
star_mixes (Some n) byte m = grind (arith, nat_tests)

pub digits_mix : (byte : ℕ) → is_digit byte ≡ false → byte ≢ 36 → mixes_star_digits (sign_of byte) ≡ true
digits_mix byte d e = grind (arith, nat_tests)

-- where a number passes the limit
pub passes_so : (kind other : RefusalKind) (n digit : ℕ) → passes kind n digit ≡ Some other → (MAX_NUMBER < 10 * n + digit) × (kind ≡ other)
passes_so kind other n digit e = (grind (arith, nat_tests), grind (arith, nat_tests))

pub passes_limit : (kind : RefusalKind) (n byte : ℕ) → PassesLimit n byte → passes kind n (byte - 48) ≡ Some kind
passes_limit kind n byte p = grind (arith, nat_tests, p.1)
