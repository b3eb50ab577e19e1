-- What is spelled is read back.
use Rattle.std.proofs.Common.{◌≡◌, ◌≢◌, ℕ, zero, suc, ◌+◌, ◌/◌, ◌%◌, ◌<◌, ◌≤◌, ◌^◌, Bool, true, false, cond, List, [], ◌∷◌, map, length, refl, sym, ap, ◌∙◌}
use Rattle.std.proofs.Common.{arith}
use Rattle.std.specs.Prelude.{decimal, filter, fold, Option, Some, None}
use Rattle.std.specs.Fmt.{digit_glyph}
use Rattle.std.specs.Int.Digits.{digits_of}
use Rattle.std.specs.List.{AllByRecursion}
use Rattle.std.proofs.lemmas.Bool.Decides.{nat_tests}
use Rattle.std.proofs.lemmas.Fmt.{decimal-digits_of, decimal_digit}
use Rattle.std.proofs.lemmas.Int.Digits.{all_below_base_digits_of, digits_of_step, first_digits_of}
use Rattle.std.proofs.lemmas.List.{length_push}
use Rattle.pf_values.specs.declared.flags.Flag.{Flag}
use Rattle.pf_values.specs.declared.flags.Flag.TheVariants.{Minus, Plus, Space, Alt, Zero, Group}
use Rattle.pf_values.specs.declared.flags.FlagSet.{FlagSet}
use Rattle.pf_values.specs.meaning.Defined.{IsDefined, is_above_limit}
use Rattle.pf_values.specs.meaning.Digits.{AreDigits, AreLeastDigits}
use Rattle.pf_values.specs.meaning.Flags.{all_flags, flag_set, has, with_flag}
use Rattle.pf_values.specs.meaning.Specification.{Specification}
use Rattle.pf_values.specs.meaning.Spelling.{Spells, SpellsPrecision, SpellsWidth, precision_spelled, spelling_of, width_spelled}
use Rattle.pf_values.proofs.Numerals.{place_sum-digits_of}
use Rattle.pf_text.proofs.Complete.{fits_le}
use Rattle.pf_values.proofs.DefinedLemmas.{within}

-- the set with these answers
abbrev set_of : Bool → Bool → Bool → Bool → Bool → Bool → FlagSet
set_of a b c d e f = record { minus = a; plus = b; space = c; alt = d; zero = e; group = f }

fold_minus : (a : Bool) (flags : List Flag) → fold with_flag (set_of false false false false false false) (cond a (Minus ∷ flags) flags) ≡ fold with_flag
    (set_of a false false false false false) flags
fold_minus true flags = refl
fold_minus false flags = refl

fold_plus : (a b : Bool) (flags : List Flag) → fold with_flag (set_of a false false false false false) (cond b (Plus ∷ flags) flags) ≡ fold with_flag
    (set_of a b false false false false) flags
fold_plus a true flags = refl
fold_plus a false flags = refl

fold_space : (a b c : Bool) (flags : List Flag) → fold with_flag (set_of a b false false false false) (cond c (Space ∷ flags) flags) ≡ fold with_flag
    (set_of a b c false false false) flags
fold_space a b true flags = refl
fold_space a b false flags = refl

fold_alt : (a b c d : Bool) (flags : List Flag) → fold with_flag (set_of a b c false false false) (cond d (Alt ∷ flags) flags) ≡ fold with_flag
    (set_of a b c d false false) flags
fold_alt a b c true flags = refl
fold_alt a b c false flags = refl

fold_zero : (a b c d e : Bool) (flags : List Flag) → fold with_flag (set_of a b c d false false) (cond e (Zero ∷ flags) flags) ≡ fold with_flag
    (set_of a b c d e false) flags
fold_zero a b c d true flags = refl
fold_zero a b c d false flags = refl

fold_group : (a b c d e f : Bool) (flags : List Flag) → fold with_flag (set_of a b c d e false) (cond f (Group ∷ flags) flags) ≡ fold with_flag
    (set_of a b c d e f) flags
fold_group a b c d e true flags = refl
fold_group a b c d e false flags = refl

-- each flag is put in its place: a set is that of the flags that are in it
pub set_kept : (set : FlagSet) → flag_set (filter (has set) all_flags) ≡ set
set_kept set =
    fold_minus set.minus _
    ∙ fold_plus set.minus set.plus _
    ∙ fold_space set.minus set.plus set.space _
    ∙ fold_alt set.minus set.plus set.space set.alt _
    ∙ fold_zero set.minus set.plus set.space set.alt set.zero _
    ∙ fold_group set.minus set.plus set.space set.alt set.zero set.group []

glyph_is : (d : ℕ) → d < 10 → 48 + d ≡ digit_glyph false d
glyph_is d h = grind (arith, nat_tests)

glyphs_are : (ds : List ℕ) → AllByRecursion (λ d. d < 10) ds → map (λ d. 48 + d) ds ≡ map (digit_glyph false) ds
glyphs_are [] h = refl
glyphs_are (d ∷ ds) h = let first = glyph_is d h.0 in let rest = glyphs_are ds h.1 in cc

digits_are : (n : ℕ) → AreDigits 10 n (digits_of 10 n)
digits_are n = record { below = all_below_base_digits_of 10 n (omega arith); sum = place_sum-digits_of 10 n (omega arith) }

pub decimal_is : (n : ℕ) → 0 < n → n < 2 ^ 64 → decimal n ≡ map (digit_glyph false) (digits_of 10 n)
decimal_is n some small = decimal-digits_of n some small ∙ glyphs_are (digits_of 10 n) (digits_are n).below

some_digits : (n : ℕ) → 0 < n → 1 ≤ length (digits_of 10 n)
some_digits n some = omega (arith, ap length (digits_of_step 10 n (omega arith) some), length_push (digits_of 10 (n / 10)) (n % 10))

pub least_digits_are : (n : ℕ) → 0 < n → AreLeastDigits 10 1 n (digits_of 10 n)
least_digits_are n some = record { digits = digits_are n; enough = some_digits n some; no_more = λ _. first_digits_of 10 n (omega arith) some }

pub width_read : (width : Option ℕ) → width ≢ Some 0 → is_above_limit width ≡ false → SpellsWidth (width_spelled width) width
width_read None h few = refl
width_read (Some zero) h few = absurd (h refl)
width_read (Some (suc n)) h few =
    let some : 0 < suc n = omega arith in
    (some, (digits_of 10 (suc n), least_digits_are (suc n) some, decimal_is (suc n) some (omega (arith, fits_le (suc n) few))))

pub precision_read : (precision : Option ℕ) → is_above_limit precision ≡ false → SpellsPrecision (precision_spelled precision) precision
precision_read None few = refl
precision_read (Some zero) few = (0 ∷ [], record { below = (omega arith, tt); sum = refl }, ap (λ t. 46 ∷ t) (decimal_digit 0 (omega arith)))
precision_read (Some (suc n)) few =
    (digits_of 10 (suc n), digits_are (suc n), ap (λ t. 46 ∷ t) (decimal_is (suc n) (omega arith) (omega (arith, fits_le (suc n) few))))

pub spelled_read : (s : Specification) → IsDefined s → Spells (spelling_of s) s
spelled_read s defined =
    let few = within s defined.allowed in
    record {
      flags = filter (has s.flags) all_flags;
      width = width_spelled s.width;
      precision = precision_spelled s.precision;
      flags_are = sym (set_kept s.flags);
      width_is = width_read s.width defined.width few.width;
      precision_is = precision_read s.precision few.precision;
      whole = refl;
    }
