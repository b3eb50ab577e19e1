-- The word that is printed for an argument is read as that argument.
use Rattle.std.proofs.Common.{ℕ, ◌<◌, ◌≤◌, ◌^◌, ℤ, pos, negsuc, neg_ℤ, ◌≤ℤ◌, ◌<ℤ◌, Bool, true, false, [], ◌∷◌, length, refl, ap, arith, zero, suc}
use Rattle.std.specs.Fmt.{decimal, digit_glyph}
use Rattle.std.specs.Int.Digits.{digits_of}
use Rattle.std.proofs.lemmas.Fmt.{decimal_digit, decimal_nonempty}
use Rattle.std.proofs.lemmas.Int.Digits.{all_below_base_digits_of, length-digits_of-le}
use Rattle.std.proofs.lemmas.Int.{ints}
use Rattle.std.proofs.lemmas.List.{length-map}
use Rattle.pf_values.specs.declared.models.Model.{Model}
use Rattle.pf_values.specs.declared.types.ArgType.TheVariants.{Int, UInt, Long, ULong, LongLong, ULongLong, Str}
use Rattle.pf_values.specs.meaning.Arguments.{Number, String}
use Rattle.pf_values.specs.meaning.DataModel.{Bits, FitsIn, bit_count}
use Rattle.pf_values.specs.TypeBits.{type_bits}
use Rattle.pf_values.proofs.Numerals.{place_sum-digits_of}
use Rattle.pf_render.proofs.DigitLemmas.{decimal_glyphs}
use Rattle.fmtcanon.specs.ArgumentWords.{SpellsArgument, SpellsMagnitude}
use Rattle.fmtcanon.specs.Comparisons.{PrintedWordIsRead}
use Rattle.pf_compare.specs.Words.{argument_word}

decimal_spells : (n : ℕ) → n < 2 ^ 64 → SpellsMagnitude (decimal n) n
decimal_spells zero h = record {
  digits = 0 ∷ [];
  are_digits = record { below = (omega arith, tt); sum = refl };
  some = omega arith;
  few = omega arith;
  whole = decimal_digit 0 (omega arith);
}
decimal_spells (suc n) h =
    let whole = decimal_glyphs false (suc n) (omega arith) h in
    record {
      digits = digits_of 10 (suc n);
      are_digits = record { below = all_below_base_digits_of 10 (suc n) (omega arith); sum = place_sum-digits_of 10 (suc n) (omega arith) };
      some = omega (arith, decimal_nonempty (suc n) h, ap length whole, length-map (digits_of 10 (suc n)) (digit_glyph false));
      few = length-digits_of-le 10 20 (suc n) (omega arith) (omega arith);
      whole = whole;
    }

-- at most 64 bits, its sign not counted
abbrev IsShort : ℤ → Type 0
IsShort (pos n) = n < 2 ^ 64
IsShort (negsuc n) = suc n < 2 ^ 64

number_spells : (n : ℤ) → IsShort n → SpellsArgument (argument_word (Number n)) (Number n)
number_spells (pos n) h = (
  _,
  record {
    is_negative = false;
    unsigned = decimal n;
    magnitude = n;
    spelled = decimal_spells n h;
    value = refl;
    whole = refl;
  },
  refl,
)
number_spells (negsuc n) h = (
  _,
  record {
    is_negative = true;
    unsigned = decimal (suc n);
    magnitude = suc n;
    spelled = decimal_spells (suc n) h;
    value = refl;
    whole = refl;
  },
  refl,
)

-- a number of any bits is that short
short_signed : (n : ℤ) (k : ℕ) → k ≤ 2 ^ 63 → (neg_ℤ (pos k) ≤ℤ n) × (n <ℤ pos k) → IsShort n
short_signed (pos n) k b h = omega (arith, ints, h.0, h.1)
short_signed (negsuc n) k b h = omega (arith, ints, h.0, h.1)

short_unsigned : (n : ℤ) (k : ℕ) → k ≤ 2 ^ 64 → (pos 0 ≤ℤ n) × (n <ℤ pos k) → IsShort n
short_unsigned (pos n) k b h = omega (arith, ints, h.0, h.1)
short_unsigned (negsuc n) k b h = absurd (omega (arith, ints, h.0))

short_of : (sign : Bool) (bits : Bits) (n : ℤ) → FitsIn sign (bit_count bits) n → IsShort n
short_of sign bits n h = grind (arith, short_signed, short_unsigned)

pub word_is_read : (model : Model) → PrintedWordIsRead model
word_is_read model (Number n) Int h = number_spells n (short_of true (type_bits model Int) n h)
word_is_read model (Number n) UInt h = number_spells n (short_of false (type_bits model UInt) n h)
word_is_read model (Number n) Long h = number_spells n (short_of true (type_bits model Long) n h)
word_is_read model (Number n) ULong h = number_spells n (short_of false (type_bits model ULong) n h)
word_is_read model (Number n) LongLong h = number_spells n (short_of true (type_bits model LongLong) n h)
word_is_read model (Number n) ULongLong h = number_spells n (short_of false (type_bits model ULongLong) n h)
word_is_read model (Number n) Str h = absurd h
word_is_read model (String bytes) Str h = (h, refl)
word_is_read model (String bytes) Int h = absurd h
word_is_read model (String bytes) UInt h = absurd h
word_is_read model (String bytes) Long h = absurd h
word_is_read model (String bytes) ULong h = absurd h
word_is_read model (String bytes) LongLong h = absurd h
word_is_read model (String bytes) ULongLong h = absurd h
