-- How many bytes a directive prints of a number at least and at most.
use Rattle.std.proofs.Common.{◌≡◌, ℕ, Bool, true, false, length, refl, sym, ap, ◌∙◌, arith, ℤ, pos, negsuc}
use Rattle.std.specs.Prelude.{Some, nat_abs, IsFalse}
use Rattle.std.proofs.lemmas.Int.{ints}
use Rattle.pf_values.specs.declared.conversions.Kind.{Kind}
use Rattle.pf_values.specs.declared.conversions.Kind.TheVariants as kinds
use Rattle.pf_values.specs.declared.models.Model.{Model}
use Rattle.pf_values.specs.meaning.Arguments.{Argument, Number, String}
use Rattle.pf_values.specs.meaning.Bits.{Bits, B8, B16, B32, B64, bit_count}
use Rattle.pf_values.specs.meaning.Conversions.{base_of, is_signed, is_text, kind_of, prints_text}
use Rattle.pf_values.specs.meaning.DataModel.{FitsIn, bits_under}
use Rattle.pf_values.specs.meaning.Normal.{digits_at_most}
use Rattle.pf_values.specs.meaning.Printing.{PrintsKind, PrintsNumber, field}
use Rattle.pf_values.specs.meaning.Specification.{Specification}
use Rattle.pf_values.specs.meaning.Text.{Text}
use Rattle.pf_values.proofs.Counts.{count-le}
use Rattle.pf_values.proofs.Printed.{count_of}
use Rattle.pf_values.proofs.PrintsOnce.{PrintsNumber-is, PrintsNumber-value, value_text}
use Rattle.pf_bounds.specs.Bounds.{AreBoundsOf, CanPrint}
use Rattle.pf_bounds.specs.FieldLengths.{field_len}
use Rattle.pf_bounds.proofs.Extremes.{converted_itself, extreme, extreme_count, extreme_fits, extreme_front, value_typed}
use Rattle.pf_bounds.proofs.Lengths.{fewest_bytes, length-value, more_bytes, most_bytes}

of_number : (model : Model) (k : Kind) (s : Specification) (a : ℤ) (body : Text) → IsFalse (prints_text k)
    → PrintsNumber model s a body → PrintsKind model k s (Number a) body
of_number model kinds.Signed s a body e h = h
of_number model (kinds.Unsigned base capitals) s a body e h = h
of_number model kinds.Char s a body e h = cc
of_number model kinds.String s a body e h = cc

-- what is printed is printed of a number
abbrev HasNumber : Model → Specification → Text → Type 0
HasNumber model s body = (n : ℤ) × PrintsNumber model s n body

number_of_body : (model : Model) (k : Kind) (s : Specification) (argument : Argument) (body : Text) → IsFalse (prints_text k)
    → PrintsKind model k s argument body → HasNumber model s body
number_of_body model kinds.Signed s (Number n) body e h = (n, h)
number_of_body model kinds.Signed s (String bytes) body e h = absurd h
number_of_body model (kinds.Unsigned base capitals) s (Number n) body e h = (n, h)
number_of_body model (kinds.Unsigned base capitals) s (String bytes) body e h = absurd h
number_of_body model kinds.Char s argument body e h = cc
number_of_body model kinds.String s argument body e h = cc

zero_fits : (signed : Bool) (bits : Bits) → FitsIn signed (bit_count bits) (pos 0)
zero_fits true B8 = (omega (arith, ints), omega (arith, ints))
zero_fits true B16 = (omega (arith, ints), omega (arith, ints))
zero_fits true B32 = (omega (arith, ints), omega (arith, ints))
zero_fits true B64 = (omega (arith, ints), omega (arith, ints))
zero_fits false B8 = (omega (arith, ints), omega (arith, ints))
zero_fits false B16 = (omega (arith, ints), omega (arith, ints))
zero_fits false B32 = (omega (arith, ints), omega (arith, ints))
zero_fits false B64 = (omega (arith, ints), omega (arith, ints))

module _ (model : Model) (s : Specification) (number : IsFalse (is_text s.conv)) where
  printed_value : (v : ℤ) → FitsIn (is_signed s.conv) (bit_count (bits_under model s.length)) v → CanPrint model s (field s (value_text s v))
  printed_value v h =
      record {
        argument = Number v;
        typed = value_typed model (kind_of s.conv) s.length v number h;
        prints = (
          value_text s v,
          of_number model (kind_of s.conv) s v (value_text s v) number
              (PrintsNumber-value model s v v (converted_itself (is_signed s.conv) (bits_under model s.length) v h)),
          refl,
        );
      }

  value_printed : (out : Text) → CanPrint model s out
      → (v : ℤ) × FitsIn (is_signed s.conv) (bit_count (bits_under model s.length)) v × (out ≡ field s (value_text s v))
  value_printed out h =
      let p = h.prints in
      let n = number_of_body model (kind_of s.conv) s h.argument p.0 number p.1 in
      (n.1.value, n.1.value_is.fits, p.2 ∙ ap (field s) (PrintsNumber-is model s n.0 p.0 n.1))

  abbrev longest_value : ℤ
  longest_value = extreme (is_signed s.conv) (bits_under model s.length)

  longest_length : length (field s (value_text s longest_value)) ≡ field_len s (negsuc 0) (digits_at_most model s)
  longest_length =
      let fits = extreme_fits (is_signed s.conv) (bits_under model s.length) in
      let few = count-le s.conv (bits_under model s.length) number longest_value fits in
      let many = extreme_count (kind_of s.conv) (bits_under model s.length) number in
      let count : count_of (base_of s.conv) (nat_abs longest_value) ≡ digits_at_most model s = omega (arith, few, many) in
      let front = ap length (extreme_front (kind_of s.conv) (bits_under model s.length) s) in
      let below = most_bytes s longest_value (digits_at_most model s) few in
      let above = more_bytes s (negsuc 0) longest_value (digits_at_most model s) (count_of (base_of s.conv) (nat_abs longest_value))
      (omega (arith, front)) (omega (arith, count)) in
      omega (arith, below, above, length-value s longest_value)

  shortest_length : length (field s (value_text s (pos 0))) ≡ field_len s (pos 0) 0
  shortest_length = length-value s (pos 0)

  pub number_bounds : (least greatest : ℕ) → least ≡ field_len s (pos 0) 0 → greatest ≡ field_len s (negsuc 0) (digits_at_most model s)
      → AreBoundsOf (CanPrint model s) least (Some greatest)
  number_bounds least greatest e f =
      record {
        at_least = λ out h. let v = value_printed out h in omega (arith, e, fewest_bytes s v.0, ap length v.2);
        reached = (
          field s (value_text s (pos 0)),
          printed_value (pos 0) (zero_fits (is_signed s.conv) (bits_under model s.length)),
          shortest_length ∙ sym e,
        );
        most = (
          λ out h. let v = value_printed out h in
              let few = count-le s.conv (bits_under model s.length) number v.0 v.1 in
              omega (arith, f, most_bytes s v.0 (digits_at_most model s) few, ap length v.2),
          (
            field s (value_text s longest_value),
            printed_value longest_value (extreme_fits (is_signed s.conv) (bits_under model s.length)),
            longest_length ∙ sym f,
          ),
        );
      }
