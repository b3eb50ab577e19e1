-- The calls of `Directive`: what they make and return in addition to its parts.
use Rattle.std.specs.Prelude.{ℕ, zero, ◌-◌, max, Option, Some, None, if◌then◌else◌}
use Rattle.pf_values.specs.declared.conversions.Conv.{Conv}
use Rattle.pf_values.specs.declared.flags.FlagSet.{FlagSet}
use Rattle.pf_values.specs.declared.lengths.Length.{Length}
use Rattle.pf_values.specs.declared.models.Model.{Model}
use Rattle.pf_values.specs.meaning.Conversions.{is_text}
use Rattle.pf_values.specs.meaning.DataModel.{bit_count, bits_under}
use Rattle.pf_values.specs.meaning.Normal.{precision_of}
use Rattle.pf_values.specs.meaning.Printing.{is_zero_filled}
use Rattle.pf_values.specs.meaning.Specification.{Specification, width_of}

-- a width of 0 counts as no width
abbrev pub width_given : Option ℕ → Option ℕ
width_given (Some zero) = None
width_given o = o

-- the specification of these parts
abbrev pub specification_of : FlagSet → Option ℕ → Option ℕ → Length → Conv → Specification
specification_of flags width precision length conv =
    record {
      flags = flags;
      width = width_given width;
      precision = precision;
      length = length;
      conv = conv;
    }

-- the bits of the value that a directive prints; a byte and a string have none
abbrev pub value_bits : Model → Specification → ℕ
value_bits model s = if is_text s.conv then 0 else bit_count (bits_under model s.length)

-- The precision of an integer after a sign or prefix of `front` bytes. The flag `0` makes it what
-- is left of the width (C11 7.21.6.1 p6).
abbrev pub effective_precision : Specification → ℕ → ℕ
effective_precision s front =
    if is_zero_filled s then max (width_of s - front) 1 else precision_of s
