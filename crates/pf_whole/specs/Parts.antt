-- The parts that a conversion specification can be without.
use Rattle.std.specs.Prelude.{◌&&◌, Bool, true, false, is_some, not, Option, None, if◌then◌else◌, List, [], ◌∷◌}
use Rattle.pf_values.specs.declared.flags.Flag.TheVariants.{Minus, Plus, Space, Alt, Zero, Group}
use Rattle.pf_values.specs.declared.flags.FlagSet.{FlagSet}
use Rattle.pf_values.specs.declared.lengths.Length.TheVariants as lengths
use Rattle.pf_values.specs.meaning.Flags.{has, no_flags, with_flag}
use Rattle.pf_posix.specs.declared.conversions.WholeLength.{WholeLength}
use Rattle.pf_posix.specs.declared.conversions.WholeLength.TheVariants.{Integer, LongDouble}
use Rattle.pf_posix.specs.Specifications.{WholeSpecification}
use Rattle.pf_whole.specs.declared.parts.Part.{Part}
use Rattle.pf_whole.specs.declared.parts.Part.TheVariants.{Flag, Width, Precision, Modifier as TheModifier}
use Rattle.pf_whole.specs.declared.parts.PartSet.{PartSet}

-- a set has a part
abbrev pub has_part : PartSet → Part → Bool
has_part set (Flag flag) = has set.flags flag
has_part set Width = set.width
has_part set Precision = set.precision
has_part set TheModifier = set.modifier

-- no part
abbrev pub no_parts : PartSet
no_parts = record { flags = no_flags; width = false; precision = false; modifier = false }

-- a set with one part more
abbrev pub with_part : PartSet → Part → PartSet
with_part set (Flag flag) = record set { flags = with_flag set.flags flag }
with_part set Width = record set { width = true }
with_part set Precision = record set { precision = true }
with_part set TheModifier = record set { modifier = true }

-- one part alone
abbrev pub only : Part → PartSet
only part = with_part no_parts part

-- each part once, in the order in which they are asked
abbrev pub all_parts : List Part
all_parts =
    Flag Minus ∷ Flag Plus ∷ Flag Space ∷ Flag Alt ∷ Flag Zero ∷ Flag Group ∷ Width ∷ Precision
    ∷ TheModifier ∷ []

abbrev pub is_modifier : WholeLength → Bool
is_modifier (Integer lengths.None) = false
is_modifier (Integer _) = true
is_modifier LongDouble = true

-- the flags, the width, the precision and the length modifier that a specification has (C11 7.21.6.1 p4)
abbrev pub given_parts : WholeSpecification → PartSet
given_parts s = record {
  flags = s.flags;
  width = is_some s.width;
  precision = is_some s.precision;
  modifier = is_modifier s.modifier;
}

-- flags without others
abbrev pub without_flags : FlagSet → FlagSet → FlagSet
without_flags flags others = record {
  minus = flags.minus && not others.minus;
  plus = flags.plus && not others.plus;
  space = flags.space && not others.space;
  alt = flags.alt && not others.alt;
  zero = flags.zero && not others.zero;
  group = flags.group && not others.group;
}

abbrev pub left_out : {X : Type 0} → Bool → Option X → Option X
left_out true part = None
left_out false part = part

-- a specification without these parts. Of a flag that is there twice, both are left out.
abbrev pub without : WholeSpecification → PartSet → WholeSpecification
without s set = record s {
  flags = without_flags s.flags set.flags;
  width = left_out set.width s.width;
  precision = left_out set.precision s.precision;
  modifier = if set.modifier then Integer lengths.None else s.modifier;
}
