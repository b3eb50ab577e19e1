-- Arguments that tell canonical texts apart. This project's own: the standard doesn't compare
-- formats.
use Rattle.std.specs.Prelude.{◌≡◌, ℕ, ◌-◌, ◌^◌, pos, negsuc, List, [], ◌∷◌, map, replicate, Some, slice_get, slice_set, Contains, ◌⊎◌}
use Rattle.pf_values.specs.declared.models.Model.{Model}
use Rattle.pf_values.specs.declared.types.ArgType.{ArgType}
use Rattle.pf_values.specs.declared.types.ArgType.TheVariants.{Int, UInt, Long, ULong, LongLong, ULongLong, Str}
use Rattle.pf_values.specs.meaning.Arguments.{Argument, Number, String}
use Rattle.pf_values.specs.meaning.DataModel.{Bits, bit_count}
use Rattle.pf_values.specs.TypeBits.{type_bits}

-- the largest number of `bits` bits, and 3, which tells base two from the others
abbrev pub unsigned_candidates : Bits → List Argument
unsigned_candidates bits =
    map Number (pos 0 ∷ pos 1 ∷ pos 2 ∷ pos (2 ^ bit_count bits - 1) ∷ pos 3 ∷ [])

-- the smallest and the largest number of `bits` bits last
abbrev pub signed_candidates : Bits → List Argument
signed_candidates bits = map Number (pos 0 ∷ pos 1 ∷ negsuc 0
    ∷ negsuc (2 ^ (bit_count bits - 1) - 1) ∷ pos (2 ^ (bit_count bits - 1) - 1) ∷ [])

-- The neutral argument first. An int may be converted to 8, 16 or 32 bits, so it has the ends of
-- each. A string is nothing, `A`, or too long for any precision.
abbrev pub candidates : Model → ArgType → List Argument
candidates model Int = map Number (pos 0 ∷ pos 1 ∷ pos 2 ∷ pos 257 ∷ pos 129 ∷ pos 32769
    ∷ negsuc 0 ∷ negsuc 126 ∷ negsuc 32766 ∷ negsuc 2147483646
    ∷ negsuc 127 ∷ negsuc 32767 ∷ negsuc 2147483647
    ∷ pos 127 ∷ pos 32767 ∷ pos 2147483647 ∷ pos 3 ∷ [])
candidates model UInt = unsigned_candidates (type_bits model UInt)
candidates model ULong = unsigned_candidates (type_bits model ULong)
candidates model ULongLong = unsigned_candidates (type_bits model ULongLong)
candidates model Long = signed_candidates (type_bits model Long)
candidates model LongLong = signed_candidates (type_bits model LongLong)
candidates model Str = map String ([] ∷ (65 ∷ []) ∷ replicate 4096 65 ∷ replicate 4096 66 ∷ [])

-- 0, and the empty string
abbrev pub neutral : ArgType → Argument
neutral Str = String []
neutral _ = Number (pos 0)

-- a list of arguments that are all neutral
abbrev pub neutrals : List ArgType → List Argument
neutrals types = map neutral types

-- all are neutral, or all but one, which is a candidate of its type
abbrev pub IsProbe : Model → List ArgType → List Argument → Type 0
IsProbe model types args = (args ≡ neutrals types) ⊎ (
    (i : ℕ) × (type : ArgType) × (argument : Argument) × (slice_get types i ≡ Some type)
    × Contains (candidates model type) argument × (args ≡ slice_set (neutrals types) i argument))
