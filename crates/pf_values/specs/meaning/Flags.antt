-- Sets of flags, and the byte of each flag.
use Prim.Native.Char.{code}
use Rattle.std.specs.Prelude.{ℕ, Bool, true, false, List, [], ◌∷◌, fold}
use Rattle.pf_values.specs.declared.flags.Flag.{Flag}
use Rattle.pf_values.specs.declared.flags.Flag.TheVariants.{Minus, Plus, Space, Alt, Zero, Group}
use Rattle.pf_values.specs.declared.flags.FlagSet.{FlagSet}

-- Whether the flag is given (C11 7.21.6.1 p4).
abbrev pub has : FlagSet → Flag → Bool
has flags Minus = flags.minus
has flags Plus = flags.plus
has flags Space = flags.space
has flags Alt = flags.alt
has flags Zero = flags.zero
has flags Group = flags.group

-- The empty set: flags may be missing (C11 7.21.6.1 p4).
abbrev pub no_flags : FlagSet
no_flags =
    record { minus = false; plus = false; space = false; alt = false; zero = false; group = false }

-- The set with one more flag. A flag that is given twice counts once (C11 7.21.6.1 p4).
abbrev pub with_flag : FlagSet → Flag → FlagSet
with_flag flags Minus = record flags { minus = true }
with_flag flags Plus = record flags { plus = true }
with_flag flags Space = record flags { space = true }
with_flag flags Alt = record flags { alt = true }
with_flag flags Zero = record flags { zero = true }
with_flag flags Group = record flags { group = true }

-- The set of a list of flags, which may be in any order and repeated (C11 7.21.6.1 p4).
abbrev pub flag_set : List Flag → FlagSet
flag_set flags = fold with_flag no_flags flags

-- The bytes of the flags: `-`, `+`, space, `#` and `0` (C11 7.21.6.1 p6), and `'` (POSIX fprintf).
abbrev pub flag_byte : Flag → ℕ
flag_byte Minus = code "-"
flag_byte Plus = code "+"
flag_byte Space = code " "
flag_byte Alt = code "#"
flag_byte Zero = code "0"
flag_byte Group = code "'"

-- The order in which `flags_spelled` writes flags. It is this project's choice.
abbrev pub all_flags : List Flag
all_flags = Minus ∷ Plus ∷ Space ∷ Alt ∷ Zero ∷ Group ∷ []
