-- The sign of a number.
use Rattle.std.specs.Prelude.{if◌then◌else◌, zero, suc, Bool, true, false, ℕ, [], codes}
use Rattle.pf_values.specs.declared.flags.Flag.TheVariants.{Plus, Space}
use Rattle.pf_values.specs.declared.flags.FlagSet.{FlagSet}
use Rattle.pf_values.specs.meaning.Flags.{has, no_flags, with_flag}
use Rattle.pf_values.specs.meaning.Text.{Text}
use Rattle.pf_reduce.specs.declared.signs.Sign.{Sign}
use Rattle.pf_reduce.specs.declared.signs.Sign.TheVariants as signs

-- what the flags ask for; under `+` the space is ignored (C11 7.21.6.1 p6)
abbrev pub sign_of : FlagSet → Sign
sign_of flags =
    if has flags Plus then signs.Plus else (if has flags Space then signs.Space else signs.None)

-- the one flag that asks for it (C11 7.21.6.1 p6)
abbrev pub sign_flags : Sign → FlagSet
sign_flags signs.None = no_flags
sign_flags signs.Plus = with_flag no_flags Plus
sign_flags signs.Space = with_flag no_flags Space

-- how many bytes it has before a number that is not negative
abbrev pub sign_length : Sign → ℕ
sign_length signs.None = 0
sign_length signs.Plus = 1
sign_length signs.Space = 1

-- what comes before a number that is negative, or is not (C11 7.21.6.1 p6)
abbrev pub sign_text : Sign → Bool → Text
sign_text sign true = codes "-"
sign_text signs.None false = []
sign_text signs.Plus false = codes "+"
sign_text signs.Space false = codes " "

-- The largest width at which the side makes no visible difference to a number: with precision 0 it prints only spaces,
-- or at least `least` bytes, and otherwise it fills such a width.
abbrev pub unseen_width : ℕ → ℕ → ℕ
unseen_width zero least = least
unseen_width (suc precision) least = 0

-- that of a number with a sign; with precision 0 the value 0 prints its `+`, if it has one
abbrev pub unseen_signed_width : ℕ → Sign → ℕ
unseen_signed_width precision signs.None = unseen_width precision 1
unseen_signed_width precision signs.Plus = 0
unseen_signed_width precision signs.Space = unseen_width precision 2
