-- How many bytes a directive prints of a value, by the number of its digits. This project's own.
use Rattle.std.specs.Prelude.{ℕ, ◌+◌, ◌*◌, ◌^◌, max, ℤ, length}
use Rattle.pf_values.specs.meaning.Normal.{precision_of}
use Rattle.pf_values.specs.meaning.Printing.{sign_or_prefix}
use Rattle.pf_values.specs.meaning.Specification.{Specification, width_of}
use Rattle.pf_render.specs.Zeros.{fewest_digits}

-- the bytes of a value with this number of digits, in its field: the flag `0` fills the field and no more
abbrev pub field_len : Specification → ℤ → ℕ → ℕ
field_len s v count =
    max (width_of s) (length (sign_or_prefix s v) + max (precision_of s) (fewest_digits s count))

-- more bytes than an item prints, if they are bounded
abbrev pub item_limit : ℕ
item_limit = 2 ^ 18

-- more bytes than this number of items prints, if they are bounded
abbrev pub limit_of : ℕ → ℕ
limit_of count = item_limit * count
