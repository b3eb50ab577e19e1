-- How many bits an integer has.
use Rattle.std.specs.Prelude.{ℕ}

pub data Bits : Type 0 where
  B8 B16 B32 B64 : Bits

abbrev pub bit_count : Bits → ℕ
bit_count B8 = 8
bit_count B16 = 16
bit_count B32 = 32
bit_count B64 = 64

-- Chooses one of four values by the number of bits.
abbrev pub by_bits : {A : Type 0} → Bits → A → A → A → A → A
by_bits B8 a b c d = a
by_bits B16 a b c d = b
by_bits B32 a b c d = c
by_bits B64 a b c d = d
