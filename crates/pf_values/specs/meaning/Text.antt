-- Texts.
use Prim.Native.Char.{code}
use Rattle.std.specs.Prelude.{ℕ, List}

-- A finite list of bytes, each a natural number. In the POSIX locale each byte of a format is a
-- character (C11 7.21.6.1 p3). The bytes of a running program are below 256.
abbrev pub Text : Type 0
Text = List ℕ

-- `%`, which begins a specification (C11 7.21.6.1 p4).
abbrev pub percent : ℕ
percent = code "%"

-- `.`, which begins a precision (C11 7.21.6.1 p4).
abbrev pub point : ℕ
point = code "."

-- `*`, a width or a precision that is an argument (C11 7.21.6.1 p5).
abbrev pub star : ℕ
star = code "*"

-- `$`, which follows the number of an argument (POSIX fprintf).
abbrev pub dollar : ℕ
dollar = code "$"

-- The space that pads a field (C11 7.21.6.1 p4).
abbrev pub space : ℕ
space = code " "

-- The digit 0, with which the flag `0` fills a field (C11 7.21.6.1 p6).
abbrev pub zero_digit : ℕ
zero_digit = code "0"
