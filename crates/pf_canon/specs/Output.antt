-- What one item settles, and the bytes of it that are still to be given. This project's own.
use Rattle.std.specs.Prelude.{◌≡◌, ℕ, [], ◌∷◌, ◌++◌, replicate, flat_map, drop, Option, Some, None}
use Rattle.pf_values.specs.meaning.Canonical.{item_spelling}
use Rattle.pf_values.specs.meaning.Text.{Text, space, zero_digit}
use Rattle.pf_text.specs.CanonicalRuns.{silents}
use Rattle.pf_canon.specs.declared.output.SettledText.{SettledText}
use Rattle.pf_canon.specs.declared.output.PendingOutput.{PendingOutput}
use Rattle.pf_canon.specs.declared.output.PendingOutput.TheVariants as pending

-- spaces, zeros, silent directives, other bytes, and spaces
abbrev pub in_order : Text → Text → Text → Text → Text → Text
in_order spaces zeros silents bytes trail = spaces ++ (zeros ++ (silents ++ (bytes ++ trail)))

-- the bytes of an output by its counts, with the bytes of a spelling
abbrev pub whole_text : ℕ → ℕ → ℕ → Text → ℕ → Text
whole_text spaces zeros count bytes trail = in_order
    (replicate spaces space) (replicate zeros zero_digit)
    (flat_map item_spelling (silents count)) bytes (replicate trail space)

-- the bytes of an output
abbrev pub output_text : SettledText → Text
output_text p = whole_text p.spaces p.zeros p.silents p.spelling.items p.trail

-- the bytes of an output after the spaces and zeros at its front
abbrev pub text_after_zeros : SettledText → Text
text_after_zeros p =
    flat_map item_spelling (silents p.silents) ++ (p.spelling.items ++ replicate p.trail space)

-- `%.0s`
abbrev pub silent_bytes : Text
silent_bytes = 37 ∷ 46 ∷ 48 ∷ 115 ∷ []

-- the first bytes of a text, some if there are any
pub record IsFrontOf (t front : Text) : Type 0 where
  pub behind : Text
  pub whole : t ≡ front ++ behind
  pub some : front ≡ [] → t ≡ []

-- the first byte of a text was taken off, or there is none
abbrev pub Pops : Text → Option ℕ → Text → Type 0
Pops t None rest = (t ≡ []) × (rest ≡ [])
Pops t (Some byte) rest = t ≡ byte ∷ rest

-- what is still to be given
abbrev pub pending_text : PendingOutput → Text
pending_text pending.Nothing = []
pending_text (pending.Literal byte) = byte ∷ []
pending_text (pending.Output output given) = drop given (output_text output)
