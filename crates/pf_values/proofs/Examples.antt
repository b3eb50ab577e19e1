-- Examples of the definitions. Each of them computes. docs/DEFINITIONS.md goes through them.
use Rattle.std.proofs.Common.{◌≡◌, ℕ, ◌^◌, List, [], ◌∷◌, codes, refl, Option, Some, None, length, pos, negsuc}
use Rattle.std.specs.Fmt.{digits}
use Rattle.pf_values.specs.declared.conversions.Conv.{Conv}
use Rattle.pf_values.specs.declared.conversions.Conv.TheVariants.{D, O, X, B, C, S}
use Rattle.pf_values.specs.declared.flags.Flag.{Flag}
use Rattle.pf_values.specs.declared.flags.Flag.TheVariants.{Minus, Plus, Space, Alt, Zero, Group}
use Rattle.pf_values.specs.declared.lengths.Length.{Length}
use Rattle.pf_values.specs.declared.lengths.Length.TheVariants as lengths
use Rattle.pf_values.specs.declared.limits.TheConstants.{MAX_NUMBER, MAX_TEXT_LEN}
use Rattle.pf_values.specs.declared.models.Model.{Model}
use Rattle.pf_values.specs.declared.refusals.RefusalKind.TheVariants.{WidthTooLarge, Wide, AltUndefined, ZeroUndefined, GroupUndefined, PrecisionUndefined}
use Rattle.pf_values.specs.declared.refusals.RefusalKind.TheVariants.{LengthUndefined}
use Rattle.pf_values.specs.meaning.Arguments.{Number, String}
use Rattle.pf_values.specs.meaning.Defined.{refused_as}
use Rattle.pf_values.specs.meaning.Flags.{flag_set}
use Rattle.pf_values.specs.meaning.Specification.{Specification}
use Rattle.pf_values.specs.meaning.Spelling.{spelling_of}
use Rattle.pf_values.proofs.PrintsOnce.{printed_text}

abbrev spec : List Flag → Option ℕ → Option ℕ → Length → Conv → Specification
spec flags width precision length conv = record { flags = flag_set flags; width = width; precision = precision; length = length; conv = conv }

-- the limits
max_number : MAX_NUMBER ≡ 4095
max_number = refl

max_text_len : MAX_TEXT_LEN ≡ 2 ^ 62
max_text_len = refl

-- `%05d` prints -42 as `-0042`
zeros_behind_the_sign : (model : Model) → printed_text model (spec (Zero ∷ []) (Some 5) None lengths.None D) (Number (negsuc 41)) ≡ codes "-0042"
zeros_behind_the_sign model = refl

-- `%#o` prints 0 as `0`, and 8 as `010`
octal_zero : (model : Model) → printed_text model (spec (Alt ∷ []) None None lengths.None O) (Number (pos 0)) ≡ codes "0"
octal_zero model = refl

octal_eight : (model : Model) → printed_text model (spec (Alt ∷ []) None None lengths.None O) (Number (pos 8)) ≡ codes "010"
octal_eight model = refl

-- `%+.0d` prints 0 as `+`
sign_without_digits : (model : Model) → printed_text model (spec (Plus ∷ []) None (Some 0) lengths.None D) (Number (pos 0)) ≡ codes "+"
sign_without_digits model = refl

-- `%#06x` prints 255 as `0x00ff`, and 0 without a prefix
zeros_behind_the_prefix : (model : Model) → printed_text model (spec (Alt ∷ Zero ∷ []) (Some 6) None lengths.None X) (Number (pos 255)) ≡ codes "0x00ff"
zeros_behind_the_prefix model = refl

no_prefix_at_zero : (model : Model) → printed_text model (spec (Alt ∷ Zero ∷ []) (Some 6) None lengths.None X) (Number (pos 0)) ≡ codes "000000"
no_prefix_at_zero model = refl

-- `%#010b` prints 5 as `0b00000101`, and `%hhb` -1 as eight ones
binary_behind_the_prefix : (model : Model) → printed_text model (spec (Alt ∷ Zero ∷ []) (Some 10) None lengths.None B) (Number (pos 5)) ≡ codes "0b00000101"
binary_behind_the_prefix model = refl

ones_of_a_byte : (model : Model) → printed_text model (spec [] None None lengths.Hh B) (Number (negsuc 0)) ≡ codes "11111111"
ones_of_a_byte model = refl

-- `%hhd` prints 300 as `44`, and 128 as `-128`
value_in_range : (model : Model) → printed_text model (spec [] None None lengths.Hh D) (Number (pos 300)) ≡ codes "44"
value_in_range model = refl

value_wrapped : (model : Model) → printed_text model (spec [] None None lengths.Hh D) (Number (pos 128)) ≡ codes "-128"
value_wrapped model = refl

-- `%-5c` prints 65 as `A` and four spaces, `%3c` two spaces and `A`
char_on_the_left : (model : Model) → printed_text model (spec (Minus ∷ []) (Some 5) None lengths.None C) (Number (pos 65)) ≡ codes "A    "
char_on_the_left model = refl

char_on_the_right : (model : Model) → printed_text model (spec [] (Some 3) None lengths.None C) (Number (pos 321)) ≡ codes "  A"
char_on_the_right model = refl

-- `%.3s` prints `abcdef` as `abc`, and `%5.2s` as `   ab`
string_cut : (model : Model) → printed_text model (spec [] None (Some 3) lengths.None S) (String (codes "abcdef")) ≡ codes "abc"
string_cut model = refl

string_in_a_field : (model : Model) → printed_text model (spec [] (Some 5) (Some 2) lengths.None S) (String (codes "abcdef")) ≡ codes "   ab"
string_in_a_field model = refl

-- a longest spelling of a directive has 18 bytes
abbrev longest_defined : Specification
longest_defined = spec (Minus ∷ Plus ∷ Space ∷ Zero ∷ Group ∷ []) (Some 4095) (Some 4095) lengths.Ll D

spelling_of_18_bytes : spelling_of longest_defined ≡ codes "%-+ 0'4095.4095lld"
unfolding digits
spelling_of_18_bytes = refl

its_length : length (spelling_of longest_defined) ≡ 18
unfolding digits
its_length = refl

-- `%4096d`, `%#d`, `%0s`, `%'x`, `%.3c`, `%hs` and `%lc` are not defined
width_too_large : refused_as (spec [] (Some 4096) None lengths.None D) ≡ Some WidthTooLarge
width_too_large = refl

no_alternative_form : refused_as (spec (Alt ∷ []) None None lengths.None D) ≡ Some AltUndefined
no_alternative_form = refl

zeros_before_a_string : refused_as (spec (Zero ∷ []) None None lengths.None S) ≡ Some ZeroUndefined
zeros_before_a_string = refl

no_thousands : refused_as (spec (Group ∷ []) None None lengths.None X) ≡ Some GroupUndefined
no_thousands = refl

char_with_precision : refused_as (spec [] None (Some 3) lengths.None C) ≡ Some PrecisionUndefined
char_with_precision = refl

short_string : refused_as (spec [] None None lengths.H S) ≡ Some LengthUndefined
short_string = refl

wide_char : refused_as (spec [] None None lengths.L C) ≡ Some Wide
wide_char = refl

-- the smallest number counts: `%#lc` is wide
least_number : refused_as (spec (Alt ∷ []) None None lengths.L C) ≡ Some Wide
least_number = refl
