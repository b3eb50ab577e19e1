-- Where and why a text is rejected. This is the project's own, except for the parts of a
-- specification: the standard leaves invalid ones undefined (C11 7.21.6.1 p9).
use Prim.Native.Char.{code}
use Rattle.std.specs.Prelude.{◌≡◌, ◌≢◌, ℕ, ◌<◌, ◌≤◌, false, List, [], ◌∷◌, ◌++◌, length, map, codes, Option, Some, Contains, ◌⊎◌, MatchBool, ◌==◌, ⊤}
use Rattle.pf_values.specs.declared.flags.Flag.{Flag}
use Rattle.pf_values.specs.declared.limits.TheConstants.{MAX_NUMBER, MAX_TEXT_LEN}
use Rattle.pf_values.specs.declared.refusals.RefusalKind.{RefusalKind}
use Rattle.pf_values.specs.declared.refusals.RefusalKind.TheVariants.{NulByte, Truncated, Unexpected, BadPercent, Star, Numbered, WidthTooLarge, PrecisionTooLarge, Float, Pointer, Count, Wide, TooLong}
use Rattle.pf_values.specs.meaning.Defined.{is_above_limit, first_broken, undefined_kinds}
use Rattle.pf_values.specs.meaning.Flags.{flag_byte}
use Rattle.pf_values.specs.meaning.Items.{Item, Reads, IsAccepted}
use Rattle.pf_values.specs.meaning.Specification.{Specification}
use Rattle.pf_values.specs.meaning.Spelling.{Spells, SpellsWidth, SpellsPrecision}
use Rattle.pf_values.specs.meaning.Text.{Text, dollar, percent, point, star}

-- No number is above the limit. An implementation must print up to 4,095 characters for one
-- conversion (C11 7.21.6.1 p15).
pub record IsWithinLimits (s : Specification) : Type 0 where
  pub width : is_above_limit s.width ≡ false
  pub precision : is_above_limit s.precision ≡ false

-- The beginning of `%%` or of a specification, but not the whole of it.
abbrev pub IsBegun : Text → Type 0
IsBegun part =
    (more : Text) × (s : Specification) × Spells (part ++ more) s × IsWithinLimits s × (more ≢ [])

-- The text is the text of `items`, followed by `part`.
pub record IsSplit (t : Text) (items : List Item) (part : Text) : Type 0 where
  pub whole : Text
  pub reads : Reads whole items
  pub split : t ≡ whole ++ part

-- A good front: whole items, and the beginning of one more.
pub record IsGoodFront (front : Text) (items : List Item) (part : Text) : Type 0 where
  pub splits : IsSplit front items part
  pub begun : IsBegun part

-- `%` and flags (C11 7.21.6.1 p4).
abbrev pub flags_text : List Flag → Text
flags_text flags = percent ∷ map flag_byte flags

-- `%`, flags and a width, if there is one (C11 7.21.6.1 p4).
pub record IsToWidth (part : Text) (width : Option ℕ) : Type 0 where
  pub flags : List Flag
  pub digits : Text
  pub digits_are : SpellsWidth digits width
  pub whole : part ≡ flags_text flags ++ digits

-- `%`, flags, a width and a precision, if there are any (C11 7.21.6.1 p4).
pub record IsToPrecision (part : Text) (precision : Option ℕ) : Type 0 where
  pub width : Option ℕ
  pub before : Text
  pub digits : Text
  pub before_is : IsToWidth before width
  pub digits_are : SpellsPrecision digits precision
  pub whole : part ≡ before ++ digits

-- The byte completes a specification that isn't defined (C11 7.21.6.1 p4 to p9), and this is the
-- first reason.
abbrev pub EndsUndefined : Text → ℕ → RefusalKind → Type 0
EndsUndefined part byte kind =
    (s : Specification) × Spells (part ++ byte ∷ []) s
    × (first_broken undefined_kinds s ≡ Some kind)

-- The conversions that are rejected wherever they come (C11 7.21.6.1 p8; `C` and `S`: POSIX
-- fprintf).
abbrev pub letters_of : RefusalKind → Text
letters_of Float = codes "aAeEfFgG"
letters_of Pointer = codes "p"
letters_of Count = codes "n"
letters_of Wide = codes "CS"
letters_of _ = []

-- `L`, which modifies only floating conversions (C11 7.21.6.1 p7).
abbrev pub long_double_letter : ℕ
long_double_letter = code "L"

-- A length modifier may begin after the part (C11 7.21.6.1 p4).
abbrev pub TakesModifier : Text → Type 0
TakesModifier part = (precision : Option ℕ) × IsToPrecision part precision

-- A width or a precision may begin after the part, so `*` may follow (C11 7.21.6.1 p5).
abbrev pub TakesStar : Text → Type 0
TakesStar part = ((flags : List Flag) × (part ≡ flags_text flags)) ⊎ (
    (before : Text) × (width : Option ℕ) × IsToWidth before width
    × (part ≡ before ++ point ∷ []))

-- The reason for each kind. `part` is the beginning of an item, and `byte` follows it. POSIX
-- fprintf defines `$` after a number.
abbrev pub HasReason : Text → ℕ → RefusalKind → Type 0
HasReason part byte NulByte = byte ≡ 0
HasReason part byte BadPercent = byte ≡ percent
HasReason part byte WidthTooLarge =
    (n : ℕ) × (MAX_NUMBER < n) × IsToWidth (part ++ byte ∷ []) (Some n)
HasReason part byte PrecisionTooLarge =
    (n : ℕ) × (MAX_NUMBER < n) × IsToPrecision (part ++ byte ∷ []) (Some n)
HasReason part byte Float =
    Contains (letters_of Float) byte ⊎ ((byte ≡ long_double_letter) × TakesModifier part)
HasReason part byte Star = (byte ≡ star) × TakesStar part
HasReason part byte Numbered = (byte ≡ dollar) × (n : ℕ) × IsToWidth part (Some n)
HasReason part byte Truncated = ⊥
HasReason part byte TooLong = ⊥
HasReason part byte Unexpected = ⊤
HasReason part byte kind = Contains (letters_of kind) byte ⊎ EndsUndefined part byte kind

-- The kind has its reason, and no other kind has one. Unexpected is for bytes that no other kind
-- explains.
pub record IsRefusedByte (part : Text) (byte : ℕ) (kind : RefusalKind) : Type 0 where
  pub reason : HasReason part byte kind
  pub others : (other : RefusalKind) → HasReason part byte other
      → (other ≡ kind) ⊎ (other ≡ Unexpected)

-- Why a text is rejected after its longest good front. That front has `at` bytes and ends with
-- `part`, the beginning of an item. `rest` follows it.
abbrev pub HasCause : ℕ → Text → Text → RefusalKind → Type 0
HasCause at part [] kind = kind ≡ Truncated
HasCause at part (byte ∷ rest) kind =
    MatchBool (at == MAX_TEXT_LEN) (kind ≡ TooLong) (IsRefusedByte part byte kind)

-- The text isn't accepted. Its longest good front within the limit has `at` bytes, and the kind
-- says why no longer one is good.
pub record IsRefusedAt (t : Text) (kind : RefusalKind) (at : ℕ) : Type 0 where
  pub not_accepted : ¬ IsAccepted t
  pub front : Text
  pub items : List Item
  pub part : Text
  pub rest : Text
  pub split : t ≡ front ++ rest
  pub offset : at ≡ length front
  pub limit : at ≤ MAX_TEXT_LEN
  pub good : IsGoodFront front items part
  pub longest : (more after : Text) (items : List Item) (part : Text) → rest ≡ more ++ after
      → length (front ++ more) ≤ MAX_TEXT_LEN → IsGoodFront (front ++ more) items part → more ≡ []
  pub cause : HasCause at part rest kind
