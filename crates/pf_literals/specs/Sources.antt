-- String literals of C source, and the bytes that they denote.
use Rattle.std.specs.Prelude.{◌≡◌, ◌≢◌, ℕ, ◌+◌, true, Bool, ◌||◌, ◌==◌, List, [], ◌∷◌, ◌++◌, length, map, flat_map}
use Rattle.std.specs.List.{AllByRecursion}
use Rattle.pf_literals.specs.Elements.{AreElements, Bytes, Element, quote, value, written}

-- A space, a tab, a newline, a vertical tab, a form feed or a carriage return (C11 6.4 p3). A
-- carriage return is the first half of an end of a line in some files.
abbrev pub is_white : ℕ → Bool
is_white byte =
    byte == 32 || byte == 9 || byte == 10 || byte == 11 || byte == 12 || byte == 13

-- bytes of white space
abbrev pub AreWhite : Bytes → Type 0
AreWhite bytes = AllByRecursion (λ byte. is_white byte ≡ true) bytes

-- a string literal, by its elements, and the white space after it
pub record StringLiteral : Type 0 where
  pub elements : List Element
  pub behind : Bytes

-- how it is written (C11 6.4.5 p1)
abbrev pub literal_text : StringLiteral → Bytes
literal_text l = quote ∷ flat_map written l.elements ++ quote ∷ l.behind

-- A literal, whose elements end where it ends, and white space.
abbrev pub IsStringLiteral : StringLiteral → Type 0
IsStringLiteral l = AreElements l.elements (quote ∷ []) × AreWhite l.behind

-- One or more literals, with white space or none before, between and after them. Literals side by
-- side are one string (C11 6.4.5 p5).
pub record IsSource (t : Bytes) (literals : List StringLiteral) : Type 0 where
  pub front : Bytes
  pub front_white : AreWhite front
  pub each : AllByRecursion IsStringLiteral literals
  pub some : literals ≢ []
  pub whole : t ≡ front ++ flat_map literal_text literals

-- the bytes that literals denote
abbrev pub literal_bytes : List StringLiteral → Bytes
literal_bytes literals = flat_map (λ l. map value l.elements) literals

-- a text is a source of these bytes
abbrev pub IsSourceOf : Bytes → Bytes → Type 0
IsSourceOf t bytes = (literals : List StringLiteral) × IsSource t literals × (bytes ≡ literal_bytes literals)

-- where each element begins, if the first one begins at `at`
abbrev pub element_offsets : ℕ → List Element → List ℕ
element_offsets at [] = []
element_offsets at (element ∷ elements) =
    at ∷ element_offsets (at + length (written element)) elements

-- where each element of some literals begins, if the first of these begins at `at`
abbrev pub offsets : ℕ → List StringLiteral → List ℕ
offsets at [] = []
offsets at (l ∷ literals) =
    element_offsets (at + 1) l.elements ++ offsets (at + length (literal_text l)) literals

-- where the last of some literals closes, or `before` if there are none
abbrev pub close_of : ℕ → ℕ → List StringLiteral → ℕ
close_of before at [] = before
close_of before at (l ∷ literals) =
    close_of (at + 1 + length (flat_map written l.elements)) (at + length (literal_text l)) literals

-- Where the bytes of a source come from: each byte from the offset at which its element begins; and the
-- offset of the last closing quote.
pub record HasOffsets (t : Bytes) (found : List ℕ) (close : ℕ) : Type 0 where
  pub literals : List StringLiteral
  pub source : IsSource t literals
  pub offsets_are : found ≡ offsets (length source.front) literals
  pub close_is : close ≡ close_of 0 (length source.front) literals
