-- What begins a text in a literal.
use Rattle.std.proofs.Common.{◌≡◌, ◌≢◌, ℕ, ◌+◌, ◌<◌, true, false, [], ◌∷◌, ◌++◌, length, refl, sym, ap, ◌∙◌, subst, arith, inl, inr}
use Rattle.std.specs.Prelude.{◌⊎◌, ◌==◌, None}
use Rattle.std.proofs.lemmas.Bool.{ne_eqb, not-true}
use Rattle.std.proofs.lemmas.Bool.Decides.{nat_tests}
use Rattle.std.proofs.lemmas.List.{append-nil}
use Rattle.pf_literals.specs.declared.faults.LiteralKind.{LiteralKind}
use Rattle.pf_literals.specs.declared.faults.LiteralKind.TheVariants.{NoLiteral, Unterminated, BadEscape, EscapeTooLarge, ZeroByte, Trigraph}
use Rattle.pf_literals.specs.declared.notations.Notation.{Notation}
use Rattle.pf_literals.specs.declared.notations.Notation.TheVariants.{Octal, Hexadecimal}
use Rattle.pf_literals.specs.declared.tokens.Token.TheVariants.{Character, Invalid}
use Rattle.pf_literals.specs.Elements.{AreEscapeDigits, Bytes, Element, AllowsDigitCount, IsElement, Numeric, Plain, Simple, escape, has_more_digits}
use Rattle.pf_literals.specs.Elements.{is_escape_digit, is_full, is_line_end, escape_number, simple_byte, may_precede, value, written}
use Rattle.pf_literals.specs.Faults.{IsUnfinishedEscape, IsFinishedEscape, IsNoEscape, IsElementFault, IsEscapeTooLarge, IsZero}
use Rattle.pf_literals.specs.Tokens.{before_digits, token_inside, numeric_token, finished_numeric}
use Rattle.pf_literals.proofs.Numbers.{numeric_token-digits, numeric_token-ends, numeric_token-large, some_count}

-- a digit isn't the letter of another escape sequence
pub octal_letter : (d : ℕ) → is_escape_digit Octal d ≡ true → (simple_byte d ≡ None) × ((d == 120) ≡ false)
octal_letter d h = (grind (arith, nat_tests), grind (arith, nat_tests))

pub token_inside-numeric : (notation : Notation) (d : ℕ) (digits rest : Bytes) → is_escape_digit notation d ≡ true
    → token_inside (escape notation (d ∷ digits) ++ rest) ≡ numeric_token notation 0 0 ((d ∷ digits) ++ rest)
token_inside-numeric Octal d digits rest h = let letter = octal_letter d h in rw (letter.0, letter.1) refl
token_inside-numeric Hexadecimal d digits rest h = refl

escape_len : (notation : Notation) (digits : Bytes) → before_digits notation + (0 + length digits) ≡ length (escape notation digits)
escape_len Octal digits = omega arith
escape_len Hexadecimal digits = omega arith

same_goes : (notation : Notation) (count other : ℕ) (rest : Bytes) → count ≡ other → has_more_digits notation count rest ≡ false
    → has_more_digits notation other rest ≡ false
same_goes notation count other rest e h = subst (λ c. has_more_digits notation c rest ≡ false) e h

zero_plus : (n : ℕ) → n ≡ 0 + n
zero_plus n = omega arith

same_room : (notation : Notation) (n : ℕ) → AllowsDigitCount notation n → AllowsDigitCount notation (0 + n)
same_room notation n h = subst (AllowsDigitCount notation) (zero_plus n) h

-- an element is found
pub token_inside-element : (element : Element) (rest : Bytes) → IsElement element → may_precede element rest ≡ true
    → token_inside (written element ++ rest) ≡ Character (value element) (length (written element))
token_inside-element (Plain byte) rest h stands =
    let a = ne_eqb byte 34 h.no_quote in
    let b = ne_eqb byte 92 h.no_backslash in
    let c = h.in_line in
    let d = ne_eqb byte 0 h.some in
    let e = not-true _ stands in
    rw (a, b, c, d, e) refl
token_inside-element (Simple letter byte) rest h stands = let none = not-true _ stands in rw (h, none) refl
token_inside-element (Numeric notation []) rest h stands = absurd (omega (arith, h.some))
token_inside-element (Numeric notation (d ∷ digits)) rest h stands =
    let each = h.digits_are.each in
    let none = same_goes notation (length (d ∷ digits)) (0 + length (d ∷ digits)) rest (zero_plus _) (not-true _ stands) in
    token_inside-numeric notation d digits rest each.0
    ∙ numeric_token-digits notation (d ∷ digits) rest 0 0 each (same_room notation _ h.digits_are.room) h.fits
    ∙ numeric_token-ends notation rest (0 + length (d ∷ digits)) (escape_number notation (d ∷ digits)) none (omega arith) h.some
    ∙ ap (Character (escape_number notation (d ∷ digits))) (escape_len notation (d ∷ digits))

line_end_other : (byte : ℕ) → is_line_end byte ≡ true → ((byte == 34) ≡ false) × ((byte == 92) ≡ false)
line_end_other byte h = (grind (arith, nat_tests), grind (arith, nat_tests))

token_inside-line_end : (byte : ℕ) (after : Bytes) → is_line_end byte ≡ true → token_inside (byte ∷ after) ≡ Invalid Unterminated 0
token_inside-line_end byte after h = let other = line_end_other byte h in rw (other.0, other.1, h) refl

-- the digits of a number that is zero
numeric_token-zeros : (notation : Notation) (digits rest : Bytes) → AreEscapeDigits notation digits → escape_number notation digits ≡ 0
    → numeric_token notation 0 0 (digits ++ rest) ≡ numeric_token notation (0 + length digits) 0 rest
numeric_token-zeros notation digits rest h zero_is =
    numeric_token-digits notation digits rest 0 0 h.each (same_room notation _ h.room) (omega (arith, zero_is))
    ∙ ap (λ n. numeric_token notation (0 + length digits) n rest) zero_is

numeric_token-open : (notation : Notation) (count : ℕ) → is_full notation count ≡ false
    → numeric_token notation count 0 [] ≡ Invalid Unterminated (before_digits notation + count)
numeric_token-open notation count h = rw h refl

token_inside-begun : (rest : Bytes) → IsUnfinishedEscape rest → token_inside rest ≡ Invalid Unterminated (length rest)
token_inside-begun rest h = ap token_inside h.whole ∙ go h.notation h.digits h.digits_are h.zeros h.room
    ∙ ap (λ t. Invalid Unterminated (length t)) (sym h.whole) where
      go : (notation : Notation) (digits : Bytes) → AreEscapeDigits notation digits → escape_number notation digits ≡ 0
          → is_full notation (length digits) ≡ false
          → token_inside (escape notation digits) ≡ Invalid Unterminated (length (escape notation digits))
      go Octal [] are none room = refl
      go Hexadecimal [] are none room = refl
      go notation (d ∷ digits) are none room =
          ap token_inside (sym (append-nil (escape notation (d ∷ digits))))
          ∙ token_inside-numeric notation d digits [] are.each.0
          ∙ numeric_token-zeros notation (d ∷ digits) [] are none
          ∙ numeric_token-open notation (0 + length (d ∷ digits)) (subst (λ n. is_full notation n ≡ false) (zero_plus _) room)
          ∙ ap (Invalid Unterminated) (escape_len notation (d ∷ digits))

token_inside-no_escape : (rest : Bytes) → IsNoEscape rest → token_inside rest ≡ Invalid BadEscape 0
token_inside-no_escape rest (byte, after, inl h) = let x = ne_eqb byte 120 h.2 in ap token_inside h.0 ∙ rw (h.1, x, h.3) refl
token_inside-no_escape rest (byte, after, inr h) = ap token_inside h.0 ∙ rw h.1 refl

token_inside-too_large : (rest : Bytes) → IsEscapeTooLarge rest → token_inside rest ≡ Invalid EscapeTooLarge 0
token_inside-too_large rest (notation, digits, after, are, many, whole) = ap token_inside whole ∙ go digits are many where
  go : (digits : Bytes) → AreEscapeDigits notation digits → 255 < escape_number notation digits
      → token_inside (escape notation digits ++ after) ≡ Invalid EscapeTooLarge 0
  go [] are many = absurd (omega arith)
  go (d ∷ digits) are many =
      token_inside-numeric notation d digits after are.each.0
      ∙ numeric_token-large notation (d ∷ digits) after 0 0 are.each (same_room notation _ are.room) (omega arith) many

finished_numeric-zero : (notation : Notation) (count : ℕ) → 0 < count → finished_numeric notation count 0 ≡ Invalid ZeroByte 0
finished_numeric-zero notation count some = let a = some_count count some in rw a refl

numeric_token-zero : (notation : Notation) (count : ℕ) (after : Bytes) → 0 < count → has_more_digits notation count after ≡ false
    → (is_full notation count ≡ true) ⊎ (after ≢ [])
    → numeric_token notation count 0 after ≡ Invalid ZeroByte 0
numeric_token-zero notation count [] some none (inl full) = let a = finished_numeric-zero notation count some in rw (full, a) refl
numeric_token-zero notation count [] some none (inr more) = absurd (more refl)
numeric_token-zero notation count (byte ∷ after) some none last = let a = finished_numeric-zero notation count some in rw (none, a) refl

token_inside-zero : (rest : Bytes) → IsZero rest → token_inside rest ≡ Invalid ZeroByte 0
token_inside-zero rest (after, inl h) = ap token_inside h
token_inside-zero rest (after, inr h) = ap token_inside h.5 ∙ go h.1 h.2 h.3 h.4 where
  notation : Notation
  notation = h.0

  go : (digits : Bytes) → digits ≢ [] → IsFinishedEscape notation digits after → escape_number notation digits ≡ 0
      → token_inside (escape notation digits ++ after) ≡ Invalid ZeroByte 0
  go [] some are none = absurd (some refl)
  go (d ∷ digits) some are none =
      let same = zero_plus (length (d ∷ digits)) in
      token_inside-numeric notation d digits after are.digits_are.each.0
      ∙ numeric_token-zeros notation (d ∷ digits) after are.digits_are none
      ∙ ap (λ n. numeric_token notation n 0 after) (sym same)
      ∙ numeric_token-zero notation (length (d ∷ digits)) after (omega arith) are.no_more are.last

-- and so is the fault where there is none
pub token_inside-stopped : (kind : LiteralKind) (rest : Bytes) (on : ℕ) → IsElementFault rest kind on → token_inside rest ≡ Invalid kind on
token_inside-stopped NoLiteral rest on h = absurd h
token_inside-stopped Unterminated rest on (inl h) = ap token_inside h.2 ∙ token_inside-line_end h.0 h.1 h.3 ∙ ap (Invalid Unterminated) (sym h.4)
token_inside-stopped Unterminated rest on (inr (inl e, g)) = ap token_inside e ∙ ap (λ t. Invalid Unterminated (length t)) (sym e)
    ∙ ap (Invalid Unterminated) (sym g)
token_inside-stopped Unterminated rest on (inr (inr h, g)) = token_inside-begun rest h ∙ ap (Invalid Unterminated) (sym g)
token_inside-stopped BadEscape rest on h = token_inside-no_escape rest h.0 ∙ ap (Invalid BadEscape) (sym h.1)
token_inside-stopped EscapeTooLarge rest on h = token_inside-too_large rest h.0 ∙ ap (Invalid EscapeTooLarge) (sym h.1)
token_inside-stopped ZeroByte rest on h = token_inside-zero rest h.0 ∙ ap (Invalid ZeroByte) (sym h.1)
token_inside-stopped Trigraph rest on (inl ((third, after, whole, is), g)) = ap token_inside whole ∙ rw is (ap (Invalid Trigraph) (sym g))
token_inside-stopped Trigraph rest on (inr (trigraph, whole, (third, after, e, is), g)) =
    ap token_inside (whole ∙ ap (λ t. 92 ∷ t) e) ∙ rw is (ap (Invalid Trigraph) (sym g))
