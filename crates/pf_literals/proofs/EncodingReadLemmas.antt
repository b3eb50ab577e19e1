-- The encoding of a text is a source of it.
use Rattle.std.proofs.Common.{◌≡◌, ◌≢◌, ℕ, ◌+◌, ◌*◌, ◌/◌, ◌%◌, ◌<◌, ◌≤◌, Bool, true, false, [], ◌∷◌, ◌++◌, map, refl, sym, ap, ap₂, ◌∙◌, subst, arith}
use Rattle.std.specs.Prelude.{◌&&◌, ◌==◌, Option, Some, None, not, if◌then◌else◌}
use Rattle.std.proofs.lemmas.Bool.{and_parts, eqb-true, not_from_false}
use Rattle.std.proofs.lemmas.Bool.Decides.{nat_tests}
use Rattle.std.proofs.lemmas.List.{append-nil}
use Rattle.pf_literals.specs.declared.notations.Notation.TheVariants.{Octal}
use Rattle.pf_literals.specs.Elements.{AreEscapeDigits, AreElements, Bytes, Element, IsElement, Numeric, Plain, Simple, begins_no_trigraph, digit_value}
use Rattle.pf_literals.specs.Elements.{ends_trigraph, is_escape_digit, is_line_end, escape_number, simple_byte, question, quote, may_precede, value, written}
use Rattle.pf_literals.specs.Encoding.{element_by, element_for, elements_for, encoding, is_printed, octal_digits, simple_letter, spelled}
use Rattle.pf_literals.specs.Laws.{AreCStringBytes}
use Rattle.pf_literals.specs.Sources.{IsSourceOf}
use Rattle.pf_literals.proofs.Unique.{one_source}

-- three octal digits
octal_number : (byte : ℕ) → byte < 256 → escape_number Octal (octal_digits byte) ≡ byte
octal_number byte h =
    let a : (byte / 64) ≤ 3 = omega (arith, h) in
    let b : (byte / 8 % 8) < 8 = omega arith in
    let c : (byte % 8) < 8 = omega arith in
    worth (byte / 64) (byte / 8 % 8) (byte % 8) (omega (arith, a)) b c ∙ split byte h where
      split : (n : ℕ) → n < 256 → 8 * (8 * (n / 64) + n / 8 % 8) + n % 8 ≡ n
      split n h = omega arith

      digit : (d : ℕ) → d < 8 → digit_value (d + 48) ≡ d
      digit d h = grind (arith, nat_tests)

      worth : (a b c : ℕ) → a < 8 → b < 8 → c < 8 → escape_number Octal ((a + 48) ∷ (b + 48) ∷ (c + 48) ∷ []) ≡ 8 * (8 * a + b) + c
      worth a b c p q r =
          let x = digit a p in
          let y = digit b q in
          let z = digit c r in
          omega (arith, x, y, z)

octal_each : (byte : ℕ) → byte < 256 → AreEscapeDigits Octal (octal_digits byte)
octal_each byte h =
    let a : (byte / 64) < 8 = omega (arith, h) in
    let b : (byte / 8 % 8) < 8 = omega arith in
    let c : (byte % 8) < 8 = omega arith in
    record { each = (is (byte / 64) a, (is (byte / 8 % 8) b, (is (byte % 8) c, tt))); room = omega arith } where
      is : (d : ℕ) → d < 8 → is_escape_digit Octal (d + 48) ≡ true
      is d h = grind (arith, nat_tests)

-- an element denotes its byte
record IsFor (element : Element) (byte : ℕ) : Type 0 where
  element_is : IsElement element
  value_is : value element ≡ byte

letter_is : (byte letter : ℕ) → simple_letter byte ≡ Some letter → simple_byte letter ≡ Some byte
letter_is byte letter e = grind (arith, nat_tests)

plain_is : (byte : ℕ) → simple_letter byte ≡ None → is_printed byte ≡ true → (byte ≢ 34) × (byte ≢ 92) × (is_line_end byte ≡ false) × (byte ≢ 0)
plain_is byte e h = (λ a. grind (arith, nat_tests), λ a. grind (arith, nat_tests), grind (arith, nat_tests), λ a. grind (arith, nat_tests))

for_printed : (byte : ℕ) → 0 < byte → byte < 256 → simple_letter byte ≡ None → (b : Bool) → is_printed byte ≡ b
    → IsFor (if b then Plain byte else Numeric Octal (octal_digits byte)) byte
for_printed byte some few e true h =
    let p = plain_is byte e h in
    record { element_is = record { no_quote = p.0; no_backslash = p.1; in_line = p.2; some = p.3 }; value_is = refl }
for_printed byte some few e false h =
    let n = octal_number byte few in
    record { element_is = record { digits_are = octal_each byte few; some = omega (arith, n, some); fits = omega (arith, n, few) }; value_is = n }

for_letter : (byte : ℕ) → 0 < byte → byte < 256 → (o : Option ℕ) → simple_letter byte ≡ o → IsFor (element_by o byte) byte
for_letter byte some few (Some letter) e = record { element_is = letter_is byte letter e; value_is = refl }
for_letter byte some few None e = for_printed byte some few e (is_printed byte) refl

for_byte : (after : Bool) (byte : ℕ) → 0 < byte → byte < 256 → IsFor (element_for after byte) byte
for_byte after byte some few = go (after && byte == question) refl where
  go : (b : Bool) → (after && byte == question) ≡ b → IsFor (if b then Simple question question else element_by (simple_letter byte) byte) byte
  go true e = record { element_is = refl; value_is = sym (eqb-true byte 63 (and_parts _ _ e).1) }
  go false e = for_letter byte some few (simple_letter byte) refl

-- the text that is written after a `?` doesn't begin with one
record HasOtherHead (t : Bytes) : Type 0 where
  head : ℕ
  more : Bytes
  is : t ≡ head ∷ more
  other : (head == question) ≡ false

head_by : (byte : ℕ) → (byte == question) ≡ false → (o : Option ℕ) → HasOtherHead (written (element_by o byte))
head_by byte h (Some letter) = record { head = 92; more = letter ∷ []; is = refl; other = refl }
head_by byte h None = go (is_printed byte) where
  go : (b : Bool) → HasOtherHead (written (if b then Plain byte else Numeric Octal (octal_digits byte)))
  go true = record { head = byte; more = []; is = refl; other = h }
  go false = record { head = 92; more = octal_digits byte; is = refl; other = refl }

head_behind : (byte : ℕ) → HasOtherHead (written (element_for true byte))
head_behind byte = go (byte == question) refl where
  go : (b : Bool) → (byte == question) ≡ b → HasOtherHead (written (if true && b then Simple question question else element_by (simple_letter byte) byte))
  go true e = record { head = 92; more = 63 ∷ []; is = refl; other = refl }
  go false e = head_by byte e (simple_letter byte)

no_trigraph : (head : ℕ) (more : Bytes) → (head == question) ≡ false → ends_trigraph (head ∷ more) ≡ false
no_trigraph head [] h = refl
no_trigraph head (b ∷ more) h = rw h refl

question_stands : (bytes : Bytes) → ends_trigraph (spelled true bytes ++ (quote ∷ [])) ≡ false
question_stands [] = refl
question_stands (byte ∷ bytes) =
    let h = head_behind byte in
    ap (λ t. ends_trigraph (t ++ spelled (byte == question) bytes ++ (quote ∷ []))) h.is
    ∙ no_trigraph h.head (h.more ++ spelled (byte == question) bytes ++ (quote ∷ [])) h.other

full_stands : (byte : ℕ) (t : Bytes) → may_precede (Numeric Octal (octal_digits byte)) t ≡ true
full_stands byte [] = refl
full_stands byte (b ∷ t) = refl

letter_stands : (byte letter : ℕ) (rest : Bytes) → simple_letter byte ≡ Some letter → begins_no_trigraph letter rest ≡ true
letter_stands byte letter rest e = let other : (letter == question) ≡ false = grind (arith, nat_tests) in rw other refl

-- each element has all its digits, and begins no trigraph
stands_by : (byte : ℕ) (bytes : Bytes) (o : Option ℕ) → simple_letter byte ≡ o
    → may_precede (element_by o byte) (spelled (byte == question) bytes ++ (quote ∷ [])) ≡ true
stands_by byte bytes (Some letter) e = letter_stands byte letter (spelled (byte == question) bytes ++ (quote ∷ [])) e
stands_by byte bytes None e = go (is_printed byte) where
  plain : (b : Bool) → not (b && ends_trigraph (spelled b bytes ++ (quote ∷ []))) ≡ true
  plain true = not_from_false _ (question_stands bytes)
  plain false = refl

  go : (b : Bool) → may_precede (if b then Plain byte else Numeric Octal (octal_digits byte)) (spelled (byte == question) bytes ++ (quote ∷ [])) ≡ true
  go true = plain (byte == question)
  go false = full_stands byte _

stands_for : (after : Bool) (byte : ℕ) (bytes : Bytes) → may_precede (element_for after byte) (spelled (byte == question) bytes ++ (quote ∷ [])) ≡ true
stands_for after byte bytes = go (after && byte == question) refl where
  go : (b : Bool) → (after && byte == question) ≡ b → may_precede (if b then Simple question question else element_by (simple_letter byte) byte)
      (spelled (byte == question) bytes ++ (quote ∷ [])) ≡ true
  go true e = subst (λ b. not (ends_trigraph (spelled b bytes ++ (quote ∷ []))) ≡ true) (sym (and_parts _ _ e).1) (not_from_false _ (question_stands bytes))
  go false e = stands_by byte bytes (simple_letter byte) refl

elements_stand : (after : Bool) (bytes : Bytes) → AreCStringBytes bytes → AreElements (elements_for after bytes) (quote ∷ [])
elements_stand after [] h = tt
elements_stand after (byte ∷ bytes) h = ((for_byte after byte h.0.0 h.0.1).element_is, stands_for after byte bytes, elements_stand (byte == question) bytes h.1)

values_are : (after : Bool) (bytes : Bytes) → AreCStringBytes bytes → map value (elements_for after bytes) ≡ bytes
values_are after [] h = refl
values_are after (byte ∷ bytes) h = ap₂ (λ b bs. b ∷ bs) (for_byte after byte h.0.0 h.0.1).value_is (values_are (byte == question) bytes h.1)

pub encoding_read : (t : Bytes) → AreCStringBytes t → IsSourceOf (encoding t) t
encoding_read t h =
    let elements = elements_for false t in (
      record { elements = elements; behind = [] } ∷ [],
      record {
        front = [];
        front_white = tt;
        each = ((elements_stand false t h, tt), tt);
        some = λ none. cc;
        whole = sym (append-nil (encoding t));
      },
      sym (append-nil (map value elements) ∙ values_are false t h),
    )

pub encoding_once : (t bytes : Bytes) → AreCStringBytes t → IsSourceOf (encoding t) bytes → encoding bytes ≡ encoding t
encoding_once t bytes h s = ap encoding (one_source (encoding t) bytes t s (encoding_read t h))
