-- In a literal a text continues with a quote or an element, or has a fault.
use Rattle.std.proofs.Common.{◌≡◌, ◌≢◌, ℕ, ◌≤◌, Bool, true, false, [], ◌∷◌, ◌++◌, length, refl, sym, ap, ◌∙◌, subst, arith, inl, inr}
use Rattle.std.specs.Prelude.{◌⊎◌, ◌&&◌, ◌==◌, Option, Some, None}
use Rattle.std.proofs.lemmas.Bool.{and_parts, cases_eq, cases_lt, eqb-true, not-true, not_from_false}
use Rattle.std.proofs.lemmas.Bool.Decides.{nat_tests}
use Rattle.std.proofs.lemmas.List.{append-nil, append_assoc, length_push}
use Rattle.pf_literals.specs.declared.faults.LiteralKind.{LiteralKind}
use Rattle.pf_literals.specs.declared.faults.LiteralKind.TheVariants.{Unterminated, BadEscape, EscapeTooLarge, ZeroByte, Trigraph}
use Rattle.pf_literals.specs.declared.notations.Notation.{Notation}
use Rattle.pf_literals.specs.declared.notations.Notation.TheVariants.{Octal, Hexadecimal}
use Rattle.pf_literals.specs.Elements.{AreEscapeDigits, Bytes, Element, AllowsDigitCount, IsElement, Numeric, Plain, Simple, ends_trigraph, escape}
use Rattle.pf_literals.specs.Elements.{has_more_digits, is_escape_digit, is_full, is_line_end, escape_number, question, simple_byte, may_precede, written}
use Rattle.pf_literals.specs.Faults.{IsElementFault, IsTrigraph}
use Rattle.pf_literals.proofs.Numbers.{Each}

pub data Judgement (rest : Bytes) : Type 0 where
  Quote : (after : Bytes) → rest ≡ 34 ∷ after → Judgement rest
  Found : (element : Element) (after : Bytes) → IsElement element → may_precede element after ≡ true → rest ≡ written element ++ after → Judgement rest
  Stuck : (kind : LiteralKind) (on : ℕ) → IsElementFault rest kind on → Judgement rest

each-push : (notation : Notation) (digits : Bytes) (d : ℕ) → Each notation digits → is_escape_digit notation d ≡ true → Each notation (digits ++ d ∷ [])
each-push notation [] d h digit = (digit, tt)
each-push notation (e ∷ digits) d h digit = (h.0, each-push notation digits d h.1 digit)

room-push : (notation : Notation) (digits : Bytes) (d : ℕ) → AllowsDigitCount notation (length digits) → is_full notation (length digits) ≡ false
    → AllowsDigitCount notation (length (digits ++ d ∷ []))
room-push Octal digits d room open_ =
    let long = length_push digits d in
    let other : length digits ≢ 3 = grind (arith, nat_tests) in
    omega (arith, room, long, other)
room-push Hexadecimal digits d room open_ = tt

pub AreDigits-push : (notation : Notation) (digits : Bytes) (d : ℕ) → AreEscapeDigits notation digits → is_full notation (length digits) ≡ false
    → is_escape_digit notation d ≡ true → AreEscapeDigits notation (digits ++ d ∷ [])
AreDigits-push notation digits d h open_ digit = record { each = each-push notation digits d h.each digit; room = room-push notation digits d h.room open_ }

escape-append : (notation : Notation) (digits more : Bytes) → escape notation digits ++ more ≡ escape notation (digits ++ more)
escape-append Octal digits more = refl
escape-append Hexadecimal digits more = refl

pub escape-push : (notation : Notation) (digits rest : Bytes) (d : ℕ) → escape notation digits ++ (d ∷ rest) ≡ escape notation (digits ++ d ∷ []) ++ rest
escape-push notation digits rest d =
    escape-append notation digits (d ∷ rest) ∙ ap (escape notation) (sym (append_assoc digits (d ∷ []) rest))
    ∙ sym (escape-append notation (digits ++ d ∷ []) rest)

judged_as : (t u : Bytes) → t ≡ u → Judgement u → Judgement t
judged_as t u e h = subst Judgement (sym e) h

-- no byte is one more digit, and the number is zero
module _ (notation : Notation) (digits : Bytes) (are : AreEscapeDigits notation digits) (none : escape_number notation digits ≡ 0) (some : digits ≢ []) where
  zero_at_end : (b : Bool) → is_full notation (length digits) ≡ b → has_more_digits notation (length digits) [] ≡ false
      → Judgement (escape notation digits ++ [])
  zero_at_end true full no_more = Stuck ZeroByte 0 (
    (
      [],
      inr (
        notation,
        digits,
        some,
        record { digits_are = are; last = inl full; no_more = no_more },
        none,
        refl,
      ),
    ),
    refl,
  )
  zero_at_end false open_ no_more = Stuck Unterminated (length (escape notation digits ++ []))
      (inr (
        inr (record { notation = notation; digits = digits; digits_are = are; zeros = none; room = open_; whole = append-nil (escape notation digits) }),
        refl,
      ))

  zero_ended : (rest : Bytes) → has_more_digits notation (length digits) rest ≡ false → Judgement (escape notation digits ++ rest)
  zero_ended [] no_more = zero_at_end (is_full notation (length digits)) refl no_more
  zero_ended (byte ∷ rest) no_more = Stuck ZeroByte 0 (
    (
      byte ∷ rest,
      inr (notation, digits, some, record { digits_are = are; last = inr (λ e. cc); no_more = no_more }, none, refl),
    ),
    refl,
  )

is_none : (digits : Bytes) → (digits ≡ []) ⊎ (digits ≢ [])
is_none [] = inl refl
is_none (d ∷ digits) = inr (λ e. cc)

-- `\x` with no digit
bare_hexadecimal : (rest : Bytes) → has_more_digits Hexadecimal 0 rest ≡ false → Judgement (92 ∷ 120 ∷ rest)
bare_hexadecimal [] h = Stuck Unterminated 2 (inr (
  inr (record
      { notation = Hexadecimal; digits = []; digits_are = record { each = tt; room = tt }; zeros = refl; room = refl; whole = refl }),
  refl,
))
bare_hexadecimal (byte ∷ rest) h = Stuck BadEscape 0 ((byte, rest, inr (refl, h)), refl)

-- what is known where no digit has come
abbrev Start : Notation → Bytes → Type 0
Start notation digits = digits ≡ [] → (rest : Bytes) → has_more_digits notation 0 rest ≡ false → Judgement (escape notation [] ++ rest)

pushed_some : (digits : Bytes) (d : ℕ) → digits ++ d ∷ [] ≢ []
pushed_some [] d e = cc
pushed_some (x ∷ digits) d e = cc

-- digits that have come
module _ (notation : Notation) where
  no_more_digits : (digits rest : Bytes) → Start notation digits → AreEscapeDigits notation digits → escape_number notation digits ≤ 255
      → has_more_digits notation (length digits) rest ≡ false → Judgement (escape notation digits ++ rest)
  no_more_digits digits rest start are few no_more = elim (cases_lt 0 (escape_number notation digits)) [
    | inl some ↦ Found (Numeric notation digits) rest (record { digits_are = are; some = some; fits = few }) (not_from_false _ no_more) refl
    | inr none ↦
        let zero_is : escape_number notation digits ≡ 0 = omega (arith, none) in
        elim (is_none digits) [
          | inl e ↦ judged_as _ _ (ap (λ d. escape notation d ++ rest) e)
              (start e rest (subst (λ d. has_more_digits notation (length d) rest ≡ false) e no_more))
          | inr some ↦ zero_ended notation digits are zero_is some rest no_more
        ]
  ]

  judge_digits : (rest digits : Bytes) → Start notation digits → AreEscapeDigits notation digits → escape_number notation digits ≤ 255
      → Judgement (escape notation digits ++ rest)
  judge_digits [] digits start are few = no_more_digits digits [] start are few refl
  judge_digits (d ∷ rest) digits start are few = go (has_more_digits notation (length digits) (d ∷ rest)) refl
      (judge_digits rest (digits ++ d ∷ []) (λ e. absurd (pushed_some digits d e))) where
        go : (b : Bool) → has_more_digits notation (length digits) (d ∷ rest) ≡ b
            → (AreEscapeDigits notation (digits ++ d ∷ []) → escape_number notation (digits ++ d ∷ []) ≤ 255
            → Judgement (escape notation (digits ++ d ∷ []) ++ rest))
            → Judgement (escape notation digits ++ (d ∷ rest))
        go false no_more later = no_more_digits digits (d ∷ rest) start are few no_more
        go true more later =
            let parts = and_parts _ _ more in
            let longer = AreDigits-push notation digits d are (not-true _ parts.0) parts.1 in
            judged_as _ _ (escape-push notation digits rest d) (elim (cases_lt 255 (escape_number notation (digits ++ d ∷ []))) [
              | inl many ↦ Stuck EscapeTooLarge 0 ((notation, digits ++ d ∷ [], rest, longer, many, refl), refl)
              | inr fits ↦ later longer fits
            ])

one_octal : (d : ℕ) → is_escape_digit Octal d ≡ true → escape_number Octal (d ∷ []) ≤ 255
one_octal d h = grind (arith, nat_tests)

none_yet : (notation : Notation) → AreEscapeDigits notation []
none_yet Octal = record { each = tt; room = omega arith }
none_yet Hexadecimal = record { each = tt; room = tt }

-- a `?` that begins a trigraph
begun_trigraph : (byte : ℕ) (after : Bytes) → (byte == question && ends_trigraph after) ≡ true → IsTrigraph (byte ∷ after)
begun_trigraph byte after both = go after (and_parts _ _ both).1 (eqb-true _ _ (and_parts _ _ both).0) where
  go : (rest : Bytes) → ends_trigraph rest ≡ true → byte ≡ 63 → IsTrigraph (byte ∷ rest)
  go [] e is = absurd (cc)
  go (second ∷ []) e is = absurd (cc)
  go (second ∷ third ∷ rest) e is =
      let parts = and_parts _ _ e in
      let other = eqb-true second 63 parts.0 in
      (third, rest, ap (λ b. b ∷ second ∷ third ∷ rest) is ∙ ap (λ b. 63 ∷ b ∷ third ∷ rest) other, parts.1)

-- `\` and a byte
judge_escape : (byte : ℕ) (after : Bytes) → Judgement (92 ∷ byte ∷ after)
judge_escape byte after = go (simple_byte byte) refl where
  octal : simple_byte byte ≡ None → byte ≢ 120 → (b : Bool) → is_escape_digit Octal byte ≡ b → Judgement (92 ∷ byte ∷ after)
  octal none other false no_digit = Stuck BadEscape 0 ((byte, after, inl (refl, none, other, no_digit)), refl)
  octal none other true digit =
      judge_digits Octal after (byte ∷ []) (λ e. absurd (cc)) (record { each = (digit, tt); room = omega arith }) (one_octal byte digit)

  simple : (v : ℕ) → simple_byte byte ≡ Some v → (b : Bool) → (byte == question && ends_trigraph after) ≡ b → Judgement (92 ∷ byte ∷ after)
  simple v is false none = Found (Simple byte v) after is (not_from_false _ none) refl
  simple v is true both = Stuck Trigraph 1 (inr (byte ∷ after, refl, begun_trigraph byte after both, refl))

  go : (o : Option ℕ) → simple_byte byte ≡ o → Judgement (92 ∷ byte ∷ after)
  go (Some v) is = simple v is (byte == question && ends_trigraph after) refl
  go None none = elim (cases_eq byte 120) [
    | inl e ↦ judged_as _ _ (ap (λ b. 92 ∷ b ∷ after) e) (judge_digits Hexadecimal after [] (λ none rest. bare_hexadecimal rest) (none_yet Hexadecimal)
        (omega arith))
    | inr other ↦ octal none other (is_escape_digit Octal byte) refl
  ]

-- a byte that isn't `"` or `\`
module _ (byte : ℕ) (after : Bytes) (no_quote : byte ≢ 34) (no_backslash : byte ≢ 92) where
  judge_plain : (b : Bool) → (byte == question && ends_trigraph after) ≡ b → is_line_end byte ≡ false → byte ≢ 0 → Judgement (byte ∷ after)
  judge_plain false none in_line some = Found (Plain byte) after (record { no_quote = no_quote; no_backslash = no_backslash; in_line = in_line; some = some })
      (not_from_false _ none) refl
  judge_plain true both in_line some = Stuck Trigraph 0 (inl (begun_trigraph byte after both, refl))

  judge_other : (b : Bool) → is_line_end byte ≡ b → Judgement (byte ∷ after)
  judge_other true e = Stuck Unterminated 0 (inl (byte, after, refl, e, refl))
  judge_other false e = elim (cases_eq byte 0) [
    | inl zero_is ↦ Stuck ZeroByte 0 ((after, inl (ap (λ b. b ∷ after) zero_is)), refl)
    | inr some ↦ judge_plain (byte == question && ends_trigraph after) refl e some
  ]

-- `\`
judge_backslash : (after : Bytes) → Judgement (92 ∷ after)
judge_backslash [] = Stuck Unterminated 1 (inr (
  inr (record {
    notation = Octal;
    digits = [];
    digits_are = none_yet Octal;
    zeros = refl;
    room = refl;
    whole = refl;
  }),
  refl,
))
judge_backslash (byte ∷ after) = judge_escape byte after

pub judge : (rest : Bytes) → Judgement rest
judge [] = Stuck Unterminated 0 (inr (inl refl, refl))
judge (byte ∷ after) = elim (cases_eq byte 34) [
  | inl e ↦ Quote after (ap (λ b. b ∷ after) e)
  | inr no_quote ↦ elim (cases_eq byte 92) [
    | inl e ↦ judged_as _ _ (ap (λ b. b ∷ after) e) (judge_backslash after)
    | inr no_backslash ↦ judge_other byte after no_quote no_backslash (is_line_end byte) refl
  ]
]
