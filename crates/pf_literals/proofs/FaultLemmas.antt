-- A fault stays, whatever bytes follow; and a text with a fault at its end is a source with some more bytes.
use Rattle.std.proofs.Common.{◌≡◌, ◌≢◌, ℕ, ◌+◌, ◌*◌, ◌<◌, true, false, List, [], ◌∷◌, ◌++◌, length, refl, sym, ap, ◌∙◌, subst, arith, inl, inr, length-append}
use Rattle.std.specs.Prelude.{◌⊎◌, ◌&&◌, ◌==◌, flat_map, not, Option, Some, None}
use Rattle.std.specs.List.{AllByRecursion}
use Rattle.std.proofs.lemmas.Bool.{and_left, and_right, not_from_false, not_from_true}
use Rattle.std.proofs.lemmas.Bool.Decides.{nat_tests}
use Rattle.std.proofs.lemmas.List.{append-nil, append_assoc}
use Rattle.pf_literals.specs.declared.faults.LiteralKind.{LiteralKind}
use Rattle.pf_literals.specs.declared.faults.LiteralKind.TheVariants.{NoLiteral, Unterminated, BadEscape, EscapeTooLarge, ZeroByte, Trigraph}
use Rattle.pf_literals.specs.declared.notations.Notation.{Notation}
use Rattle.pf_literals.specs.declared.notations.Notation.TheVariants.{Octal, Hexadecimal}
use Rattle.pf_literals.specs.Elements.{AreEscapeDigits, AreElements, Bytes, Element, IsElement, Numeric, Plain, Simple, base, begins_no_trigraph, escape}
use Rattle.pf_literals.specs.Elements.{has_more_digits, is_escape_digit, is_full, is_line_end, escape_number, quote, may_precede, written}
use Rattle.pf_literals.specs.Faults.{AreOpen, IsFaultCause, IsUnfinishedEscape, IsFaultAt, IsElementFault, IsTrigraph, open_text}
use Rattle.pf_literals.specs.Laws.{CanGoOn}
use Rattle.pf_literals.specs.Sources.{AreWhite, IsStringLiteral, IsSource, StringLiteral, literal_bytes, literal_text}
use Rattle.pf_literals.proofs.Judging.{AreDigits-push, escape-push}
use Rattle.pf_literals.proofs.Numbers.{number_after-push}

-- the text continues after its first byte, which isn't a `?` if it is the last one
record IsSure (rest : Bytes) : Type 0 where
  byte : ℕ
  after : Bytes
  whole : rest ≡ byte ∷ after
  sure : ((byte == 63) ≡ false) ⊎ (after ≢ [])

begins_longer : (b : ℕ) (before : Bytes) (byte : ℕ) (after more : Bytes) → ((byte == 63) ≡ false) ⊎ (after ≢ [])
    → begins_no_trigraph b (before ++ (byte ∷ after)) ≡ begins_no_trigraph b (before ++ (byte ∷ (after ++ more)))
begins_longer b [] byte [] [] h = refl
begins_longer b [] byte [] (c ∷ more) (inl h) = rw h refl
begins_longer b [] byte [] (c ∷ more) (inr h) = absurd (h refl)
begins_longer b [] byte (a ∷ after) more h = refl
begins_longer b (x ∷ []) byte after more h = refl
begins_longer b (x ∷ y ∷ before) byte after more h = refl

stands_longer : (element : Element) (before : Bytes) (byte : ℕ) (after more : Bytes) → ((byte == 63) ≡ false) ⊎ (after ≢ [])
    → may_precede element (before ++ (byte ∷ after)) ≡ may_precede element (before ++ (byte ∷ (after ++ more)))
stands_longer (Plain b) before byte after more h = begins_longer b before byte after more h
stands_longer (Simple letter b) before byte after more h = begins_longer letter before byte after more h
stands_longer (Numeric notation digits) [] byte after more h = refl
stands_longer (Numeric notation digits) (x ∷ before) byte after more h = refl

elements_longer : (elements : List Element) (rest more : Bytes) → IsSure rest → AreElements elements rest → AreElements elements (rest ++ more)
elements_longer [] rest more h are = tt
elements_longer (element ∷ elements) rest more h are =
    let text = flat_map written elements in (
      are.0,
      ap (λ r. may_precede element (text ++ (r ++ more))) h.whole
          ∙ sym (stands_longer element text h.byte h.after more h.sure)
          ∙ ap (λ r. may_precede element (text ++ r)) (sym h.whole)
          ∙ are.1,
      elements_longer elements rest more h are.2,
    )

line_end_sure : (byte : ℕ) → is_line_end byte ≡ true → (byte == 63) ≡ false
line_end_sure byte h = grind (arith, nat_tests)

escape_sure : (notation : Notation) (digits after : Bytes) → IsSure (escape notation digits ++ after)
escape_sure Octal digits after = record { byte = 92; after = digits ++ after; whole = refl; sure = inl refl }
escape_sure Hexadecimal digits after = record { byte = 92; after = 120 ∷ (digits ++ after); whole = refl; sure = inl refl }

sure_as : (t u : Bytes) → t ≡ u → IsSure u → IsSure t
sure_as t u e h = subst IsSure (sym e) h

-- what stops before the end of the text
stopped_sure : (rest : Bytes) (kind : LiteralKind) (on : ℕ) → IsElementFault rest kind on → on < length rest → IsSure rest
stopped_sure rest NoLiteral on h less = absurd h
stopped_sure rest Unterminated on (inl h) less = record { byte = h.0; after = h.1; whole = h.2; sure = inl (line_end_sure h.0 h.3) }
stopped_sure rest Unterminated on (inr h) less = absurd (omega (arith, less, h.1))
stopped_sure rest BadEscape on ((byte, after, inl h), g) less = record { byte = 92; after = byte ∷ after; whole = h.0; sure = inl refl }
stopped_sure rest BadEscape on ((byte, after, inr h), g) less = record { byte = 92; after = 120 ∷ byte ∷ after; whole = h.0; sure = inl refl }
stopped_sure rest EscapeTooLarge on h less = sure_as rest _ h.0.5 (escape_sure h.0.0 h.0.1 h.0.2)
stopped_sure rest ZeroByte on ((after, inl h), g) less = record { byte = 0; after = after; whole = h; sure = inl refl }
stopped_sure rest ZeroByte on ((after, inr h), g) less = sure_as rest _ h.5 (escape_sure h.0 h.1 after)
stopped_sure rest Trigraph on (inl ((third, after, whole, is), g)) less = record { byte = 63; after = 63 ∷ third ∷ after; whole = whole; sure = inr (λ e. cc) }
stopped_sure rest Trigraph on (inr (trigraph, whole, is, g)) less = record { byte = 92; after = trigraph; whole = whole; sure = inl refl }

goes_longer : (notation : Notation) (count : ℕ) (rest more : Bytes) → (is_full notation count ≡ true) ⊎ (rest ≢ [])
    → has_more_digits notation count rest ≡ false → has_more_digits notation count (rest ++ more) ≡ false
goes_longer notation count [] [] h none = refl
goes_longer notation count [] (b ∷ more) (inl full) none = and_left (not (is_full notation count)) (is_escape_digit notation b) (not_from_true _ full)
goes_longer notation count [] (b ∷ more) (inr some) none = absurd (some refl)
goes_longer notation count (b ∷ rest) more h none = none

some_longer : (rest more : Bytes) → rest ≢ [] → rest ++ more ≢ []
some_longer [] more some e = some refl
some_longer (b ∷ rest) more some e = cc

last_longer : (P : Type 0) (rest more : Bytes) → P ⊎ (rest ≢ []) → P ⊎ (rest ++ more ≢ [])
last_longer P rest more (inl p) = inl p
last_longer P rest more (inr some) = inr (some_longer rest more some)

trigraph_longer : (rest more : Bytes) → IsTrigraph rest → IsTrigraph (rest ++ more)
trigraph_longer rest more (third, after, whole, is) = (third, after ++ more, ap (λ r. r ++ more) whole, is)

-- it stops there whatever bytes follow
stopped_longer : (rest more : Bytes) (kind : LiteralKind) (on : ℕ) → IsElementFault rest kind on → on < length rest → IsElementFault (rest ++ more) kind on
stopped_longer rest more NoLiteral on h less = absurd h
stopped_longer rest more Unterminated on (inl h) less = inl (h.0, h.1 ++ more, ap (λ r. r ++ more) h.2, h.3, h.4)
stopped_longer rest more Unterminated on (inr h) less = absurd (omega (arith, less, h.1))
stopped_longer rest more BadEscape on ((byte, after, inl h), g) less = ((byte, after ++ more, inl (ap (λ r. r ++ more) h.0, h.1, h.2, h.3)), g)
stopped_longer rest more BadEscape on ((byte, after, inr h), g) less = ((byte, after ++ more, inr (ap (λ r. r ++ more) h.0, h.1)), g)
stopped_longer rest more EscapeTooLarge on ((notation, digits, after, are, many, e), g) less =
    ((notation, digits, after ++ more, are, many, ap (λ r. r ++ more) e ∙ append_assoc (escape notation digits) after more), g)
stopped_longer rest more ZeroByte on ((after, inl h), g) less = ((after ++ more, inl (ap (λ r. r ++ more) h)), g)
stopped_longer rest more ZeroByte on ((after, inr (notation, digits, some, are, none, e)), g) less = (
  (
    after ++ more,
    inr (
      notation,
      digits,
      some,
      record {
        digits_are = are.digits_are;
        last = last_longer _ after more are.last;
        no_more = goes_longer notation (length digits) after more are.last are.no_more;
      },
      none,
      ap (λ r. r ++ more) e ∙ append_assoc (escape notation digits) after more,
    ),
  ),
  g,
)
stopped_longer rest more Trigraph on (inl (t, g)) less = inl (trigraph_longer rest more t, g)
stopped_longer rest more Trigraph on (inr (trigraph, whole, t, g)) less = inr (trigraph ++ more, ap (λ r. r ++ more) whole, trigraph_longer trigraph more t, g)

open_longer : (literals : List StringLiteral) (begun : Option (List Element)) (rest more : Bytes) (kind : LiteralKind) (on : ℕ) → AreOpen begun rest
    → IsFaultCause literals begun rest kind on → on < length rest
    → AreOpen begun (rest ++ more) × IsFaultCause literals begun (rest ++ more) kind on
open_longer literals None rest more kind on are (is, none, inl (e, empty)) less = let nothing = ap length e in absurd (omega (arith, less, nothing))
open_longer literals None rest more kind on are (is, none, inr (byte, after, e, other, black)) less =
    (tt, (is, none, inr (byte, after ++ more, ap (λ r. r ++ more) e, other, black)))
open_longer literals (Some elements) rest more kind on are h less =
    (elements_longer elements rest more (stopped_sure rest kind on h less) are, stopped_longer rest more kind on h less)

pub refused_longer : (t more : Bytes) (kind : LiteralKind) (at : ℕ) → IsFaultAt t kind at → at < length t → IsFaultAt (t ++ more) kind at
refused_longer t more kind at f less =
    let front = f.front ++ flat_map literal_text f.literals ++ open_text f.begun in
    let long = ap length f.whole in
    let parts = length-append front f.rest in
    let both = open_longer f.literals f.begun f.rest more kind f.on f.elements_are f.cause (omega (arith, less, long, parts, f.offset)) in
    record {
      front = f.front;
      literals = f.literals;
      begun = f.begun;
      rest = f.rest ++ more;
      on = f.on;
      front_white = f.front_white;
      each = f.each;
      elements_are = both.0;
      whole = ap (λ r. r ++ more) f.whole ∙ append_assoc front f.rest more;
      cause = both.1;
      offset = f.offset;
    }

-- a text that ends in a literal is closed by a quote, after a digit if one is needed
all_push : (literals : List StringLiteral) (l : StringLiteral) → AllByRecursion IsStringLiteral literals → IsStringLiteral l
    → AllByRecursion IsStringLiteral (literals ++ l ∷ [])
all_push [] l each is = (is, tt)
all_push (x ∷ literals) l each is = (each.0, all_push literals l each.1 is)

texts_push : (literals : List StringLiteral) (l : StringLiteral) → flat_map literal_text (literals ++ l ∷ []) ≡ flat_map literal_text literals ++ literal_text l
texts_push [] l = append-nil (literal_text l)
texts_push (x ∷ literals) l = ap (λ r. literal_text x ++ r) (texts_push literals l)
    ∙ sym (append_assoc (literal_text x) (flat_map literal_text literals) (literal_text l))

pushed_literal : (literals : List StringLiteral) (l : StringLiteral) → literals ++ l ∷ [] ≢ []
pushed_literal [] l e = cc
pushed_literal (x ∷ literals) l e = cc

closes : (t front : Bytes) (literals : List StringLiteral) (elements : List Element) → AreWhite front → AllByRecursion IsStringLiteral literals
    → AreElements elements (quote ∷ [])
    → t ≡ front ++ flat_map literal_text literals ++ (quote ∷ (flat_map written elements ++ (quote ∷ [])))
    → IsSource t (literals ++ (record { elements = elements; behind = [] }) ∷ [])
closes t front literals elements clear each are e =
    let l : StringLiteral = record { elements = elements; behind = [] } in
    record {
      front = front;
      front_white = clear;
      each = all_push literals l each (are, tt);
      some = pushed_literal literals l;
      whole = e ∙ append_assoc front (flat_map literal_text literals) (literal_text l) ∙ ap (λ r. front ++ r) (sym (texts_push literals l));
    }

begins_closed : (b : ℕ) (before : Bytes) → begins_no_trigraph b (before ++ []) ≡ true → begins_no_trigraph b (before ++ (quote ∷ [])) ≡ true
begins_closed b [] h = h
begins_closed b (x ∷ []) h =
    let none : ((x == 63) && false) ≡ false = and_right (x == 63) false refl in
    not_from_false _ (and_right (b == 63) ((x == 63) && false) none)
begins_closed b (x ∷ y ∷ before) h = h

stands_closed : (element : Element) (before : Bytes) → may_precede element (before ++ []) ≡ true → may_precede element (before ++ (quote ∷ [])) ≡ true
stands_closed (Plain b) before h = begins_closed b before h
stands_closed (Simple letter b) before h = begins_closed letter before h
stands_closed (Numeric Octal digits) [] h = not_from_false _ (and_right (not (is_full Octal (length digits))) false refl)
stands_closed (Numeric Hexadecimal digits) [] h = refl
stands_closed (Numeric notation digits) (x ∷ before) h = h

elements_closed : (elements : List Element) → AreElements elements [] → AreElements elements (quote ∷ [])
elements_closed [] are = tt
elements_closed (element ∷ elements) are = (are.0, stands_closed element (flat_map written elements) are.1, elements_closed elements are.2)

written_push : (elements : List Element) (element : Element) (rest : Bytes)
    → flat_map written (elements ++ element ∷ []) ++ rest ≡ flat_map written elements ++ (written element ++ rest)
written_push [] element rest = ap (λ r. r ++ rest) (append-nil (written element))
written_push (x ∷ elements) element rest =
    append_assoc (written x) (flat_map written (elements ++ element ∷ [])) rest
    ∙ ap (λ r. written x ++ r) (written_push elements element rest)
    ∙ sym (append_assoc (written x) (flat_map written elements) (written element ++ rest))

elements_push : (elements : List Element) (element : Element) (rest : Bytes) → AreElements elements (written element ++ rest) → IsElement element
    → may_precede element rest ≡ true
    → AreElements (elements ++ element ∷ []) rest
elements_push [] element rest are is stands = (is, stands, tt)
elements_push (x ∷ elements) element rest are is stands =
    (are.0, ap (may_precede x) (written_push elements element rest) ∙ are.1, elements_push elements element rest are.2 is stands)

one_is_digit : (notation : Notation) → is_escape_digit notation 49 ≡ true
one_is_digit Octal = refl
one_is_digit Hexadecimal = refl

quote_is_none : (notation : Notation) → is_escape_digit notation 34 ≡ false
quote_is_none Octal = refl
quote_is_none Hexadecimal = refl

times_zero : (notation : Notation) (n : ℕ) → n ≡ 0 → base notation * n + 1 ≡ 1
times_zero Octal n e = omega (arith, e)
times_zero Hexadecimal n e = omega (arith, e)

-- one more digit, which is 1
one_more : (notation : Notation) (digits : Bytes) → AreEscapeDigits notation digits → escape_number notation digits ≡ 0
    → is_full notation (length digits) ≡ false → IsElement (Numeric notation (digits ++ 49 ∷ []))
one_more notation digits are none room =
    let n : escape_number notation (digits ++ 49 ∷ []) ≡ 1 = number_after-push notation digits 0 49
    ∙ times_zero notation (escape_number notation digits) none in
    record { digits_are = AreDigits-push notation digits 49 are room (one_is_digit notation); some = omega (arith, n); fits = omega (arith, n) }

one_stands : (notation : Notation) (digits : Bytes) → may_precede (Numeric notation digits) (quote ∷ []) ≡ true
one_stands notation digits = not_from_false _ (and_right (not (is_full notation (length digits))) (is_escape_digit notation 34) (quote_is_none notation))

goes_on_by : (t more : Bytes) (literals : List StringLiteral) → IsSource (t ++ more) literals → CanGoOn t
goes_on_by t more literals s = (more, literal_bytes literals, (literals, s, refl))

module _ (t front : Bytes) (literals : List StringLiteral) (clear : AreWhite front) (each : AllByRecursion IsStringLiteral literals) where
  close_bare : t ≡ front ++ [] → literals ≡ [] → CanGoOn t
  close_bare e none = goes_on_by t (quote ∷ quote ∷ []) ([] ++ (record { elements = []; behind = [] }) ∷ [])
      (closes (t ++ (quote ∷ quote ∷ [])) front [] [] clear tt tt (ap (λ r. r ++ (quote ∷ quote ∷ [])) e))

  close_open : (elements : List Element) (rest : Bytes) → t ≡ front ++ flat_map literal_text literals ++ (quote ∷ flat_map written elements) ++ rest
      → rest ≡ [] → AreElements elements rest → CanGoOn t
  close_open elements rest e none are =
      let text = flat_map written elements in
      let before = front ++ flat_map literal_text literals in
      goes_on_by t (quote ∷ []) _ (closes (t ++ (quote ∷ [])) front literals elements clear each
      (elements_closed elements (subst (AreElements elements) none are)) (
      ap (λ r. r ++ (quote ∷ [])) (e ∙ ap (λ r. before ++ (quote ∷ text) ++ r) none ∙ append-nil (before ++ (quote ∷ text)))
      ∙ append_assoc before (quote ∷ text) (quote ∷ [])
      ))

  close_begun : (elements : List Element) (rest : Bytes) → t ≡ front ++ flat_map literal_text literals ++ (quote ∷ flat_map written elements) ++ rest
      → IsUnfinishedEscape rest → AreElements elements rest → CanGoOn t
  close_begun elements rest e h are =
      let text = flat_map written elements in
      let before = front ++ flat_map literal_text literals in
      let last = Numeric h.notation (h.digits ++ 49 ∷ []) in
      let end : rest ++ (49 ∷ quote ∷ []) ≡ written last ++ (quote ∷ []) = ap (λ r. r ++ (49 ∷ quote ∷ [])) h.whole
      ∙ escape-push h.notation h.digits (quote ∷ []) 49 in
      let longer = elements_longer elements rest (49 ∷ quote ∷ []) (sure_as rest _ (h.whole ∙ sym (append-nil (escape h.notation h.digits)))
      (escape_sure h.notation h.digits [])) are in
      let all = elements_push elements last (quote ∷ []) (subst (AreElements elements) end longer) (one_more h.notation h.digits h.digits_are h.zeros h.room)
      (one_stands h.notation (h.digits ++ 49 ∷ [])) in
      goes_on_by t (49 ∷ quote ∷ []) _ (closes (t ++ (49 ∷ quote ∷ [])) front literals (elements ++ last ∷ []) clear each all (
      ap (λ r. r ++ (49 ∷ quote ∷ [])) e
      ∙ append_assoc (before ++ (quote ∷ text)) rest (49 ∷ quote ∷ [])
      ∙ ap (λ r. before ++ (quote ∷ text) ++ r) end
      ∙ append_assoc before (quote ∷ text) (written last ++ (quote ∷ []))
      ∙ ap (λ r. before ++ (quote ∷ r)) (sym (written_push elements last (quote ∷ [])))
      ))

some_byte : (rest : Bytes) (byte : ℕ) (after : Bytes) → rest ≡ byte ∷ after → 0 < length rest
some_byte rest byte after e = let long = ap length e in omega arith

stopped_at_end : (rest : Bytes) (kind : LiteralKind) (on : ℕ) → IsElementFault rest kind on → on ≡ length rest → (rest ≡ []) ⊎ IsUnfinishedEscape rest
stopped_at_end rest NoLiteral on h e = absurd h
stopped_at_end rest Unterminated on (inl h) e = absurd (omega (arith, some_byte rest h.0 h.1 h.2, h.4, e))
stopped_at_end rest Unterminated on (inr h) e = h.0
stopped_at_end rest BadEscape on ((byte, after, inl h), g) e = absurd (omega (arith, some_byte rest 92 _ h.0, g, e))
stopped_at_end rest BadEscape on ((byte, after, inr h), g) e = absurd (omega (arith, some_byte rest 92 _ h.0, g, e))
stopped_at_end rest EscapeTooLarge on h e =
    let s = sure_as rest _ h.0.5 (escape_sure h.0.0 h.0.1 h.0.2) in
    absurd (omega (arith, some_byte rest s.byte s.after s.whole, h.1, e))
stopped_at_end rest ZeroByte on ((after, inl h), g) e = absurd (omega (arith, some_byte rest 0 after h, g, e))
stopped_at_end rest ZeroByte on ((after, inr h), g) e =
    let s = sure_as rest _ h.5 (escape_sure h.0 h.1 after) in
    absurd (omega (arith, some_byte rest s.byte s.after s.whole, g, e))
stopped_at_end rest Trigraph on (inl (t, g)) e = absurd (omega (arith, some_byte rest 63 _ t.2, g, e))
stopped_at_end rest Trigraph on (inr (trigraph, whole, t, g)) e = let long = ap length whole in absurd (omega (arith, long, some_byte trigraph 63 _ t.2, g, e))

ends_begun : (t front : Bytes) (literals : List StringLiteral) (begun : Option (List Element)) (rest : Bytes) (kind : LiteralKind) (on : ℕ) → AreWhite front
    → AllByRecursion IsStringLiteral literals → AreOpen begun rest
    → t ≡ front ++ flat_map literal_text literals ++ open_text begun ++ rest → IsFaultCause literals begun rest kind on → on ≡ length rest → CanGoOn t
ends_begun t front literals None rest kind on clear each are e (is, none, inl (nothing, empty)) there =
    close_bare t front literals clear each (e ∙ ap (λ ls. front ++ flat_map literal_text ls ++ [] ++ rest) empty ∙ ap (λ r. front ++ [] ++ [] ++ r) nothing
    ∙ append-nil (front ++ [] ++ []) ∙ append-nil (front ++ [])) empty
ends_begun t front literals None rest kind on clear each are e (is, none, inr h) there = absurd (omega (arith, some_byte rest h.0 h.1 h.2, none, there))
ends_begun t front literals (Some elements) rest kind on clear each are e h there = elim (stopped_at_end rest kind on h there) [
  | inl nothing ↦ close_open t front literals clear each elements rest e nothing are
  | inr begun ↦ close_begun t front literals clear each elements rest e begun are
]

pub fault_goes_on : (t : Bytes) (kind : LiteralKind) (at : ℕ) → IsFaultAt t kind at → at ≡ length t → CanGoOn t
fault_goes_on t kind at f there =
    let front = f.front ++ flat_map literal_text f.literals ++ open_text f.begun in
    let long = ap length f.whole in
    let parts = length-append front f.rest in
    ends_begun t f.front f.literals f.begun f.rest kind f.on f.front_white f.each f.elements_are f.whole f.cause (omega (arith, there, long, parts, f.offset))
