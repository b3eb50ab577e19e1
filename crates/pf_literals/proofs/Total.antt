-- A text is a source, or it has a fault.
use Rattle.std.proofs.Common.{◌≡◌, ◌≢◌, ℕ, zero, suc, ◌+◌, ◌<◌, ◌≤◌, Bool, true, false, List, [], ◌∷◌, ◌++◌, length, refl, sym, ap, ◌∙◌, subst, arith, inl, inr}
use Rattle.std.proofs.Common.{length-append}
use Rattle.std.specs.Prelude.{◌⊎◌, flat_map, Option, Some, None}
use Rattle.std.specs.List.{AllByRecursion}
use Rattle.std.proofs.lemmas.Bool.{cases_eq}
use Rattle.std.proofs.lemmas.List.{append-nil, append_assoc}
use Rattle.pf_literals.specs.declared.faults.LiteralKind.{LiteralKind}
use Rattle.pf_literals.specs.declared.faults.LiteralKind.TheVariants.{NoLiteral, Unterminated}
use Rattle.pf_literals.specs.declared.notations.Notation.TheVariants.{Octal, Hexadecimal}
use Rattle.pf_literals.specs.Elements.{AreElements, Bytes, Element, IsElement, Numeric, Plain, Simple, quote, may_precede, written}
use Rattle.pf_literals.specs.Sources.{AreWhite, IsStringLiteral, IsSource, StringLiteral, is_white, literal_text}
use Rattle.pf_literals.specs.Faults.{AreOpen, IsFaultCause, IsFaultAt, IsElementFault, open_text}
use Rattle.pf_literals.proofs.Complete.{stands_quote}
use Rattle.pf_literals.proofs.Judging.{Judgement, Quote, Found, Stuck, judge}

-- outside of a literal: white space, literals, and the end or a fault
pub data Outside (t : Bytes) : Type 0 where
  Good : (front : Bytes) (literals : List StringLiteral) → AreWhite front → AllByRecursion IsStringLiteral literals
      → t ≡ front ++ flat_map literal_text literals → Outside t
  Bad : (front : Bytes) (literals : List StringLiteral) (begun : Option (List Element)) (rest : Bytes) (kind : LiteralKind) (on : ℕ)
      → AreWhite front → AllByRecursion IsStringLiteral literals → AreOpen begun rest → ((others : List StringLiteral) → IsFaultCause others begun rest kind on)
      → t ≡ front ++ flat_map literal_text literals ++ open_text begun ++ rest → Outside t

-- in a literal: elements that end in a quote or in a fault
pub data Inside (t : Bytes) : Type 0 where
  Closed : (elements : List Element) (rest : Bytes) → AreElements elements (quote ∷ []) → Outside rest → t ≡ flat_map written elements ++ (quote ∷ rest)
      → Inside t
  Open : (elements : List Element) (rest : Bytes) (kind : LiteralKind) (on : ℕ) → AreElements elements rest → IsElementFault rest kind on
      → t ≡ flat_map written elements ++ rest → Inside t

written_some : (element : Element) (rest : Bytes) → length rest < length (written element ++ rest)
written_some (Plain byte) rest = omega arith
written_some (Simple letter byte) rest = omega arith
written_some (Numeric Octal digits) rest = omega (arith, length-append digits rest)
written_some (Numeric Hexadecimal digits) rest = omega (arith, length-append digits rest)

-- an element in front
more_inside : (t rest : Bytes) (element : Element) → IsElement element → may_precede element rest ≡ true → t ≡ written element ++ rest → Inside rest → Inside t
more_inside t rest element is stands whole (Closed elements after are out e) =
    let behind = subst (λ r. may_precede element r ≡ true) e stands in
    Closed (element ∷ elements) after (is, stands_quote element (flat_map written elements) after ∙ behind, are) out
    (whole ∙ ap (λ r. written element ++ r) e ∙ sym (append_assoc (written element) (flat_map written elements) (quote ∷ after)))
more_inside t rest element is stands whole (Open elements after kind on are stop e) =
    Open (element ∷ elements) after kind on (is, subst (λ r. may_precede element r ≡ true) e stands, are) stop
    (whole ∙ ap (λ r. written element ++ r) e ∙ sym (append_assoc (written element) (flat_map written elements) after))

-- what follows a quote, side by side
side_by_side : (text front more begun rest : Bytes) → text ++ (quote ∷ (front ++ more ++ begun ++ rest)) ≡ (text ++ (quote ∷ front)) ++ more ++ begun ++ rest
side_by_side text front more begun rest =
    let behind = quote ∷ front in
    sym (
    ap (λ r. r ++ begun ++ rest) (append_assoc text behind more)
    ∙ ap (λ r. r ++ rest) (append_assoc text (behind ++ more) begun)
    ∙ append_assoc text (behind ++ more ++ begun) rest
    )

-- a quote in front of what is in a literal
opened : (rest : Bytes) → Inside rest → Outside (quote ∷ rest)
opened rest (Open elements after kind on are stop e) = Bad [] [] (Some elements) after kind on tt tt are (λ others. stop) (ap (λ r. quote ∷ r) e)
opened rest (Closed elements after are (Good front literals clear each e) f) =
    let text = flat_map written elements in
    Good [] (record { elements = elements; behind = front } ∷ literals) tt ((are, clear), each)
    (ap (λ r. quote ∷ r) (f ∙ ap (λ r. text ++ (quote ∷ r)) e ∙ sym (append_assoc text (quote ∷ front) (flat_map literal_text literals))))
opened rest (Closed elements after are (Bad front literals begun left kind on clear each open_ cause e) f) =
    let text = flat_map written elements in
    Bad [] (record { elements = elements; behind = front } ∷ literals) begun left kind on tt ((are, clear), each) open_ cause
    (ap (λ r. quote ∷ r) (f ∙ ap (λ r. text ++ (quote ∷ r)) e ∙ side_by_side text front (flat_map literal_text literals) (open_text begun) left))

-- white space in front
more_white : (byte : ℕ) (rest : Bytes) → is_white byte ≡ true → Outside rest → Outside (byte ∷ rest)
more_white byte rest h (Good front literals clear each e) = Good (byte ∷ front) literals (h, clear) each (ap (λ r. byte ∷ r) e)
more_white byte rest h (Bad front literals begun left kind on clear each open_ cause e) =
    Bad (byte ∷ front) literals begun left kind on (h, clear) each open_ cause (ap (λ r. byte ∷ r) e)

other_byte : (byte : ℕ) (rest : Bytes) → byte ≢ quote → (b : Bool) → is_white byte ≡ b → Outside rest → Outside (byte ∷ rest)
other_byte byte rest other true h later = more_white byte rest h later
other_byte byte rest other false h later = Bad [] [] None (byte ∷ rest) NoLiteral 0 tt tt tt (λ others. (refl, refl, inr (byte, rest, refl, other, h))) refl

abbrev Both : Bytes → Type 0
Both t = Inside t × Outside t

module _ (n : ℕ) (later : (t : Bytes) → length t ≤ n → Both t) where
  from_outside : (t : Bytes) → length t ≤ n + 1 → Outside t
  from_outside [] few = Good [] [] tt tt refl
  from_outside (byte ∷ rest) few = elim (cases_eq byte quote) [
    | inl e ↦ subst (λ b. Outside (b ∷ rest)) (sym e) (opened rest (later rest (omega arith)).0)
    | inr other ↦ other_byte byte rest other (is_white byte) refl (later rest (omega arith)).1
  ]

  by_judgement : (t : Bytes) → length t ≤ n + 1 → Judgement t → Inside t
  by_judgement t few (Quote after e) = let long = ap length e in Closed [] after tt (later after (omega arith)).1 e
  by_judgement t few (Found element after is stands e) =
      let long = ap length e in
      more_inside t after element is stands e (later after (omega (arith, written_some element after))).0
  by_judgement t few (Stuck kind on stop) = Open [] t kind on tt stop refl

  from_both : (t : Bytes) → length t ≤ n + 1 → Both t
  from_both t few = (by_judgement t few (judge t), from_outside t few)

nothing : Both []
nothing = (Open [] [] Unterminated 0 tt (inr (inl refl, refl)) refl, Good [] [] tt tt refl)

both : (n : ℕ) (t : Bytes) → length t ≤ n → Both t
both zero [] few = nothing
both zero (byte ∷ rest) few = absurd (omega arith)
both (suc n) t few = from_both n (both n) t (omega (arith, few))

-- a source, or where and why it is not one
abbrev pub IsSettled : Bytes → Type 0
IsSettled t = ((literals : List StringLiteral) × IsSource t literals) ⊎ ((kind : LiteralKind) × (at : ℕ) × IsFaultAt t kind at)

by_outside : (t : Bytes) → Outside t → IsSettled t
by_outside t (Good front [] clear each e) =
    inr (
      NoLiteral,
      length (front ++ [] ++ []) + 0,
      record {
        front = front;
        literals = [];
        begun = None;
        rest = [];
        on = 0;
        front_white = clear;
        each = tt;
        elements_are = tt;
        whole = e ∙ sym (append-nil (front ++ [])) ∙ sym (append-nil (front ++ [] ++ []));
        cause = (refl, refl, inl (refl, refl));
        offset = refl;
      },
    )
by_outside t (Good front (l ∷ literals) clear each e) =
    inl (l ∷ literals, record { front = front; front_white = clear; each = each; some = λ none. cc; whole = e })
by_outside t (Bad front literals begun rest kind on clear each open_ cause e) =
    inr (
      kind,
      length (front ++ flat_map literal_text literals ++ open_text begun) + on,
      record {
        front = front;
        literals = literals;
        begun = begun;
        rest = rest;
        on = on;
        front_white = clear;
        each = each;
        elements_are = open_;
        whole = e;
        cause = cause literals;
        offset = refl;
      },
    )

pub settled : (t : Bytes) → IsSettled t
settled t = by_outside t (both (length t) t (omega arith)).1
