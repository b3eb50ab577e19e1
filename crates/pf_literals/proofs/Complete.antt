-- A source is read as its bytes, and a text that is not a source yields its fault.
use Rattle.std.proofs.Common.{◌≡◌, ◌≢◌, ℕ, suc, ◌+◌, ◌-◌, true, false, List, [], ◌∷◌, ◌++◌, length, map, refl, sym, ap, ap₂, ◌∙◌, arith, inl, inr}
use Rattle.std.proofs.Common.{length-append}
use Rattle.std.specs.Prelude.{◌==◌, flat_map, Option, Some, None}
use Rattle.std.specs.List.{AllByRecursion}
use Rattle.std.proofs.lemmas.Bool.{ne_eqb}
use Rattle.std.proofs.lemmas.Bool.Decides.{nat_tests}
use Rattle.std.proofs.lemmas.List.{append-nil, append_assoc}
use Rattle.pf_literals.specs.declared.faults.LiteralKind.{LiteralKind}
use Rattle.pf_literals.specs.declared.faults.LiteralKind.TheVariants.{NoLiteral, Unterminated}
use Rattle.pf_literals.specs.declared.notations.Notation.TheVariants.{Octal, Hexadecimal}
use Rattle.pf_literals.specs.declared.tokens.Context.{Context}
use Rattle.pf_literals.specs.declared.tokens.Context.TheVariants.{Before, Inside, Behind}
use Rattle.pf_literals.specs.declared.tokens.Token.{Token}
use Rattle.pf_literals.specs.declared.tokens.Token.TheVariants.{White, Character, Invalid}
use Rattle.pf_literals.specs.Elements.{AreElements, Bytes, Element, Numeric, Plain, Simple, begins_no_trigraph, quote, may_precede, value, written}
use Rattle.pf_literals.specs.Sources.{AreWhite, IsStringLiteral, IsSource, StringLiteral, literal_bytes, close_of, element_offsets, is_white, literal_text}
use Rattle.pf_literals.specs.Sources.{offsets}
use Rattle.pf_literals.specs.Faults.{AreOpen, IsFaultCause, IsFaultAt, open_text}
use Rattle.pf_literals.specs.Tokens.{token_inside, token_outside, token_at}
use Rattle.pf_literals.specs.Readings.{Fault, SourceReading, Whole, reading_at_end, prefixed, read_from, after_token}
use Rattle.pf_literals.proofs.TokenLemmas.{token_inside-element, token_inside-stopped}

-- bytes in front of bytes
pub prefixed-prefixed : (a b x y : List ℕ) (r : SourceReading) → prefixed a x (prefixed b y r) ≡ prefixed (a ++ b) (x ++ y) r
prefixed-prefixed a b x y (Whole bytes found close) = ap₂ (λ s t. Whole s t close) (sym (append_assoc a b bytes)) (sym (append_assoc x y found))
prefixed-prefixed a b x y (Fault kind at) = refl

pub prefixed-none : (r : SourceReading) → prefixed [] [] r ≡ r
prefixed-none (Whole bytes found close) = refl
prefixed-none (Fault kind at) = refl

-- bytes that are passed over
pub read_from-skip : (context : Context) (passed rest : Bytes) (at : ℕ)
    → read_from context (length passed) at (passed ++ rest) ≡ read_from context 0 (at + length passed) rest
read_from-skip context [] rest at = let same : at ≡ at + 0 = omega arith in ap (λ n. read_from context 0 n rest) same
read_from-skip context (byte ∷ passed) rest at =
    let same : at + 1 + length passed ≡ at + suc (length passed) = omega arith in
    read_from-skip context passed rest (at + 1) ∙ ap (λ n. read_from context 0 n rest) same

-- an element of at least one byte
read_from-cons : (byte : ℕ) (more rest : Bytes) (at v : ℕ) → token_inside (byte ∷ more ++ rest) ≡ Character v (length (byte ∷ more))
    → read_from Inside 0 at (byte ∷ more ++ rest) ≡ prefixed (v ∷ []) (at ∷ []) (read_from Inside 0 (at + length (byte ∷ more)) rest)
read_from-cons byte more rest at v h =
    let less : suc (length more) - 1 ≡ length more = omega arith in
    let same : at + 1 + length more ≡ at + suc (length more) = omega arith in
    ap (λ t. after_token at Inside t (λ p skip. read_from p skip (at + 1) (more ++ rest))) h
    ∙ ap (λ n. prefixed (v ∷ []) (at ∷ []) (read_from Inside n (at + 1) (more ++ rest))) less
    ∙ ap (prefixed (v ∷ []) (at ∷ [])) (read_from-skip Inside more rest (at + 1) ∙ ap (λ n. read_from Inside 0 n rest) same)

read_from-element : (element : Element) (rest : Bytes) (at v : ℕ) → token_inside (written element ++ rest) ≡ Character v (length (written element))
    → read_from Inside 0 at (written element ++ rest) ≡ prefixed (v ∷ []) (at ∷ []) (read_from Inside 0 (at + length (written element)) rest)
read_from-element (Plain byte) rest at v h = read_from-cons byte [] rest at v h
read_from-element (Simple letter byte) rest at v h = read_from-cons 92 (letter ∷ []) rest at v h
read_from-element (Numeric Octal digits) rest at v h = read_from-cons 92 digits rest at v h
read_from-element (Numeric Hexadecimal digits) rest at v h = read_from-cons 92 (120 ∷ digits) rest at v h

-- elements one after another
pub read_from-elements : (elements : List Element) (rest : Bytes) (at : ℕ) → AreElements elements rest
    → read_from Inside 0 at (flat_map written elements ++ rest)
    ≡ prefixed (map value elements) (element_offsets at elements) (read_from Inside 0 (at + length (flat_map written elements)) rest)
read_from-elements [] rest at h = let same : at ≡ at + 0 = omega arith in ap (λ n. read_from Inside 0 n rest) same ∙ sym (prefixed-none _)
read_from-elements (element ∷ elements) rest at h =
    let text = flat_map written elements ++ rest in
    let next = at + length (written element) in
    let long : next + length (flat_map written elements) ≡ at + length (written element ++ flat_map written elements) = omega
    (arith, length-append (written element) (flat_map written elements)) in
    ap (read_from Inside 0 at) (append_assoc (written element) (flat_map written elements) rest)
    ∙ read_from-element element text at (value element) (token_inside-element element text h.0 h.1)
    ∙ ap (prefixed (value element ∷ []) (at ∷ [])) (read_from-elements elements rest next h.2)
    ∙ prefixed-prefixed (value element ∷ []) (map value elements) (at ∷ []) (element_offsets next elements) _
    ∙ ap (λ n. prefixed (map value (element ∷ elements)) (element_offsets at (element ∷ elements)) (read_from Inside 0 n rest)) long

-- after a quote nothing matters
begins_quote : (byte : ℕ) (before rest : Bytes) → begins_no_trigraph byte (before ++ (quote ∷ [])) ≡ begins_no_trigraph byte (before ++ (quote ∷ rest))
begins_quote byte [] [] = refl
begins_quote byte [] (c ∷ rest) = refl
begins_quote byte (a ∷ []) rest = refl
begins_quote byte (a ∷ b ∷ before) rest = refl

pub stands_quote : (element : Element) (before rest : Bytes) → may_precede element (before ++ (quote ∷ [])) ≡ may_precede element (before ++ (quote ∷ rest))
stands_quote (Plain byte) before rest = begins_quote byte before rest
stands_quote (Simple letter byte) before rest = begins_quote letter before rest
stands_quote (Numeric notation digits) [] rest = refl
stands_quote (Numeric notation digits) (a ∷ before) rest = refl

closed_elements : (elements : List Element) (rest : Bytes) → AreElements elements (quote ∷ []) → AreElements elements (quote ∷ rest)
closed_elements [] rest h = tt
closed_elements (element ∷ elements) rest h = (h.0, sym (stands_quote element (flat_map written elements) rest) ∙ h.1, closed_elements elements rest h.2)

no_quote : (byte : ℕ) → is_white byte ≡ true → (byte == 34) ≡ false
no_quote byte h = grind (arith, nat_tests)

-- outside of a literal
module _ (context : Context) (out : (t : Bytes) → token_at context t ≡ token_outside t) where
  abbrev here : ℕ → Bytes → Token → SourceReading
  here at rest t = after_token at context t (λ p skip. read_from p skip (at + 1) rest)

  read_from-white : (white rest : Bytes) (at : ℕ) → AreWhite white → read_from context 0 at (white ++ rest) ≡ read_from context 0 (at + length white) rest
  read_from-white [] rest at h = let same : at ≡ at + 0 = omega arith in ap (λ n. read_from context 0 n rest) same
  read_from-white (byte ∷ white) rest at h =
      let same : at + 1 + length white ≡ at + suc (length white) = omega arith in
      let other = no_quote byte h.0 in
      let is : token_outside (byte ∷ white ++ rest) ≡ White = rw (other, h.0) refl in
      ap (here at (white ++ rest)) (out (byte ∷ white ++ rest) ∙ is) ∙ read_from-white white rest (at + 1) h.1 ∙ ap (λ n. read_from context 0 n rest) same

  read_from-opens : (rest : Bytes) (at : ℕ) → read_from context 0 at (quote ∷ rest) ≡ read_from Inside 0 (at + 1) rest
  read_from-opens rest at = ap (here at rest) (out (quote ∷ rest))

-- after a literal and its white space
pub read_from-behind : (elements : List Element) (white rest : Bytes) (at : ℕ) → AreElements elements (quote ∷ []) → AreWhite white
    → read_from Inside 0 at (flat_map written elements ++ (quote ∷ white) ++ rest)
    ≡ prefixed (map value elements) (element_offsets at elements)
    (read_from (Behind (at + length (flat_map written elements))) 0 (at + length (flat_map written elements ++ (quote ∷ white))) rest)
read_from-behind elements white rest at h clear =
    let text = flat_map written elements in
    let long : at + length text + 1 + length white ≡ at + length (text ++ (quote ∷ white)) = omega (arith, length-append text (quote ∷ white)) in
    ap (read_from Inside 0 at) (append_assoc text (quote ∷ white) rest)
    ∙ read_from-elements elements (quote ∷ (white ++ rest)) at (closed_elements elements (white ++ rest) h)
    ∙ ap (prefixed (map value elements) (element_offsets at elements)) (
    read_from-white (Behind (at + length text)) (λ t. refl) white rest (at + length text + 1) clear
    ∙ ap (λ n. read_from (Behind (at + length text)) 0 n rest) long
    )

-- where the text after some literals begins
abbrev pub context_behind : Context → ℕ → List StringLiteral → Context
context_behind context at [] = context
context_behind context at (l ∷ literals) = context_behind (Behind (at + 1 + length (flat_map written l.elements))) (at + length (literal_text l)) literals

pub read_from-literals : (literals : List StringLiteral) (context : Context) (rest : Bytes) (at : ℕ) → ((t : Bytes) → token_at context t ≡ token_outside t)
    → AllByRecursion IsStringLiteral literals
    → read_from context 0 at (flat_map literal_text literals ++ rest)
    ≡ prefixed (literal_bytes literals) (offsets at literals) (read_from (context_behind context at literals) 0
    (at + length (flat_map literal_text literals)) rest)
read_from-literals [] context rest at out h = let same : at ≡ at + 0 = omega arith in ap (λ n. read_from context 0 n rest) same ∙ sym (prefixed-none _)
read_from-literals (l ∷ literals) context rest at out h =
    let body = flat_map written l.elements ++ (quote ∷ l.behind) in
    let more = flat_map literal_text literals in
    let next = at + length (literal_text l) in
    let close = at + 1 + length (flat_map written l.elements) in
    let same : at + 1 + length body ≡ next = omega arith in
    let long : next + length more ≡ at + length (literal_text l ++ more) = omega (arith, length-append (literal_text l) more) in
    ap (read_from context 0 at) (append_assoc (literal_text l) more rest)
    ∙ read_from-opens context out (body ++ (more ++ rest)) at
    ∙ read_from-behind l.elements l.behind (more ++ rest) (at + 1) h.0.0 h.0.1
    ∙ ap (λ n. prefixed (map value l.elements) (element_offsets (at + 1) l.elements) (read_from (Behind close) 0 n (more ++ rest))) same
    ∙ ap (prefixed (map value l.elements) (element_offsets (at + 1) l.elements)) (read_from-literals literals (Behind close) rest next (λ t. refl) h.1)
    ∙ prefixed-prefixed (map value l.elements) (literal_bytes literals) (element_offsets (at + 1) l.elements) (offsets next literals) _
    ∙ ap (λ n. prefixed (literal_bytes (l ∷ literals)) (offsets at (l ∷ literals)) (read_from (context_behind context at (l ∷ literals)) 0 n rest)) long

-- the last one closes there
closed_there : (literals : List StringLiteral) (before at end : ℕ)
    → reading_at_end (context_behind (Behind before) at literals) end ≡ Whole [] [] (close_of before at literals)
closed_there [] before at end = refl
closed_there (l ∷ literals) before at end = closed_there literals (at + 1 + length (flat_map written l.elements)) (at + length (literal_text l)) end

closed_some : (literals : List StringLiteral) (at end : ℕ) → literals ≢ []
    → reading_at_end (context_behind Before at literals) end ≡ Whole [] [] (close_of 0 at literals)
closed_some [] at end some = absurd (some refl)
closed_some (l ∷ literals) at end some = closed_there literals (at + 1 + length (flat_map written l.elements)) (at + length (literal_text l)) end

-- the text after white space and literals
pub read_from-front : (front rest : Bytes) (literals : List StringLiteral) → AreWhite front → AllByRecursion IsStringLiteral literals
    → read_from Before 0 0 (front ++ flat_map literal_text literals ++ rest)
    ≡ prefixed (literal_bytes literals) (offsets (length front) literals)
    (read_from (context_behind Before (length front) literals) 0 (length (front ++ flat_map literal_text literals)) rest)
read_from-front front rest literals clear each =
    let same : 0 + length front ≡ length front = omega arith in
    ap (read_from Before 0 0) (append_assoc front (flat_map literal_text literals) rest)
    ∙ read_from-white Before (λ t. refl) front (flat_map literal_text literals ++ rest) 0 clear
    ∙ ap (λ n. read_from Before 0 n (flat_map literal_text literals ++ rest)) same
    ∙ read_from-literals literals Before rest (length front) (λ t. refl) each
    ∙ ap (λ n. prefixed (literal_bytes literals) (offsets (length front) literals) (read_from (context_behind Before (length front) literals) 0 n rest))
    (sym (length-append front (flat_map literal_text literals)))

pub read_from-source : (t : Bytes) (literals : List StringLiteral) (s : IsSource t literals)
    → read_from Before 0 0 t ≡ Whole (literal_bytes literals) (offsets (length s.front) literals) (close_of 0 (length s.front) literals)
read_from-source t literals s =
    ap (read_from Before 0 0) (s.whole ∙ sym (append-nil (s.front ++ flat_map literal_text literals)))
    ∙ read_from-front s.front [] literals s.front_white s.each
    ∙ ap (prefixed (literal_bytes literals) (offsets (length s.front) literals))
    (closed_some literals (length s.front) (length (s.front ++ flat_map literal_text literals)) s.some)
    ∙ ap₂ (λ b p. Whole b p (close_of 0 (length s.front) literals)) (append-nil (literal_bytes literals)) (append-nil (offsets (length s.front) literals))

-- the context after white space, literals, or an open literal is outside of one, or in it
outside_behind : (literals : List StringLiteral) (context : Context) (at : ℕ) → ((t : Bytes) → token_at context t ≡ token_outside t) → (t : Bytes)
    → token_at (context_behind context at literals) t ≡ token_outside t
outside_behind [] context at out = out
outside_behind (l ∷ literals) context at out = outside_behind literals _ _ (λ t. refl)

fault_by : ℕ → Token → SourceReading
fault_by at (Invalid kind on) = Fault kind (at + on)
fault_by at _ = Fault NoLiteral at

stopped : (rest : Bytes) (kind : LiteralKind) (on at : ℕ) → token_inside rest ≡ Invalid kind on → read_from Inside 0 at rest ≡ Fault kind (at + on)
unfolding fault_by
stopped [] kind on at h = let same : at ≡ at + 0 = omega arith in ap (Fault Unterminated) same ∙ ap (fault_by at) h
stopped (byte ∷ rest) kind on at h = ap (λ t. after_token at Inside t (λ p skip. read_from p skip (at + 1) rest)) h

stray : (byte : ℕ) (after : Bytes) (context : Context) (at : ℕ) → ((t : Bytes) → token_at context t ≡ token_outside t) → byte ≢ quote → is_white byte ≡ false
    → read_from context 0 at (byte ∷ after) ≡ Fault NoLiteral (at + 0)
stray byte after context at out other black =
    let no = ne_eqb byte 34 other in
    let is : token_outside (byte ∷ after) ≡ Invalid NoLiteral 0 = rw (no, black) refl in
    ap (λ t. after_token at context t (λ p skip. read_from p skip (at + 1) after)) (out (byte ∷ after) ∙ is)

-- what is read of a fault's rest
cause : (literals : List StringLiteral) (begun : Option (List Element)) (rest : Bytes) (kind : LiteralKind) (on at from : ℕ) → AreOpen begun rest
    → IsFaultCause literals begun rest kind on
    → (bytes found : List ℕ) → prefixed bytes found (read_from (context_behind Before from literals) 0 at (open_text begun ++ rest)) ≡ Fault kind
    (at + length (open_text begun) + on)
cause literals (Some elements) rest kind on at from open_ h bytes found =
    let context = context_behind Before from literals in
    let text = flat_map written elements in
    let same : at + 1 + length text + on ≡ at + suc (length text) + on = omega arith in
    ap (prefixed bytes found) (
    read_from-opens context (outside_behind literals Before from (λ t. refl)) (text ++ rest) at
    ∙ read_from-elements elements rest (at + 1) open_
    ∙ ap (prefixed (map value elements) (element_offsets (at + 1) elements)) (stopped rest kind on (at + 1 + length text) (token_inside-stopped kind rest on h))
    ) ∙ ap (Fault kind) same
cause literals None rest kind on at from open_ (is, none, inl (e, empty)) bytes found =
    let same : at ≡ at + 0 + on = omega (arith, none) in
    ap (λ ls. prefixed bytes found (read_from (context_behind Before from ls) 0 at rest)) empty
    ∙ ap (λ t. prefixed bytes found (read_from Before 0 at t)) e
    ∙ ap₂ Fault (sym is) same
cause literals None rest kind on at from open_ (is, none, inr (byte, after, e, other, black)) bytes found =
    let context = context_behind Before from literals in
    let same : at + 0 ≡ at + 0 + on = omega (arith, none) in
    ap (prefixed bytes found) (ap (read_from context 0 at) e ∙ stray byte after context at (outside_behind literals Before from (λ t. refl)) other black)
    ∙ ap₂ Fault (sym is) same

pub read_from-fault : (t : Bytes) (kind : LiteralKind) (at : ℕ) → IsFaultAt t kind at → read_from Before 0 0 t ≡ Fault kind at
read_from-fault t kind at f =
    let front = f.front ++ flat_map literal_text f.literals in
    let begun = open_text f.begun in
    let there : length front + length begun + f.on ≡ at = omega (arith, f.offset, length-append front begun) in
    ap (read_from Before 0 0) (f.whole ∙ append_assoc front begun f.rest)
    ∙ read_from-front f.front (begun ++ f.rest) f.literals f.front_white f.each
    ∙ cause f.literals f.begun f.rest kind f.on (length front) (length f.front) f.elements_are f.cause (literal_bytes f.literals)
    (offsets (length f.front) f.literals)
    ∙ ap (Fault kind) there
