-- A walk through a source.
use Rattle.std.proofs.Common.{◌≡◌, ℕ, suc, ◌+◌, ◌-◌, ◌*◌, ◌<◌, ◌≤◌, Bool, true, false, [], ◌∷◌, ◌++◌, length, take, drop, refl, sym, ap, ◌∙◌, subst, arith}
use Rattle.std.specs.Prelude.{◌&&◌, ◌==◌, nat_lt, not, Option, Some, None, if◌then◌else◌}
use Rattle.std.specs.List.{range_with_len}
use Rattle.std.proofs.lemmas.Bool.{and_left}
use Rattle.std.proofs.lemmas.Bool.Decides.{nat_tests}
use Rattle.std.proofs.lemmas.List.{drop-drop, drop_all, drop_more, length-drop, length-take-le, take-append-drop}
use Rattle.pf_literals.specs.declared.faults.LiteralKind.{LiteralKind}
use Rattle.pf_literals.specs.declared.notations.Notation.{Notation}
use Rattle.pf_literals.specs.declared.notations.Notation.TheVariants.{Octal, Hexadecimal}
use Rattle.pf_literals.specs.declared.tokens.Context.{Context}
use Rattle.pf_literals.specs.declared.tokens.Context.TheVariants.{Before, Inside, Behind}
use Rattle.pf_literals.specs.declared.tokens.Token.{Token}
use Rattle.pf_literals.specs.declared.tokens.Token.TheVariants.{Character, Invalid}
use Rattle.pf_literals.specs.Elements.{Bytes, base, digit_value, ends_trigraph, has_more_digits, is_full, is_line_end, simple_byte}
use Rattle.pf_literals.specs.Sources.{is_white}
use Rattle.pf_literals.specs.Tokens.{before_digits, escape_by_letter, escape_token, token_inside, numeric_token, token_outside, finished_numeric, token_at}
use Rattle.pf_literals.specs.Readings.{SourceReading, reading_at_end, prefixed, read_from, after_token}
use Rattle.pf_literals.specs.Verbatim.{IsVerbatim, is_special}
use Rattle.pf_literals.proofs.Complete.{prefixed-none, prefixed-prefixed, read_from-skip}

-- what a turn takes is there
abbrev pub Fits : ℕ → Token → Type 0
Fits n (Character value len) = (0 < len) × (len ≤ n)
Fits n (Invalid kind on) = on ≤ n
Fits n _ = Unit {0}

fits-if : (n : ℕ) (b : Bool) (x y : Token) → Fits n x → Fits n y → Fits n (if b then x else y)
fits-if n true x y p q = p
fits-if n false x y p q = q

finished_numeric-fits : (notation : Notation) (count number n : ℕ) → before_digits notation + count ≤ n → Fits n (finished_numeric notation count number)
finished_numeric-fits Octal count number n h = fits-if n (count == 0) _ _ (omega arith)
    (fits-if n (number == 0) _ _ (omega arith) (omega arith, omega (arith, h)))
finished_numeric-fits Hexadecimal count number n h = fits-if n (count == 0) _ _ (omega arith)
    (fits-if n (number == 0) _ _ (omega arith) (omega arith, omega (arith, h)))

numeric_token-fits : (notation : Notation) (rest : Bytes) (count number n : ℕ) → before_digits notation + count + length rest ≤ n
    → Fits n (numeric_token notation count number rest)
numeric_token-fits notation [] count number n h =
    fits-if n (number == 0 && not (is_full notation count)) _ _ (omega (arith, h)) (finished_numeric-fits notation count number n (omega (arith, h)))
numeric_token-fits notation (byte ∷ rest) count number n h =
    fits-if n (has_more_digits notation count (byte ∷ rest)) _ _
    (fits-if n (nat_lt 255 (base notation * number + digit_value byte)) _ _ (omega arith)
    (numeric_token-fits notation rest (count + 1) (base notation * number + digit_value byte) n (omega (arith, h))))
    (finished_numeric-fits notation count number n (omega (arith, h)))

by_letter-fits : (o : Option ℕ) (byte : ℕ) (rest : Bytes) (n : ℕ) → 2 + length rest ≤ n → Fits n (escape_by_letter o byte rest)
by_letter-fits (Some value) byte rest n h = fits-if n (byte == 63 && ends_trigraph rest) _ _ (omega (arith, h)) (omega arith, omega (arith, h))
by_letter-fits None byte rest n h =
    fits-if n (byte == 120) _ _ (numeric_token-fits Hexadecimal rest 0 0 n (omega (arith, h))) (numeric_token-fits Octal (byte ∷ rest) 0 0 n (omega (arith, h)))

escaped-fits : (rest : Bytes) (n : ℕ) → 1 + length rest ≤ n → Fits n (escape_token rest)
escaped-fits [] n h = omega (arith, h)
escaped-fits (byte ∷ rest) n h = by_letter-fits (simple_byte byte) byte rest n (omega (arith, h))

token_inside-fits : (text : Bytes) → Fits (length text) (token_inside text)
token_inside-fits [] = omega arith
token_inside-fits (byte ∷ rest) =
    let n = suc (length rest) in
    fits-if n (byte == 34) _ _ tt (
    fits-if n (byte == 92) _ _ (escaped-fits rest n (omega arith)) (
    fits-if n (is_line_end byte) _ _ (omega arith) (
    fits-if n (byte == 0) _ _ (omega arith) (
    fits-if n (byte == 63 && ends_trigraph rest) _ _ (omega arith) (omega arith, omega arith)
    )
    )
    )
    )

outside-fits : (text : Bytes) → Fits (length text) (token_outside text)
outside-fits [] = omega arith
outside-fits (byte ∷ rest) = fits-if _ (byte == 34) _ _ tt (fits-if _ (is_white byte) _ _ tt (omega arith))

pub turn-fits : (context : Context) (text : Bytes) → Fits (length text) (token_at context text)
turn-fits Before text = outside-fits text
turn-fits Inside text = token_inside-fits text
turn-fits (Behind close) text = outside-fits text

-- bytes that are passed over, of a text that has at least as many
read_from-past : (context : Context) (n at : ℕ) (rest : Bytes) → n ≤ length rest → read_from context n at rest ≡ read_from context 0 (at + n) (drop n rest)
read_from-past context n at rest few =
    let long = length-take-le n rest few in
    ap (read_from context n at) (sym (take-append-drop n rest))
    ∙ ap (λ k. read_from context k at (take n rest ++ drop n rest)) (sym long)
    ∙ read_from-skip context (take n rest) (drop n rest) at
    ∙ ap (λ k. read_from context 0 (at + k) (drop n rest)) long

-- what is read from a byte of a text on
abbrev pub from : Bytes → Context → ℕ → SourceReading
from t context at = read_from context 0 at (drop at t)

module _ (t : Bytes) (context : Context) (at : ℕ) (less : at < length t) where
  here : Bytes
  here = drop (at + 1) t

  pub turned : (next : Token) → token_at context (drop at t) ≡ next
      → from t context at ≡ after_token at context next (λ p skip. read_from p skip (at + 1) (drop (at + 1) t))
  turned next e =
      let split = drop_more t at 0 less in
      ap (read_from context 0 at) split
      ∙ ap (λ n. after_token at context n (λ p skip. read_from p skip (at + 1) (drop (at + 1) t))) (ap (token_at context) (sym split) ∙ e)

  pub gave : (value len : ℕ) → token_at context (drop at t) ≡ Character value len
      → from t context at ≡ prefixed (value ∷ []) (at ∷ []) (from t context (at + len))
  gave value len e =
      let fits : (0 < len) × (len ≤ length (drop at t)) = subst (Fits (length (drop at t))) e (turn-fits context (drop at t)) in
      let long = length-drop at t in
      let rest = length-drop (at + 1) t in
      let there : at + 1 + (len - 1) ≡ at + len = omega (arith, fits.0) in
      turned (Character value len) e
      ∙ ap (prefixed (value ∷ []) (at ∷ [])) (
      read_from-past context (len - 1) (at + 1) (drop (at + 1) t) (omega (arith, fits.1, long, rest))
      ∙ ap (read_from context 0 (at + 1 + (len - 1))) (drop-drop (len - 1) (at + 1) t)
      ∙ ap (λ n. from t context n) there
      )

pub over : (t : Bytes) (context : Context) (at : ℕ) → length t ≤ at → from t context at ≡ reading_at_end context at
over t context at all = ap (read_from context 0 at) (drop_all at t all)

-- a byte of a run
special_tests : (byte : ℕ) → is_special byte ≡ false
    → ((byte == 34) ≡ false) × ((byte == 92) ≡ false) × (is_line_end byte ≡ false) × ((byte == 0) ≡ false) × ((byte == 63) ≡ false)
special_tests byte h = (grind (arith, nat_tests), grind (arith, nat_tests), grind (arith, nat_tests), grind (arith, nat_tests), grind (arith, nat_tests))

verbatim-byte : (byte : ℕ) (rest : Bytes) → is_special byte ≡ false → token_inside (byte ∷ rest) ≡ Character byte 1
verbatim-byte byte rest h =
    let tests = special_tests byte h in
    let none = and_left (byte == 63) (ends_trigraph rest) tests.4 in
    rw (tests.0, tests.1, tests.2, tests.3, none) refl

read_from-verbatim : (verbatim rest : Bytes) (at : ℕ) → IsVerbatim verbatim
    → read_from Inside 0 at (verbatim ++ rest) ≡ prefixed verbatim (range_with_len at (length verbatim)) (read_from Inside 0 (at + length verbatim) rest)
read_from-verbatim [] rest at h = let same : at ≡ at + 0 = omega arith in ap (λ n. read_from Inside 0 n rest) same ∙ sym (prefixed-none _)
read_from-verbatim (byte ∷ verbatim) rest at h =
    let same : at + 1 + length verbatim ≡ at + suc (length verbatim) = omega arith in
    ap (λ t. after_token at Inside t (λ p skip. read_from p skip (at + 1) (verbatim ++ rest))) (verbatim-byte byte (verbatim ++ rest) h.0)
    ∙ ap (prefixed (byte ∷ []) (at ∷ [])) (read_from-verbatim verbatim rest (at + 1) h.1)
    ∙ prefixed-prefixed (byte ∷ []) verbatim (at ∷ []) (range_with_len (at + 1) (length verbatim)) _
    ∙ ap (λ n. prefixed (byte ∷ verbatim) (range_with_len at (suc (length verbatim))) (read_from Inside 0 n rest)) same

pub ran : (t : Bytes) (at len : ℕ) → len ≤ length (drop at t) → IsVerbatim (take len (drop at t))
    → from t Inside at ≡ prefixed (take len (drop at t)) (range_with_len at (length (take len (drop at t)))) (from t Inside (at + len))
ran t at len few verbatim =
    let long = length-take-le len (drop at t) few in
    ap (read_from Inside 0 at) (sym (take-append-drop len (drop at t)))
    ∙ read_from-verbatim (take len (drop at t)) (drop len (drop at t)) at verbatim
    ∙ ap (λ r. prefixed (take len (drop at t)) (range_with_len at (length (take len (drop at t)))) r) (
    ap (λ n. read_from Inside 0 (at + n) (drop len (drop at t))) long
    ∙ ap (read_from Inside 0 (at + len)) (drop-drop len at t)
    )

-- what a turn takes is there, in the whole text
pub gives_within : (t : Bytes) (context : Context) (at value len : ℕ) → token_at context (drop at t) ≡ Character value len → at < length t
    → (0 < len) × (at + len ≤ length t)
gives_within t context at value len e less =
    let fits : (0 < len) × (len ≤ length (drop at t)) = subst (Fits (length (drop at t))) e (turn-fits context (drop at t)) in
    let long = length-drop at t in
    (fits.0, omega (arith, fits.1, long))

pub stops_within : (t : Bytes) (context : Context) (at on : ℕ) (kind : LiteralKind) → token_at context (drop at t) ≡ Invalid kind on → at < length t
    → at + on ≤ length t
stops_within t context at on kind e less =
    let fits : on ≤ length (drop at t) = subst (Fits (length (drop at t))) e (turn-fits context (drop at t)) in
    let long = length-drop at t in
    omega (arith, fits, long)
