-- What is written of some bytes.
use Rattle.std.proofs.Common.{◌≡◌, ℕ, ◌<◌, ◌≤◌, Bool, true, false, [], ◌∷◌, ◌++◌, length, take, drop, refl, sym, ap, ◌∙◌, arith}
use Rattle.std.specs.Prelude.{◌==◌, None}
use Rattle.std.proofs.lemmas.Bool.{and_right}
use Rattle.std.proofs.lemmas.Bool.Decides.{nat_tests}
use Rattle.std.proofs.lemmas.List.{length-take-le, take-append-drop}
use Rattle.pf_literals.specs.Elements.{Bytes, Plain, quote, written}
use Rattle.pf_literals.specs.Encoding.{element_for, encoding, is_printed, simple_letter, spelled}
use Rattle.pf_literals.specs.Verbatim.{IsVerbatim, is_special}

-- a byte of a run is written as itself
plain_tests : (byte : ℕ) → is_special byte ≡ false → (simple_letter byte ≡ None) × (is_printed byte ≡ true) × ((byte == 63) ≡ false)
plain_tests byte h = (grind (arith, nat_tests), grind (arith, nat_tests), grind (arith, nat_tests))

element_of_verbatim : (after : Bool) (byte : ℕ) → is_special byte ≡ false → element_for after byte ≡ Plain byte
element_of_verbatim after byte h =
    let tests = plain_tests byte h in
    let none = and_right after (byte == 63) tests.2 in
    rw (none, tests.0, tests.1) refl

spelled-one : (after : Bool) (byte : ℕ) (rest : Bytes) → is_special byte ≡ false → spelled after (byte ∷ rest) ≡ byte ∷ spelled false rest
spelled-one after byte rest h =
    ap (λ e. written e ++ spelled (byte == 63) rest) (element_of_verbatim after byte h) ∙ ap (λ b. byte ∷ spelled b rest) (plain_tests byte h).2

-- and so is the run
pub spelled-verbatim : (verbatim rest : Bytes) → IsVerbatim verbatim → spelled false (verbatim ++ rest) ≡ verbatim ++ spelled false rest
spelled-verbatim [] rest h = refl
spelled-verbatim (byte ∷ verbatim) rest h = spelled-one false byte (verbatim ++ rest) h.0 ∙ ap (λ t. byte ∷ t) (spelled-verbatim verbatim rest h.1)

pub spelled-some : (after : Bool) (verbatim rest : Bytes) → IsVerbatim verbatim → 0 < length verbatim
    → spelled after (verbatim ++ rest) ≡ verbatim ++ spelled false rest
spelled-some after [] rest h some = absurd (omega arith)
spelled-some after (byte ∷ verbatim) rest h some = spelled-one after byte (verbatim ++ rest) h.0 ∙ ap (λ t. byte ∷ t) (spelled-verbatim verbatim rest h.1)

pub spelled-part : (after : Bool) (t : Bytes) (len : ℕ) → len ≤ length t → IsVerbatim (take len t) → 0 < len
    → spelled after t ≡ take len t ++ spelled false (drop (length (take len t)) t)
spelled-part after t len few verbatim some =
    let long = length-take-le len t few in
    ap (spelled after) (sym (take-append-drop len t))
    ∙ spelled-some after (take len t) (drop len t) verbatim (omega (arith, long, some))
    ∙ ap (λ n. take len t ++ spelled false (drop n t)) (sym long)

-- a run at the front, and the text after it
pub encoded_verbatim : (t : Bytes) (verbatim : ℕ) → verbatim ≤ length t → IsVerbatim (take verbatim t)
    → spelled false t ≡ take verbatim t ++ spelled false (drop verbatim t)
encoded_verbatim t verbatim few is = ap (spelled false) (sym (take-append-drop verbatim t)) ∙ spelled-verbatim (take verbatim t) (drop verbatim t) is

-- a quote, the run, the text after it, and a quote
pub encoded : (t : Bytes) (verbatim : ℕ) (none a b c d : Bytes) → verbatim ≤ length t → IsVerbatim (take verbatim t) → none ≡ [] → a ≡ none ++ (quote ∷ [])
    → b ≡ a ++ take verbatim t
    → c ≡ b ++ spelled false (drop verbatim t) → d ≡ c ++ (quote ∷ []) → d ≡ encoding t
encoded t verbatim none a b c d few is e f g h i =
    let rest = spelled false (drop verbatim t) in
    i
    ∙ ap (λ x. x ++ (quote ∷ [])) (h ∙ ap (λ x. x ++ rest) (g ∙ ap (λ x. x ++ take verbatim t) (f ∙ ap (λ x. x ++ (quote ∷ [])) e)))
    ∙ ap (λ s. quote ∷ s ++ quote ∷ []) (sym (encoded_verbatim t verbatim few is))
