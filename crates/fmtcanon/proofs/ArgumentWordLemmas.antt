-- What words give no number, and that they give one argument at most.
use Rattle.std.proofs.Common.{◌≡◌, ℕ, ℤ, ◌-◌, ◌≤◌, Bool, true, false, [], ◌∷◌, ◌++◌, length, get_or, take, drop, pos, refl, sym, ap, subst, ◌∙◌, arith, Option}
use Rattle.std.proofs.Common.{Some, None, IfNone}
use Rattle.std.proofs.lemmas.List.{take_rest}
use Rattle.pf_values.specs.meaning.Arguments.{Argument, Number, String}
use Rattle.pf_values.specs.meaning.Text.{Text}
use Rattle.fmtcanon.specs.ArgumentWords.{SpellsArgument, SpellsMagnitude, SpellsNumber, SpellsOneArgument, minus_if, negated_if}
use Rattle.fmtcanon.specs.declared.arguments.UntypedArg.{UntypedArg}
use Rattle.fmtcanon.proofs.MagnitudeLemmas.{read_only}

-- the text after its first byte, and after its first two, as the code's patterns cut it
pub rest_of : (t : Text) → 1 ≤ length t → t ≡ get_or t 0 0 ∷ take (length t - 1) (drop 1 t)
rest_of [] h = absurd (omega arith)
rest_of (x ∷ t) h = ap (λ (u : Text). x ∷ u) (sym (take_rest (x ∷ t) 1))

pub rest_of_two : (t : Text) → 2 ≤ length t → t ≡ get_or t 0 0 ∷ get_or t 1 0 ∷ take (length t - 2) (drop 2 t)
rest_of_two [] h = absurd (omega arith)
rest_of_two (x ∷ []) h = absurd (omega arith)
rest_of_two (x ∷ y ∷ t) h = ap (λ (u : Text). x ∷ y ∷ u) (sym (take_rest (x ∷ y ∷ t) 2))

-- a `-` isn't a digit
no_minus : (digits rest : Text) (n : ℕ) → SpellsMagnitude digits n → digits ≡ 45 ∷ rest → ⊥
no_minus digits rest n h e =
    let read = read_only digits n h in
    let first : get_or digits 0 0 ≡ 45 = ap (λ t. get_or t 0 0) e in
    let digit = read.bytes_are 0 0 read.some in
    omega (arith, digit.0)

digits_behind_minus : (b : Bool) (t rest digits : Text) (n : ℕ) → t ≡ 45 ∷ rest → t ≡ minus_if b ++ digits → SpellsMagnitude digits n
    → (b ≡ true) × (rest ≡ digits)
digits_behind_minus true t rest digits n e h s = (refl, ap (drop 1) (sym e ∙ h))
digits_behind_minus false t rest digits n e h s = absurd (no_minus digits rest n s (sym h ∙ e))

digits_without_minus : (b : Bool) (t digits : Text) → (get_or t 0 0 ≡ 45 → 1 ≤ length t → ⊥) → t ≡ minus_if b ++ digits → (b ≡ false) × (t ≡ digits)
digits_without_minus true t digits other h = absurd (other (ap (λ t. get_or t 0 0) h) (omega (arith, ap length h)))
digits_without_minus false t digits other h = (refl, h)

pub no_number_behind_minus : (t rest : Text) → t ≡ 45 ∷ rest → ((n : ℕ) → SpellsMagnitude rest n → ⊥) → (z : ℤ) → SpellsNumber t z → ⊥
no_number_behind_minus t rest e none z h =
    let same = digits_behind_minus h.is_negative t rest h.unsigned h.magnitude e h.whole h.spelled in
    none h.magnitude (subst (λ u. SpellsMagnitude u h.magnitude) (sym same.1) h.spelled)

no_number_without_minus : (t : Text) → (get_or t 0 0 ≡ 45 → 1 ≤ length t → ⊥) → ((n : ℕ) → SpellsMagnitude t n → ⊥) → (z : ℤ) → SpellsNumber t z → ⊥
no_number_without_minus t other none z h =
    let same = digits_without_minus h.is_negative t h.unsigned other h.whole in
    none h.magnitude (subst (λ u. SpellsMagnitude u h.magnitude) (sym same.1) h.spelled)

pub none_without_minus : (r : Option ℤ) (t : Text) → (get_or t 0 0 ≡ 45 → 1 ≤ length t → ⊥) → IfNone r ((n : ℕ) → SpellsMagnitude t n → ⊥)
    → IfNone r ((z : ℤ) → SpellsNumber t z → ⊥)
none_without_minus (Some n) t other h = h
none_without_minus None t other h = no_number_without_minus t other h

-- no word begins with both letters
no_letter_twice : (word rest bytes : Text) → word ≡ 110 ∷ rest → word ≡ 115 ∷ bytes → ⊥
no_letter_twice word rest bytes e h =
    let n : get_or word 0 0 ≡ 110 = ap (λ t. get_or t 0 0) e in
    let s : get_or word 0 0 ≡ 115 = ap (λ t. get_or t 0 0) h in
    omega arith

no_argument_of : (word rest : Text) → word ≡ 110 ∷ 58 ∷ rest → ((z : ℤ) → SpellsNumber rest z → ⊥) → (a : Argument) → SpellsArgument word a → ⊥
no_argument_of word rest e none (Number n) h =
    let same : rest ≡ h.0 = ap (drop 2) (sym e ∙ h.2) in
    none n (subst (λ u. SpellsNumber u n) (sym same) h.1)
no_argument_of word rest e none (String bytes) h = no_letter_twice word _ _ e h.1

pub no_argument : (r : Option UntypedArg) (word rest : Text) → r ≡ None → word ≡ 110 ∷ 58 ∷ rest → ((z : ℤ) → SpellsNumber rest z → ⊥)
    → IfNone r ((a : Argument) → SpellsArgument word a → ⊥)
no_argument r word rest none e h = rw none (no_argument_of word rest e h)

-- one argument at most

same_magnitude : (digits : Text) (m n : ℕ) → SpellsMagnitude digits m → SpellsMagnitude digits n → m ≡ n
same_magnitude digits m n h g = (read_only digits m h).number ∙ sym (read_only digits n g).number

same_negated : (b : Bool) (u v : Text) (m n : ℕ) → u ≡ v → SpellsMagnitude u m → SpellsMagnitude v n → negated_if b (pos m) ≡ negated_if b (pos n)
same_negated b u v m n e h g = ap (λ k. negated_if b (pos k)) (same_magnitude v m n (subst (λ t. SpellsMagnitude t m) e h) g)

same_number_of : (a b : Bool) (t u v : Text) (m n : ℕ) → t ≡ minus_if a ++ u → t ≡ minus_if b ++ v → SpellsMagnitude u m → SpellsMagnitude v n
    → negated_if a (pos m) ≡ negated_if b (pos n)
same_number_of true true t u v m n e f h g = same_negated true u v m n (ap (drop 1) (sym e ∙ f)) h g
same_number_of true false t u v m n e f h g = absurd (no_minus v u n g (sym f ∙ e))
same_number_of false true t u v m n e f h g = absurd (no_minus u v m h (sym e ∙ f))
same_number_of false false t u v m n e f h g = same_negated false u v m n (sym e ∙ f) h g

same_number : (t : Text) (y z : ℤ) → SpellsNumber t y → SpellsNumber t z → y ≡ z
same_number t y z h g =
    h.value ∙ same_number_of h.is_negative g.is_negative t h.unsigned g.unsigned h.magnitude g.magnitude h.whole g.whole h.spelled g.spelled ∙ sym g.value

pub spells_one : SpellsOneArgument
spells_one word (Number y) (Number z) h g =
    let same : h.0 ≡ g.0 = ap (drop 2) (sym h.2 ∙ g.2) in
    ap Number (same_number g.0 y z (subst (λ t. SpellsNumber t y) same h.1) g.1)
spells_one word (Number y) (String bytes) h g = absurd (no_letter_twice word _ _ h.2 g.1)
spells_one word (String bytes) (Number z) h g = absurd (no_letter_twice word _ _ g.2 h.1)
spells_one word (String a) (String b) h g = ap String (ap (drop 2) (sym h.1 ∙ g.1))
