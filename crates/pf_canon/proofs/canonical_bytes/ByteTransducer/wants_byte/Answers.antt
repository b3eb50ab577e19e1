use Rattle.std.proofs.Common.{◌≡◌, ◌∙◌, Bool, true, false, [], ◌∷◌, ◌++◌, length, arith, refl, subst, sym}
use Rattle.std.proofs.lemmas.Bool.Decides.{nat_tests}
use Rattle.std.specs.Prelude.{◌==◌, MatchBool}
use Rattle.pf_values.specs.meaning.Text.{Text}
use Rattle.pf_canon.specs.Output.{IsFrontOf}
use Rattle.pf_canon.specs.CanonicalBytes.{pending_in}
use Rattle.pf_canon.proofs.canonical_bytes.ByteTransducer.wants_byte.Goals as goal

by_front : (is_open empty : Bool) (t f : Text) → is_open ≡ true → IsFrontOf t f → empty ≡ (length f == 0)
    → MatchBool empty ((is_open ≡ true) × (t ≡ [])) (t ≡ [] → is_open ≡ false)
by_front is_open empty t [] going h e = subst (λ b. MatchBool b ((is_open ≡ true) × (t ≡ [])) (t ≡ [] → is_open ≡ false)) (sym e) (going, h.some refl)
by_front is_open empty t (byte ∷ f) going h e =
    let some : empty ≡ false = e ∙ grind (arith, nat_tests) in
    subst (λ b. MatchBool b ((is_open ≡ true) × (t ≡ [])) (t ≡ [] → is_open ≡ false)) (sym some)
    (λ none. absurd (let both : byte ∷ (f ++ h.behind) ≡ [] = sym h.whole ∙ none in cc))

pub returns : goal.returns
returns c = by_front c.args.self.now.is_open c.is_empty.result
    (pending_in c.args.self.now) c.front.result.now c.if-not-self.false c.front.ensures c.is_empty.ensures
