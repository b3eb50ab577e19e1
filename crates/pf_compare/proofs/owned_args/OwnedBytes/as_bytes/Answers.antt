use Rattle.std.proofs.Common.{◌≡◌, ◌∙◌, ℕ, refl, replicate, subst, sym, take}
use Rattle.std.specs.Prelude.{Contains}
use Rattle.pf_values.specs.meaning.Text.{Text}
use Rattle.pf_compare.specs.declared.owned_args.OwnedBytes.{OwnedBytes}
use Rattle.pf_compare.specs.OwnedBytes.{bytes_of_owned}
use Rattle.pf_compare.proofs.CandidateLemmas.{letters_taken, no_zero}
use Rattle.pf_compare.proofs.owned_args.OwnedBytes.as_bytes.Goals as goal

taken : (owned : OwnedBytes) (letters : Text) (n : ℕ) → n ≡ owned.count → (owned.byte ≡ 66 → letters ≡ replicate 4096 66)
    → ((owned.byte ≡ 66 → ⊥) → letters ≡ replicate 4096 65) → take n letters ≡ bytes_of_owned owned
taken owned letters n e b a = subst (λ (m : ℕ). take m letters ≡ bytes_of_owned owned) (sym e)
    (letters_taken owned.byte owned.count letters owned.of_candidate b a)

pub unreachable-requires : goal.unreachable-requires
unreachable-requires c =
    let self = c.args.self.now in
    no_zero self.byte self.count self.of_candidate (subst (λ (t : Text). Contains t 0)
    (taken self c.letters.result.now c.from.result c.from.ensures c.letters.ensures.b c.letters.ensures.other) (c.in-None.ensures.zero.0 refl))

pub returns : goal.returns
returns c = c.in-Some.ensures.value
    ∙ taken c.args.self.now c.letters.result.now c.from.result c.from.ensures c.letters.ensures.b c.letters.ensures.other
