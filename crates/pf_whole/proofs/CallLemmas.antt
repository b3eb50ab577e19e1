-- Where the lists of calls of two texts differ first.
use Rattle.std.proofs.Common.{◌≡◌, ℕ, List, [], ◌∷◌, ◌++◌, refl, sym, ◌∙◌, inl, inr}
use Rattle.pf_whole.specs.Answers.{CallsDifferAt}
use Rattle.pf_whole.specs.meaning.Traces.{PlacedCall}

-- after calls that they have in common
pub after_same : (done calls others : List PlacedCall) (index : ℕ) → CallsDifferAt calls others index → CallsDifferAt (done ++ calls) (done ++ others) index
after_same [] calls others index h = h
after_same (call ∷ done) calls others index h = inl (refl, after_same done calls others index h)

-- in one place at most, and not in equal lists
pub differ_once : (calls others : List PlacedCall) (i j : ℕ) → CallsDifferAt calls others i → CallsDifferAt calls others j → i ≡ j
differ_once [] [] i j h g = absurd h
differ_once (call ∷ calls) [] i j h g = h ∙ sym g
differ_once [] (other ∷ others) i j h g = h ∙ sym g
differ_once (call ∷ calls) (other ∷ others) i j (inl h) (inl g) = differ_once calls others i j h.1 g.1
differ_once (call ∷ calls) (other ∷ others) i j (inl h) (inr g) = absurd (g.0 h.0)
differ_once (call ∷ calls) (other ∷ others) i j (inr h) (inl g) = absurd (h.0 g.0)
differ_once (call ∷ calls) (other ∷ others) i j (inr h) (inr g) = h.1 ∙ sym g.1

pub differ_not : (calls : List PlacedCall) (i : ℕ) → CallsDifferAt calls calls i → ⊥
differ_not [] i h = h
differ_not (call ∷ calls) i (inl h) = differ_not calls i h.1
differ_not (call ∷ calls) i (inr h) = h.0 refl
