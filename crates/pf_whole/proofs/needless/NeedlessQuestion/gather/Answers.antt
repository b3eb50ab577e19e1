use Rattle.std.proofs.Common.{◌≡◌, ◌∙◌, false, inl, inr, sym, true, refl}
use Rattle.pf_whole.proofs.needless.NeedlessQuestion.gather.Goals as goal

pub returns-then-not-has : goal.returns-then-not-has
returns-then-not-has c = inr (λ h. (let no : true ≡ false = sym h.0 ∙ sym c.has.ensures ∙ c.if-not-has.true in cc), refl)

pub returns-then-have_no_effect : goal.returns-then-have_no_effect
returns-then-have_no_effect c =
    inl (sym c.has.ensures ∙ c.if-not-has.false, rw c.with-more.ensures at c.have_no_effect.ensures.0 c.if-have_no_effect.true, c.with-more.ensures)

pub returns : goal.returns
returns c = inr (
  λ h.
      let is = c.have_no_effect.ensures.1 (rw c.with-more.ensures h.1) in
      let no : true ≡ false = sym is ∙ c.if-have_no_effect.false in cc,
  refl,
)
