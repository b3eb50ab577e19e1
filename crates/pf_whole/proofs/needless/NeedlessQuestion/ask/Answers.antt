use Rattle.std.proofs.Common.{◌≡◌, ◌∙◌, ap, false, sym, true}
use Rattle.pf_whole.specs.Parts.{with_part}
use Rattle.pf_whole.proofs.NeedlessLemmas.{found_more, found_same}
use Rattle.pf_whole.proofs.needless.NeedlessQuestion.ask.Goals as goal

pub returns-then-not-has : goal.returns-then-not-has
returns-then-not-has c asked h =
    found_same c.args.self.now asked c.args.each c.args.part h (λ given none.
    let no : true ≡ false = sym given ∙ sym c.has.ensures ∙ c.if-not-has.true in cc)

pub returns-then-not-have_no_effect : goal.returns-then-not-have_no_effect
returns-then-not-have_no_effect c asked h =
    let one = c.with.ensures ∙ ap (λ set. with_part set c.args.part) c.empty.ensures in
    found_same c.args.self.now asked c.args.each c.args.part h (λ given none.
    let is = c.have_no_effect.ensures.1 (rw one none) in
    let no : true ≡ false = sym is ∙ c.if-not-have_no_effect.true in cc)

pub returns : goal.returns
returns c asked h =
    let one = c.with.ensures ∙ ap (λ set. with_part set c.args.part) c.empty.ensures in
    rw c.with-2.ensures (found_more c.args.self.now asked c.args.each c.args.part h (sym c.has.ensures ∙ c.if-not-has.false)
    (rw one at c.have_no_effect.ensures.0 c.if-not-have_no_effect.false))
