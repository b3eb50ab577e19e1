use Rattle.std.proofs.Common.{◌≡◌, false, ap, arith, sym, ◌∙◌}
use Rattle.pf_values.specs.declared.flags.Flag.TheVariants.{Minus}
use Rattle.pf_values.specs.meaning.Flags.{has}
use Rattle.pf_values.specs.meaning.Specification.{width_of}
use Rattle.pf_reduce.proofs.FieldLemmas.{bare_form}
use Rattle.pf_reduce.proofs.LetterLemmas.{letters_change}
use Rattle.pf_reduce.proofs.changes.narrow_change.Goals as goal

pub returns : goal.returns
returns c =
    let s = c.args.directive.now in
    let r = c.requires in
    let bare : width_of s ≡ 0 = omega (arith, c.if-width-gt0.false, c.width.ensures.value) in
    let right : has s.flags Minus ≡ false = sym (ap (λ f. has f Minus) c.flags.ensures.value) ∙ sym c.has.ensures ∙ c.if-has.false in
    letters_change c.args.model s r.parts (bare_form c.args.model s r.parts r.number r.unfilled r.precision bare right)
