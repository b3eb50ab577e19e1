use Rattle.std.proofs.Common.{arith, sym, ap, ◌∙◌, ◌++◌, ◌/◌, decimal, length}
use Rattle.std.proofs.lemmas.Fmt.{decimal_digit}
use Rattle.pf_text.proofs.SpellingLemmas.{appended_both, decimal-push, length-appended, length-decimal-push}
use Rattle.pf_text.proofs.spelling.+push_number.Goals as goal

pub push-requires : goal.push-requires
push-requires t c = (omega arith, omega (arith, c.requires, ap length (decimal_digit c.args.number c.if-number-lt10.true)))

pub returns-then-number-lt10 : goal.returns-then-number-lt10
returns-then-number-lt10 t c = c.push.ensures.items ∙ ap (λ d. c.args.out.now.items ++ d) (sym (decimal_digit c.args.number c.if-number-lt10.true))

pub push_number-requires : goal.push_number-requires
push_number-requires t c = (omega arith, omega (arith, c.requires, length-decimal-push c.args.number c.if-number-lt10.false c.ranges.number.fits))

pub push-requires-2 : goal.push-requires-2
push-requires-2 t c = (
  omega arith,
  omega (
    arith,
    c.requires,
    length-decimal-push c.args.number c.if-number-lt10.false c.ranges.number.fits,
    length-appended c.args.out.now.items c.push_number.new.out.items (decimal (c.args.number / 10)) c.push_number.ensures,
  ),
)

pub returns : goal.returns
returns t c =
    appended_both _ _ _ _ _ c.push_number.ensures c.push-2.ensures.items
    ∙ ap (λ d. c.args.out.now.items ++ d) (sym (decimal-push c.args.number c.if-number-lt10.false c.ranges.number.fits))
