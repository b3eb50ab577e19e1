use Rattle.std.proofs.Common.{◌+◌, arith, subst, sym}
use Rattle.std.proofs.lemmas.Fmt.{decimal_digit}
use Rattle.pf_text.specs.Offsets.{HasBytes}
use Rattle.pf_text.proofs.SpecificationLemmas.{bytes_one}
use Rattle.pf_whole.proofs.verbatim_directives.amount_at.Goals as goal

pub returns-in-48 : goal.returns-in-48
returns-in-48 c = (
  subst (HasBytes c.args.text.now c.args.start (c.args.start + 1)) (sym (decimal_digit 0 (omega arith)))
      (bytes_one c.args.text.now c.args.start 48 (omega (arith, c.if-start-text.false)) (sym c.in-48.is)),
  omega arith,
)
