use Rattle.std.proofs.Common.{◌/◌, ◌^◌, arith}
use Rattle.std.proofs.lemmas.Nat.{trailing_le}
use Rattle.pf_text.proofs.MarkLemmas.{bit_found, next_found, none_marked}
use Rattle.pf_text.proofs.marks.next_marked.Goals as goal

pub returns-then-left-eq0 : goal.returns-then-left-eq0
returns-then-left-eq0 c = none_marked c.args.marks c.args.at 64 c.if-left-eq0.true

pub returns : goal.returns
returns c = (
  omega arith,
  omega (arith, c.requires, trailing_le 64 (c.args.marks / 2 ^ c.args.at)),
  next_found c.args.marks c.args.at c.ranges.marks.fits c.if-left-eq0.false,
  bit_found c.args.marks c.args.at c.ranges.marks.fits c.if-left-eq0.false,
)
