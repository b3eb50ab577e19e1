use Rattle.pf_reduce.proofs.Narrowing.{cut_on_the_left, cut_on_the_right}
use Rattle.pf_reduce.proofs.padding.Padding.with_width_at_most.Goals as goal

pub returns-then-self : goal.returns-then-self
returns-then-self c =
    rw (c.if-self.true, c.requires.0, c.requires.1, c.requires.2, c.saturating_sub-beyond.ensures, c.min-width.ensures)
    (cut_on_the_left c.args.self.width c.args.most)

pub returns-else-self : goal.returns-else-self
returns-else-self c =
    rw (c.if-self.false, c.requires.0, c.requires.1, c.requires.2, c.saturating_sub-beyond.ensures, c.min-width.ensures)
    (cut_on_the_right c.args.self.width c.args.most)
