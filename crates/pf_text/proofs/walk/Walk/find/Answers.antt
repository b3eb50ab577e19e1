use Rattle.std.proofs.Common.{arith, inl, inr, length, refl}
use Rattle.pf_text.proofs.NoItemLemmas.{nothing_at_stop}
use Rattle.pf_text.proofs.WalkLemmas.{made_of_one, percent_begins, walked_literals, walked_more, walked_none, walked_to}
use Rattle.pf_text.proofs.walk.Walk.find.Goals as goal

pub loop-self-init : goal.loop-self-init
loop-self-init g c = walked_none g.P.Passed.passes c.args.self.now c.args.self.now c.requires refl refl

pub next_end-requires-clause-runs : goal.next_end-requires-clause-runs
next_end-requires-clause-runs g c = c.loop-self.invariant.walk.runs

pub returns-in_default : goal.returns-in_default
returns-in_default g c =
    let here = c.loop-self.self in
    record {
      passed = walked_literals g.P.Passed.passes c.args.self.now here c.loop-self.invariant (length here.text.now)
          (omega (arith, c.loop-self-test.true)) (omega arith) c.in_default.ensures;
      stopped = λ never. absurd (cc);
      ended = λ e. inl (omega arith);
    }

pub returns-then-offset-self : goal.returns-then-offset-self
returns-then-offset-self g c = record {
  passed = walked_to g.P.Passed.passes c.args.self.now c.loop-self.self c.loop-self.invariant c.in-Some.offset c.in-Some.ensures;
  stopped = λ never. absurd (cc);
  ended = λ e. nothing_at_stop c.loop-self.self.text.now c.in-Some.offset c.in-Some.ensures.3 (inl (omega (arith, c.if-offset-self.true)));
}

pub returns-then-self-offset-ne37 : goal.returns-then-self-offset-ne37
returns-then-self-offset-ne37 g c = record {
  passed = walked_to g.P.Passed.passes c.args.self.now c.loop-self.self c.loop-self.invariant c.in-Some.offset c.in-Some.ensures;
  stopped = λ never. absurd (cc);
  ended = λ e. nothing_at_stop c.loop-self.self.text.now c.in-Some.offset c.in-Some.ensures.3 (inr c.if-self-offset-ne37.true);
}

pub returns-then-len-eq0 : goal.returns-then-len-eq0
returns-then-len-eq0 g c = record {
  passed = walked_to g.P.Passed.passes c.args.self.now c.loop-self.self c.loop-self.invariant c.in-Some.offset c.in-Some.ensures;
  stopped = λ found. ((omega (arith, c.if-offset-self.false), c.if-self-offset-ne37.false), c.len-len.ensures.left c.if-len-eq0.true);
  ended = λ never. absurd (cc);
}

pub loop-self-preserved : goal.loop-self-preserved
loop-self-preserved g c =
    let now = walked_to g.P.Passed.passes c.args.self.now c.loop-self.self c.loop-self.invariant c.in-Some.offset c.in-Some.ensures in
    let len = c.len-len in
    walked_more g.P.Passed.passes c.args.self.now _ now len.result len.ensures.within (made_of_one g.P.Passed.passes _
    (inr (
      percent_begins c.loop-self.self.text.now c.in-Some.offset len.result (omega (arith, c.if-offset-self.false), c.if-self-offset-ne37.false)
          (omega (arith, c.if-len-eq0.false)),
      len.ensures.passed (omega (arith, c.if-len-eq0.false)),
    )))

pub returns : goal.returns
returns g c = record {
  passed = c.loop-self.invariant;
  stopped = λ never. absurd (cc);
  ended = λ e. inl (omega (arith, c.loop-self-test.false));
}
