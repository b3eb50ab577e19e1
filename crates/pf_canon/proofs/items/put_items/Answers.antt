use Rattle.std.proofs.Common.{◌≡◌, ◌-◌, ap, arith, drop, length, subst, sym}
use Rattle.std.proofs.lemmas.List.{length-drop, take_all, take_rest}
use Rattle.pf_text.specs.FoundDirectives.{BeginsNoItem}
use Rattle.pf_text.proofs.NoItemLemmas.{none_past}
use Rattle.pf_canon.specs.ChangedDirectives.{between}
use Rattle.pf_canon.specs.Languages.{IsWrittenIn}
use Rattle.pf_canon.specs.Making.{PutsItems}
use Rattle.pf_canon.proofs.ItemLemmas.{both_put, front_put, items_put, next_run, none_left, rest_put, run_first, run_left}
use Rattle.pf_canon.proofs.LanguageLemmas.{extends_in, run_verbatim}
use Rattle.pf_canon.proofs.items.put_items.Goals as goal

pub loop-at-init : goal.loop-at-init
loop-at-init g c =
    record {
      first = c.requires.within.0;
      further = omega arith;
      low = c.requires.within.0;
      within = c.requires.within.1;
      next = c.requires.next;
      put = run_first g.met.S.Sink.laws (IsWrittenIn g.L.Language.has_front c.args.model) c.args.walk.text.now c.args.sink.now c.args.from c.args.walk.at
          c.requires.verbatim;
    }

pub loop-at-smaller-in-Some : goal.loop-at-smaller-in-Some
loop-at-smaller-in-Some g c =
    let front = c.in-Some.ensures.0 in
    omega (arith, c.run_end-at.ensures.within.0, front.some, front.modifier, ap length c.text-text.ensures, c.loop-at-test.true)

pub loop-at-preserved-in-Some : goal.loop-at-preserved-in-Some
loop-at-preserved-in-Some g c =
    let text = c.args.walk.text.now in
    let laws = g.met.S.Sink.laws in
    let written = IsWrittenIn g.L.Language.has_front c.args.model in
    let i = c.loop-at.invariant in
    let at = c.loop-at.at in
    let stop = c.in-Some.directive.found.stop in
    let puts = c.put_changed-from in
    let front = c.in-Some.ensures.0 in
    let end = c.run_end-at.ensures in
    record {
      first = omega (arith, i.first, front.some, front.modifier, end.within);
      further = omega (arith, i.further, front.some, front.modifier, end.within);
      low = omega (arith, puts.ensures.within, end.within);
      within = end.within.1;
      next = next_run g.L.Passed.leaves text c.run_end-at.result end.next;
      put = run_left laws written text c.args.sink.now puts.new.sink c.args.from puts.result stop c.run_end-at.result
          (omega (arith, i.first, front.some, front.modifier)) puts.ensures.within end.within.0
          (run_verbatim g.L.Language.has_front c.args.model g.L.Passed.passes (g.met.L.Language.has_passed c.args.model)
          (between stop c.run_end-at.result text) end.passed)
          (front_put laws written text c.args.model (extends_in g.L.Language.has_front c.args.model) c.args.sink.now c.loop-at.sink puts.new.sink c.args.from c.loop-at.from at puts.result stop i.first
          (omega (arith, front.some, front.modifier)) i.put (rw c.text-text.ensures at puts.ensures.written));
    }

pub returns-then-stop-at-clause-stopped : goal.returns-then-stop-at-clause-stopped
returns-then-stop-at-clause-stopped g c =
    subst (λ n. BeginsNoItem (drop n c.args.walk.text.now)) c.if-stop-at.true (c.put_reduced-stop.ensures.none c.if-stop-at.true)

pub returns-then-held-gt0-clause-stopped : goal.returns-then-held-gt0-clause-stopped
returns-then-held-gt0-clause-stopped g c = c.put_reduced-stop.ensures.held (omega (arith, c.if-held-gt0.true))

pub returns-clause-stopped : goal.returns-clause-stopped
returns-clause-stopped g c = none_past c.args.walk.text.now (length c.text-text.result.now) (omega (arith, ap length c.text-text.ensures))

pub returns-then-stop-at-clause-put : goal.returns-then-stop-at-clause-put
returns-then-stop-at-clause-put g c =
    let text = c.args.walk.text.now in
    let laws = g.met.S.Sink.laws in
    let written = IsWrittenIn g.L.Language.has_front c.args.model in
    let i = c.loop-at.invariant in
    let end = c.put_reduced-stop in
    subst (λ n. PutsItems g.S.Sink.given written c.args.sink.now end.new.sink (between c.args.from n text) 0 end.result.1) c.if-stop-at.true
    (both_put laws written text c.args.sink.now c.put.new.self end.new.sink c.args.from c.loop-at.at end.result.0 0 0 end.result.1 i.first
    end.ensures.within.0 (rest_put laws written text c.args.sink.now c.loop-at.sink c.put.new.self c.args.from c.loop-at.from c.loop-at.at i.put (rw c.text-text.ensures at c.put.ensures))
    (items_put laws written text c.args.model (extends_in g.L.Language.has_front c.args.model) c.put.new.self end.new.sink _ 0 end.result.1 end.ensures.put))

pub returns-then-held-gt0-clause-put : goal.returns-then-held-gt0-clause-put
returns-then-held-gt0-clause-put g c =
    let text = c.args.walk.text.now in
    let laws = g.met.S.Sink.laws in
    let written = IsWrittenIn g.L.Language.has_front c.args.model in
    let i = c.loop-at.invariant in
    let end = c.put_reduced-stop in
    both_put laws written text c.args.sink.now c.put.new.self end.new.sink c.args.from c.loop-at.at end.result.0 0 0 end.result.1 i.first
    end.ensures.within.0 (rest_put laws written text c.args.sink.now c.loop-at.sink c.put.new.self c.args.from c.loop-at.from c.loop-at.at i.put (rw c.text-text.ensures at c.put.ensures))
    (items_put laws written text c.args.model (extends_in g.L.Language.has_front c.args.model) c.put.new.self end.new.sink _ 0 end.result.1 end.ensures.put)

pub loop-at-smaller : goal.loop-at-smaller
loop-at-smaller g c =
    omega (
      arith,
      c.run_end-at-in-None.ensures.within,
      c.put_reduced-stop.ensures.within.0,
      c.if-stop-at.false,
      ap length c.text-text.ensures,
      c.loop-at-test.true,
    )

pub loop-at-preserved : goal.loop-at-preserved
loop-at-preserved g c =
    let text = c.args.walk.text.now in
    let laws = g.met.S.Sink.laws in
    let written = IsWrittenIn g.L.Language.has_front c.args.model in
    let i = c.loop-at.invariant in
    let at = c.loop-at.at in
    let put = c.put_reduced-stop in
    let stop = put.result.0 in
    let end = c.run_end-at-in-None.ensures in
    let none : put.result.1 ≡ 0 = omega (arith, c.if-held-gt0.false) in
    let all = both_put laws written text c.args.sink.now c.put.new.self put.new.sink c.args.from at stop 0 0 put.result.1 i.first
    put.ensures.within.0 (rest_put laws written text c.args.sink.now c.loop-at.sink c.put.new.self c.args.from c.loop-at.from at i.put
    (rw c.text-text.ensures at c.put.ensures))
    (items_put laws written text c.args.model (extends_in g.L.Language.has_front c.args.model) c.put.new.self put.new.sink _ 0 put.result.1 put.ensures.put) in
    record {
      first = omega (arith, i.first, put.ensures.within.0, end.within);
      further = omega (arith, i.further, put.ensures.within.0, end.within);
      low = end.within.0;
      within = end.within.1;
      next = next_run g.L.Passed.leaves text c.run_end-at-in-None.result end.next;
      put = run_left laws written text c.args.sink.now put.new.sink c.args.from stop stop c.run_end-at-in-None.result
          (omega (arith, i.first, put.ensures.within.0)) (omega arith) end.within.0
          (run_verbatim g.L.Language.has_front c.args.model g.L.Passed.passes (g.met.L.Language.has_passed c.args.model)
          (between stop c.run_end-at-in-None.result text) end.passed)
          (none_left laws written text c.args.sink.now put.new.sink c.args.from stop
          (subst (PutsItems g.S.Sink.given written c.args.sink.now put.new.sink (between c.args.from stop text) 0) none all));
    }

pub returns-clause-put : goal.returns-clause-put
returns-clause-put g c =
    let text = c.args.walk.text.now in
    let i = c.loop-at.invariant in
    let at = c.loop-at.at in
    let start = c.loop-at.from in
    let rest = drop start text in
    let end : at ≡ length text = omega (arith, i.within, ap length c.text-text.ensures, c.loop-at-test.false) in
    let all : between start at text ≡ rest = take_all (at - start) rest (omega (arith, i.low, length-drop start text, end)) in
    rw c.text-text.ensures (subst (λ n. PutsItems g.S.Sink.given
    (IsWrittenIn g.L.Language.has_front c.args.model) c.args.sink.now c.put-2.new.self (between c.args.from n text) 0 0) end
    (rest_put g.met.S.Sink.laws (IsWrittenIn g.L.Language.has_front c.args.model) text c.args.sink.now c.loop-at.sink c.put-2.new.self c.args.from start at i.put
    (rw (take_rest, c.text-text.ensures, sym all) at c.put-2.ensures)))
