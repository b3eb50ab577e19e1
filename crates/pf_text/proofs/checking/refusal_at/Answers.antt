use Rattle.std.proofs.Common.{arith, get_or, subst, take}
use Rattle.std.proofs.lemmas.List.{length-take-le}
use Rattle.pf_text.specs.History.{Feeds, Finishes}
use Rattle.pf_text.proofs.RefusalLemmas.{fed_more, refused_there, truncated_there, whole_there}
use Rattle.pf_text.proofs.checking.refusal_at.Goals as goal

pub loop-at-init : goal.loop-at-init
loop-at-init c = record {
  from = omega arith;
  after = λ items end reads. (
    end.within,
    c.after_items-scanner.ensures (take c.args.start c.args.text.now) items reads (length-take-le c.args.start c.args.text.now end.within) end.few,
  );
}

pub returns-in-Err : goal.returns-in-Err
returns-in-Err c items end reads =
    let text = c.args.text.now in
    let at = c.loop-at.at in
    let after = (c.loop-at.invariant.after items end reads).1 in
    refused_there text c.args.start items end reads at c.loop-at.invariant.from c.loop-at-test.true c.loop-at.scanner c.in-Err.refusal c.feed.new.self after
    (subst (λ r. Feeds (take at text) items (get_or text at 0) r c.feed.new.self) c.in-Err.is (c.feed.ensures.fed (take at text) items after))

pub loop-at-preserved : goal.loop-at-preserved
loop-at-preserved c =
    let text = c.args.text.now in
    let at = c.loop-at.at in
    record {
      from = omega (arith, c.loop-at.invariant.from);
      after = λ items end reads. (
        omega (arith, c.loop-at-test.true),
        fed_more text c.args.start items end reads at c.loop-at.invariant.from c.loop-at-test.true c.in-Ok.field-0 c.feed.new.self
            (subst (λ r. Feeds (take at text) items (get_or text at 0) r c.feed.new.self) c.in-Ok.is
            (c.feed.ensures.fed (take at text) items (c.loop-at.invariant.after items end reads).1)),
      );
    }

pub returns-in-Ok-finish : goal.returns-in-Ok-finish
returns-in-Ok-finish c items end reads =
    let text = c.args.text.now in
    let at = c.loop-at.at in
    let (within, after) = c.loop-at.invariant.after items end reads in
    whole_there text c.args.start items end reads at (omega (arith, c.loop-at-test.false, within))
    (subst (Finishes (take at text) items) c.in-Ok-finish.is (c.finish.ensures.finished (take at text) items after))

pub returns-in-Err-finish : goal.returns-in-Err-finish
returns-in-Err-finish c items end reads =
    let text = c.args.text.now in
    let at = c.loop-at.at in
    let (within, after) = c.loop-at.invariant.after items end reads in
    truncated_there text c.args.start items end reads at (omega (arith, c.loop-at-test.false, within)) c.loop-at.scanner after
    c.in-Err-finish.refusal (subst (Finishes (take at text) items) c.in-Err-finish.is (c.finish.ensures.finished (take at text) items after))
