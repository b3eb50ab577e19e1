use Rattle.std.proofs.Common.{◌≡◌, ◌∙◌, ◌≤◌, ◌-◌, arith, drop, inl, inr, length, subst, sym, take}
use Rattle.std.specs.Prelude.{⊤}
use Rattle.pf_text.specs.FoundDirectives.{BeginsNoDirective}
use Rattle.pf_text.specs.Walks.{AreRead, BeginsPercent, Either, EndsItems}
use Rattle.pf_text.proofs.NoItemLemmas.{no_item, none_at_percent}
use Rattle.pf_text.proofs.ReadingLemmas.{ends_items, passed_from, read_from, read_nothing}
use Rattle.pf_text.proofs.WalkLemmas.{made_of_one, percent_begins}
use Rattle.pf_text.proofs.checking.items_end_from.Goals as goal

pub loop-walk-init : goal.loop-walk-init
loop-walk-init g c = read_nothing g.P.Passed.passes c.args.walk c.requires.walk c.requires.within

pub returns-then-stop-walk : goal.returns-then-stop-walk
returns-then-stop-walk g c =
    let here = c.find.new.self in
    let now = passed_from g.P.Passed.passes (λ item. ⊤) c.args.walk c.loop-walk.walk here c.loop-walk.invariant c.find.ensures.passed in
    let stopped = c.find.ensures.stopped c.loop-walk-test.true in
    let none : BeginsNoDirective (drop here.at here.text.now) = subst (λ t. BeginsNoDirective (drop here.at t)) c.text.ensures
    (c.directive_end-stop.ensures.none c.if-stop-walk.true) in
    subst (EndsItems g.P.Passed.passes c.args.walk) (sym c.if-stop-walk.true)
    (ends_items g.P.Passed.passes c.args.walk here now (none_at_percent here.text.now here.at stopped.0 stopped.1.0 none))

pub loop-walk-preserved : goal.loop-walk-preserved
loop-walk-preserved g c =
    let here = c.find.new.self in
    let now = passed_from g.P.Passed.passes (λ item. ⊤) c.args.walk c.loop-walk.walk here c.loop-walk.invariant c.find.ensures.passed in
    let stop = c.directive_end-stop in
    let same : c.text.result.now ≡ c.args.walk.text.now = c.text.ensures ∙ now.text in
    let within : stop.result ≤ length c.args.walk.text.now = subst (λ t. stop.result ≤ length t) same stop.ensures.within.1 in
    let read : AreRead (take (stop.result - here.at) (drop here.at c.args.walk.text.now)) =
    subst (λ t. AreRead (take (stop.result - here.at) (drop here.at t))) same stop.ensures.read in
    let begins : BeginsPercent (take (stop.result - here.at) (drop here.at c.args.walk.text.now)) =
    subst (λ t. BeginsPercent (take (stop.result - here.at) (drop here.at t))) now.text
    (percent_begins here.text.now here.at (stop.result - here.at) (c.find.ensures.stopped c.loop-walk-test.true).0
    (omega (arith, stop.ensures.within.0, c.if-stop-walk.false))) in
    read_from g.P.Passed.passes c.args.walk here (record here { at = stop.result }) now (record { few = now.is.few; runs = now.is.runs }) now.text
    stop.ensures.within.0 within (made_of_one (Either AreRead g.P.Passed.passes) _ (inr (begins, inl read)))

pub returns : goal.returns
returns g c =
    ends_items g.P.Passed.passes c.args.walk c.find.new.self
    (passed_from g.P.Passed.passes (λ item. ⊤) c.args.walk c.loop-walk.walk c.find.new.self c.loop-walk.invariant c.find.ensures.passed)
    (no_item c.find.new.self.text.now c.find.new.self.at (c.find.ensures.ended c.loop-walk-test.false))
