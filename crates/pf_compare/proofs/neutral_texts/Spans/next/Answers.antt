use Rattle.std.proofs.Common.{arith, ap, refl, subst}
use Rattle.pf_text.specs.PieceHistory.{items_of}
use Rattle.pf_compare.specs.Spans.{HaveGivenSpans}
use Rattle.pf_compare.proofs.SpanLemmas.{none_taken, piece_passed, span_given, span_refused, spans_over}
use Rattle.pf_compare.proofs.neutral_texts.Spans.next.Goals as goal

pub returns-in-Directive : goal.returns-in-Directive
returns-in-Directive c = λ t count accepted h.
    let made = c.in_ok-neutral_len.ensures in
    span_given c.args.model c.loop-piece.self (record { pieces = c.next.new.self; end = c.saturating_add-self.result }) t count
    (c.loop-piece.invariant t count accepted h) c.in-Some.piece c.in-Some.ensures.steps c.in-Ok.piece made.0 c.in-Ok.is made.1
    (omega (arith, c.saturating_add-self.ensures, made.2)) c.in-Directive.directive _ (ap items_of c.in-Directive.is) refl

pub loop-piece-preserved-in_default-piece-2 : goal.loop-piece-preserved-in_default-piece-2
loop-piece-preserved-in_default-piece-2 c = λ t count accepted h.
    let made = c.in_ok-neutral_len.ensures in
    subst (HaveGivenSpans c.args.model (record { pieces = c.next.new.self; end = c.saturating_add-self.result }) t) (omega arith)
    (piece_passed c.args.model c.loop-piece.self (record { pieces = c.next.new.self; end = c.saturating_add-self.result }) t count
    (c.loop-piece.invariant t count accepted h) c.in-Some.piece c.in-Some.ensures.steps c.in-Ok.piece made.0 c.in-Ok.is made.1
    (omega (arith, c.saturating_add-self.ensures, made.2)) 0 (none_taken c.args.model c.in-Ok.piece c.in_default-piece-2.not-Directive))

pub loop-piece-preserved : goal.loop-piece-preserved
loop-piece-preserved c = λ t count accepted h.
    absurd (span_refused c.args.model c.loop-piece.self (record { pieces = c.next.new.self; end = c.loop-piece.self.end }) t count
    (c.loop-piece.invariant t count accepted h) c.in-Some.piece c.in-Some.ensures.steps c.in_default-piece.field-0 c.in_default-piece.is accepted)

pub returns : goal.returns
returns c = λ t count accepted h.
    spans_over c.args.model c.loop-piece.self (record { pieces = c.next.new.self; end = c.loop-piece.self.end }) t count
    (c.loop-piece.invariant t count accepted h) c.in_default.ensures.steps
