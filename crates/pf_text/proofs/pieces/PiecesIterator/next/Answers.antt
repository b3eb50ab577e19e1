use Rattle.std.proofs.Common.{◌≤◌, arith, drop, length, refl, subst, take}
use Rattle.std.proofs.lemmas.List.{length-take}
use Rattle.pf_values.specs.declared.limits.TheConstants.{MAX_TEXT_LEN}
use Rattle.pf_text.specs.PieceHistory.{IsPieceAt}
use Rattle.pf_text.specs.FoundDirectives.{BeginsNoItem}
use Rattle.pf_text.proofs.PieceLemmas.{gives_end, gives_piece, gives_refused}
use Rattle.pf_text.proofs.pieces.PiecesIterator.next.Goals as goal

pub returns-in-Some-clause-steps : goal.returns-in-Some-clause-steps
returns-in-Some-clause-steps c =
    gives_piece c.args.self.now _ c.if-self.false c.in-Some.piece c.in-Some.stop refl refl refl
    (subst (λ t. IsPieceAt t c.args.self.now.at c.in-Some.piece c.in-Some.stop) c.within_limit.ensures c.in-Some.ensures)

pub returns-in-Some-clause-goes : goal.returns-in-Some-clause-goes
returns-in-Some-clause-goes c =
    let within : c.in-Some.stop ≤ length (take MAX_TEXT_LEN c.args.self.now.text.now) = subst (λ t. c.in-Some.stop ≤ length t) c.within_limit.ensures
    c.in-Some.ensures.within in
    record {
      on = λ finite. (tt, tt, rw (c.if-self.false) (omega (arith, c.in-Some.ensures.some, within, length-take MAX_TEXT_LEN c.args.self.now.text.now)));
      keeps = tt;
      rests = λ finite. tt;
    }

pub returns-in-Some-refusal_at-clause-steps : goal.returns-in-Some-refusal_at-clause-steps
returns-in-Some-refusal_at-clause-steps c =
    gives_refused c.args.self.now _ c.if-self.false refl (subst (λ t. BeginsNoItem (drop c.args.self.now.at t)) c.within_limit.ensures c.in_default.ensures)
    c.refusal_at.result c.refusal_at.ensures c.in-Some-refusal_at.refusal c.in-Some-refusal_at.is

pub returns-in-None-clause-steps : goal.returns-in-None-clause-steps
returns-in-None-clause-steps c =
    gives_end c.args.self.now _ c.if-self.false refl (subst (λ t. BeginsNoItem (drop c.args.self.now.at t)) c.within_limit.ensures c.in_default.ensures)
    c.refusal_at.result c.refusal_at.ensures c.in-None.is
