use Rattle.std.proofs.Common.{refl, ◌<◌, ◌+◌, ◌∙◌, ap, get_or, length, subst, sym}
use Rattle.std.specs.Prelude.{◌==◌}
use Rattle.std.proofs.lemmas.Bool.{eqb-false}
use Rattle.pf_text.specs.declared.refusals.Refusal.{Refusal}
use Rattle.pf_posix.specs.declared.specifications.Numbering.TheVariants.{Unnumbered}
use Rattle.pf_posix.specs.Endings.{numbered_instead}
use Rattle.pf_posix.specs.Items.{errno_letter}
use Rattle.pf_posix.specs.Halts.{IsDefinedAt, IsRefusedIn}
use Rattle.pf_posix.specs.Unnumbered.{IsUnnumberedRefusedAt}
use Rattle.pf_posix.proofs.PlainLemmas.{errno_read, opaque_read}
use Rattle.pf_posix.proofs.UnnumberedVerdicts.{inside_front, no_second, whole_nul, whole_refused, whole_too_long}
use Rattle.pf_posix.proofs.unnumbered.opaque_at.Goals as goal

pub returns-then-at-front : goal.returns-then-at-front
returns-then-at-front c =
    let q = c.requires in
    subst (λ r. IsUnnumberedRefusedAt c.args.model c.args.text.now (Refusal.kind r) (Refusal.at r)) (sym c.too_long.ensures)
    (whole_too_long c.args.model c.args.text.now c.args.at q.within q.front (c.if-at-front.true ∙ ap length c.within_limit-front.ensures) c.if-at-text.false)

pub bounds-front-at : goal.bounds-front-at
bounds-front-at c =
    let q = c.requires in
    rw c.within_limit-front.ensures (inside_front c.args.model c.args.text.now c.args.at q.within q.front c.within_limit-front.result.now c.within_limit-front.ensures c.if-at-front.false)

pub returns-then-front-at-ne37 : goal.returns-then-front-at-ne37
returns-then-front-at-ne37 c =
    let q = c.requires in
    let t = c.args.text.now in
    let e = c.within_limit-front.ensures in
    subst (λ r. IsUnnumberedRefusedAt c.args.model t (Refusal.kind r) (Refusal.at r)) (sym c.refusal.ensures)
    (whole_nul c.args.model t c.args.at q.within q.front (inside_front c.args.model t c.args.at q.within q.front c.within_limit-front.result.now e c.if-at-front.false)
    q.none (λ percent. c.if-front-at-ne37.true (ap (λ u. get_or u c.args.at 0) e ∙ percent)))

pub returns-then-has_errno : goal.returns-then-has_errno
returns-then-has_errno c =
    let t = c.args.text.now in
    let e = c.within_limit-front.ensures in
    let letter = c.if-has_errno.ensures in
    errno_read t c.args.at (sym (ap (λ u. get_or u c.args.at 0) e) ∙ c.if-front-at-ne37.false)
    (ap (λ u. get_or u (c.args.at + 1) 0 == 109) (sym e) ∙ sym letter.same) (subst (λ u. c.args.at + 1 < length u) e (letter.within refl))

pub defined_at-requires-clause-errno : goal.defined_at-requires-clause-errno
defined_at-requires-clause-errno c = eqb-false _ errno_letter (sym c.if-has_errno.ensures.same)

pub defined_at-requires-clause-other : goal.defined_at-requires-clause-other
defined_at-requires-clause-other c =
    let q = c.requires in
    let t = c.args.text.now in
    let e = c.within_limit-front.ensures in
    λ second. no_second c.args.model t c.args.at q.within q.front
    (inside_front c.args.model t c.args.at q.within q.front c.within_limit-front.result.now e c.if-at-front.false)
    q.none (sym (ap (λ u. get_or u c.args.at 0) e) ∙ c.if-front-at-ne37.false) (sym (ap (λ u. get_or u (c.args.at + 1) 0) e) ∙ second)

pub returns-in-Ok : goal.returns-in-Ok
returns-in-Ok c =
    let read = c.in-Ok in
    opaque_read c.args.text.now c.args.at read.read read.stop c.requires.none
    (subst (λ u. IsDefinedAt u c.args.at Unnumbered (read.read, read.stop)) c.within_limit-front.ensures read.ensures)

pub returns-in-Err : goal.returns-in-Err
returns-in-Err c =
    let q = c.requires in
    let t = c.args.text.now in
    let made = c.numbered_instead in
    let h = subst (λ u. IsRefusedIn u c.args.at Unnumbered c.in-Err.refused) c.within_limit-front.ensures c.in-Err.ensures in
    whole_refused c.args.model t c.args.at q.within q.front h.position h.own c.in-Err.refused.refusal h.halt made.result c.of_long.result made.ensures.at
    (made.ensures.kind ∙ ap (λ u. numbered_instead u c.in-Err.refused.refusal.kind c.in-Err.refused.refusal.at) c.within_limit-front.ensures) c.of_long.ensures
