use Rattle.std.proofs.Common.{refl, sym, ap, subst, ◌∙◌}
use Rattle.std.proofs.lemmas.Bool.{eqb-false}
use Rattle.pf_posix.specs.Items.{errno_letter}
use Rattle.pf_posix.specs.Opaque.{is_opaque}
use Rattle.pf_posix.specs.OpaqueParts.{parts_of_opaque}
use Rattle.pf_posix.specs.StretchesInText.{IsFound}
use Rattle.pf_posix.specs.declared.opaque_directives.Opaque.TheVariants.{Directive}
use Rattle.pf_posix.specs.declared.stretches.Found.TheVariants.{Opaque}
use Rattle.pf_posix.proofs.StretchLemmas.{found_directive, found_errno, found_opaque, found_percent, no_specification}
use Rattle.pf_posix.proofs.stretches.found_at.Goals as goal

pub returns-then-has_byte-clause-found : goal.returns-then-has_byte-clause-found
returns-then-has_byte-clause-found c left h =
    let second = c.if-has_byte.ensures in
    found_percent c.args.text.now c.args.at c.if-text-at-ne37.false (sym second.same) (second.within refl) left h

pub returns-then-has_errno-clause-found : goal.returns-then-has_errno-clause-found
returns-then-has_errno-clause-found c left h =
    let second = c.if-has_errno.ensures in
    found_errno c.args.text.now c.args.at c.if-text-at-ne37.false (sym second.same) (second.within refl) left h

pub parts_at-requires-clause-errno : goal.parts_at-requires-clause-errno
parts_at-requires-clause-errno c = eqb-false _ errno_letter (sym c.if-has_errno.ensures.same)

pub returns-in_err-parts-clause-found : goal.returns-in_err-parts-clause-found
returns-in_err-parts-clause-found c left h =
    absurd (no_specification c.args.text.now c.args.at c.requires c.if-text-at-ne37.false
    (sym c.if-has_byte.ensures.same) (sym c.if-has_errno.ensures.same) left h c.in_err-parts.ensures)

pub returns-then-is_opaque-clause-found : goal.returns-then-is_opaque-clause-found
returns-then-is_opaque-clause-found c left h =
    let t = c.args.text.now in
    let stop = c.in_ok-parts.stop in
    let there = c.in_ok-parts.ensures in
    subst (λ d. IsFound t c.args.at left (Opaque (Directive d) stop)) there.2
    (found_opaque t c.args.at c.requires c.if-text-at-ne37.false
    (sym c.if-has_byte.ensures.same) (sym c.if-has_errno.ensures.same) left h there.0 stop there.1
    (ap (λ d. is_opaque (parts_of_opaque d)) there.2 ∙ sym c.if-is_opaque.ensures))

pub returns-clause-found : goal.returns-clause-found
returns-clause-found c left h =
    let there = c.in_ok-parts.ensures in
    found_directive c.args.text.now c.args.at c.requires c.if-text-at-ne37.false
    (sym c.if-has_byte.ensures.same) (sym c.if-has_errno.ensures.same) left h there.0 c.in_ok-parts.stop there.1
    (ap (λ d. is_opaque (parts_of_opaque d)) there.2 ∙ sym c.if-is_opaque.ensures)
