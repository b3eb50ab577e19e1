use Rattle.std.proofs.Common.{refl, sym}
use Rattle.std.proofs.lemmas.Bool.{eqb-false}
use Rattle.pf_posix.specs.Items.{errno_letter}
use Rattle.pf_posix.proofs.DirectiveLemmas.{item_byte, item_errno, item_percent, item_specification, listed_byte, listed_errno, listed_percent, listed_specification}
use Rattle.pf_posix.proofs.DirectiveLemmas.{other_byte, some_specification}
use Rattle.pf_posix.proofs.specification_walk.item_at.Goals as goal

pub returns-then-text-at-ne37-clause-listed : goal.returns-then-text-at-ne37-clause-listed
returns-then-text-at-ne37-clause-listed c model all done next h =
    listed_byte model c.args.text.now all done c.args.at next h c.requires.within (other_byte _ c.if-text-at-ne37.true)

pub returns-then-has_byte-clause-listed : goal.returns-then-has_byte-clause-listed
returns-then-has_byte-clause-listed c model all done next h =
    listed_percent model c.args.text.now all done c.args.at next h c.requires.within c.if-text-at-ne37.false (sym c.if-has_byte.ensures.same)

pub returns-then-has_errno-clause-listed : goal.returns-then-has_errno-clause-listed
returns-then-has_errno-clause-listed c model all done next h =
    let second = c.if-has_errno.ensures in
    listed_errno model c.args.text.now all done c.args.at next h c.requires.within c.if-text-at-ne37.false (sym second.same) (second.within refl)

pub specification_at-requires-clause-errno : goal.specification_at-requires-clause-errno
specification_at-requires-clause-errno c = eqb-false _ errno_letter (sym c.if-has_errno.ensures.same)

pub unreachable-requires : goal.unreachable-requires
unreachable-requires c =
    some_specification c.args.text.now c.args.at c.requires.within c.requires.reads.0 c.requires.reads.1 c.if-text-at-ne37.false
    (sym c.if-has_byte.ensures.same) (sym c.if-has_errno.ensures.same) c.in_default.ensures.refused_is.none

pub returns-clause-listed : goal.returns-clause-listed
returns-clause-listed c model all done next h =
    let read = c.in-Ok in
    listed_specification model c.args.text.now all done c.args.at next h c.requires.within c.if-text-at-ne37.false read.read read.end
    (sym c.if-has_byte.ensures.same) read.ensures.read

pub returns-then-text-at-ne37-clause-item : goal.returns-then-text-at-ne37-clause-item
returns-then-text-at-ne37-clause-item c = item_byte c.args.text.now c.args.at c.requires.within (other_byte _ c.if-text-at-ne37.true)

pub returns-then-has_byte-clause-item : goal.returns-then-has_byte-clause-item
returns-then-has_byte-clause-item c =
    let second = c.if-has_byte.ensures in
    item_percent c.args.text.now c.args.at c.requires.within c.if-text-at-ne37.false (sym second.same) (second.within refl)

pub returns-then-has_errno-clause-item : goal.returns-then-has_errno-clause-item
returns-then-has_errno-clause-item c =
    let second = c.if-has_errno.ensures in
    item_errno c.args.text.now c.args.at c.requires.within c.if-text-at-ne37.false (sym second.same) (second.within refl)

pub returns-clause-item : goal.returns-clause-item
returns-clause-item c =
    let read = c.in-Ok in
    item_specification c.args.text.now c.args.at c.requires.within c.if-text-at-ne37.false read.read read.end (sym c.if-has_byte.ensures.same) read.ensures.read

pub returns-clause-parts : goal.returns-clause-parts
returns-clause-parts c = c.in-Ok.ensures.parts
