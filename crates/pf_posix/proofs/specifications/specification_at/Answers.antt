use Rattle.std.proofs.Common.{refl}
use Rattle.pf_values.specs.declared.refusals.RefusalKind.TheVariants.{Unexpected}
use Rattle.pf_posix.proofs.HaltLemmas.{stray_early}
use Rattle.pf_posix.proofs.ReadLemmas.{read_there, refused_conversion, refused_position, refused_precision, refused_width, unread}
use Rattle.pf_posix.proofs.specifications.specification_at.Goals as goal

pub returns-in-Err : goal.returns-in-Err
returns-in-Err c =
    let err = c.in-Err in
    let none = c.none-none.ensures in
    unread c.args.text.now c.args.start c.args.numbering c.refused.result err.refusal _ c.refused.ensures
    (refused_position c.args.text.now c.args.start c.args.numbering err.refusal c.requires.start c.requires.percent err.ensures.halt
    c.refused.result (rw none at c.refused.ensures)) err.ensures.early

pub returns-in-Err-width_at : goal.returns-in-Err-width_at
returns-in-Err-width_at c =
    let number = c.in-Ok in
    let flags = c.flags_at-at in
    let err = c.in-Err-width_at in
    let none = c.none-none.ensures in
    unread c.args.text.now c.args.start c.args.numbering c.refused-in-Err-width_at.result err.refusal _ c.refused-in-Err-width_at.ensures
    (refused_width c.args.text.now c.args.start c.args.numbering number.read.0 number.read.1 number.ensures.follows flags.result.0
    flags.result.1 flags.ensures.flags flags.ensures.ended c.requires.start c.requires.percent number.ensures.bytes err.refusal err.ensures.halt
    c.refused-in-Err-width_at.result (rw none at c.refused-in-Err-width_at.ensures)) err.ensures.early

pub returns-in-Err-precision_at : goal.returns-in-Err-precision_at
returns-in-Err-precision_at c =
    let number = c.in-Ok in
    let flags = c.flags_at-at in
    let width = c.in-Ok-width_at in
    let err = c.in-Err-precision_at in
    let none = c.none-none.ensures in
    let of_width = rw none at c.with_width-of_width.ensures in
    unread c.args.text.now c.args.start c.args.numbering c.refused-in-Err-precision_at.result err.refusal _ c.refused-in-Err-precision_at.ensures (refused_precision c.args.text.now c.args.start c.args.numbering number.read.0 number.read.1 number.ensures.follows flags.result.0
    flags.result.1 flags.ensures.flags flags.ensures.ended c.requires.start c.requires.percent number.ensures.bytes width.read.0 width.read.1 width.read.2
    width.ensures.bytes width.ensures.number err.refusal err.ensures.halt c.refused-in-Err-precision_at.result
    (rw of_width at c.refused-in-Err-precision_at.ensures)) err.ensures.early

pub returns-in-Err-conversion_at : goal.returns-in-Err-conversion_at
returns-in-Err-conversion_at c =
    let number = c.in-Ok in
    let flags = c.flags_at-at in
    let width = c.in-Ok-width_at in
    let precision = c.in-Ok-precision_at in
    let modifier = c.modifier_at-modifier in
    let err = c.in-Err-conversion_at in
    let none = c.none-none.ensures in
    let of_width = rw none at c.with_width-of_width.ensures in
    let stars = rw of_width at c.with_precision-stars.ensures in
    unread c.args.text.now c.args.start c.args.numbering c.refused-in-Err-conversion_at.result err.refusal _ c.refused-in-Err-conversion_at.ensures (refused_conversion c.args.text.now c.args.start c.args.numbering number.read.0 number.read.1 number.ensures.follows flags.result.0
    flags.result.1 flags.ensures.flags flags.ensures.ended c.requires.start c.requires.percent number.ensures.bytes width.read.0 width.read.1 width.read.2
    width.ensures.bytes width.ensures.number precision.read.0 precision.read.1 precision.read.2
    precision.ensures.bytes precision.ensures.number modifier.result.0 modifier.result.1 modifier.ensures.letters c.requires.other c.requires.errno
    number.ensures.first width.ensures.ended precision.ensures.ended modifier.ensures.ended err.refusal err.ensures.stray err.ensures.none
    c.refused-in-Err-conversion_at.result (rw stars at c.refused-in-Err-conversion_at.ensures))
    (stray_early c.args.text.now _ Unexpected err.refusal err.ensures.stray refl)

pub returns : goal.returns
returns c =
    let number = c.in-Ok in
    let flags = c.flags_at-at in
    let width = c.in-Ok-width_at in
    let precision = c.in-Ok-precision_at in
    let modifier = c.modifier_at-modifier in
    let conversion = c.in-Ok-conversion_at in
    let none = c.none-none.ensures in
    let of_width = rw none at c.with_width-of_width.ensures in
    let stars = rw of_width at c.with_precision-stars.ensures in
    rw stars (read_there c.args.text.now c.args.start c.args.numbering number.read.0 number.read.1 number.ensures.follows flags.result.0
    flags.result.1 flags.ensures.flags flags.ensures.ended c.requires.start c.requires.percent number.ensures.bytes width.read.0 width.read.1 width.read.2
    width.ensures.bytes width.ensures.number precision.read.0 precision.read.1 precision.read.2
    precision.ensures.bytes precision.ensures.number modifier.result.0 modifier.result.1 modifier.ensures.letters
    conversion.conversion _ refl conversion.ensures.letter)
