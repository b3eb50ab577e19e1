use Rattle.std.proofs.Common.{arith, length, ap, sym, ◌∙◌, ◌≡◌}
use Rattle.std.specs.Prelude.{slice_get}
use Rattle.std.proofs.lemmas.List.FromFn.{length-range_with_len}
use Rattle.pf_literals.specs.Walks.{part_offsets}
use Rattle.pf_literals.proofs.OffsetLemmas.{range_at}
use Rattle.pf_literals.proofs.offsets.offset_in.Goals as goal

pub overflow_add-result : goal.overflow_add-result
overflow_add-result c =
    let verbatim = c.in-Verbatim.field-0.now in
    let long : length (part_offsets c.args.part) ≡ length verbatim = ap (λ p. length (part_offsets p)) c.in-Verbatim.is
    ∙ length-range_with_len c.in-Verbatim.at (length verbatim) in
    let within = rw c.in-Verbatim.is at c.requires in
    omega (arith, long, within, c.len_of.ensures, c.if-index-len_of.false)

pub returns-in-Verbatim : goal.returns-in-Verbatim
returns-in-Verbatim c =
    let verbatim = c.in-Verbatim.field-0.now in
    let long : length (part_offsets c.args.part) ≡ length verbatim = ap (λ p. length (part_offsets p)) c.in-Verbatim.is
    ∙ length-range_with_len c.in-Verbatim.at (length verbatim) in
    range_at c.in-Verbatim.at (length verbatim) c.args.index (omega (arith, long, c.len_of.ensures, c.if-index-len_of.false))
    ∙ sym (ap (λ p. slice_get (part_offsets p) c.args.index) c.in-Verbatim.is)
