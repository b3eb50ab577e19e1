use Rattle.std.proofs.Common.{length, ap, sym, ◌∙◌}
use Rattle.std.proofs.lemmas.List.FromFn.{length-range_with_len}
use Rattle.pf_literals.specs.Walks.{part_offsets}
use Rattle.pf_literals.proofs.offsets.len_of.Goals as goal

pub returns-in-Verbatim : goal.returns-in-Verbatim
returns-in-Verbatim c = sym (ap (λ p. length (part_offsets p)) c.in-Verbatim.is
    ∙ length-range_with_len c.in-Verbatim.field-1 (length c.in-Verbatim.verbatim.now))
