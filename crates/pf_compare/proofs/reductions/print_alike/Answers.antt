use Rattle.pf_compare.proofs.ReductionLemmas.{printed_same_parts, same_parts_alike, told_parts}
use Rattle.pf_compare.proofs.reductions.print_alike.Goals as goal

pub returns : goal.returns
returns c =
    let first = c.reduce-first_reduced.ensures.same in
    let second = c.reduce-second_reduced.ensures.same in
    let parts = c.have_same_parts.ensures in (
      λ yes. same_parts_alike c.args.model _ _ _ _ first second (parts.yes yes),
      λ alike. told_parts c.have_same_parts.result parts.other (printed_same_parts c.args.model _ _ _ _ first second alike),
    )
