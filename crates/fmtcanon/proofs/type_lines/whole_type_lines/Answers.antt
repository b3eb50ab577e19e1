use Rattle.std.proofs.Common.{◌≡◌, ◌∙◌, ap, arith, take}
use Rattle.std.specs.Prelude.{flat_map}
use Rattle.pf_whole.proofs.CountLemmas.{taken_types}
use Rattle.fmtcanon.specs.ArgumentLines.{argument_line}
use Rattle.fmtcanon.proofs.type_lines.whole_type_lines.Goals as goal

pub returns : goal.returns
returns c =
    let h = c.in_ok-count.ensures.types in
    let listed : take c.in_ok-count.count c.arguments.new.out ≡ h.types =
    taken_types c.args.model c.args.format.now _ c.arguments.new.out c.in_ok-count.count h (omega (arith, h.count_is, c.if-count.false)) in
    (h.types, h.accepted, c.in_ok-lines_of_arguments.ensures ∙ ap (λ types. flat_map argument_line types) listed)
