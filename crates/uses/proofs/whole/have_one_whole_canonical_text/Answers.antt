use Rattle.std.proofs.Common.{sym, ◌∙◌}
use Rattle.std.proofs.lemmas.Bool.Decides.{Decides-eqb}
use Rattle.std.proofs.lemmas.Slice.Eq.{slice_eq-Decides}
use Rattle.uses.proofs.whole.have_one_whole_canonical_text.Goals as goal

pub returns : goal.returns
returns c =
    let a = c.in-Ok.ensures in
    let b = c.in-Ok-canonical.ensures in
    let h = c.headline.ensures c.args.model c.args.first.now c.args.second.now a.accepted b.accepted in
    let equal = slice_eq-Decides Decides-eqb c.as_slice.result.now c.as_slice-2.result.now c.eq.result c.eq.ensures in
    let first = c.as_slice.ensures.value ∙ h.first.only c.in-Ok.of_first.items a.canonical_is in
    let second = c.as_slice-2.ensures.value ∙ h.second.only c.in-Ok-canonical.of_second.items b.canonical_is in
    (λ yes. h.same.1 (sym first ∙ equal.0 yes ∙ second), λ same. equal.1 (first ∙ h.same.0 same ∙ sym second))
