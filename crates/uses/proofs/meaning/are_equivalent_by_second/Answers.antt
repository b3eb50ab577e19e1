use Rattle.std.proofs.Common.{refl, ◌∙◌}
use Rattle.uses.proofs.meaning.are_equivalent_by_second.Goals as goal

pub returns-then-one : goal.returns-then-one
returns-then-one c = λ yes.
    let a = c.in-Ok.ensures in
    let b = c.in-Ok-same_text.ensures in
    let law = c.sameness.ensures c.args.model in
    let u = c.args.second.now in
    let first = (law.2 c.args.first.now u a.first a.second).0 (a.same.0 c.if-one.true) in
    let own = (law.2 u u a.second a.second).1 refl in
    let middle = (law.2 u u a.second b.first).0 own in
    let last = (law.2 u c.args.third.now b.first b.second).0 (b.same.0 yes) in
    (law.2 c.args.first.now c.args.third.now a.first b.second).1 (first ∙ middle ∙ last)
