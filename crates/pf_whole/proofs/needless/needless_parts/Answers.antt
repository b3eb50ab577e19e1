use Rattle.std.proofs.Common.{refl, subst}
use Rattle.std.specs.Prelude.{◌↔◌, IsTrue}
use Rattle.pf_posix.specs.OpaqueParts.{parts_of_opaque}
use Rattle.pf_whole.specs.Needless.{HaveNoEffect}
use Rattle.pf_whole.specs.Parts.{has_part, only}
use Rattle.pf_whole.proofs.NeedlessLemmas.{needless_none, needless_some}
use Rattle.pf_whole.proofs.needless.needless_parts.Goals as goal

pub returns-then-is_empty : goal.returns-then-is_empty
returns-then-is_empty c =
    needless_none c.args.model _ c.requires.0 refl c.requires.1 _ c.given_parts-given.ensures (c.is_empty.ensures c.if-is_empty.true)

pub returns : goal.returns
returns c =
    let s = parts_of_opaque c.args.directive in
    let given = c.given_parts-given.ensures in
    needless_some c.args.model s c.requires.0 refl c.requires.1 _ given
    (λ part. subst (λ set. IsTrue (has_part c.each-each.result part) ↔ (IsTrue (has_part set part) × HaveNoEffect c.args.model s (only part)))
    given (c.each-each.ensures part))
    c.together.ensures
