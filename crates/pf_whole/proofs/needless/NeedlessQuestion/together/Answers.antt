use Rattle.std.proofs.Common.{refl, subst, sym}
use Rattle.pf_posix.specs.OpaqueParts.{parts_of_opaque}
use Rattle.pf_values.specs.declared.flags.Flag.TheVariants.{Minus}
use Rattle.pf_whole.specs.declared.parts.Part.TheVariants.{Flag}
use Rattle.pf_whole.specs.Needless.{AreGathered, GathersPart}
use Rattle.pf_whole.specs.Parts.{all_parts, no_parts}
use Rattle.pf_whole.proofs.NeedlessLemmas.{none_gathered}
use Rattle.pf_whole.proofs.needless.NeedlessQuestion.together.Goals as goal

pub returns-then-is_empty : goal.returns-then-is_empty
returns-then-is_empty c =
    let q = c.args.self.now in
    let s = parts_of_opaque q.directive in
    subst (λ set. AreGathered q.model s set no_parts all_parts set) (sym (c.is_empty.ensures c.if-is_empty.true))
    (none_gathered q.model s all_parts)

pub returns : goal.returns
returns c =
    let q = c.args.self.now in
    let first = subst (λ some. GathersPart q.model (parts_of_opaque q.directive) c.args.each some (Flag Minus) c.gather-some.result)
    c.empty.ensures c.gather-some.ensures in (
      _,
      first,
      (
        _,
        c.gather-some-2.ensures,
        (
          _,
          c.gather-some-3.ensures,
          (
            _,
            c.gather-some-4.ensures,
            (
              _,
              c.gather-some-5.ensures,
              (_, c.gather-some-6.ensures, (_, c.gather-some-7.ensures, (_, c.gather-some-8.ensures, (_, c.gather.ensures, refl)))),
            ),
          ),
        ),
      ),
    )
