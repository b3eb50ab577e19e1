use Rattle.std.proofs.Common.{refl, rules}
use Rattle.std.proofs.lemmas.Option.{slice_get_read}
use Rattle.pf_render.proofs.GatheringLemmas.{directive_gathered}
use Rattle.pf_render.proofs.gathering.gather_directive.Goals as goal

pub returns-in-Ok : goal.returns-in-Ok
returns-in-Ok g c written =
    let there = c.in-Some.ensures.lookup in
    let out = c.in-Ok.ensures in (
      _,
      slice_get_read _ _ c.args.index _ refl there.3.0 there.1,
      directive_gathered c.args.model g.met.O.Output.laws _ _ c.args.directive.now _ c.arg_type.result out.0 c.arg_type.ensures
          (c.has_type.ensures.yes (search rules)) out.1.0 out.2.0,
    )
