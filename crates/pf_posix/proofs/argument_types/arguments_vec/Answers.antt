use Rattle.std.proofs.Common.{◌∙◌, ap, drop, length, subst, sym, take, ◌++◌}
use Rattle.std.proofs.Math.Seq.{take-append_seam}
use Rattle.pf_posix.specs.Items.{HasArguments}
use Rattle.pf_posix.proofs.ListLemmas.{all_there}
use Rattle.pf_posix.proofs.argument_types.arguments_vec.Goals as goal

pub returns-in-Ok-arguments : goal.returns-in-Ok-arguments
returns-in-Ok-arguments c =
    let old = c.deref_mut.result.now in
    let new = c.arguments-2.new.out in
    let items = c.in-Ok-room_for.types.items in
    let room = ap length c.deref_mut.ensures.value ∙ c.in-Ok-room_for.ensures.room in
    let there = all_there c.args.model c.args.text.now _ _ old new c.in-Ok.count _ c.in-Ok.ensures.types room c.in-Ok-arguments.ensures.types in
    let long = c.in-Ok-arguments.ensures.length ∙ c.deref_mut.ensures.len in
    subst (HasArguments c.args.model c.args.text.now) (sym (ap (λ n. take n (new ++ drop (length new) items)) (sym long) ∙ take-append_seam new _)) there
