use Rattle.std.proofs.Common.{◌∙◌, ap, drop, length, subst, sym, take, ◌++◌}
use Rattle.std.proofs.Math.Seq.{take-append_seam}
use Rattle.pf_posix.specs.Directives.{HasDirectives}
use Rattle.pf_posix.proofs.ListLemmas.{all_listed}
use Rattle.pf_posix.proofs.directive_spans.directives_vec.Goals as goal

pub returns : goal.returns
returns c =
    let old = c.deref_mut.result.now in
    let new = c.put_directives.new.out in
    let items = c.in-Ok-room_for.listed.items in
    let room = ap length c.deref_mut.ensures.value ∙ c.in-Ok-room_for.ensures.room in
    let there = all_listed c.args.model c.args.text.now _ _ old new c.in-Ok.count _ c.in-Ok.ensures.directives room c.put_directives.ensures.directives in
    let long = c.put_directives.ensures.length ∙ c.deref_mut.ensures.len in
    subst (HasDirectives c.args.model c.args.text.now) (sym (ap (λ n. take n (new ++ drop (length new) items)) (sym long) ∙ take-append_seam new _)) there
