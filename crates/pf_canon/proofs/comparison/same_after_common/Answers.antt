use Rattle.pf_canon.proofs.ComparisonLemmas.{told}
use Rattle.pf_canon.proofs.SliceLemmas.{are_slices, place_in_both}
use Rattle.pf_canon.proofs.comparison.same_after_common.Goals as goal

pub go_in_step-same-requires : goal.go_in_step-same-requires
go_in_step-same-requires g c =
    let (out, place) = c.place_in-place.ensures in
    let both = place_in_both g.L.Language.has_front c.args.model c.args.first.now c.args.second.now c.args.common c.place_in-place.result out c.requires place in (
      c.args.model,
      c.args.first.now,
      c.args.second.now,
      out,
      c.new-first_slices.ensures out both.0,
      c.new-second_slices.ensures out both.1,
    )

pub finish-requires : goal.finish-requires
finish-requires g c =
    let model = c.args.model in
    let (out, place) = c.place_in-place.ensures in
    let both = place_in_both g.L.Language.has_front model c.args.first.now c.args.second.now c.args.common c.place_in-place.result out c.requires place in
    let step = c.go_in_step-same.ensures model c.args.first.now c.args.second.now out (c.new-first_slices.ensures out both.0)
    (c.new-second_slices.ensures out both.1) in
    are_slices g.L.Language.has_front g.L.Language.refuses model c.go_in_step-same.new.first c.args.first.now step.given step.one

pub returns-in-Err : goal.returns-in-Err
returns-in-Err g c =
    let model = c.args.model in
    let (out, place) = c.place_in-place.ensures in
    let both = place_in_both g.L.Language.has_front model c.args.first.now c.args.second.now c.args.common c.place_in-place.result out c.requires place in
    let step = c.go_in_step-same.ensures model c.args.first.now c.args.second.now out (c.new-first_slices.ensures out both.0)
    (c.new-second_slices.ensures out both.1) in
    c.in-Err.ensures model c.args.first.now step.given step.one

pub finish-requires-2 : goal.finish-requires-2
finish-requires-2 g c =
    let model = c.args.model in
    let (out, place) = c.place_in-place.ensures in
    let both = place_in_both g.L.Language.has_front model c.args.first.now c.args.second.now c.args.common c.place_in-place.result out c.requires place in
    let step = c.go_in_step-same.ensures model c.args.first.now c.args.second.now out (c.new-first_slices.ensures out both.0)
    (c.new-second_slices.ensures out both.1) in
    are_slices g.L.Language.has_front g.L.Language.refuses model c.go_in_step-same.new.second c.args.second.now step.given step.two

pub returns-in-Err-finish : goal.returns-in-Err-finish
returns-in-Err-finish g c =
    let model = c.args.model in
    let (out, place) = c.place_in-place.ensures in
    let both = place_in_both g.L.Language.has_front model c.args.first.now c.args.second.now c.args.common c.place_in-place.result out c.requires place in
    let step = c.go_in_step-same.ensures model c.args.first.now c.args.second.now out (c.new-first_slices.ensures out both.0)
    (c.new-second_slices.ensures out both.1) in
    let first = c.in_default.ensures model c.args.first.now step.given step.one in
    ((_, first.whole), c.in-Err-finish.ensures model c.args.second.now step.given step.two)

pub returns : goal.returns
returns g c =
    let model = c.args.model in
    let (out, place) = c.place_in-place.ensures in
    let both = place_in_both g.L.Language.has_front model c.args.first.now c.args.second.now c.args.common c.place_in-place.result out c.requires place in
    let step = c.go_in_step-same.ensures model c.args.first.now c.args.second.now out (c.new-first_slices.ensures out both.0)
    (c.new-second_slices.ensures out both.1) in
    told g.L.Language.has_front g.L.Language.refuses model c.go_in_step-same.new.first c.go_in_step-same.new.second c.args.first.now c.args.second.now
    c.go_in_step-same.result step (c.in_default.ensures model c.args.first.now step.given step.one)
    (c.in_default-finish.ensures model c.args.second.now step.given step.two)
