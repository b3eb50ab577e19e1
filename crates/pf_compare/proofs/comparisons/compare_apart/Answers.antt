use Rattle.std.proofs.lemmas.Result.{err_from_is_err_and}
use Rattle.pf_compare.proofs.TypeListLemmas.{same_types_of}
use Rattle.pf_compare.proofs.VerdictLemmas.{not_equivalent, types_verdict}
use Rattle.pf_compare.proofs.comparisons.compare_apart.Goals as goal

pub returns-in-Some : goal.returns-in-Some
returns-in-Some c =
    let apart = c.requires in
    types_verdict c.args.model c.args.first.now c.args.second.now apart.first apart.second c.in-Some.index c.in-Some.ensures

pub compare_bytes-requires-clause-types : goal.compare_bytes-requires-clause-types
compare_bytes-requires-clause-types c =
    let apart = c.requires in
    same_types_of c.args.model c.args.first.now c.args.second.now apart.first apart.second c.in_default.ensures

pub returns-in_err-compare_bytes : goal.returns-in_err-compare_bytes
returns-in_err-compare_bytes c =
    let p = err_from_is_err_and c.from_residual.result c.from_residual.ensures.1 in
    let apart = c.requires in
    rw (p.1, p.2) (
      same_types_of c.args.model c.args.first.now c.args.second.now apart.first apart.second c.in_default.ensures,
      not_equivalent c.args.model
          c.args.first.now c.args.second.now apart,
    )
