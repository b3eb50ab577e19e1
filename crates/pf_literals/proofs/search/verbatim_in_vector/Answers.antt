use Rattle.std.proofs.Common.{arith}
use Rattle.std.proofs.lemmas.Simd.{length-chunk, splat_is_map, zip2_of_maps, zip2_splat}
use lib.Lanes.{chunk}
use Rattle.pf_literals.proofs.VerbatimLemmas.{first_ended, first_few, first_none, none_in}
use Rattle.pf_literals.proofs.search.verbatim_in_vector.Goals as goal

pub returns-then-offsets-eq0-clause-verbatim : goal.returns-then-offsets-eq0-clause-verbatim
returns-then-offsets-eq0-clause-verbatim c =
    let v = chunk c.args.at 16 c.args.text.now in
    let long = length-chunk c.args.at 16 c.args.text.now c.requires in
    none_in c.args.text.now c.args.at 16 c.requires (omega arith) c.type_inv.text _
    (zip2_of_maps _ _ _ v (zip2_of_maps _ _ _ v (zip2_of_maps _ _ _ v (zip2_splat _ v 16 2 long) (splat_is_map v 16 33 long))
    (zip2_of_maps _ _ _ v (zip2_splat _ v 16 64 long) (splat_is_map v 16 127 long))) (zip2_splat _ v 16 92 long)) c.if-offsets-eq0.true

pub returns-clause-few : goal.returns-clause-few
returns-clause-few c =
    let v = chunk c.args.at 16 c.args.text.now in
    let long = length-chunk c.args.at 16 c.args.text.now c.requires in
    first_few c.args.text.now c.args.at 16 c.requires (omega arith) c.type_inv.text _
    (zip2_of_maps _ _ _ v (zip2_of_maps _ _ _ v (zip2_of_maps _ _ _ v (zip2_splat _ v 16 2 long) (splat_is_map v 16 33 long))
    (zip2_of_maps _ _ _ v (zip2_splat _ v 16 64 long) (splat_is_map v 16 127 long))) (zip2_splat _ v 16 92 long)) c.if-offsets-eq0.false

pub returns-clause-verbatim : goal.returns-clause-verbatim
returns-clause-verbatim c =
    let v = chunk c.args.at 16 c.args.text.now in
    let long = length-chunk c.args.at 16 c.args.text.now c.requires in
    first_none c.args.text.now c.args.at 16 c.requires (omega arith) c.type_inv.text _
    (zip2_of_maps _ _ _ v (zip2_of_maps _ _ _ v (zip2_of_maps _ _ _ v (zip2_splat _ v 16 2 long) (splat_is_map v 16 33 long))
    (zip2_of_maps _ _ _ v (zip2_splat _ v 16 64 long) (splat_is_map v 16 127 long))) (zip2_splat _ v 16 92 long)) c.if-offsets-eq0.false

pub returns-clause-ended : goal.returns-clause-ended
returns-clause-ended c =
    let v = chunk c.args.at 16 c.args.text.now in
    let long = length-chunk c.args.at 16 c.args.text.now c.requires in
    first_ended c.args.text.now c.args.at 16 c.requires (omega arith) c.type_inv.text _
    (zip2_of_maps _ _ _ v (zip2_of_maps _ _ _ v (zip2_of_maps _ _ _ v (zip2_splat _ v 16 2 long) (splat_is_map v 16 33 long))
    (zip2_of_maps _ _ _ v (zip2_splat _ v 16 64 long) (splat_is_map v 16 127 long))) (zip2_splat _ v 16 92 long)) c.if-offsets-eq0.false
