use Rattle.std.proofs.Common.{arith}
use Rattle.std.proofs.lemmas.Bool.{eqb-true}
use Rattle.std.proofs.lemmas.Simd.{length-chunk, splat_is_map, zip2_of_maps, zip2_splat}
use lib.Lanes.{chunk}
use Rattle.pf_literals.proofs.VerbatimLemmas.{none_in}
use Rattle.pf_literals.proofs.search.is_verbatim_block.Goals as goal

pub returns : goal.returns
returns c e =
    let v = chunk c.args.at 64 c.args.text.now in
    let long = length-chunk c.args.at 64 c.args.text.now c.requires in
    none_in c.args.text.now c.args.at 64 c.requires (omega arith) c.type_inv.text _
    (zip2_of_maps _ _ _ v (zip2_of_maps _ _ _ v (zip2_of_maps _ _ _ v (zip2_splat _ v 64 2 long) (splat_is_map v 64 33 long))
    (zip2_of_maps _ _ _ v (zip2_splat _ v 64 64 long) (splat_is_map v 64 127 long))) (zip2_splat _ v 64 92 long)) (eqb-true _ 0 e)
