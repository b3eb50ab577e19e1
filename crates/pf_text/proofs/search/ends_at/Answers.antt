use Rattle.std.proofs.lemmas.Simd.{length-chunk, zip2_of_maps, zip2_splat}
use lib.Lanes.{chunk}
use Rattle.pf_text.proofs.SearchLemmas.{mask_is}
use Rattle.pf_text.proofs.search.ends_at.Goals as goal

pub returns : goal.returns
returns g c =
    let v = chunk c.args.at g.row.N c.args.text.now in
    let long = length-chunk c.args.at g.row.N c.args.text.now c.requires.room in
    mask_is c.args.text.now c.args.at g.row.N c.requires.room c.requires.few _
    (zip2_of_maps _ _ _ v (zip2_splat _ v g.row.N 37 long) (zip2_splat _ v g.row.N 0 long))
