use Rattle.pf_literals.proofs.EncodingLemmas.{encoded}
use Rattle.pf_literals.proofs.encoding.encode_in.Goals as goal

pub returns : goal.returns
returns g c =
    let e = c.verbatim_len-verbatim.ensures in
    encoded c.args.text.now c.verbatim_len-verbatim.result _ _ _ _ _ e.within e.verbatim c.in_ok-out.ensures.items c.in_ok-extend_from_slice.ensures.items
    c.in_ok-extend_from_slice-2.ensures.items c.in_ok-append_from.ensures c.in_ok-extend_from_slice-3.ensures.items
