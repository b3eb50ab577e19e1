use Rattle.fmtcanon_c.proofs.EndedLemmas.{put_between}
use Rattle.fmtcanon_c.proofs.words.put_parts.Goals as goal

pub returns-clause-put : goal.returns-clause-put
returns-clause-put c = put_between c.args.out.now c.args.first.now c.args.second.now c.args.at _ _ _ _ _ _ c.split_at_mut-rest.ensures.front
    c.split_at_mut-rest.ensures.back c.split_at_mut-front.ensures.back c.split_at_mut-front-2.ensures.back c.copy_from_slice.ensures.after
    c.copy_from_slice-2.ensures.after c.requires
