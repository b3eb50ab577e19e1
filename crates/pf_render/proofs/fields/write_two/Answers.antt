use Rattle.pf_render.proofs.PartLemmas.{first-stopped, second-stopped}
use Rattle.pf_render.proofs.fields.write_two.Goals as goal

pub returns-in-Err : goal.returns-in-Err
returns-in-Err g c = first-stopped g.met.O.Output.laws _ _ c.args.first.now c.args.second.now _ c.in-Err.ensures.0 c.in-Err.ensures.1

pub returns-in-Err-write_counted : goal.returns-in-Err-write_counted
returns-in-Err-write_counted g c = second-stopped g.met.O.Output.laws _ _ _ c.args.first.now c.args.second.now _ _ c.in-Ok.ensures.1 c.in-Ok.ensures.0
    c.in-Err-write_counted.ensures.0 c.in-Err-write_counted.ensures.1
