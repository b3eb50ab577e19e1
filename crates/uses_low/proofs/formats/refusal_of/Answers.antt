use Rattle.uses_low.proofs.formats.refusal_of.Goals as goal

pub returns-in-Err : goal.returns-in-Err
returns-in-Err c kind at refused =
    c.refused_once.ensures c.args.format.now kind c.in-Err.refusal.kind at c.in-Err.refusal.at refused c.in-Err.ensures
