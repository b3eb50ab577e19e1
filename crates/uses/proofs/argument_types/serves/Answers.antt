use Rattle.uses.proofs.argument_types.serves.Goals as goal

pub returns : goal.returns
returns c fewer types args has typed =
    c.serve_fewer.ensures c.args.model c.args.message.now c.args.translation.now types args (c.takes_no_others.ensures fewer) has typed
