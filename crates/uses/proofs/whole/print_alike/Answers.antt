use Rattle.uses.proofs.whole.print_alike.Goals as goal

pub returns : goal.returns
returns c alike respond =
    c.alike_print_alike.ensures c.args.model c.args.first.now c.args.second.now (c.are_alike.ensures alike) respond
