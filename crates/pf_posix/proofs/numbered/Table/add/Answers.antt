use Rattle.pf_posix.proofs.NumberedLemmas.{add_last}
use Rattle.pf_posix.proofs.numbered.Table.add.Goals as goal

pub returns : goal.returns
returns c seen h =
    add_last seen c.args.read.now.stars c.args.read.now.position c.conversion_type.result _ c.args.stop c.add_stars.new.self c.add_one.new.self
    c.add_one.result (c.in_ok-add_stars.ensures seen h) c.conversion_type.ensures c.add_one.ensures
