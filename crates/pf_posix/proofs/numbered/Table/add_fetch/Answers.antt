use Rattle.std.proofs.Common.{◌∙◌, sym}
use Rattle.pf_posix.proofs.TableLemmas.{kept_new, told_some}
use Rattle.pf_posix.proofs.numbered.Table.add_fetch.Goals as goal

pub returns-in-Some : goal.returns-in-Some
returns-in-Some c seen h =
    rw (c.larger-self.ensures) (told_some c.args.self.now seen h c.args.index c.args.wanted c.requires c.in-Some.there c.number.result c.number-in-Some.result
    c.in-Some.is c.number.ensures c.number-in-Some.ensures)

pub returns-in-None : goal.returns-in-None
returns-in-None c seen h =
    rw (c.larger-self.ensures) (kept_new c.args.self.now seen h c.args.index c.args.wanted c.requires (sym (h.types c.args.index c.requires) ∙ c.in-None.is))
