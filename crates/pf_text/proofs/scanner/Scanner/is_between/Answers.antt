use Rattle.pf_text.proofs.BetweenLemmas.{whether_read}
use Rattle.pf_text.proofs.scanner.Scanner.is_between.Goals as goal

pub returns-clause-read : goal.returns-clause-read
returns-clause-read c t items h = whether_read c.args.self.now t items c.is_between.result c.is_between.ensures h
