use Rattle.std.proofs.lemmas.Fmt.{decimal_digit}
use Rattle.pf_canon.proofs.items.digit.Goals as goal

pub returns : goal.returns
returns c = decimal_digit c.args.value c.requires
