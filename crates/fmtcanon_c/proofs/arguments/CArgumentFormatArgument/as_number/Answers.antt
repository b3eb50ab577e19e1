use Rattle.fmtcanon_c.proofs.PassedLemmas.{same_number, value_of_none, value_of_type}
use Rattle.fmtcanon_c.proofs.arguments.CArgumentFormatArgument.as_number.Goals as goal

pub returns-in-None : goal.returns-in-None
returns-in-None c = (_, value_of_none c.args.self.now c.type_with_number.result c.type_with_number.ensures c.in-None.is)

pub returns-in-Some : goal.returns-in-Some
returns-in-Some c =
    let bytes = c.args.self.now.string.now in
    let same = value_of_type c.args.self.now c.type_with_number.result c.type_with_number.ensures c.in-Some.own c.in-Some.is in
    same_number c.number_from.result _ _ bytes same (c.number_from.ensures bytes)
