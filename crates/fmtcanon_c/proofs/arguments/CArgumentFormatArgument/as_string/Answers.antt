use Rattle.std.proofs.Common.{◌≡◌, ℤ, subst, sym}
use Rattle.std.specs.Prelude.{MatchOption}
use Rattle.pf_values.specs.meaning.Arguments.{Number, String}
use Rattle.fmtcanon_c.proofs.PassedLemmas.{value_of_type}
use Rattle.fmtcanon_c.proofs.arguments.CArgumentFormatArgument.as_string.Goals as goal

pub returns-in-Some : goal.returns-in-Some
returns-in-Some c =
    let same = value_of_type c.args.self.now c.type_with_number.result c.type_with_number.ensures c.in-Some.own c.in-Some.is in
    subst (λ v. MatchOption c.string_from.result ((x : ℤ) × (v ≡ Number x)) (λ bytes. v ≡ String bytes.now)) (sym same)
    (c.string_from.ensures c.args.self.now.number)
