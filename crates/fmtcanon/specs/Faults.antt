-- The faults of the crates below, as outcomes. This project's own.
use Rattle.std.specs.Prelude.{Option, None, Some}
use Rattle.pf_literals.specs.declared.faults.LiteralFault.{LiteralFault}
use Rattle.pf_literals.specs.declared.faults.LiteralFault.TheVariants as literal
use Rattle.pf_text.specs.declared.refusals.TextFault.{TextFault}
use Rattle.pf_text.specs.declared.refusals.TextFault.TheVariants as text
use Rattle.pf_text.specs.declared.refusals.Side.{Side}
use Rattle.pf_compare.specs.declared.comparisons.CompareFault.{CompareFault}
use Rattle.pf_compare.specs.declared.comparisons.CompareFault.TheVariants as comparison
use Rattle.fmtcanon.specs.declared.outcome.Outcome.{Outcome}
use Rattle.fmtcanon.specs.declared.outcome.Outcome.TheVariants.{Refused, BadLiteral, Memory}

-- a fault of reading one format, or of making its canonical text
abbrev pub of_text : TextFault → Outcome
of_text (text.Refused refusal) = Refused None refusal
of_text text.Memory = Memory

-- a fault of comparing two, with the side that is rejected
abbrev pub of_comparison : CompareFault → Outcome
of_comparison (comparison.Refused side refusal) = Refused (Some side) refusal
of_comparison comparison.Memory = Memory

-- a fault of the literals that give a format, of one or of this one of two
abbrev pub of_literal : Option Side → LiteralFault → Outcome
of_literal side (literal.Refused refusal) = BadLiteral side refusal
of_literal side literal.Memory = Memory
