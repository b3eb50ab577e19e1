use Rattle.pf_values.proofs.EachOnce.{each_conversion, each_flag, each_length, each_model, each_refusal}
use Rattle.pf_values.proofs.laws.tables_have_each_once.Goals as goal

pub returns-clause-conversions : goal.returns-clause-conversions
returns-clause-conversions c = each_conversion

pub returns-clause-lengths : goal.returns-clause-lengths
returns-clause-lengths c = each_length

pub returns-clause-flags : goal.returns-clause-flags
returns-clause-flags c = each_flag

pub returns-clause-models : goal.returns-clause-models
returns-clause-models c = each_model

pub returns-clause-refusals : goal.returns-clause-refusals
returns-clause-refusals c = each_refusal
