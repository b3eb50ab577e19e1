use Rattle.fmtcanon_c.proofs.CallsOnce.{one_arguments_put, one_canonical_put, one_directives_put, one_types_put, one_whole_put}
use Rattle.fmtcanon_c.proofs.laws.puts_once.Goals as goal

pub returns-clause-canonical : goal.returns-clause-canonical
returns-clause-canonical c = one_canonical_put

pub returns-clause-whole : goal.returns-clause-whole
returns-clause-whole c = one_whole_put

pub returns-clause-types : goal.returns-clause-types
returns-clause-types c = one_types_put

pub returns-clause-arguments : goal.returns-clause-arguments
returns-clause-arguments c = one_arguments_put

pub returns-clause-directives : goal.returns-clause-directives
returns-clause-directives c = one_directives_put
