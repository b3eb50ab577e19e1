use Rattle.std.proofs.Common.{refl}
use Rattle.pf_reduce.proofs.LetterLemmas.{letters_change}
use Rattle.pf_reduce.proofs.changes.string_change.Goals as goal

pub returns-then-is_normal_string : goal.returns-then-is_normal_string
returns-then-is_normal_string c = letters_change c.args.model c.args.directive.now c.requires.parts (rw c.requires.kind (c.if-is_normal_string.ensures.0 refl))
