use Rattle.std.proofs.Common.{refl}
use Rattle.pf_reduce.proofs.LetterLemmas.{letters_change}
use Rattle.pf_reduce.proofs.changes.signed_form_change.Goals as goal

pub returns-then-has_signed_form : goal.returns-then-has_signed_form
returns-then-has_signed_form c = letters_change c.args.model c.args.directive.now c.requires.parts (rw c.requires.kind (c.if-has_signed_form.ensures.0 refl))
