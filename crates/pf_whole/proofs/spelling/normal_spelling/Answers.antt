use Rattle.std.proofs.Common.{ap, ◌∙◌}
use Rattle.pf_values.specs.declared.flags.Flag.TheVariants.{Group}
use Rattle.pf_values.specs.meaning.Flags.{has}
use Rattle.pf_whole.specs.meaning.NormalSpellings.{whole_spelling_of}
use Rattle.pf_whole.proofs.spelling.normal_spelling.Goals as goal

pub spell-requires : goal.spell-requires
spell-requires c = ap (λ s. has s.flags Group) c.normal_directive.ensures

pub returns-in-Directive-clause-bytes : goal.returns-in-Directive-clause-bytes
returns-in-Directive-clause-bytes c = rw c.in-Directive.is (c.spell.ensures.bytes ∙ ap whole_spelling_of c.normal_directive.ensures)
