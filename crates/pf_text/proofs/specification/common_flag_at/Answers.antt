use Rattle.std.proofs.Common.{◌∷◌, [], ap, sym, ◌∙◌}
use Rattle.pf_values.specs.declared.flags.Flag.TheVariants.{Alt}
use Rattle.pf_values.specs.meaning.Flags.{with_flag}
use Rattle.pf_text.proofs.FoundLemmas.{flags_of_set}
use Rattle.pf_text.proofs.SpecificationLemmas.{bytes_one}
use Rattle.pf_text.proofs.specification.common_flag_at.Goals as goal

pub returns-then-text-start-eq35 : goal.returns-then-text-start-eq35
returns-then-text-start-eq35 c = (
  Alt ∷ [],
  c.with.ensures ∙ ap (λ set. with_flag set Alt) c.empty.ensures,
  bytes_one c.args.text.now c.args.start 35 c.requires (sym c.if-text-start-eq35.true),
)

pub returns : goal.returns
returns c = flags_of_set c.args.text.now c.args.start c.padding_flag_at.result.1 c.padding_flag_at.result.0 c.padding_flag_at.ensures
