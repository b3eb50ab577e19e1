use Rattle.std.proofs.Common.{◌∙◌, ◌∷◌, [], sym}
use Rattle.pf_values.specs.meaning.Items.{Directive}
use Rattle.pf_text.proofs.CanonicalRunLemmas.{bare}
use Rattle.pf_text.proofs.WalkLemmas.{conv_run, percent_passed}
use Rattle.pf_text.proofs.passed.BarePassed.len.Goals as goal

pub returns-then-letter-eq37-clause-passed : goal.returns-then-letter-eq37-clause-passed
returns-then-letter-eq37-clause-passed c some = percent_passed _ c.args.text.now c.args.at c.requires c.if-letter-eq37.true tt

pub returns-in-Some-clause-passed : goal.returns-in-Some-clause-passed
returns-in-Some-clause-passed c some = (
  Directive (bare c.in-Some.field-0) ∷ [],
  conv_run _ c.args.text.now c.args.at c.in-Some.field-0 c.requires (sym c.conv_of.ensures ∙ c.in-Some.is) tt,
)
