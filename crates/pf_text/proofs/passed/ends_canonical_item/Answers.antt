use Rattle.std.proofs.Common.{◌∙◌, ◌∷◌, [], ap, sym}
use Rattle.pf_values.specs.meaning.Items.{Byte}
use Rattle.pf_values.specs.meaning.Text.{percent}
use Rattle.pf_text.proofs.WalkLemmas.{letter_passed}
use Rattle.pf_text.proofs.passed.ends_canonical_item.Goals as goal

pub returns-then-letter-eq37-clause-passed : goal.returns-then-letter-eq37-clause-passed
returns-then-letter-eq37-clause-passed c is = (
  Byte percent ∷ [],
  record {
    passed = (((λ z. cc), λ same. tt), tt);
    whole = ap
        (λ b. percent ∷ b ∷ []) c.if-letter-eq37.true;
  },
)

pub returns-clause-passed : goal.returns-clause-passed
returns-clause-passed c is = letter_passed c.args.letter c.conv_of.result (sym c.conv_of.ensures) c.if-letter-eq105.false (sym c.is_some.ensures ∙ is)
