use Rattle.std.proofs.Common.{◌∷◌, ◌∙◌, [], subst, sym}
use Rattle.pf_values.specs.meaning.Conversions.{conv_letter}
use Rattle.pf_values.specs.meaning.Items.{Directive}
use Rattle.pf_values.specs.meaning.Lengths.{length_letters}
use Rattle.pf_text.specs.CanonicalRuns.{alternative_bytes}
use Rattle.pf_text.specs.Walks.{IsNormalInEach, IsPassedRun}
use Rattle.pf_text.proofs.CanonicalRunLemmas.{parts}
use Rattle.pf_text.proofs.WalkLemmas.{parts_between, parts_passed}
use Rattle.pf_text.proofs.passed.canonical_parts_len.Goals as goal

pub returns-then-has_canonical_parts-clause-passed : goal.returns-then-has_canonical_parts-clause-passed
returns-then-has_canonical_parts-clause-passed c some =
    let alternative = c.alternative_at-alternative.result.0 in
    let modifier = c.modifier_at-modifier.result.0 in
    let conv = c.in-Some.conv in
    let items = Directive (parts alternative modifier conv) ∷ [] in
    let bytes = parts_between c.args.text.now (alternative_bytes alternative) (length_letters modifier) (conv_letter conv ∷ []) c.args.at _ _
    c.requires c.alternative_at-alternative.ensures c.modifier_at-modifier.ensures.letters c.in-Some.ensures in (
      items,
      subst (λ t. IsPassedRun IsNormalInEach t items) (sym bytes)
          (parts_passed alternative modifier conv (sym c.has_canonical_parts.ensures ∙ c.if-has_canonical_parts.true)),
    )
