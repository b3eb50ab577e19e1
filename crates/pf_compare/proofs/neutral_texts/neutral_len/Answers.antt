use Rattle.std.proofs.Common.{[], ◌∷◌, ◌∙◌, ap, arith, refl, subst, sym}
use Rattle.pf_values.specs.Candidates.{neutral}
use Rattle.pf_values.specs.meaning.Arguments.{Argument}
use Rattle.pf_values.specs.meaning.Printing.{Prints}
use Rattle.pf_values.specs.meaning.Text.{percent}
use Rattle.pf_text.specs.declared.pieces.Piece.{Piece}
use Rattle.pf_text.specs.PieceHistory.{items_of}
use Rattle.pf_compare.specs.Spans.{PrintsNeutral}
use Rattle.pf_compare.proofs.SpanLemmas.{bytes_neutral, directive_neutral}
use Rattle.pf_compare.proofs.neutral_texts.neutral_len.Goals as goal

pub returns-in-Literal : goal.returns-in-Literal
returns-in-Literal c = (
  c.in-Literal.literal.now,
  subst (λ (piece : Piece). PrintsNeutral c.args.model (items_of piece) c.in-Literal.literal.now) (sym c.in-Literal.is)
      (bytes_neutral c.args.model c.in-Literal.literal.now),
  refl,
)

pub returns-in-Percent : goal.returns-in-Percent
returns-in-Percent c = (
  percent ∷ [],
  subst (λ (piece : Piece). PrintsNeutral c.args.model (items_of piece) (percent ∷ [])) (sym c.in-Percent.is) (bytes_neutral c.args.model (percent ∷ [])),
  refl,
)

pub returns-in_ok-print-in-Directive : goal.returns-in_ok-print-in-Directive
returns-in_ok-print-in-Directive c =
    let bytes = c.in_ok-print-in-Directive.field-0 in
    let argument_is = c.neutral_arg-argument.ensures.value ∙ ap neutral c.arg_type.ensures in (
      bytes.items,
      subst (λ (piece : Piece). PrintsNeutral c.args.model (items_of piece) bytes.items) (sym c.in-Directive.is)
          (directive_neutral c.args.model c.in-Directive.directive bytes.items
          (subst (λ (argument : Argument). Prints c.args.model c.in-Directive.directive argument bytes.items) argument_is c.in_ok-print-in-Directive.ensures)),
      omega (arith, c.len.ensures, bytes.ok.0),
    )
