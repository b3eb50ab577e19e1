use Rattle.std.proofs.Common.{◌∙◌, ap, subst, sym}
use Rattle.std.proofs.lemmas.Result.{IfOk-weaker}
use Rattle.pf_values.specs.Candidates.{neutral}
use Rattle.pf_values.specs.meaning.Arguments.{Argument}
use Rattle.pf_values.specs.meaning.Printing.{Prints}
use Rattle.pf_text.specs.declared.pieces.Piece.{Piece}
use Rattle.pf_text.specs.PieceHistory.{items_of}
use Rattle.pf_compare.specs.Spans.{PrintsNeutral}
use Rattle.pf_compare.proofs.SpanLemmas.{bytes_neutral, directive_neutral}
use Rattle.pf_compare.proofs.neutral_texts.print_piece.Goals as goal

pub returns-in-Literal : goal.returns-in-Literal
returns-in-Literal c = IfOk-weaker c.with_bytes.result _ _ (λ all h. (
  c.in-Literal.literal.now,
  subst (λ (piece : Piece). PrintsNeutral c.args.model (items_of piece) c.in-Literal.literal.now) (sym c.in-Literal.is)
      (bytes_neutral c.args.model c.in-Literal.literal.now),
  h,
)) c.with_bytes.ensures

pub returns-in-Directive : goal.returns-in-Directive
returns-in-Directive c =
    let is = c.neutral_arg.ensures.value ∙ ap neutral c.arg_type.ensures in
    IfOk-weaker c.print_after.result _ _ (λ all h. (
      h.0,
      subst (λ (piece : Piece). PrintsNeutral c.args.model (items_of piece) h.0) (sym c.in-Directive.is)
          (directive_neutral c.args.model c.in-Directive.directive h.0
          (subst (λ (argument : Argument). Prints c.args.model c.in-Directive.directive argument h.0) is h.1)),
      h.2,
    )) c.print_after.ensures
