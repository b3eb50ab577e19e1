use Rattle.std.proofs.Common.{sym, ap, ◌∙◌}
use Rattle.pf_values.specs.meaning.Items.{types}
use Rattle.pf_text.specs.PieceHistory.{items_of}
use Rattle.pf_values.proofs.ItemTypes.{types-bytes}
use Rattle.pf_text.proofs.pieces.Piece.arg_type.Goals as goal

pub returns-in-Literal : goal.returns-in-Literal
returns-in-Literal c = sym (ap (λ piece. types c.args.model (items_of piece)) c.in-Literal.is ∙ types-bytes c.args.model c.in-Literal.field-0.now)
