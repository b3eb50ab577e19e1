-- A piece is the very text that it was read from.
use Rattle.std.proofs.Common.{◌≡◌, ◌≢◌, ℕ, Bool, true, false, List, [], ◌∷◌, ◌++◌, drop, map, refl, sym, ap, ap₂, ◌∙◌, subst}
use Rattle.std.specs.Prelude.{◌==◌, MatchBool}
use Rattle.std.specs.List.{AllByRecursion}
use Rattle.std.proofs.lemmas.Bool.{eqb-true}
use Rattle.std.proofs.lemmas.List.{append_assoc, append-nil}
use Rattle.pf_values.specs.meaning.Defined.{IsDefined}
use Rattle.pf_values.specs.meaning.Items.{Item, Byte, Reads}
use Rattle.pf_values.specs.meaning.Spelling.{Spells}
use Rattle.pf_values.specs.meaning.Text.{Text, percent}
use Rattle.pf_text.specs.declared.pieces.Piece.{Piece}
use Rattle.pf_text.specs.declared.pieces.Piece.TheVariants as pieces
use Rattle.pf_text.specs.declared.pieces.Pieces.{Pieces}
use Rattle.pf_text.specs.History.{IsLiteral}
use Rattle.pf_text.specs.PieceHistory.{NextIsPiece, HasGiven, IsPieceBefore, items_of}
use Rattle.pf_text.proofs.Unique.{Cuts, Later, Sooner, cuts, same_whole}

-- the text of some items, and that of more
read_parts : (items others : List Item) (t : Text) → Reads t (items ++ others) → (u v : Text) × Reads u items × Reads v others × (t ≡ u ++ v)
read_parts [] others t h = ([], t, refl, h, refl)
read_parts (item ∷ items) others t h =
    let p = read_parts items others h.1 h.3 in
    (h.0 ++ p.0, p.1, (h.0, p.0, h.2, p.2, refl), p.3, h.4 ∙ ap (λ u. h.0 ++ u) p.4 ∙ sym (append_assoc h.0 p.0 p.1))

rest_of : (items others : List Item) (t more u v : Text) → Reads t items → Reads u items → Reads v others → Cuts t more u v → Reads more others
rest_of items others t more u v h g r (Later x e f) = subst (λ w. Reads w others) (sym (f ∙ ap (λ y. y ++ v) (same_whole items t u x h g e))) r
rest_of items others t more u v h g r (Sooner x e f) = subst (λ w. Reads w others) (f ∙ ap (λ y. y ++ more) (same_whole items u t x g h e)) r

-- what follows the text of items is the text of those that follow
pub read_rest : (items others : List Item) (t more : Text) → Reads t items → Reads (t ++ more) (items ++ others) → Reads more others
read_rest items others t more h g =
    let p = read_parts items others (t ++ more) g in
    rest_of items others t more p.0 p.1 h p.2 p.3 (cuts t more p.0 p.1 p.4)

literal_byte : (byte : ℕ) (t : Text) (b : Bool) → (byte == percent) ≡ b → byte ≢ percent
    → MatchBool b (t ≡ percent ∷ percent ∷ []) ((byte ≢ 0) × (t ≡ byte ∷ [])) → t ≡ byte ∷ []
literal_byte byte t true e other h = absurd (other (eqb-true byte percent e))
literal_byte byte t false e other h = h.1

-- literal bytes are read from themselves
pub literal_text : (run t : Text) → AllByRecursion IsLiteral run → Reads t (map Byte run) → t ≡ run
literal_text [] t literal h = h
literal_text (byte ∷ run) t literal h = h.4 ∙ ap₂ (λ (u v : Text). u ++ v) (literal_byte byte h.0 (byte == percent) refl literal.0.0 h.2)
    (literal_text run h.1 literal.1 h.3)

-- the text that a piece is read from
abbrev pub IsTextOf : Piece → Text → Type 0
IsTextOf (pieces.Literal run) t = t ≡ run.now
IsTextOf pieces.Percent t = t ≡ percent ∷ percent ∷ []
IsTextOf (pieces.Directive d) t = Spells t d × IsDefined d

text_read : (piece : Piece) (read more rest : Text) (items : List Item) → Reads read items → Reads (read ++ more) (items ++ items_of piece)
    → IsPieceBefore piece (read ++ more) rest → IsTextOf piece more
text_read (pieces.Literal run) read more rest items h g w = literal_text run.now more w.literal (read_rest items (map Byte run.now) read more h g)
text_read pieces.Percent read more rest items h g w =
    let r = read_rest items (items_of pieces.Percent) read more h g in
    r.4 ∙ ap₂ (λ (u v : Text). u ++ v) r.2 r.3
text_read (pieces.Directive d) read more rest items h g w =
    let r = read_rest items (items_of (pieces.Directive d)) read more h g in
    subst (IsTextOf (pieces.Directive d)) (sym (r.4 ∙ ap (λ u. r.0 ++ u) r.3 ∙ append-nil r.0)) r.2

pub text_of_piece : (old new : Pieces) (t read : Text) (items : List Item) (piece : Piece) → HasGiven old t read items
    → (g : NextIsPiece new t read items piece) → IsTextOf piece g.more
text_of_piece old new t read items piece h g = text_read piece read g.more (drop new.at t) items h.reads g.given.reads g.whole
