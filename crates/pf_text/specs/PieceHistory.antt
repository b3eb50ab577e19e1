-- What the pieces of a text have given. This project's own.
use Rattle.std.specs.Prelude.{◌≡◌, ◌≢◌, ℕ, ◌+◌, ◌-◌, ◌<◌, ◌≤◌, true, false, List, [], ◌∷◌, ◌++◌, drop, length, map, take, Option, Some, None, Result, Ok, Err, if◌then◌else◌, ⊤}
use Rattle.std.specs.Iterator.{Count, at_most}
use Rattle.std.specs.List.{AllByRecursion}
use Rattle.memchr.specs.Find.{Passes, is_byte2}
use Rattle.pf_values.specs.declared.limits.TheConstants.{MAX_TEXT_LEN}
use Rattle.pf_values.specs.meaning.Items.{HasItems, Item, Byte, Directive, Reads}
use Rattle.pf_values.specs.meaning.Refusals.{IsGoodFront, IsRefusedAt}
use Rattle.pf_values.specs.meaning.Text.{Text, percent}
use Rattle.pf_text.specs.declared.pieces.Piece.{Piece}
use Rattle.pf_text.specs.declared.pieces.Piece.TheVariants as pieces
use Rattle.pf_text.specs.declared.pieces.Pieces.{Pieces}
use Rattle.pf_text.specs.declared.refusals.Refusal.{Refusal}
use Rattle.pf_text.specs.History.{EndsRun, IsLiteral}

-- the items of a piece
abbrev pub items_of : Piece → List Item
items_of (pieces.Literal run) = map Byte run.now
items_of pieces.Percent = Byte percent ∷ []
items_of (pieces.Directive d) = Directive d ∷ []

-- The pieces of `t` that were given are its first part `read`, with these items. No refusal was
-- given.
pub record HasGiven (pieces : Pieces) (t read : Text) (items : List Item) : Type 0 where
  pub going : pieces.is_over ≡ false
  pub text_is : pieces.text.now ≡ t
  pub at : pieces.at ≡ length read
  pub split : t ≡ read ++ drop pieces.at t
  pub limit : length read ≤ MAX_TEXT_LEN
  pub reads : Reads read items

-- a run of literal bytes that ends with the text `read` is not empty, and no literal byte follows
pub record IsLongestRun (run read rest : Text) : Type 0 where
  pub some : run ≢ []
  pub literal : AllByRecursion IsLiteral run
  pub longest : EndsRun read rest

-- what a piece says of the text up to its end, and of what follows
abbrev pub IsPieceBefore : Piece → Text → Text → Type 0
IsPieceBefore (pieces.Literal run) read rest = IsLongestRun run.now read rest
IsPieceBefore pieces.Percent read rest = ⊤
IsPieceBefore (pieces.Directive d) read rest = ⊤

-- the next piece was given
pub record NextIsPiece (new : Pieces) (t read : Text) (items : List Item)
    (piece : Piece) : Type 0 where
  pub more : Text
  pub given : HasGiven new t (read ++ more) (items ++ items_of piece)
  pub whole : IsPieceBefore piece (read ++ more) (drop new.at t)

-- what a piece says of the bytes between two offsets of a text, and of what follows
abbrev pub IsPieceOf : Piece → Text → ℕ → ℕ → Type 0
IsPieceOf (pieces.Literal run) t start stop = (run.now ≡ take (stop - start) (drop start t))
    × AllByRecursion IsLiteral (take (stop - start) (drop start t))
    × (stop < length t → Passes (is_byte2 37 0) t stop)
IsPieceOf pieces.Percent t start stop = ⊤
IsPieceOf (pieces.Directive d) t start stop = ⊤

-- a piece begins at one offset of a text and ends at another
pub record IsPieceAt (t : Text) (start : ℕ) (piece : Piece) (stop : ℕ) : Type 0 where
  pub some : start < stop
  pub within : stop ≤ length t
  pub reads : Reads (take (stop - start) (drop start t)) (items_of piece)
  pub piece_is : IsPieceOf piece t start stop

-- the text is rejected after the items that were given
pub record NextIsRefusal (t : Text) (items : List Item) (refusal : Refusal) : Type 0 where
  pub refused : IsRefusedAt t refusal.kind refusal.at
  pub front : Text
  pub rest : Text
  pub part : Text
  pub split : t ≡ front ++ rest
  pub offset : refusal.at ≡ length front
  pub good : IsGoodFront front items part

-- a piece, the refusal, or the end of an accepted text
abbrev pub NextIs : Option (Result Piece Refusal) → Pieces → Text → Text → List Item → Type 0
NextIs None new t read items = HasItems t items
NextIs (Some (Ok piece)) new t read items = NextIsPiece new t read items piece
NextIs (Some (Err refusal)) new t read items = NextIsRefusal t items refusal

-- after the end and after a refusal nothing comes
abbrev pub IsOverAfter : Option (Result Piece Refusal) → Pieces → Type 0
IsOverAfter None new = new.is_over ≡ true
IsOverAfter (Some (Ok piece)) new = ⊤
IsOverAfter (Some (Err refusal)) new = new.is_over ≡ true

-- what a call of `next` gives
pub record NextReturns (old : Pieces) (result : Option (Result Piece Refusal))
    (new : Pieces) : Type 0 where
  pub next : (t read : Text) (items : List Item) → HasGiven old t read items
      → NextIs result new t read items
  pub over : old.is_over ≡ true → (result ≡ None) × (new ≡ old)
  pub last : IsOverAfter result new

-- at most one piece for each byte that is left, and a refusal
abbrev pub pieces_to_come : Pieces → Count
pieces_to_come pieces = at_most (if pieces.is_over then 0 else length pieces.text.now - pieces.at + 1)
