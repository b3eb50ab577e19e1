-- What the calls about string literals answer. This project's own.
use Rattle.std.specs.Prelude.{◌≡◌, ◌≢◌, ◌⊎◌, ◌≤◌, ◌<◌, ◌^◌, ℕ, ◌+◌, ℤ, pos, neg_ℤ, [], ◌∷◌, ◌++◌, length}
use Rattle.pf_literals.specs.declared.faults.LiteralKind.{LiteralKind}
use Rattle.pf_literals.specs.Answers.{HasNoOffset, IsOffsetOf}
use Rattle.pf_literals.specs.Elements.{Bytes}
use Rattle.pf_literals.specs.Encoding.{encoding}
use Rattle.pf_literals.specs.Faults.{IsFaultAt}
use Rattle.pf_literals.specs.Kinds.{literal_kind_number}
use Rattle.pf_literals.specs.Sources.{IsSourceOf}
use Rattle.pf_values.specs.meaning.Text.{Text}
use Rattle.fmtcanon_c.specs.declared.interface.CError.{CError}
use Rattle.fmtcanon_c.specs.declared.interface.TheConstants.{LITERAL_KINDS, NO_MEMORY, NO_PLACE}
use Rattle.fmtcanon_c.specs.Buffers.{put}
use Rattle.fmtcanon_c.specs.Calls.{IsOut}

-- a text is not a source, and the error says why and where
pub record IsNoSource (t : Text) (code : ℤ) (error : CError) : Type 0 where
  pub kind : LiteralKind
  pub fault : IsFaultAt t kind error.at
  pub code_is : code ≡ neg_ℤ (pos (LITERAL_KINDS + literal_kind_number kind))
  pub kind_is : error.kind ≡ LITERAL_KINDS + literal_kind_number kind
  pub side_is : error.side ≡ 0

-- The bytes of a source and a NUL are put, if the buffer has room for them, and their number is
-- returned; or the text is not a source; or it is out of memory.
abbrev pub PutsDecoded : Text → Text → CError → ℤ → Text → CError → Type 0
PutsDecoded t out error code out_now error_now =
    ((bytes : Bytes) × IsSourceOf t bytes × (code ≡ pos (length bytes))
    × (out_now ≡ put (bytes ++ 0 ∷ []) out) × (error_now ≡ error))
    ⊎ ((out_now ≡ out) × (IsNoSource t code error_now
    ⊎ IsOut ((bytes : Bytes) × IsSourceOf t bytes × (bytes ≢ [])) code error error_now))

-- the literal of some bytes and a zero are put, where the buffer has room for them, and its length is
-- answered; or memory is out
abbrev pub PutsEncoded : Text → Text → ℤ → Text → Type 0
PutsEncoded t out code out_now =
    ((code ≡ pos (length (encoding t))) × (out_now ≡ put (encoding t ++ 0 ∷ []) out))
    ⊎ ((code ≡ NO_MEMORY) × (out_now ≡ out))

-- an offset as a result; by its preconditions a caller gives no text with one of 2^63 or more
abbrev pub IsPlaceCode : ℕ → ℤ → Type 0
IsPlaceCode at code =
    ((at < 2 ^ 63) × (code ≡ pos at)) ⊎ ((2 ^ 63 ≤ at) × (code ≡ NO_PLACE))

-- the offset of a byte, or of the last closing quote after them; or there is none
abbrev pub AnswersPlace : Text → ℕ → ℤ → Type 0
AnswersPlace t index code =
    ((at : ℕ) × IsOffsetOf t index at × IsPlaceCode at code)
    ⊎ (HasNoOffset t index × (code ≡ NO_PLACE))
