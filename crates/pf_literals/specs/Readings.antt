-- What a text is read as, as the code reads it. No public contract speaks of it.
use Rattle.std.specs.Prelude.{◌≡◌, ℕ, zero, suc, ◌+◌, ◌-◌, List, [], ◌∷◌, ◌++◌}
use Rattle.pf_literals.specs.declared.faults.LiteralKind.{LiteralKind}
use Rattle.pf_literals.specs.declared.faults.LiteralKind.TheVariants.{NoLiteral, Unterminated}
use Rattle.pf_literals.specs.declared.tokens.Context.{Context}
use Rattle.pf_literals.specs.declared.tokens.Context.TheVariants.{Before, Inside, Behind}
use Rattle.pf_literals.specs.declared.tokens.Token.{Token}
use Rattle.pf_literals.specs.declared.tokens.Token.TheVariants.{White, OpenQuote, CloseQuote, Character, Invalid}
use Rattle.pf_literals.specs.Elements.{Bytes}
use Rattle.pf_literals.specs.Tokens.{token_at}

-- bytes with their offsets in the source and the offset of the last quote, or a fault at its byte
pub data SourceReading : Type 0 where
  Whole : (bytes offsets : List ℕ) (close : ℕ) → SourceReading
  Fault : (kind : LiteralKind) (at : ℕ) → SourceReading

-- what is read, with bytes before it
abbrev pub prefixed : List ℕ → List ℕ → SourceReading → SourceReading
prefixed bytes offsets (Whole more others close) = Whole (bytes ++ more) (offsets ++ others) close
prefixed bytes offsets (Fault kind at) = Fault kind at

-- a token at the offset `at`, in front of what `next` reads after it: `next` takes the context after the
-- token, and how many further bytes the token has
abbrev pub after_token : ℕ → Context → Token → (Context → ℕ → SourceReading) → SourceReading
after_token at context White next = next context 0
after_token at context OpenQuote next = next Inside 0
after_token at context CloseQuote next = next (Behind at) 0
after_token at context (Character value len) next = prefixed (value ∷ []) (at ∷ []) (next context (len - 1))
after_token at context (Invalid kind on) next = Fault kind (at + on)

-- the text ends in a context
abbrev pub reading_at_end : Context → ℕ → SourceReading
reading_at_end Before at = Fault NoLiteral at
reading_at_end Inside at = Fault Unterminated at
reading_at_end (Behind close) at = Whole [] [] close

-- what a text is read as in a context: its first byte is at the offset `at`, and `skip` bytes are passed over
abbrev pub read_from : Context → ℕ → ℕ → Bytes → SourceReading
read_from context skip at [] = reading_at_end context at
read_from context (suc skip) at (byte ∷ text) = read_from context skip (at + 1) text
read_from context zero at (byte ∷ text) =
    after_token at context (token_at context (byte ∷ text)) (λ p skip. read_from p skip (at + 1) text)

-- what a text is read as
abbrev pub source_reading : Bytes → SourceReading
source_reading text = read_from Before 0 0 text

-- bytes are read, and no fault
abbrev pub HasNoFault : SourceReading → Type 0
HasNoFault r = (bytes offsets : List ℕ) × (close : ℕ) × (r ≡ Whole bytes offsets close)
