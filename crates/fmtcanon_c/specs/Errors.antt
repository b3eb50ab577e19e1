-- Refusals as numbers. This project's own.
use Rattle.std.specs.Prelude.{◌≡◌, ◌⊎◌, ℕ, ◌+◌, ℤ, pos, neg_ℤ, Option, Some, None}
use Rattle.pf_literals.specs.declared.faults.LiteralKind.{LiteralKind}
use Rattle.pf_literals.specs.Kinds as literals
use Rattle.pf_values.specs.declared.refusals.RefusalKind.{RefusalKind}
use Rattle.pf_values.specs.RefusalKinds.{name, number}
use Rattle.pf_values.specs.meaning.Refusals.{IsRefusedAt}
use Rattle.pf_values.specs.meaning.Text.{Text}
use Rattle.pf_text.specs.declared.refusals.Refusal.{Refusal}
use Rattle.pf_text.specs.declared.refusals.Side.{Side}
use Rattle.pf_text.specs.declared.refusals.Side.TheVariants.{First, Second}
use Rattle.fmtcanon_c.specs.declared.interface.CError.{CError}
use Rattle.fmtcanon_c.specs.declared.interface.TheConstants.{LITERAL_KINDS}

-- which text it is
abbrev pub side_number : Side → ℕ
side_number First = 0
side_number Second = 1

-- a text is rejected, and the error says why and where
pub record IsRefusedAs (Refuses : RefusalKind → ℕ → Type 0) (side : Side) (code : ℤ)
    (error : CError) : Type 0 where
  pub kind : RefusalKind
  pub refused : Refuses kind error.at
  pub code_is : code ≡ neg_ℤ (pos (number kind))
  pub kind_is : error.kind ≡ number kind
  pub side_is : error.side ≡ side_number side

-- a text is rejected by the profile
abbrev pub IsRefusedBy : Side → Text → ℤ → CError → Type 0
IsRefusedBy side t code error = IsRefusedAs (IsRefusedAt t) side code error

-- the numbers of this refusal of this text
pub record IsRefusalCode (side : Side) (refusal : Refusal) (code : ℤ) (error : CError) : Type 0
  where
    pub at_is : error.at ≡ refusal.at
    pub code_is : code ≡ neg_ℤ (pos (number refusal.kind))
    pub kind_is : error.kind ≡ number refusal.kind
    pub side_is : error.side ≡ side_number side

-- the kind of faults of literals with the number, if there is one
abbrev pub IsLiteralKindOf : ℕ → Option LiteralKind → Type 0
IsLiteralKindOf n (Some kind) = n ≡ literals.literal_kind_number kind
IsLiteralKindOf n None = (kind : LiteralKind) → n ≡ literals.literal_kind_number kind → ⊥

-- its name, by the number with what is added to it
abbrev pub IsLiteralNameOf : ℕ → Option Text → Type 0
IsLiteralNameOf n (Some name) = (kind : LiteralKind)
    × (n ≡ LITERAL_KINDS + literals.literal_kind_number kind) × (name ≡ literals.literal_kind_name kind)
IsLiteralNameOf n None = (kind : LiteralKind) → n ≡ LITERAL_KINDS + literals.literal_kind_number kind → ⊥

-- the name of a kind of refusals with the number, of formats or of literals, if there is one
abbrev pub IsNameOf : ℕ → Option Text → Type 0
IsNameOf n (Some t) =
    ((kind : RefusalKind) × (n ≡ number kind) × (t ≡ name kind)) ⊎ IsLiteralNameOf n (Some t)
IsNameOf n None = ((kind : RefusalKind) → n ≡ number kind → ⊥) × IsLiteralNameOf n None

-- the kind with the number, if there is one
abbrev pub IsKindOf : ℕ → Option RefusalKind → Type 0
IsKindOf n (Some kind) = n ≡ number kind
IsKindOf n None = (kind : RefusalKind) → n ≡ number kind → ⊥
