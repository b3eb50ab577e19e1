-- The items of a text, and the types of their arguments.
use Rattle.std.specs.Prelude.{◌≡◌, ◌≢◌, ℕ, ◌≤◌, List, [], ◌∷◌, ◌++◌, length, MatchBool, ◌==◌}
use Rattle.pf_values.specs.declared.limits.TheConstants.{MAX_TEXT_LEN}
use Rattle.pf_values.specs.declared.models.Model.{Model}
use Rattle.pf_values.specs.declared.types.ArgType.{ArgType}
use Rattle.pf_values.specs.meaning.DataModel.{arg_type}
use Rattle.pf_values.specs.meaning.Defined.{IsDefined}
use Rattle.pf_values.specs.meaning.Specification.{Specification}
use Rattle.pf_values.specs.meaning.Spelling.{Spells}
use Rattle.pf_values.specs.meaning.Text.{Text, percent}

-- An item is an ordinary character or a conversion specification (C11 7.21.6.1 p3).
pub data Item : Type 0 where
  Byte : (byte : ℕ) → Item
  Directive : (parts : Specification) → Item

-- The text of one item: `%%` for the byte `%` (C11 7.21.6.1 p8); itself for any other byte except
-- NUL (p3); and a specification for its parts (p4), if the standard defines their combination (p4
-- to p9).
abbrev pub IsReadAs : Text → Item → Type 0
IsReadAs t (Byte byte) =
    MatchBool (byte == percent) (t ≡ percent ∷ percent ∷ []) ((byte ≢ 0) × (t ≡ byte ∷ []))
IsReadAs t (Directive s) = Spells t s × IsDefined s

-- The text is the texts of its items, one after another (C11 7.21.6.1 p3).
abbrev pub Reads : Text → List Item → Type 0
Reads t [] = t ≡ []
Reads t (item ∷ items) =
    (first rest : Text) × IsReadAs first item × Reads rest items × (t ≡ first ++ rest)

-- The text is read as these items, and isn't too long. The limit is this project's choice.
pub record HasItems (t : Text) (items : List Item) : Type 0 where
  pub reads : Reads t items
  pub limit : length t ≤ MAX_TEXT_LEN

-- A text is accepted if it has items.
abbrev pub IsAccepted : Text → Type 0
IsAccepted t = (items : List Item) × HasItems t items

-- The types of the arguments that the directives fetch, in order (C11 7.21.6.1 p3).
abbrev pub types : Model → List Item → List ArgType
types model [] = []
types model (Byte byte ∷ items) = types model items
types model (Directive s ∷ items) = arg_type model s ∷ types model items
