-- Items that are spelled as the canonical text spells them. This project's own.
use Rattle.std.specs.Prelude.{◌≡◌, ◌≢◌, ℕ, Bool, true, false, not, if◌then◌else◌, List, [], ◌∷◌, replicate, flat_map}
use Rattle.std.specs.List.{AllByRecursion}
use Rattle.pf_values.specs.declared.conversions.Conv.{Conv}
use Rattle.pf_values.specs.declared.conversions.Conv.TheVariants.{D, U, O, X, UpperX, B}
use Rattle.pf_values.specs.declared.lengths.Length.{Length}
use Rattle.pf_values.specs.declared.lengths.Length.TheVariants as lengths
use Rattle.pf_values.specs.declared.models.Model.{Model}
use Rattle.pf_values.specs.meaning.Canonical.{item_spelling}
use Rattle.pf_values.specs.meaning.Items.{Item, Byte, Directive}
use Rattle.pf_values.specs.meaning.Normal.{IsNormal, silent}
use Rattle.pf_values.specs.meaning.Text.{Text}

-- `%.0s`, `count` times
abbrev pub silents : ℕ → List Item
silents count = replicate count (Directive silent)

-- a canonical item: a literal byte, or a normal directive
abbrev pub IsCanonicalItem : Model → Item → Type 0
IsCanonicalItem model (Byte byte) = byte ≢ 0
IsCanonicalItem model (Directive s) = IsNormal model s

-- a text of canonical items, each written in the one way
pub record IsCanonicalRun (model : Model) (t : Text) (items : List Item) : Type 0 where
  pub canonical : AllByRecursion (IsCanonicalItem model) items
  pub whole : t ≡ flat_map item_spelling items

-- the modifiers that a normal directive keeps in each data model
abbrev pub is_kept_modifier : Length → Bool
is_kept_modifier lengths.J = false
is_kept_modifier lengths.Z = false
is_kept_modifier lengths.T = false
is_kept_modifier _ = true

-- the conversions of a number that are normal with nothing but `#`, or nothing but a modifier
abbrev pub is_kept_number : Bool → Conv → Bool
is_kept_number alternative X = true
is_kept_number alternative UpperX = true
is_kept_number alternative B = true
is_kept_number alternative D = not alternative
is_kept_number alternative U = not alternative
is_kept_number alternative O = not alternative
is_kept_number alternative _ = false

-- whether a directive with `#` or without, a modifier and a conversion is such a one
abbrev pub has_canonical_parts : Bool → Length → Conv → Bool
has_canonical_parts alternative modifier conv =
    if is_kept_modifier modifier then is_kept_number alternative conv else false

-- `#`, if it is there
abbrev pub alternative_bytes : Bool → Text
alternative_bytes true = 35 ∷ []
alternative_bytes false = []
