-- Canonical texts. They are this project's own: the standard has no canonical form.
use Rattle.std.specs.Prelude.{◌≡◌, List, [], ◌∷◌, ◌==◌, if◌then◌else◌, ◌⊎◌, flat_map, ⊤}
use Rattle.pf_values.specs.declared.models.Model.{Model}
use Rattle.pf_values.specs.meaning.Items.{Item, Byte, Directive, Reads}
use Rattle.pf_values.specs.meaning.Normal.{IsNormal, silent}
use Rattle.pf_values.specs.meaning.Printing.{AreEquivalent}
use Rattle.pf_values.specs.meaning.Spelling.{spelling_of}
use Rattle.pf_values.specs.meaning.Text.{Text, percent}

-- The one way in which a canonical text writes an item. The byte `%` is written `%%` (C11 7.21.6.1
-- p8).
abbrev pub item_spelling : Item → Text
item_spelling (Byte byte) = if byte == percent then percent ∷ percent ∷ [] else byte ∷ []
item_spelling (Directive s) = spelling_of s

-- The list is empty, or its first item is a directive.
abbrev pub BeginsWithNoByte : List Item → Type 0
BeginsWithNoByte [] = ⊤
BeginsWithNoByte (Byte byte ∷ items) = ⊥
BeginsWithNoByte (Directive s ∷ items) = ⊤

-- Each directive is normal, or it is `%.0s` and no byte comes directly after it.
abbrev pub AreCanonical : Model → List Item → Type 0
AreCanonical model [] = ⊤
AreCanonical model (Byte byte ∷ items) = AreCanonical model items
AreCanonical model (Directive s ∷ items) =
    (IsNormal model s ⊎ ((s ≡ silent) × BeginsWithNoByte items)) × AreCanonical model items

-- The text `t` is read as canonical items, and is exactly the spellings of these items.
pub record ReadsCanonically (model : Model) (t : Text) (items : List Item) : Type 0 where
  pub reads : Reads t items
  pub canonical : AreCanonical model items
  pub whole : t ≡ flat_map item_spelling items

-- There are items that the text spells in this way.
abbrev pub IsCanonicalText : Model → Text → Type 0
IsCanonicalText model t = (items : List Item) × ReadsCanonically model t items

-- `c` is the canonical text of `t`: it is canonical, and equivalent to `t`.
pub record IsCanonicalOf (model : Model) (t c : Text) : Type 0 where
  pub canonical : IsCanonicalText model c
  pub equivalent : AreEquivalent model t c
