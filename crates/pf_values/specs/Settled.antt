-- What of a canonical text is settled before the text ends. This project's own.
use Rattle.std.specs.Prelude.{◌≡◌, ◌≢◌, ℕ, List, [], ◌∷◌, ◌++◌, replicate, flat_map}
use Rattle.pf_values.specs.declared.models.Model.{Model}
use Rattle.pf_values.specs.meaning.Canonical.{IsCanonicalOf, item_spelling}
use Rattle.pf_values.specs.meaning.Items.{Item, Directive, Reads}
use Rattle.pf_values.specs.meaning.Normal.{silent}
use Rattle.pf_values.specs.meaning.Text.{Text}

-- the last item, if there is one, isn't a silent directive
abbrev pub EndsInNoSilent : List Item → Type 0
EndsInNoSilent items = (before : List Item) → items ≢ before ++ Directive silent ∷ []

-- the canonical text of t, without the silent directives that end its items
pub record IsSettled (model : Model) (t settled : Text) : Type 0 where
  pub canonical : Text
  pub items : List Item
  pub waiting : ℕ
  pub canonical_is : IsCanonicalOf model t canonical
  pub reads : Reads canonical (items ++ replicate waiting (Directive silent))
  pub no_more : EndsInNoSilent items
  pub whole : settled ≡ flat_map item_spelling items
