-- What is gathered in memory, and what a call leaves that checks arguments while it writes what is
-- printed for them. This project's own.
use Rattle.std.specs.Prelude.{◌≡◌, ℕ, List, ◌++◌, map, take}
use Rattle.std.specs.List.{AllZip}
use Rattle.pf_values.specs.declared.models.Model.{Model}
use Rattle.pf_values.specs.declared.types.ArgType.{ArgType}
use Rattle.pf_values.specs.meaning.Arguments.{Argument}
use Rattle.pf_values.specs.meaning.Items.{Item, types}
use Rattle.pf_values.specs.meaning.Printing.{PrintsAll}
use Rattle.pf_values.specs.meaning.Text.{Text}
use Rattle.pf_render.specs.declared.gathered_text.GatheredText.{GatheredText}
use Rattle.pf_render.specs.Rendering.{IsOfTypeBy}

-- the bytes that a writer into memory holds
abbrev pub gathered_bytes : GatheredText → Text
gathered_bytes text = take text.len text.bytes

-- these bytes were gathered
abbrev pub IsKept : GatheredText → GatheredText → Text → Type 0
IsKept old new bytes = gathered_bytes new ≡ gathered_bytes old ++ bytes

-- where there was no room for all of the bytes, some may have been gathered
abbrev pub IsKeptInPart : GatheredText → GatheredText → Text → ℕ → Type 0
IsKeptInPart old new bytes written = Unit {0}

-- these arguments are of the types that the items take, and what the items print for them was put
pub record IsGatheredSoFar {A O : Type 0} (type_of : A → ArgType) (argument_of : A → Argument)
    (wrote : O → O → Text → Type 0) (model : Model) (old new : O) (items : List Item)
    (own : List A) : Type 0 where
  pub matching : AllZip (IsOfTypeBy type_of argument_of model) own (types model items)
  pub out : Text
  pub prints : PrintsAll model items (map argument_of own) out
  pub put : wrote old new out
