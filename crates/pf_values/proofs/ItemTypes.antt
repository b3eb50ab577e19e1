-- The types of items.
use Rattle.std.proofs.Common.{◌≡◌, List, [], ◌∷◌, ◌++◌, map, refl, ap}
use Rattle.pf_values.specs.declared.models.Model.{Model}
use Rattle.pf_values.specs.meaning.DataModel.{arg_type}
use Rattle.pf_values.specs.meaning.Items.{Item, Byte, Directive, types}
use Rattle.pf_values.specs.meaning.Text.{Text}

pub types-append : (model : Model) (a b : List Item) → types model (a ++ b) ≡ types model a ++ types model b
types-append model [] b = refl
types-append model (Byte byte ∷ a) b = types-append model a b
types-append model (Directive s ∷ a) b = ap (λ ts. arg_type model s ∷ ts) (types-append model a b)

-- bytes take no arguments
pub types-bytes : (model : Model) (bytes : Text) → types model (map Byte bytes) ≡ []
types-bytes model [] = refl
types-bytes model (byte ∷ bytes) = types-bytes model bytes
