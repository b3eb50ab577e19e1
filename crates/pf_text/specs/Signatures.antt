-- The argument types of a text.
use Rattle.std.specs.Prelude.{◌≡◌, ◌<◌, List, ◌++◌, length}
use Rattle.pf_values.specs.declared.models.Model.{Model}
use Rattle.pf_values.specs.declared.types.ArgType.{ArgType}
use Rattle.pf_values.specs.meaning.Items.{HasItems, Item, Reads, types}
use Rattle.pf_values.specs.meaning.Refusals.{IsRefusedAt}
use Rattle.pf_values.specs.meaning.Text.{Text}
use Rattle.pf_text.specs.declared.refusals.TextFault.{TextFault}
use Rattle.pf_text.specs.declared.refusals.TextFault.TheVariants.{Memory, Refused}
use Rattle.pf_text.specs.declared.signatures.Signature.{Signature}

-- the types that it holds, in order
abbrev pub types_of : Signature → List ArgType
types_of signature = signature.types.items

-- a text is read, however long it is, and its directives take arguments of these types
pub record ReadsTyped (model : Model) (t : Text) (wanted : List ArgType) : Type 0 where
  pub items : List Item
  pub reads : Reads t items
  pub types_are : wanted ≡ types model items

-- a text is accepted, and its directives take arguments of these types (C11 7.21.6.1 p3)
pub record TakesTypes (model : Model) (t : Text) (wanted : List ArgType) : Type 0 where
  pub items : List Item
  pub accepted : HasItems t items
  pub types_are : wanted ≡ types model items

-- a text begins with items that take more than eight arguments; this and what follows is this
-- project's own
pub record TakesManyArguments (model : Model) (t : Text) : Type 0 where
  pub front : Text
  pub rest : Text
  pub items : List Item
  pub split : t ≡ front ++ rest
  pub reads : Reads front items
  pub many : 8 < length (types model items)

-- why a text has no signature
abbrev pub FaultForSignature : Model → Text → TextFault → Type 0
FaultForSignature model t (Refused refusal) = IsRefusedAt t refusal.kind refusal.at
FaultForSignature model t Memory = TakesManyArguments model t
