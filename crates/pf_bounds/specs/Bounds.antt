-- How many bytes texts print at least and at most. This project's own: the standard doesn't count
-- them.
use Rattle.std.specs.Prelude.{◌≡◌, ℕ, ◌+◌, ◌<◌, ◌≤◌, List, length, Option, Some, None, IfSome}
use Rattle.pf_values.specs.declared.models.Model.{Model}
use Rattle.pf_values.specs.meaning.Arguments.{Argument, HasType, HasTypes}
use Rattle.pf_values.specs.meaning.DataModel.{arg_type}
use Rattle.pf_values.specs.meaning.Items.{HasItems, Item, types}
use Rattle.pf_values.specs.meaning.Printing.{Prints, PrintsAll}
use Rattle.pf_values.specs.meaning.Specification.{Specification}
use Rattle.pf_values.specs.meaning.Text.{Text}

-- no text has more bytes, and one has as many; where there is no such number, some text has more bytes
-- than any number
abbrev pub IsGreatest : (Text → Type 0) → Option ℕ → Type 0
IsGreatest Printed (Some n) =
    ((out : Text) → Printed out → length out ≤ n) × ((out : Text) × Printed out × (length out ≡ n))
IsGreatest Printed None = (n : ℕ) → (out : Text) × Printed out × (n < length out)

-- the smallest and the largest number of bytes of some texts
pub record AreBoundsOf (Printed : Text → Type 0) (least : ℕ) (greatest : Option ℕ) : Type 0 where
  pub at_least : (out : Text) → Printed out → least ≤ length out
  pub reached : (out : Text) × Printed out × (length out ≡ least)
  pub most : IsGreatest Printed greatest

-- a directive prints this for some argument of its type
pub record CanPrint (model : Model) (s : Specification) (out : Text) : Type 0 where
  pub argument : Argument
  pub typed : HasType model argument (arg_type model s)
  pub prints : Prints model s argument out

-- items print this for some arguments of their types
pub record CanPrintAll (model : Model) (items : List Item) (out : Text) : Type 0 where
  pub args : List Argument
  pub typed : HasTypes model args (types model items)
  pub prints : PrintsAll model items args out

-- an accepted text prints these numbers of bytes at least and at most
pub record AreBounds (model : Model) (t : Text) (least : ℕ) (greatest : Option ℕ) : Type 0 where
  pub items : List Item
  pub accepted : HasItems t items
  pub bounds : AreBoundsOf (CanPrintAll model items) least greatest

-- of what is printed one after another
abbrev pub sum_of : Option ℕ → Option ℕ → Option ℕ
sum_of None other = None
sum_of (Some n) None = None
sum_of (Some n) (Some m) = Some (n + m)

-- neither number is above a limit
pub record AreWithin (least : ℕ) (greatest : Option ℕ) (limit : ℕ) : Type 0 where
  pub least_is : least ≤ limit
  pub greatest_is : IfSome greatest (λ n. n ≤ limit)

-- a number is one of those from the one to the other, or from the one on
pub record IsBetween (least : ℕ) (greatest : Option ℕ) (n : ℕ) : Type 0 where
  pub from_least : least ≤ n
  pub to_greatest : IfSome greatest (λ g. n ≤ g)
