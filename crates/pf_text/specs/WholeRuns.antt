-- What a text has given where it was read from its beginning on. This project's own.
use Rattle.std.specs.Prelude.{List, [], ◌∷◌, take, Result, Ok, Err}
use Rattle.pf_values.specs.meaning.Items.{HasItems, Item, Byte, Directive}
use Rattle.pf_values.specs.meaning.Refusals.{IsGoodFront, IsRefusedAt}
use Rattle.pf_values.specs.meaning.Text.{Text, percent}
use Rattle.pf_text.specs.declared.refusals.Refusal.{Refusal}
use Rattle.pf_text.specs.declared.scanner.Step.{Step}
use Rattle.pf_text.specs.declared.scanner.Step.TheVariants as steps

-- the item that a byte has ended, if it has
abbrev pub ended_by : Step → List Item
ended_by steps.More = []
ended_by (steps.Byte byte) = Byte byte ∷ []
ended_by steps.Percent = Byte percent ∷ []
ended_by (steps.Directive d) = Directive d ∷ []

-- These are all the items of a text that is accepted, or those before the item in which it is
-- rejected.
abbrev pub HasRun : Text → List Item → Result (Unit {0}) Refusal → Type 0
HasRun t items (Ok done) = HasItems t items
HasRun t items (Err refusal) =
    IsRefusedAt t refusal.kind refusal.at
    × ((part : Text) × IsGoodFront (take refusal.at t) items part)
