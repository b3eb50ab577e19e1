-- What a scanner has taken. This project's own.
use Rattle.std.specs.Prelude.{◌≡◌, ◌≢◌, ℕ, ◌≤◌, List, [], ◌∷◌, ◌++◌, length, map, take, drop, ◌⊎◌, Some, None, Result, Ok, Err, ⊤}
use Rattle.std.specs.List.{AllByRecursion}
use Rattle.pf_values.specs.declared.limits.TheConstants.{MAX_TEXT_LEN}
use Rattle.pf_values.specs.declared.refusals.RefusalKind.{RefusalKind}
use Rattle.pf_values.specs.declared.refusals.RefusalKind.TheVariants.{Truncated}
use Rattle.pf_values.specs.meaning.Items.{Item, Byte, Directive, Reads}
use Rattle.pf_values.specs.meaning.Refusals.{IsGoodFront, IsRefusedAt}
use Rattle.pf_values.specs.meaning.Text.{Text, percent}
use Rattle.pf_text.specs.declared.refusals.Refusal.{Refusal}
use Rattle.pf_text.specs.declared.scanner.Scanner.{Scanner}
use Rattle.pf_text.specs.declared.scanner.Step.{Step}
use Rattle.pf_text.specs.declared.scanner.Step.TheVariants as steps
use Rattle.pf_text.specs.Fronts.{IsAt}
use Rattle.pf_text.specs.Stages.{state_of}

-- the items so far, and the one that a byte has ended, if it has ended one
abbrev pub with_step : List Item → Step → List Item
with_step before steps.More = before
with_step before (steps.Byte byte) = before ++ Byte byte ∷ []
with_step before steps.Percent = before ++ Byte percent ∷ []
with_step before (steps.Directive d) = before ++ Directive d ∷ []

-- The scanner was fed the text and rejected none of it. The text has these whole items and the
-- beginning of one more, and the state says what has been read of that.
pub record IsAfter (scanner : Scanner) (t : Text) (whole : List Item) : Type 0 where
  pub part : Text
  pub good : IsGoodFront t whole part
  pub state : IsAt (state_of scanner.automaton) part
  pub offset : scanner.offset ≡ length t
  pub limit : length t ≤ MAX_TEXT_LEN
  pub no_refusal : scanner.refused ≡ None

-- it has rejected a byte
abbrev pub HasRefused : Scanner → Refusal → Type 0
HasRefused scanner refusal = scanner.refused ≡ Some refusal

-- a refusal at the scanner's offset
abbrev pub refusal_by : Scanner → RefusalKind → Refusal
refusal_by scanner kind = record { kind = kind; at = scanner.offset }

-- the answer for a byte that is taken, or rejected at the scanner's offset
abbrev pub refused_by : Scanner → Result Step RefusalKind → Result Step Refusal
refused_by scanner (Ok step) = Ok step
refused_by scanner (Err kind) = Err (refusal_by scanner kind)

-- the scanner, with a refusal at its offset
abbrev pub refusing : Scanner → RefusalKind → Scanner
refusing scanner kind = record scanner { refused = Some (refusal_by scanner kind) }

-- how many bytes it has taken
abbrev pub offset_of : Scanner → ℕ
offset_of scanner = scanner.offset

-- a literal byte (C11 7.21.6.1 p3)
abbrev pub IsLiteral : ℕ → Type 0
IsLiteral byte = (byte ≢ percent) × (byte ≢ 0)

-- what a step says of a text, its items and its last byte
abbrev pub Says : Text → List Item → ℕ → Step → Type 0
Says t items byte steps.More = ⊤
Says t items byte (steps.Byte b) = Reads t items × (b ≡ byte) × IsLiteral byte
Says t items byte steps.Percent = Reads t items
Says t items byte (steps.Directive d) = Reads t items

-- one more byte was taken
pub record Takes (t : Text) (whole : List Item) (byte : ℕ) (step : Step)
    (new : Scanner) : Type 0 where
  pub after : IsAfter new (t ++ byte ∷ []) (with_step whole step)
  pub says : Says (t ++ byte ∷ []) (with_step whole step) byte step

-- What a byte makes of a scanner that had taken a text: one more byte taken, or a refusal, however
-- the text goes on.
abbrev pub Feeds : Text → List Item → ℕ → Result Step Refusal → Scanner → Type 0
Feeds t whole byte (Ok step) new = Takes t whole byte step new
Feeds t whole byte (Err refusal) new =
    (refusal.at ≡ length t)
    × ((more : Text) → IsRefusedAt (t ++ byte ∷ more) refusal.kind refusal.at)

-- no literal byte may follow a text
abbrev pub EndsRun : Text → Text → Type 0
EndsRun t [] = ⊤
EndsRun t (byte ∷ rest) = (byte ≡ percent) ⊎ (byte ≡ 0) ⊎ (length t ≡ MAX_TEXT_LEN)

-- after a text that is read, the longest run of literal bytes at the front of what follows was
-- taken
pub record Passes (t : Text) (items : List Item) (following : Text) (len : ℕ)
    (new : Scanner) : Type 0 where
  pub after : IsAfter new (t ++ take len following) (items ++ map Byte (take len following))
  pub reads : Reads (t ++ take len following) (items ++ map Byte (take len following))
  pub literal : AllByRecursion IsLiteral (take len following)
  pub longest : EndsRun (t ++ take len following) (drop len following)

-- whether the text so far is whole
abbrev pub Finishes : Text → List Item → Result (Unit {0}) Refusal → Type 0
Finishes t whole (Ok done) = Reads t whole
Finishes t whole (Err refusal) =
    (refusal.kind ≡ Truncated) × (refusal.at ≡ length t) × IsRefusedAt t refusal.kind refusal.at
