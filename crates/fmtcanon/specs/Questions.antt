-- What is asked about formats, and which of it a command asks. This project's own.
use Rattle.std.specs.Prelude.{◌≡◌, ◌≢◌, ℕ, true, false, List, [], ◌∷◌, Option, None, Some, codes}
use Rattle.std.specs.List.{AllByRecursion}
use Rattle.clap.specs.Walk.{Row}
use Rattle.pf_values.specs.meaning.Text.{Text}
use Rattle.pf_whole.specs.Languages.{Language, Profile, Numbered, Unnumbered}
use Rattle.fmtcanon.specs.Models.{model_in, models_in}
use Rattle.fmtcanon.specs.Options.{is_fewer, is_whole, notation_in}
use Rattle.fmtcanon.specs.declared.questions.FormatQuestion.{FormatQuestion}
use Rattle.fmtcanon.specs.declared.questions.FormatQuestion.TheVariants.{Types, WholeTypes, Canonical, WholeCanonical, Parts, Bounds}
use Rattle.fmtcanon.specs.declared.questions.OneQuestion.TheVariants.{Any, Printed}
use Rattle.fmtcanon.specs.declared.questions.PairQuestion.{PairQuestion}
use Rattle.fmtcanon.specs.declared.questions.PairQuestion.TheVariants.{Fits, FitsFewer, Same, WholeSame}
use Rattle.fmtcanon.specs.declared.questions.Question.{Question}
use Rattle.fmtcanon.specs.declared.questions.Question.TheVariants.{One, Two}
use Rattle.fmtcanon.specs.declared.questions.RecordQuestion.{RecordQuestion}
use Rattle.fmtcanon.specs.declared.questions.RecordQuestion.TheVariants as of_records

-- the language of the formats that it is asked about
abbrev pub language_of_format : FormatQuestion → Language
language_of_format Types = Profile
language_of_format WholeTypes = Numbered
language_of_format Canonical = Profile
language_of_format WholeCanonical = Unnumbered
language_of_format Parts = Profile
language_of_format Bounds = Profile

-- Argument types are compared with numbers, too. What two formats print is compared without.
abbrev pub language_of : PairQuestion → Language
language_of Fits = Numbered
language_of FitsFewer = Numbered
language_of Same = Profile
language_of WholeSame = Unnumbered

-- how many formats are asked about at a time
abbrev pub formats_wanted : RecordQuestion → ℕ
formats_wanted (of_records.One notation question model) = 1
formats_wanted (of_records.Two notation question models) = 2

-- one format, or two
abbrev pub formats_of : Text → Option Text → List Text
formats_of first None = first ∷ []
formats_of first (Some second) = first ∷ second ∷ []

-- this is asked about the formats that these texts give
abbrev pub IsAbout : Question → RecordQuestion → List Text → Type 0
IsAbout (One (Any question) model format) asked formats =
    (asked ≡ of_records.One format.notation question model) × (formats ≡ format.text.now ∷ [])
IsAbout (One (Printed words) model format) asked formats = ⊥
IsAbout (Two question models first second) asked formats =
    (asked ≡ of_records.Two first.notation question models) × (second.notation ≡ first.notation)
    × (formats ≡ first.text.now ∷ second.text.now ∷ [])

-- a command asks this about a format
abbrev pub IsAskedOfOne : Text → List Row → FormatQuestion → Type 0
IsAskedOfOne command rows Types = (command ≡ codes "types") × (is_whole rows ≡ false)
IsAskedOfOne command rows WholeTypes = (command ≡ codes "types") × (is_whole rows ≡ true)
IsAskedOfOne command rows Canonical = (command ≡ codes "canon") × (is_whole rows ≡ false)
IsAskedOfOne command rows WholeCanonical = (command ≡ codes "canon") × (is_whole rows ≡ true)
IsAskedOfOne command rows Parts = command ≡ codes "show"
IsAskedOfOne command rows Bounds = command ≡ codes "bounds"

-- a command asks this about two formats
abbrev pub IsAskedOfTwo : Text → List Row → PairQuestion → Type 0
IsAskedOfTwo command rows Fits = (command ≡ codes "fits") × (is_fewer rows ≡ false)
IsAskedOfTwo command rows FitsFewer = (command ≡ codes "fits") × (is_fewer rows ≡ true)
IsAskedOfTwo command rows Same = (command ≡ codes "same") × (is_whole rows ≡ false)
IsAskedOfTwo command rows WholeSame = (command ≡ codes "same") × (is_whole rows ≡ true)

-- a command asks this about formats
abbrev pub IsAsked : Text → List Row → RecordQuestion → Type 0
IsAsked command rows (of_records.One notation question model) =
    IsAskedOfOne command rows question × (notation ≡ notation_in rows) × (model ≡ model_in rows)
IsAsked command rows (of_records.Two notation question models) =
    IsAskedOfTwo command rows question × (notation ≡ notation_in rows) × (models ≡ models_in rows)

-- the names of the commands that ask about any formats
abbrev pub question_names : List Text
question_names =
    codes "types" ∷ codes "canon" ∷ codes "show" ∷ codes "bounds" ∷ codes "fits" ∷ codes "same" ∷ []

-- a command has another name
abbrev pub IsNoQuestionName : Text → Type 0
IsNoQuestionName command = AllByRecursion (λ name. command ≢ name) question_names
