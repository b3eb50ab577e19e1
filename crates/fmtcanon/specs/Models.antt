-- The data models that the option `--model` names. This project's own.
use Rattle.std.specs.Prelude.{List, [], ◌∷◌, ◌++◌, Option, Some, None, codes, map, if◌then◌else◌, take}
use Rattle.std.specs.Str.{bytes_eq}
use Rattle.clap.specs.Walk.{Row, first_of}
use Rattle.pf_values.specs.declared.models.Model.{Model}
use Rattle.pf_values.specs.declared.models.TheConstants.Model.{ALL}
use Rattle.pf_values.specs.declared.models.Model.TheVariants.{Lp64, Ilp32, Llp64}
use Rattle.pf_values.specs.meaning.Text.{Text}
use Rattle.fmtcanon.specs.declared.models.Models.{Models}
use Rattle.fmtcanon.specs.declared.models.Models.TheVariants.{All, Both, One}

-- the name of a data model
abbrev pub model_name : Model → Text
model_name Lp64 = codes "lp64"
model_name Ilp32 = codes "ilp32"
model_name Llp64 = codes "llp64"

-- the names that the option takes
abbrev pub model_names : List Text
model_names = map model_name ALL

-- those where two formats are compared: of one, of the first two together, or of all
abbrev pub model_names_or_more : List Text
model_names_or_more = model_names ++ codes "both" ∷ codes "all" ∷ []

-- the data models that are asked for
abbrev pub asked_models : Models → List Model
asked_models (One model) = model ∷ []
asked_models Both = take 2 ALL
asked_models All = ALL

-- the first of them
abbrev pub first_model : Models → Model
first_model (One model) = model
first_model Both = Lp64
first_model All = Lp64

-- the first of some data models that has a name, otherwise LP64
abbrev pub model_among : List Model → Text → Model
model_among [] name = Lp64
model_among (model ∷ models) name =
    if bytes_eq name (model_name model) then model else model_among models name

abbrev pub model_named : Text → Model
model_named name = model_among ALL name

abbrev pub models_named : Text → Models
models_named name =
    if bytes_eq name (codes "both") then Both else
    if bytes_eq name (codes "all") then All else
    One (model_named name)

-- the data model that clap's rows of a command name, and LP64 where they name none
abbrev pub model_of_value : Option Text → Model
model_of_value None = Lp64
model_of_value (Some name) = model_named name

abbrev pub model_in : List Row → Model
model_in rows = model_of_value (first_of (codes "model") rows)

-- the data models that those of the command that compares name
abbrev pub models_of_value : Option Text → Models
models_of_value None = One Lp64
models_of_value (Some name) = models_named name

abbrev pub models_in : List Row → Models
models_in rows = models_of_value (first_of (codes "model") rows)
