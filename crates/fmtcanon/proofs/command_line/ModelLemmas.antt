-- The data models that clap's rows name.
use Rattle.std.proofs.Common.{◌≡◌, ◌∙◌, Bor, Option, ap, codes, option_map, sym}
use Rattle.clap.specs.Matches.{first_value, found_of}
use Rattle.clap.specs.Walk.{Text, first_of}
use Rattle.clap.specs.declared.parser.matches.ArgMatches.{ArgMatches}
use Rattle.clap.proofs.WalkLemmas.{first_value-rows}
use Rattle.fmtcanon.specs.Models.{model_in, model_of_value, models_in, models_of_value}
use Rattle.fmtcanon.specs.Options.{rows_in}

-- what is made of the first value of an argument
pub value_of_row : {A : Type 0} (f : Option Text → A) (id : Text) (inner : ArgMatches) (found o : Option (Bor Text))
    → option_map (λ s. s.now) found ≡ first_value (found_of inner) id
    → found ≡ o → f (option_map (λ s. s.now) o) ≡ f (first_of id (rows_in inner))
value_of_row f id inner found o e is = ap f (ap (option_map (λ s. s.now)) (sym is) ∙ e ∙ first_value-rows (found_of inner) id)

pub model_given : (inner : ArgMatches) (found o : Option (Bor Text)) → option_map (λ s. s.now) found ≡ first_value (found_of inner) (codes "model")
    → found ≡ o → model_of_value (option_map (λ s. s.now) o) ≡ model_in (rows_in inner)
model_given = value_of_row model_of_value (codes "model")

pub models_given : (inner : ArgMatches) (found o : Option (Bor Text)) → option_map (λ s. s.now) found ≡ first_value (found_of inner) (codes "model")
    → found ≡ o → models_of_value (option_map (λ s. s.now) o) ≡ models_in (rows_in inner)
models_given = value_of_row models_of_value (codes "model")
