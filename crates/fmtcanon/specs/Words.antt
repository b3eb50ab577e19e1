-- What the words of a call mean, by clap's definition of the command. This project's own.
use Rattle.std.specs.Prelude.{◌≡◌, true, List, [], ◌∷◌, Some, codes}
use Rattle.std.specs.Borrow.{Bor}
use Rattle.std.specs.List.{fold}
use Rattle.clap.specs.Lexer.{usize_max}
use Rattle.clap.specs.Simple.{App, new_app, new_rule, on_top, with_rule, with_subcommand}
use Rattle.clap.specs.Takes.{takes}
use Rattle.clap.specs.Walk.{Rule, texts}
use Rattle.clap.specs.declared.builder.action.ArgAction.TheVariants.{SetTrue}
use Rattle.clap.specs.declared.builder.value_parser.ValueParser.{ValueParser}
use Rattle.clap.specs.declared.builder.value_parser.ValueParser.TheVariants.{Names}
use Rattle.pf_values.specs.meaning.Text.{Text}
use Rattle.fmtcanon.specs.declared.command.Shape.{Shape}
use Rattle.fmtcanon.specs.declared.command.Shape.TheVariants.{Nothing, Records, WholeRecords, FewerPairs, WholePairs, Format}
use Rattle.fmtcanon.specs.declared.command.Row.{Row}
use Rattle.fmtcanon.specs.Models.{model_names, model_names_or_more}

-- a required argument
abbrev pub wanted : Text → Rule
wanted id = record (new_rule id) { required = true }

-- the option `--model`, whose value clap tests so, and which is `lp64` where it is left out
abbrev pub model_option : ValueParser → Rule
model_option models = record (new_rule (codes "model")) {
  long = Some (codes "model");
  value_names = 1;
  defaults = codes "lp64" ∷ [];
  parser = Some models;
}

-- a subcommand with the option alone
abbrev pub on_nothing : Text → ValueParser → App
on_nothing name models = with_rule (new_app name) (model_option models)

-- an option without a value
abbrev pub flag_option : Text → Rule
flag_option name = record (new_rule name) {
  long = Some name;
  action = Some SetTrue;
}

-- the option `--literal`
abbrev pub literal_option : Rule
literal_option = flag_option (codes "literal")

-- a subcommand about formats that may be given by string literals
abbrev pub on_literals : Text → ValueParser → App
on_literals name models = with_rule (on_nothing name models) literal_option

-- and with the argument F
abbrev pub on_format : Text → ValueParser → App
on_format name models = with_rule (on_literals name models) (wanted (codes "F"))

-- the option `--null`, or `-z`
abbrev pub null_option : Rule
null_option = record (new_rule (codes "null")) {
  long = Some (codes "null");
  short = Some 122;
  action = Some SetTrue;
}

-- a subcommand with the option `--null` and the argument F, which may be left out
abbrev pub on_records : Text → ValueParser → App
on_records name models =
    with_rule (with_rule (on_literals name models) null_option) (new_rule (codes "F"))

-- and with the argument G, which may be left out, too
abbrev pub on_pairs : Text → ValueParser → App
on_pairs name models = with_rule (on_records name models) (new_rule (codes "G"))

-- the option `--whole`
abbrev pub whole_option : Rule
whole_option = flag_option (codes "whole")

-- the option `--fewer`
abbrev pub fewer_option : Rule
fewer_option = flag_option (codes "fewer")

-- any number of arguments
abbrev pub any_arguments : Rule
any_arguments = record (new_rule (codes "ARG")) {
  range = Some (record { start_inclusive = 0; end_inclusive = usize_max });
}

-- a subcommand that takes these arguments
abbrev pub on_shape : Shape → Text → ValueParser → App
on_shape Nothing name models = on_nothing name models
on_shape Records name models = on_records name models
on_shape WholeRecords name models = with_rule (on_records name models) whole_option
on_shape FewerPairs name models = with_rule (on_pairs name models) fewer_option
on_shape WholePairs name models = with_rule (on_pairs name models) whole_option
on_shape Format name models = with_rule (on_format name models) any_arguments

-- The arguments come without the program's name, a subcommand is required, and `--version` is an
-- option next to `--help`.
abbrev pub top_app : App
top_app = on_top (λ s. record s {
  no_binary_name = true;
  has_version = true;
  subcommand_required = true;
  disable_help_subcommand = true;
}) (new_app (codes "fmtcanon"))

-- a command: its name, which arguments it takes, and how clap tests the names of data models
pub record CommandRow : Type 0 where
  pub name : Text
  pub shape : Shape
  pub models : ValueParser

-- the subcommand of a row
abbrev pub row_app : CommandRow → App
row_app row = on_shape row.shape row.name row.models

-- the command with one more
abbrev pub with_command : App → CommandRow → App
with_command app row = with_subcommand app (row_app row).top

-- the commands, by how clap tests the name of one data model, and that of one or more
abbrev pub command_rows : ValueParser → ValueParser → List CommandRow
command_rows one more =
    record { name = codes "types"; shape = WholeRecords; models = one }
    ∷ record { name = codes "canon"; shape = WholeRecords; models = one }
    ∷ record { name = codes "show"; shape = Records; models = one }
    ∷ record { name = codes "format"; shape = Format; models = one }
    ∷ record { name = codes "bounds"; shape = Records; models = one }
    ∷ record { name = codes "same"; shape = WholePairs; models = more }
    ∷ record { name = codes "fits"; shape = FewerPairs; models = more }
    ∷ record { name = codes "stream"; shape = Nothing; models = one }
    ∷ []

-- the command with all of them
unfoldable pub the_command : ValueParser → ValueParser → App
the_command one more = fold with_command top_app (command_rows one more)

-- the row that the code has of a command
abbrev pub row_of : Row → CommandRow
row_of r = record { name = r.name.now; shape = r.shape; models = Names r.models }

abbrev pub with_row : App → Row → App
with_row app r = with_command app (row_of r)

-- clap's definition of the command, wherever in memory the names of the data models lie
pub record IsCommand (app : App) : Type 0 where
  pub one : Bor (List (Bor Text))
  pub more : Bor (List (Bor Text))
  pub one_names : texts one.now ≡ model_names
  pub more_names : texts more.now ≡ model_names_or_more
  pub is : app ≡ the_command (Names one) (Names more)

-- clap's definition of the command takes the words
abbrev pub IsTaken : List Text → Type 0
IsTaken words = (app : App) → IsCommand app → takes app words ≡ true
