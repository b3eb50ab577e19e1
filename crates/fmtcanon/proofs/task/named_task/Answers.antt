use Rattle.std.proofs.Common.{◌≡◌, ◌∙◌, List, [], ◌∷◌, Some, ap, codes, is_some, option_map, refl, subst, sym, true, unwrap_or}
use Rattle.clap.specs.Matches.{first_value, found_of, matched_of, raw_values}
use Rattle.clap.specs.Walk.{Text}
use Rattle.clap.specs.declared.parser.matches.ArgMatches.{ArgMatches}
use Rattle.clap.proofs.WalkLemmas.{first_value-rows, raw_values-rows}
use Rattle.fmtcanon.specs.Options.{rows_in}
use Rattle.fmtcanon.specs.Questions.{question_names}
use Rattle.fmtcanon.specs.Tasks.{HasAllValues, HasValue, Names}
use Rattle.fmtcanon.specs.Words.{the_command}
use Rattle.fmtcanon.proofs.command_line.WordLemmas.{AreNames, IsWanted, format_wants, is_one_of, value_given}
use Rattle.fmtcanon.proofs.TaskLemmas.{asks_if, lacks_if}
use Rattle.fmtcanon.proofs.task.named_task.Goals as goal

-- the argument that the command requires is there
present : (words : List Text) (name command id : Text) (inner : ArgMatches) → Names words name (rows_in inner) → name ≡ command → IsWanted command id
    → is_some (first_value (found_of inner) id) ≡ true
present words name command id inner names e wants =
    ap is_some (first_value-rows (found_of inner) id) ∙ value_given words name command id (rows_in inner) names e wants

value : (inner : ArgMatches) (id text : Text) → Some text ≡ first_value (found_of inner) id → HasValue (rows_in inner) id text
value inner id text e = sym (e ∙ first_value-rows (found_of inner) id)

values : (inner : ArgMatches) (id : Text) (texts : List Text) → texts ≡ unwrap_or (option_map raw_values (matched_of (found_of inner) id)) []
    → HasAllValues (rows_in inner) id texts
values inner id texts e = e ∙ ap (λ o. unwrap_or o []) (raw_values-rows (found_of inner) id)

pub value_of-requires : goal.value_of-requires
value_of-requires c = let names = c.requires in present names.0 _ _ _ c.args.inner.now names.1 c.in-format.is format_wants

abbrev names_known : List Text
names_known = codes "format" ∷ codes "stream" ∷ question_names

each_named : AreNames names_known
unfolding the_command
each_named one both = refl

pub unreachable-requires : goal.unreachable-requires
unreachable-requires c =
    let names = c.requires in
    let other = c.in_default-name in
    is_one_of names_known names.0 c.args.name.now (rows_in c.args.inner.now) each_named names.1
    (other.not-format, (other.not-stream, c.in_default.ensures))

pub returns-in-Some : goal.returns-in-Some
returns-in-Some c = record {
  ok = asks_if c.args.name.now (rows_in c.args.inner.now) _ c.in-Some.ensures _ c.formats_task.ensures.ok;
  err = lacks_if c.args.name.now (rows_in c.args.inner.now) _ c.in-Some.ensures _ c.formats_task.ensures.err;
}

pub returns-in-Ok : goal.returns-in-Ok
returns-in-Ok c = record {
  ok =
      λ words names. (
        _,
        rows_in c.args.inner.now,
        names,
        (
          c.in-format.is,
          c.notation_of.ensures,
          c.model_of.ensures,
          value c.args.inner.now _ _
              (ap (λ t. Some t) c.as_bytes.ensures.value ∙ c.value_of.ensures),
          values c.args.inner.now _ _ c.in-Ok.ensures,
        ),
      );
  err = tt;
}

pub returns-in-stream : goal.returns-in-stream
returns-in-stream c = record {
  ok = λ words names. (rows_in c.args.inner.now, subst (λ n. Names words n (rows_in c.args.inner.now)) c.in-stream.is names, c.model_of-in-stream.ensures);
  err = tt;
}
