-- What clap's definition of the command says of the words that it takes.
use Rattle.std.proofs.Common.{◌≡◌, ◌≢◌, ◌∙◌, List, [], ◌∷◌, Bool, true, false, Option, Some, None, is_some, codes, refl, sym, ap, subst, find, cond, option_map}
use Rattle.std.proofs.Common.{unwrap_or}
use Rattle.std.specs.List.{AllByRecursion, list_all, list_any}
use Rattle.std.specs.Prelude.{◌&&◌, ◌||◌}
use Rattle.std.specs.Str.{bytes_eq}
use Rattle.std.proofs.lemmas.Slice.Eq.{bytes_eq-Decides}
use Rattle.clap.specs.Walk.{Row, Text, first_of, nothing_held, walk, answers_to}
use Rattle.clap.specs.Simple.{App, Shape, argument_words, built, entered, is_simple, label_of, names_of, rows_at, subcommand_of}
use Rattle.clap.specs.Faults.{fault_of, is_simple_and_free}
use Rattle.clap.specs.declared.builder.value_parser.ValueParser.{ValueParser}
use Rattle.clap.proofs.OnLiterals.{clap_on_literals}
use Rattle.fmtcanon.specs.Tasks.{Names}
use Rattle.fmtcanon.specs.Words.{IsCommand, the_command}
use Rattle.fmtcanon.proofs.command_line.PresenceLemmas.{required_has_value, required_is_named, requires_value}

simple_with : (one both : ValueParser) → is_simple (the_command one both) ≡ true
unfolding the_command clap_on_literals
simple_with one both = refl

free_with : (one both : ValueParser) → is_simple_and_free (the_command one both) ≡ true
unfolding the_command clap_on_literals
free_with one both = refl

asks_with : (one both : ValueParser) → (built (the_command one both)).top.subcommand_required ≡ true
unfolding the_command
asks_with one both = refl

pub simple_command : (app : App) → IsCommand app → is_simple app ≡ true
simple_command app h = ap is_simple h.is ∙ simple_with _ _

pub free_command : (app : App) → IsCommand app → is_simple_and_free app ≡ true
free_command app h = ap is_simple_and_free h.is ∙ free_with _ _

-- this holds of the name of each subcommand
abbrev pub AtEach : ValueParser → ValueParser → (Text → Type 0) → Type 0
AtEach one both P = AllByRecursion (λ s. P s.name) (built (the_command one both)).subs

module _ (P : Text → Type 0) where
  picked : (b : Bool) (s : Shape) (rest : Option Shape) (words : List Text) (q : Text × List Row) → P s.name
      → (option_map (λ s. rows_at s words) rest ≡ Some q → P q.0)
      → option_map (λ s. rows_at s words) (cond b (Some s) rest) ≡ Some q → P q.0
  picked true s rest words q here f e = subst P (ap (λ (o : Option (Text × List Row)). (unwrap_or o q).0) e) here
  picked false s rest words q here f e = f e

  found : (p : Shape → Bool) (words : List Text) (ss : List Shape) (q : Text × List Row) → AllByRecursion (λ s. P s.name) ss
      → option_map (λ s. rows_at s words) (find p ss) ≡ Some q → P q.0
  found p words [] q each e = absurd (cc)
  found p words (s ∷ ss) q each e = picked (p s) s (find p ss) words q each.0 (found p words ss q each.1) e

  at_entered : (subs : List Shape) (a : App) → (built a).subs ≡ subs → (stop : Option (Text × List Text)) (q : Text × List Row)
      → AllByRecursion (λ s. P s.name) subs
      → entered (built a) stop ≡ Some q → P q.0
  at_entered subs a same None q each e = absurd (cc)
  at_entered subs a same (Some p) q each e =
      found (λ s. answers_to p.0 (label_of s)) p.1 (built a).subs q (subst (AllByRecursion (λ s. P s.name)) (sym same) each) e

-- what holds of the name of each subcommand holds of the name that is asked for
at_asked : (P : Text → Type 0) (app : App) (words : List Text) (name : Text) (rows : List Row) → ((one both : ValueParser) → AtEach one both P) → IsCommand app
    → subcommand_of app words ≡ Some (name, rows) → P name
at_asked P app words name rows each h e =
    at_entered P _ app (ap (λ a. (built a).subs) h.is) (walk (built app).top.rules (names_of (built app)) nothing_held
    (argument_words app words)).stopped (name, rows) (each _ _) e

all_pass : {X : Type 0} (p : X → Bool) (xs : List X) → list_all p xs ≡ true → AllByRecursion (λ x. p x ≡ true) xs
all_pass p [] h = tt
all_pass p (x ∷ xs) h = go (p x) refl h (all_pass p xs)
  where
    go : (b : Bool) → p x ≡ b → (b && list_all p xs) ≡ true → (list_all p xs ≡ true → AllByRecursion (λ x. p x ≡ true) xs)
        → (p x ≡ true) × AllByRecursion (λ x. p x ≡ true) xs
    go true e h others = (e, others h)
    go false e h others = absurd (cc)

is_other : (name : Text) (names : List Text) → AllByRecursion (λ other. name ≢ other) names → list_any (bytes_eq name) names ≡ true → ⊥
is_other name [] others h = absurd (cc)
is_other name (n ∷ names) others h = go (bytes_eq name n) refl h (is_other name names others.1)
  where
    go : (b : Bool) → bytes_eq name n ≡ b → (b || list_any (bytes_eq name) names) ≡ true → (list_any (bytes_eq name) names ≡ true → ⊥) → ⊥
    go true e h none = others.0 ((bytes_eq-Decides name n).0 e)
    go false e h none = none h

-- each subcommand has one of these names
abbrev pub AreNames : List Text → Type 0
AreNames names = (one both : ValueParser) → list_all (λ s. list_any (bytes_eq s.name) names) (built (the_command one both)).subs ≡ true

-- so the name that is asked for is one of them
pub is_one_of : (names words : List Text) (name : Text) (rows : List Row) → AreNames names → Names words name rows
    → AllByRecursion (λ other. name ≢ other) names → ⊥
is_one_of names words name rows are h others =
    is_other name names others
    (at_asked (λ n. list_any (bytes_eq n) names ≡ true) h.app words name rows
    (λ one both. all_pass (λ (s : Shape). list_any (bytes_eq s.name) names) _ (are one both)) h.is_command h.named)

-- where no fault is found, a subcommand is named
pub subcommand_given : (app : App) (words : List Text) → IsCommand app → fault_of app words ≡ [] → is_some (subcommand_of app words) ≡ true
subcommand_given app words h = required_is_named app words (ap (λ a. (built a).top.subcommand_required) h.is ∙ asks_with _ _)

-- a required argument of the subcommand of this name
abbrev pub IsWanted : Text → Text → Type 0
IsWanted name id = (one both : ValueParser) → list_all (requires_value name id) (built (the_command one both)).subs ≡ true

pub format_wants : IsWanted (codes "format") (codes "F")
unfolding the_command clap_on_literals
format_wants one both = refl

-- where no fault is found, such an argument has a value
pub value_given : (words : List Text) (name command id : Text) (rows : List Row) → Names words name rows → name ≡ command → IsWanted command id
    → is_some (first_of id rows) ≡ true
value_given words name command id rows names e wants =
    let app = names.is_command in
    let needed = ap (λ a. list_all (requires_value name id) (built a).subs) app.is ∙ subst (λ n. IsWanted n id) (sym e) wants _ _ in
    required_has_value names.app words name id rows needed names.no_fault names.named
