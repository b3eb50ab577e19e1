-- The conversion specifications of a text: which bytes they are, and which arguments they take.
use Rattle.std.specs.Prelude.{◌≡◌, ◌≢◌, ℕ, ◌+◌, ◌-◌, List, [], ◌∷◌, ◌++◌, length, slice_get, Option, Some, None, ⊤}
use Rattle.std.specs.List.{AllByRecursion}
use Rattle.pf_values.specs.declared.models.Model.{Model}
use Rattle.pf_values.specs.meaning.Text.{Text}
use Rattle.pf_posix.specs.declared.directive_spans.DirectiveSpan.{DirectiveSpan}
use Rattle.pf_text.specs.declared.refusals.TextFault.{TextFault}
use Rattle.pf_text.specs.declared.refusals.TextFault.TheVariants as faults
use Rattle.pf_posix.specs.declared.types.WholeArgType.{WholeArgType}
use Rattle.pf_posix.specs.Types.{int_type}
use Rattle.pf_posix.specs.Items.{Byte, Specification, Errno, WholeItem, ReadsWhole, HasArguments}
use Rattle.pf_posix.specs.Laws.{filled}
use Rattle.pf_posix.specs.Refusals.{IsWholeRefusedAt}
use Rattle.pf_posix.specs.Specifications.{Amount, Given, Fetched, WholeSpecification}
use Rattle.pf_posix.specs.Types.{conversion_type, fetches, star_fetches}

-- the index, from 0, of the argument with a number, or else of the next one (C11 7.21.6.1 p3, POSIX
-- fprintf on `%n$`)
abbrev pub argument_index : Option ℕ → ℕ → ℕ
argument_index None next = next
argument_index (Some n) next = n - 1

-- the index of the argument of a `*`, if it is one (C11 7.21.6.1 p5, POSIX fprintf on `*m$`)
abbrev pub star_index : Option Amount → ℕ → Option ℕ
star_index None next = None
star_index (Some (Given n)) next = None
star_index (Some (Fetched number)) next = Some (argument_index number next)

-- A specification between two offsets; `next` arguments were fetched before it. It fetches its
-- width, then its precision, and then what it converts (C11 7.21.6.1 p5).
abbrev pub directive_between : Model → ℕ → ℕ → ℕ → WholeSpecification → DirectiveSpan
directive_between model begin end next s = record {
  begin = begin;
  end = end;
  argument = argument_index s.position (next + length (star_fetches s.width ++ star_fetches s.precision));
  width_argument = star_index s.width next;
  precision_argument = star_index s.precision (next + length (star_fetches s.width));
  kind = conversion_type model s.modifier s.conversion;
}

-- the specifications of a text that is read as items: it begins at an offset, and this many
-- arguments were fetched before it
abbrev pub directives_from : Model → ℕ → ℕ → (t : Text) (items : List WholeItem) → ReadsWhole t items
    → List DirectiveSpan
directives_from model at next t [] reads = []
directives_from model at next t (Byte byte ∷ items) reads =
    directives_from model (at + length reads.0) next reads.1 items reads.3
directives_from model at next t (Specification s ∷ items) reads =
    directive_between model at (at + length reads.0) next s
    ∷ directives_from model (at + length reads.0) (next + length (fetches model s)) reads.1 items reads.3
directives_from model at next t (Errno ∷ items) reads =
    directives_from model (at + length reads.0) next reads.1 items reads.3

-- the argument of a `*`, if it is one, is an int (C11 7.21.6.1 p5)
abbrev pub TakesInt : List WholeArgType → Option ℕ → Type 0
TakesInt types None = ⊤
TakesInt types (Some index) = slice_get types index ≡ Some int_type

-- the arguments of a specification have their types in a list
pub record TakesFrom (types : List WholeArgType) (d : DirectiveSpan) : Type 0 where
  pub converted : slice_get types d.argument ≡ Some d.kind
  pub width : TakesInt types d.width_argument
  pub precision : TakesInt types d.precision_argument

-- a text is accepted, and these are its specifications, with arguments of the types that it takes
pub record HasDirectives (model : Model) (t : Text) (directives : List DirectiveSpan) : Type 0 where
  pub types : List WholeArgType
  pub accepted : HasArguments model t types
  pub directives_are : directives ≡ directives_from model 0 0 t accepted.items accepted.reads
  pub typed : AllByRecursion (TakesFrom types) directives

-- A text has `count` specifications. They fill the slice from its front, as far as it goes; the rest of
-- the slice is as it was.
pub record HasDirectiveCount (model : Model) (t : Text) (old new : List DirectiveSpan)
    (count : ℕ) : Type 0 where
  pub directives : List DirectiveSpan
  pub listed : HasDirectives model t directives
  pub count_is : count ≡ length directives
  pub front : new ≡ filled old directives

-- why there is no list of them: out of memory only where a text is accepted and has some
abbrev pub FaultForDirectives : Model → Text → TextFault → Type 0
FaultForDirectives model t (faults.Refused refusal) = IsWholeRefusedAt model t refusal.kind refusal.at
FaultForDirectives model t faults.Memory =
    (directives : List DirectiveSpan) × HasDirectives model t directives × (directives ≢ [])
