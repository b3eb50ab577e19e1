-- A walk over the conversion specifications of a text.
use Rattle.std.specs.Prelude.{◌≡◌, ◌≤◌, ◌*◌, ◌++◌, List, [], length, map}
use Rattle.std.specs.List.{AllByRecursion}
use Rattle.pf_values.specs.declared.limits.TheConstants.{MAX_TEXT_LEN}
use Rattle.pf_values.specs.declared.models.Model.{Model}
use Rattle.pf_values.specs.meaning.Text.{Text}
use Rattle.pf_text.specs.Walks.{IsWalkOver}
use Rattle.pf_posix.specs.declared.directive_spans.DirectiveSpan.{DirectiveSpan}
use Rattle.pf_posix.specs.declared.specification_spans.SpecificationSpan.{SpecificationSpan}
use Rattle.pf_posix.specs.declared.specification_walk.SpecificationWalk.{SpecificationWalk}
use Rattle.pf_posix.specs.declared.types.WholeArgType.{WholeArgType}
use Rattle.pf_posix.specs.Directives.{directives_from}
use Rattle.pf_posix.specs.DirectivesInText.{IsListedTo}
use Rattle.pf_posix.specs.Items.{HasArguments, WholeItem, ReadsWhole}
use Rattle.pf_posix.specs.SpecificationSpans.{HasItsParts}

-- A text within the limit is read as items, and `all` are its specifications. A walk over it has gone past those that
-- are `done`.
pub record IsAhead (t : Text) (place : SpecificationWalk) (all done : List DirectiveSpan) : Type 0 where
  pub text_is : place.text.now ≡ t
  pub listed : IsListedTo place.model t all place.walk.at place.fetched done
  pub over : IsWalkOver t place.walk
  pub limit : length t ≤ MAX_TEXT_LEN
  pub few : place.fetched ≤ 3 * place.walk.at
  pub apart : 2 * length done ≤ place.walk.at

-- of all specifications of a text, after those that are done come these, with their parts
pub record AreTheRest (t : Text) (all done : List DirectiveSpan) (spans : List SpecificationSpan) : Type 0 where
  pub all_are : all ≡ done ++ map (λ span. span.directive) spans
  pub each : AllByRecursion (HasItsParts t) spans

-- a text is accepted, and all its specifications are ahead of a walk
pub record IsBefore (model : Model) (t : Text) (walk : SpecificationWalk) : Type 0 where
  pub types : List WholeArgType
  pub accepted : HasArguments model t types
  pub ahead : IsAhead t walk (directives_from model 0 0 t accepted.items accepted.reads) []

-- a text within the limit is read as items
abbrev pub IsReadable : Text → Type 0
IsReadable t = (items : List WholeItem) × ReadsWhole t items × (length t ≤ MAX_TEXT_LEN)
