-- What `canonical` and `compare` return: canonical texts, and a comparison with the arguments that it
-- shows. This project's own: the standard compares no formats.
--
-- The last part has what four laws say: `one_verdict`, `calls_give_shape`, `telling_is_apart` and
-- `agreeing_is_together`.
use Rattle.std.specs.Prelude.{◌≡◌, ◌≢◌, ℕ, List, [], ◌∷◌, ◌++◌, map, min, length, slice_get, slice_set, Option, Some, None, ◌⊎◌, ◌↔◌, ⊤}
use Rattle.std.specs.List.{AllZip}
use Rattle.pf_values.specs.declared.models.Model.{Model}
use Rattle.pf_values.specs.declared.types.ArgType.{ArgType}
use Rattle.pf_values.specs.Candidates.{candidates, neutral}
use Rattle.pf_values.specs.meaning.Arguments.{Argument, HasTypes}
use Rattle.pf_values.specs.meaning.Items.{Item, types}
use Rattle.pf_values.specs.meaning.Text.{Text}
use Rattle.pf_compare.specs.Answers.{IsEarlier, PrintTheSame, PrintUnlike}
use Rattle.pf_posix.specs.declared.types.WholeArgType.{WholeArgType}
use Rattle.pf_posix.specs.Laws.{IsFirstDifference}
use Rattle.pf_posix.specs.Stretches.{Stretches, Last, Before, ReadsStretches, IsUnnumberedAccepted, types_of_opaque, whole_types}
use Rattle.pf_whole.specs.meaning.NormalSpellings.{normal_spelling}
use Rattle.pf_whole.specs.meaning.Traces.{AreWholeAlike, HasTrace, PlacedCall, Trace, TraceAlike, placed_calls}
use Rattle.pf_whole.specs.meaning.WholeArguments.{WholeArgument, Known, Other, HasWholeTypes, narrowed}
use Rattle.pf_whole.specs.meaning.WholeCanonical.{IsWholeCanonicalOf}

-- `t` is accepted, and `c` is its canonical text: it is alike to `t`, and is `t` itself if that is canonical
pub record IsWholeCanonicalFor (model : Model) (t c : Text) : Type 0 where
  pub accepted : IsUnnumberedAccepted t
  pub canonical_is : IsWholeCanonicalOf model t c
  pub alike : AreWholeAlike model t c
  pub kept : IsWholeCanonicalOf model t t → c ≡ t

-- one text is the canonical text of both
abbrev pub HaveOneWholeCanonical : Model → Text → Text → Type 0
HaveOneWholeCanonical model t u =
    (c : Text) × IsWholeCanonicalOf model t c × IsWholeCanonicalOf model u c

-- What a comparison answers. Of the shown arguments, `None` is any argument of an opaque directive.
pub data WholeVerdict : Type 0 where
  Same : WholeVerdict
  TypesDiffer : (index : ℕ) → WholeVerdict
  DirectivesDiffer : (index : ℕ) → WholeVerdict
  Different : (shown : List (Option Argument)) → WholeVerdict

-- an argument is the one that is shown, if one is
abbrev pub Agrees : Option Argument → WholeArgument → Type 0
Agrees None argument = ⊤
Agrees (Some shown) (Known argument) = argument ≡ shown
Agrees (Some shown) (Other representation) = ⊥

-- neutral arguments for the stretches, and any arguments for the opaque directives between them
abbrev pub neutral_shown : Model → Stretches → List (Option Argument)
neutral_shown model (Last items) = map (λ type. Some (neutral type)) (types model items)
neutral_shown model (Before items s rest) =
    map (λ type. Some (neutral type)) (types model items)
    ++ (map (λ type. None) (types_of_opaque model s) ++ neutral_shown model rest)

-- for all arguments that agree with what is shown, the traces differ
abbrev pub TracesApart : Model → Stretches → Stretches → List (Option Argument) → Type 0
TracesApart model a b shown = (args : List WholeArgument) (x y : Trace)
    → HasWholeTypes model args (whole_types model a) → AllZip Agrees shown args
    → HasTrace model a args x → HasTrace model b args y → x ≢ y

-- for all arguments that agree with what is shown, the traces are the same
abbrev pub TracesTogether : Model → Stretches → Stretches → List (Option Argument) → Type 0
TracesTogether model a b shown = (args : List WholeArgument) (trace : Trace)
    → HasWholeTypes model args (whole_types model a) → AllZip Agrees shown args
    → (HasTrace model a args trace ↔ HasTrace model b args trace)

-- the shown arguments are neutral, except that the one with this index, which is an argument of a
-- stretch, is the candidate of its type with `candidate_index`
pub record IsWholeProbe (model : Model) (a : Stretches) (index candidate_index : ℕ)
    (shown : List (Option Argument)) : Type 0 where
  pub type : ArgType
  pub wide : WholeArgType
  pub argument : Argument
  pub in_stretch : slice_get (neutral_shown model a) index ≡ Some (Some (neutral type))
  pub wide_is : slice_get (whole_types model a) index ≡ Some wide
  pub type_is : narrowed wide ≡ Some type
  pub candidate : slice_get (candidates model type) candidate_index ≡ Some argument
  pub shown_is : shown ≡ slice_set (neutral_shown model a) index (Some argument)

-- the neutral arguments are shown, and tell the traces apart
pub record ShowsNeutral (model : Model) (a b : Stretches) (shown : List (Option Argument)) : Type 0 where
  pub shown_is : shown ≡ neutral_shown model a
  pub apart : TracesApart model a b shown

-- the neutral arguments don't tell the traces apart, and the first probe that does is shown
pub record ShowsProbe (model : Model) (a b : Stretches) (shown : List (Option Argument)) : Type 0 where
  pub neutral_same : TracesTogether model a b (neutral_shown model a)
  pub index : ℕ
  pub candidate_index : ℕ
  pub probe : IsWholeProbe model a index candidate_index shown
  pub apart : TracesApart model a b shown
  pub earlier : (i k : ℕ) (before : List (Option Argument)) → IsWholeProbe model a i k before
      → IsEarlier i k index candidate_index → TracesTogether model a b before

-- the index is the smaller place of the calls at the first position at which two lists differ, or the place
-- of the one call, where a list has ended
abbrev pub CallsDifferAt : List PlacedCall → List PlacedCall → ℕ → Type 0
CallsDifferAt [] [] index = ⊥
CallsDifferAt (call ∷ calls) [] index = index ≡ call.index
CallsDifferAt [] (other ∷ others) index = index ≡ other.index
CallsDifferAt (call ∷ calls) (other ∷ others) index =
    ((call ≡ other) × CallsDifferAt calls others index)
    ⊎ ((call ≢ other) × (index ≡ min call.index other.index))

-- What a verdict says: the stretches are alike; or this is the first index at which their types differ;
-- or the types are equal, and this is the place at which their calls differ first; or both are equal, and
-- these arguments tell the traces apart.
abbrev pub IsWholeVerdict : Model → Stretches → Stretches → WholeVerdict → Type 0
IsWholeVerdict model a b Same = TraceAlike model a b
IsWholeVerdict model a b (TypesDiffer index) =
    IsFirstDifference (whole_types model a) (whole_types model b) (Some index)
IsWholeVerdict model a b (DirectivesDiffer index) = (whole_types model a ≡ whole_types model b)
    × CallsDifferAt (placed_calls model 0 a) (placed_calls model 0 b) index
IsWholeVerdict model a b (Different shown) = (whole_types model a ≡ whole_types model b)
    × (placed_calls model 0 a ≡ placed_calls model 0 b)
    × (ShowsNeutral model a b shown ⊎ ShowsProbe model a b shown)

-- the verdict on two accepted texts, which is Same if and only if they are alike, and if and only if they
-- have one canonical text
pub record IsWholeComparisonOf (model : Model) (t u : Text) (verdict : WholeVerdict) : Type 0 where
  pub first : IsUnnumberedAccepted t
  pub second : IsUnnumberedAccepted u
  pub same : (verdict ≡ Same) ↔ AreWholeAlike model t u
  pub one : (verdict ≡ Same) ↔ HaveOneWholeCanonical model t u
  pub is : IsWholeVerdict model first.stretches second.stretches verdict

-- two texts have at most one verdict
abbrev pub OneVerdict : Model → Type 0
OneVerdict model = (t u : Text) (verdict other : WholeVerdict) → IsWholeComparisonOf model t u verdict
    → IsWholeComparisonOf model t u other → verdict ≡ other

-- Two lists of stretches have one shape: side by side, the stretches take arguments of the same types,
-- and what is between them has the same normal spelling.
abbrev pub HaveOneShape : Model → Stretches → Stretches → Type 0
HaveOneShape model (Last a) (Last b) = types model a ≡ types model b
HaveOneShape model (Last a) (Before b p more) = ⊥
HaveOneShape model (Before a s rest) (Last b) = ⊥
HaveOneShape model (Before a s rest) (Before b p more) = (types model a ≡ types model b)
    × (normal_spelling model s ≡ normal_spelling model p) × HaveOneShape model rest more

-- stretches with equal types and equal calls have one shape
abbrev pub CallsGiveShape : Model → Type 0
CallsGiveShape model = (t u : Text) (a b : Stretches) → ReadsStretches t a → ReadsStretches u b
    → whole_types model a ≡ whole_types model b → placed_calls model 0 a ≡ placed_calls model 0 b
    → HaveOneShape model a b

-- for the shown arguments two stretches print different bytes
pub record TellStretches (model : Model) (a b : List Item) (shown : List (Option Argument)) : Type 0 where
  pub known : List Argument
  pub shown_is : shown ≡ map Some known
  pub typed : HasTypes model known (types model a)
  pub unlike : PrintUnlike model a b known

-- for the shown arguments some stretch prints other bytes than the corresponding one
abbrev pub TellSomewhere : Model → Stretches → Stretches → List (Option Argument) → Type 0
TellSomewhere model (Last a) (Last b) shown = TellStretches model a b shown
TellSomewhere model (Last a) (Before b p more) shown = ⊥
TellSomewhere model (Before a s rest) (Last b) shown = ⊥
TellSomewhere model (Before a s rest) (Before b p more) shown =
    (first own back : List (Option Argument)) × (shown ≡ first ++ (own ++ back))
    × (length first ≡ length (types model a)) × (length own ≡ length (types_of_opaque model s))
    × (TellStretches model a b first ⊎ TellSomewhere model rest more back)

-- then the traces differ, for all arguments in place of those that aren't shown
abbrev pub TellingIsApart : Model → Type 0
TellingIsApart model = (t u : Text) (a b : Stretches) (shown : List (Option Argument))
    → ReadsStretches t a → ReadsStretches u b → HaveOneShape model a b → TellSomewhere model a b shown
    → TracesApart model a b shown

-- for the shown arguments two stretches print the same bytes
pub record StretchesAgree (model : Model) (a b : List Item) (shown : List (Option Argument)) : Type 0 where
  pub known : List Argument
  pub shown_is : shown ≡ map Some known
  pub typed : HasTypes model known (types model a)
  pub same : PrintTheSame model a b known

-- for the shown arguments each stretch prints the same bytes as the corresponding one
abbrev pub AgreeEverywhere : Model → Stretches → Stretches → List (Option Argument) → Type 0
AgreeEverywhere model (Last a) (Last b) shown = StretchesAgree model a b shown
AgreeEverywhere model (Last a) (Before b p more) shown = ⊥
AgreeEverywhere model (Before a s rest) (Last b) shown = ⊥
AgreeEverywhere model (Before a s rest) (Before b p more) shown =
    (first own back : List (Option Argument)) × (shown ≡ first ++ (own ++ back))
    × (length own ≡ length (types_of_opaque model s)) × StretchesAgree model a b first
    × AgreeEverywhere model rest more back

-- then the traces are the same, for all arguments in place of those that aren't shown
abbrev pub AgreeingIsTogether : Model → Type 0
AgreeingIsTogether model = (t u : Text) (a b : Stretches) (shown : List (Option Argument))
    → ReadsStretches t a → ReadsStretches u b → HaveOneShape model a b → AgreeEverywhere model a b shown
    → TracesTogether model a b shown
