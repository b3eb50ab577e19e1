-- What the laws say.
use Rattle.std.specs.Prelude.{◌≡◌, ◌≤◌, List, [], ◌++◌, length, take, None, ◌↔◌, ⊤}
use Rattle.pf_values.specs.declared.models.Model.{Model}
use Rattle.pf_values.specs.meaning.Canonical.{IsCanonicalOf}
use Rattle.pf_values.specs.meaning.Items.{IsAccepted}
use Rattle.pf_values.specs.meaning.Printing.{AreEquivalent, PrintAlike}
use Rattle.pf_values.specs.meaning.Text.{Text}
use Rattle.pf_compare.specs.declared.comparisons.Comparison.{Comparison}
use Rattle.pf_compare.specs.Answers.{IsComparisonOf}
use Rattle.pf_posix.specs.declared.types.WholeArgType.{WholeArgType}
use Rattle.pf_posix.specs.Items.{HasArguments}
use Rattle.pf_posix.specs.Laws.{ComparesBeginning}
use Rattle.pf_posix.specs.Opaque.{OpaqueErrno, OpaqueSpecification}
use Rattle.pf_posix.specs.Stretches.{Stretches, Last, Before, ReadsStretches, whole_types}
use Rattle.pf_whole.specs.Answers as answers
use Rattle.pf_whole.specs.Answers.{IsWholeComparisonOf}
use Rattle.pf_whole.specs.Comparisons.{whole_verdict}
use Rattle.pf_whole.specs.meaning.NormalSpellings.{normal_spelling}
use Rattle.pf_whole.specs.meaning.Traces.{AreWholeAlike, Call, Calls, Ends, HasTrace, Trace, placed_calls}
use Rattle.pf_whole.specs.meaning.WholeArguments.{WholeArgument, HasWholeTypes}
use Rattle.pf_whole.specs.meaning.WholeCanonical.{IsWholeCanonicalOf}

-- stretches have exactly one trace for these arguments
pub record HasOneTrace (model : Model) (a : Stretches) (args : List WholeArgument) : Type 0 where
  pub trace : Trace
  pub has : HasTrace model a args trace
  pub only : (other : Trace) → HasTrace model a args other → other ≡ trace

-- this holds of all stretches, for all arguments of their types
abbrev pub TracesOnce : Model → Type 0
TracesOnce model = (a : Stretches) (args : List WholeArgument)
    → HasWholeTypes model args (whole_types model a) → HasOneTrace model a args

-- What is printed in the end, if each call prints what `respond` gives for the bytes printed so far and
-- the call. Each C library in which the output of an opaque directive depends on these alone is such a
-- function.
abbrev pub printed_by : (Text → Call → Text) → Text → Trace → Text
printed_by respond before (Ends text) = before ++ text
printed_by respond before (Calls text call rest) =
    printed_by respond ((before ++ text) ++ respond (before ++ text) call) rest

-- stretches print these bytes under such a function
abbrev pub PrintsBy : Model → (Text → Call → Text) → Stretches → List WholeArgument → Text → Type 0
PrintsBy model respond stretches args out =
    (trace : Trace) × HasTrace model stretches args trace × (out ≡ printed_by respond [] trace)

-- a text prints these bytes under such a function
abbrev pub TextPrintsBy : Model → (Text → Call → Text) → Text → List WholeArgument → Text → Type 0
TextPrintsBy model respond t args out =
    (stretches : Stretches) × ReadsStretches t stretches × PrintsBy model respond stretches args out

-- for all arguments of their types two texts print the same under such a function
abbrev pub PrintAlikeBy : Model → (Text → Call → Text) → Text → Text → Type 0
PrintAlikeBy model respond t u = (a : Stretches) (args : List WholeArgument) (out : Text)
    → ReadsStretches t a → HasWholeTypes model args (whole_types model a)
    → (TextPrintsBy model respond t args out ↔ TextPrintsBy model respond u args out)

-- alike texts print the same under every such function
abbrev pub AlikePrintAlike : Model → Type 0
AlikePrintAlike model = (t u : Text) → AreWholeAlike model t u → (respond : Text → Call → Text)
    → PrintAlikeBy model respond t u

-- Two texts are alike if and only if they are equivalent in the profile. A text is the canonical text of
-- the first if and only if it is so in the profile.
pub record CoincidesWithProfile (model : Model) (t u : Text) : Type 0 where
  pub alike : AreWholeAlike model t u ↔ AreEquivalent model t u
  pub canonical : (c : Text) → (IsWholeCanonicalOf model t c ↔ IsCanonicalOf model t c)

-- this holds of every two texts that the profile accepts
abbrev pub ProfileCoincides : Model → Type 0
ProfileCoincides model = (t u : Text) → IsAccepted t → IsAccepted u → CoincidesWithProfile model t u

-- canonical texts of alike texts are equal
abbrev pub AlikeHaveOneCanonical : Model → Type 0
AlikeHaveOneCanonical model = (t u c d : Text) → AreWholeAlike model t u
    → IsWholeCanonicalOf model t c → IsWholeCanonicalOf model u d → c ≡ d

-- a canonical text of a text is alike to it, and is its own canonical text
abbrev pub CanonicalIsAlike : Model → Type 0
CanonicalIsAlike model = (t c : Text) → IsWholeCanonicalOf model t c
    → AreWholeAlike model t c × IsWholeCanonicalOf model c c

-- texts with the same canonical text are alike
abbrev pub OneCanonicalIsAlike : Model → Type 0
OneCanonicalIsAlike model = (t u c : Text) → IsWholeCanonicalOf model t c
    → IsWholeCanonicalOf model u c → AreWholeAlike model t u

-- Arguments for a text serve one that takes fewer: those that it takes are there, and of its types, so that
-- nothing is read that was not passed; the rest is ignored (C11 7.21.6.1 p2)
abbrev pub ServeFewer : Model → Type 0
ServeFewer model = (t u : Text) (types : List WholeArgType) (args : List WholeArgument)
    → ComparesBeginning model t u None → HasArguments model t types → HasWholeTypes model args types
    → (others : List WholeArgType) × HasArguments model u others × (length others ≤ length args)
    × HasWholeTypes model (take (length others) args) others

-- Two lists of stretches correspond: side by side, the stretches print alike, and what is between them has
-- the same normal spelling.
abbrev pub Correspond : Model → Stretches → Stretches → Type 0
Correspond model (Last a) (Last b) = PrintAlike model a b
Correspond model (Last a) (Before b p more) = ⊥
Correspond model (Before a s rest) (Last b) = ⊥
Correspond model (Before a s rest) (Before b p more) =
    PrintAlike model a b × (normal_spelling model s ≡ normal_spelling model p)
    × Correspond model rest more

-- two texts are alike if and only if their stretches correspond
abbrev pub AlikeIsCorresponding : Model → Type 0
AlikeIsCorresponding model = (t u : Text) (a b : Stretches) → ReadsStretches t a → ReadsStretches u b
    → (AreWholeAlike model t u ↔ Correspond model a b)

-- alike texts have the same calls, each with the same first argument
abbrev pub AlikeCallTheSame : Model → Type 0
AlikeCallTheSame model = (t u : Text) (a b : Stretches) → ReadsStretches t a → ReadsStretches u b
    → AreWholeAlike model t u → placed_calls model 0 a ≡ placed_calls model 0 b

-- none of what is between the stretches is `%m`
abbrev pub HasNoErrno : Stretches → Type 0
HasNoErrno (Last items) = ⊤
HasNoErrno (Before items (OpaqueSpecification s) rest) = HasNoErrno rest
HasNoErrno (Before items OpaqueErrno rest) = ⊥

-- stretches take arguments of the same types, and have the same traces for all such arguments
pub record HaveSameTraces (model : Model) (a b : Stretches) : Type 0 where
  pub same_types : whole_types model a ≡ whole_types model b
  pub same_traces : (args : List WholeArgument) (trace : Trace) → HasWholeTypes model args (whole_types model a)
      → (HasTrace model a args trace ↔ HasTrace model b args trace)

-- without `%m`, that suffices for texts to be alike: their calls are in the same places
abbrev pub TracesSuffice : Model → Type 0
TracesSuffice model = (t u : Text) (a b : Stretches) → ReadsStretches t a → ReadsStretches u b → HasNoErrno a → HasNoErrno b
    → HaveSameTraces model a b → AreWholeAlike model t u

-- of alike texts, both have `%m` or neither; a text and its canonical text are alike
abbrev pub AlikeShareErrno : Model → Type 0
AlikeShareErrno model = (t u : Text) (a b : Stretches) → ReadsStretches t a → ReadsStretches u b → AreWholeAlike model t u
    → (HasNoErrno a ↔ HasNoErrno b)

-- two formats that compare in the profile compare in the whole language in the same way and in no other, with the
-- same arguments
abbrev pub ProfileCompares : Model → Type 0
ProfileCompares model = (t u : Text) (comparison : Comparison) → IsComparisonOf model t u comparison
    → IsWholeComparisonOf model t u (whole_verdict comparison.verdict)
    × ((other : answers.WholeVerdict) → IsWholeComparisonOf model t u other → other ≡ whole_verdict comparison.verdict)
