-- What the calls about two formats answer. This project's own.
use Rattle.std.specs.Prelude.{◌≡◌, ◌⊎◌, ◌↔◌, Bool, true, false, IsTrue, ℕ, ℤ, pos, List, ◌++◌, Option, None, Some, Result, Ok, Err}
use Rattle.std.specs.List.{AllByRecursion}
use Rattle.pf_text.specs.Refusals.{RefusesOne}
use Rattle.pf_text.specs.declared.refusals.Refusal.{Refusal}
use Rattle.pf_text.specs.declared.refusals.Side.{Side}
use Rattle.pf_posix.specs.declared.types.WholeArgType.{WholeArgType}
use Rattle.pf_posix.specs.Items.{HasArguments}
use Rattle.pf_values.specs.declared.models.Model.{Model}
use Rattle.pf_values.specs.declared.models.TheConstants.Model.{ALL}
use Rattle.pf_canon.specs.Comparison.{HaveOneCanonical}
use Rattle.pf_values.specs.meaning.Printing.{AreEquivalent}
use Rattle.pf_values.specs.meaning.Text.{Text}
use Rattle.pf_whole.specs.Answers.{HaveOneWholeCanonical}
use Rattle.pf_whole.specs.Languages.{AcceptsText, IsFirstIn, Language, Numbered, Profile, RefusesText, Unnumbered}
use Rattle.pf_whole.specs.meaning.Traces.{AreWholeAlike}
use Rattle.fmtcanon_c.specs.declared.interface.CError.{CError}
use Rattle.fmtcanon_c.specs.declared.relations.Relation.{Relation}
use Rattle.fmtcanon_c.specs.declared.relations.Relation.TheVariants.{Fits, FitsFewer, Same, WholeSame}
use Rattle.fmtcanon_c.specs.Calls.{IsModelsCode, IsTruthCode}
use Rattle.fmtcanon_c.specs.Errors.{IsRefusalCode}

-- the language of the formats that are related
abbrev pub relation_language : Relation → Language
relation_language Same = Profile
relation_language WholeSame = Unnumbered
relation_language Fits = Numbered
relation_language FitsFewer = Numbered

-- the types of two accepted texts are equal
abbrev pub Fit : Model → Text → Text → Type 0
Fit model first second = (types : List WholeArgType) × HasArguments model first types × HasArguments model second types

-- the types of the second of two accepted texts are a beginning of those of the first
abbrev pub FitFewer : Model → Text → Text → Type 0
FitFewer model first second =
    (types more : List WholeArgType) × HasArguments model first (types ++ more) × HasArguments model second types

abbrev pub AreRelated : Relation → Model → Text → Text → Type 0
AreRelated Same model first second = AreEquivalent model first second
AreRelated WholeSame model first second = AreWholeAlike model first second
AreRelated Fits model first second = Fit model first second
AreRelated FitsFewer model first second = FitFewer model first second

-- two texts have one canonical text; it doesn't show whether their types fit
abbrev pub HaveOneText : Relation → Model → Text → Text → Type 0
HaveOneText Same model first second = HaveOneCanonical model first second
HaveOneText WholeSame model first second = HaveOneWholeCanonical model first second
HaveOneText Fits model first second = Fit model first second
HaveOneText FitsFewer model first second = FitFewer model first second

-- both texts are accepted
abbrev pub AcceptsRelated : Relation → Text → Text → Model → Type 0
AcceptsRelated relation first second model =
    AcceptsText (relation_language relation) model first × AcceptsText (relation_language relation) model second

-- the first text is rejected, or it is accepted and the second rejected
abbrev pub RefusesRelated : Relation → Text → Text → Side × Refusal → Model → Type 0
RefusesRelated relation first second stop model =
    RefusesOne (AcceptsText (relation_language relation) model) (RefusesText (relation_language relation) model)
    first second stop.0 stop.1

-- both texts are accepted, and this is whether they are related, and whether they have one canonical text
abbrev pub Relates : Relation → Model → Text → Text → Bool → Type 0
Relates relation model first second is =
    AcceptsRelated relation first second model × (IsTrue is ↔ AreRelated relation model first second)
    × (IsTrue is ↔ HaveOneText relation model first second)

-- there is no index at which arguments differ
abbrev pub is_nowhere : {E : Type 0} → Result (Option ℕ) E → Result Bool E
is_nowhere (Ok None) = Ok true
is_nowhere (Ok (Some index)) = Ok false
is_nowhere (Err stop) = Err stop

-- one is rejected, and the error says which, why and where
abbrev pub IsRefusalIn : (Side × Refusal → Type 0) → ℤ → CError → Type 0
IsRefusalIn Refuses code error =
    (stop : Side × Refusal) × Refuses stop × IsRefusalCode stop.0 stop.1 code error

-- 1 where two accepted texts are related, and where they have one canonical text, 0 where they aren't and
-- don't, with the error untouched; or one is rejected
abbrev pub AnswersRelation : Relation → Model → Text → Text → CError → ℤ → CError → Type 0
AnswersRelation relation model first second error code error_now =
    (AcceptsRelated relation first second model × IsTruthCode (AreRelated relation model first second) code
    × IsTruthCode (HaveOneText relation model first second) code × (error_now ≡ error))
    ⊎ IsRefusalIn (λ stop. RefusesRelated relation first second stop model) code error_now

-- the answer of fmtcanon_fits_fewer is 1 if and only if the second text takes the arguments of the first, or
-- those at their beginning: fmtcanon_fmtcheck chooses by that
abbrev pub OneIsFit : Type 0
OneIsFit = (model : Model) (first second : Text) (error error_now : CError) (code : ℤ)
    → AnswersRelation FitsFewer model first second error code error_now → (code ≡ pos 1) ↔ FitFewer model first second

-- the data models in which they are related, where both are accepted in all, with the error untouched; or
-- one is rejected in the first data model in which one is
abbrev pub AnswersRelationModels : Relation → Text → Text → CError → ℤ → CError → Type 0
AnswersRelationModels relation first second error code error_now =
    (AllByRecursion (AcceptsRelated relation first second) ALL
    × IsModelsCode (λ model. AreRelated relation model first second) code × (error_now ≡ error))
    ⊎ IsRefusalIn (λ stop. IsFirstIn ALL (AcceptsRelated relation first second) (RefusesRelated relation first second stop))
    code error_now
