-- Questions about two formats, in one data model after the other.
use Rattle.std.proofs.Common.{arith, ◌≡◌, List, [], ◌∷◌, inl, inr, refl, sym, subst, Result, Ok, Err}
use Rattle.std.specs.Prelude.{MatchOption, MatchResult, Option, None, Some}
use Rattle.pf_text.specs.declared.refusals.Side.TheVariants as sides
use Rattle.pf_literals.specs.declared.faults.LiteralFault.{LiteralFault}
use Rattle.pf_literals.specs.declared.faults.LiteralFault.TheVariants as literals
use Rattle.pf_values.specs.declared.models.Model.{Model}
use Rattle.pf_values.specs.declared.models.Model.TheVariants.{Ilp32, Llp64}
use Rattle.pf_values.specs.meaning.Text.{Text}
use Rattle.pf_posix.proofs.Agreeing.{all_map}
use Rattle.fmtcanon.specs.Answers.{AcceptsBoth, IsGivenPairFault, IsGivenPairFaultIn, IsFaultInTexts, IsPairFault, IsPairFaultIn, NeedsMemory, lacks_in, side_of}
use Rattle.fmtcanon.specs.Faults.{of_literal}
use Rattle.fmtcanon.specs.Formats.{HoldsOf, IsBytesFault, IsFormat}
use Rattle.pf_whole.specs.Languages.{AcceptsText}
use Rattle.fmtcanon.specs.Models.{asked_models, first_model}
use Rattle.fmtcanon.specs.PairAnswers.{IsPairAnswer}
use Rattle.fmtcanon.specs.Questions.{language_of}
use Rattle.fmtcanon.specs.declared.answer.Ending.{Ending}
use Rattle.fmtcanon.specs.declared.formats.GivenFormat.{GivenFormat}
use Rattle.fmtcanon.specs.declared.models.Models.{Models}
use Rattle.fmtcanon.specs.declared.models.Models.TheVariants.{All, Both, One}
use Rattle.fmtcanon.specs.declared.outcome.Outcome.{Outcome}
use Rattle.fmtcanon.specs.declared.questions.PairQuestion.{PairQuestion}
use Rattle.fmtcanon.specs.declared.questions.PairQuestion.TheVariants.{Fits, FitsFewer, Same, WholeSame}
use Rattle.fmtcanon.proofs.GivenLemmas.{pair_fault}

-- what is answered about is accepted
pub accepts_both : (question : PairQuestion) (model : Model) (first second out : Text) (ending : Ending)
    → IsPairAnswer question model first second out ending → AcceptsBoth question model first second
accepts_both Fits model first second out ending h =
    ((h.compares.types, h.compares.first_accepted), (h.compares.others, h.compares.second_accepted))
accepts_both FitsFewer model first second out ending h =
    ((h.compares.types, h.compares.first_accepted), (h.compares.others, h.compares.second_accepted))
accepts_both Same model first second out ending h =
    let is = h.2.1 in ((is.first, is.accepted_first), (is.second, is.accepted_second))
accepts_both WholeSame model first second out ending h = (h.1.is.first, h.1.is.second)

-- and so is that for which memory is needed
needed_accepts : (question : PairQuestion) (model : Model) (first second : Text) → NeedsMemory question model first second
    → AcceptsBoth question model first second
needed_accepts Fits model first second h = absurd h
needed_accepts FitsFewer model first second h = absurd h
needed_accepts Same model first second h = ((h.0.first.items, h.0.first.accepted), (h.0.second.items, h.0.second.accepted))
needed_accepts WholeSame model first second h = (h.0, h.1)

pub several_fault : (question : PairQuestion) (model : Model) (first second : Text) (fault : Outcome)
    → IsPairFault NeedsMemory question model first second fault → IsPairFault AcceptsBoth question model first second fault
several_fault question model first second fault h = grind (arith, needed_accepts)

-- one data model
pub one_model : {X : Type 0} (Says : X → Type 0) (question : PairQuestion) (model : Model) (first second : Text) (result : Result X Outcome)
    → MatchResult result Says (IsPairFault NeedsMemory question model first second)
    → MatchResult result Says (IsPairFaultIn question (One model) first second)
one_model Says question model first second (Ok answer) h = h
one_model Says question model first second (Err fault) h =
    record { before = []; model = model; after = []; split = refl; accepted = tt; is = h }

module _ (question : PairQuestion) (first second : GivenFormat) where
  -- a fault of texts is one of the formats that give them
  pub pair_faults : (first_bytes second_bytes : Text) → IsFormat first first_bytes → IsFormat second second_bytes
      → (models : Models) (fault reported : Outcome)
      → IsPairFaultIn question models first_bytes second_bytes fault → IsFaultInTexts first second (side_of fault) fault reported
      → IsGivenPairFaultIn question models first second reported
  pair_faults first_bytes second_bytes g h models fault reported k is =
      record {
        before = k.before;
        model = k.model;
        after = k.after;
        split = k.split;
        accepted = all_map _ (λ model. HoldsOf first (AcceptsText (language_of question) model) × HoldsOf second (AcceptsText (language_of question) model))
            k.before (λ model a. ((first_bytes, g, a.0), (second_bytes, h, a.1))) k.accepted;
        is = pair_fault (lacks_in models) question k.model first second first_bytes g second_bytes h fault reported k.is is;
      }

  rest_of : (models : Models) → (rest : List Model) × (asked_models models ≡ first_model models ∷ rest)
  rest_of (One model) = ([], refl)
  rest_of Both = (Ilp32 ∷ [], refl)
  rest_of All = (Ilp32 ∷ Llp64 ∷ [], refl)

  -- a fault in the first data model
  first_fault : (models : Models) (fault : Outcome) → IsGivenPairFault (lacks_in models) question (first_model models) first second fault
      → IsGivenPairFaultIn question models first second fault
  first_fault models fault h =
      let rest = rest_of models in
      record { before = []; model = first_model models; after = rest.0; split = rest.1; accepted = tt; is = h }

  -- a format that no literals give
  literal_first : (models : Models) (model : Model) (fault : LiteralFault) → IsBytesFault first fault
      → IsGivenPairFault (lacks_in models) question model first second (of_literal (Some sides.First) fault)
  literal_first models model (literals.Refused refusal) h = h
  literal_first models model literals.Memory h = inl h

  literal_second : (models : Models) (model : Model) (fault : LiteralFault) → HoldsOf first (AcceptsText (language_of question) model)
      → IsBytesFault second fault → IsGivenPairFault (lacks_in models) question model first second (of_literal (Some sides.Second) fault)
  literal_second models model (literals.Refused refusal) a h = (a, h)
  literal_second models model literals.Memory a h = inr (inl h)

  pub first_missing : (models : Models) (fault : LiteralFault) (result : Outcome) → IsBytesFault first fault
      → result ≡ of_literal (Some sides.First) fault → IsGivenPairFaultIn question models first second result
  first_missing models fault result h e =
      subst (IsGivenPairFaultIn question models first second) (sym e)
      (first_fault models (of_literal (Some sides.First) fault) (literal_first models (first_model models) fault h))

  pub second_missing : (models : Models) (model : Model) (first_bytes : Text) (refused : Option Outcome) (fault : LiteralFault) (result : Outcome)
      → model ≡ first_model models → IsFormat first first_bytes
      → MatchOption refused (AcceptsText (language_of question) model first_bytes)
      (λ f. (models : Models) (second : GivenFormat) → IsGivenPairFault (lacks_in models) question model first second f)
      → IsBytesFault second fault → MatchOption refused (result ≡ of_literal (Some sides.Second) fault) (λ f. result ≡ f)
      → IsGivenPairFaultIn question models first second result
  second_missing models model first_bytes None fault result m g accepted h e =
      let holds = subst (λ x. AcceptsText (language_of question) x first_bytes) m accepted in
      subst (IsGivenPairFaultIn question models first second) (sym e)
      (first_fault models (of_literal (Some sides.Second) fault) (literal_second models (first_model models) fault (first_bytes, g, holds) h))
  second_missing models model first_bytes (Some f) fault result m g refused h e =
      subst (IsGivenPairFaultIn question models first second) (sym e)
      (first_fault models f (subst (λ x. IsGivenPairFault (lacks_in models) question x first second f) m (refused models second)))
