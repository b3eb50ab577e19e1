-- Whether two formats are related, and types at the front of a slice.
use Rattle.std.proofs.Common.{◌≡◌, ◌∙◌, ◌++◌, ◌≤◌, Bool, true, false, List, ℕ, None, Some, ap, arith, inl, inr, length, refl, slice_get, subst, sym, take, Result, Ok, Err}
use Rattle.std.specs.Prelude.{◌↔◌, IsTrue, MatchResult, Option}
use Rattle.std.proofs.lemmas.Bool.{false≢true}
use Rattle.std.proofs.lemmas.Int.{ints}
use Rattle.pf_canon.specs.Comparison.{AreTextsSame, TextStops}
use Rattle.pf_text.specs.declared.refusals.Refusal.{Refusal}
use Rattle.pf_text.specs.declared.refusals.Side.{Side}
use Rattle.pf_text.specs.declared.refusals.Side.TheVariants.{First, Second}
use Rattle.pf_posix.specs.Items.{HasArguments}
use Rattle.pf_posix.specs.Laws.{ComparesArgumentTypes, ComparesBeginning, FaultForFits}
use Rattle.pf_posix.proofs.DifferenceLemmas.{fewer_once}
use Rattle.pf_posix.proofs.Unique.{never_both, one_list}
use Rattle.pf_values.specs.declared.models.Model.{Model}
use Rattle.pf_values.specs.meaning.Text.{Text}
use Rattle.pf_whole.specs.Faults.{AreWholeSame, FaultForWholeSame}
use Rattle.pf_whole.proofs.CountLemmas.{taken}
use Rattle.fmtcanon_c.specs.Relations.{AcceptsRelated, AreRelated, Fit, FitFewer, HaveOneText, OneIsFit, RefusesRelated, Relates, is_nowhere}
use Rattle.fmtcanon_c.specs.declared.relations.Relation.{Relation}
use Rattle.fmtcanon_c.specs.declared.relations.Relation.TheVariants.{Fits, FitsFewer, Same, WholeSame}
use Rattle.pf_posix.specs.declared.directive_spans.DirectiveSpan.{DirectiveSpan}
use Rattle.pf_posix.specs.Directives.{HasDirectiveCount}

module _ (model : Model) (f g : Text) where
  they_differ : (index : ℕ) → ComparesArgumentTypes model f g (Some index) → ¬ Fit model f g
  they_differ index h (types, of_f, of_g) =
      let one = one_list model f h.types types h.first_accepted of_f in
      let other = one_list model g h.others types h.second_accepted of_g in
      h.difference.0 (ap (λ (ts : _). slice_get ts index) (one ∙ sym other))

  they_exceed : (index : ℕ) → ComparesBeginning model f g (Some index) → ¬ FitFewer model f g
  they_exceed index h (types, more, of_f, of_g) =
      let beginning : ComparesBeginning model f g None = record {
        types = types ++ more;
        others = types;
        first_accepted = of_f;
        second_accepted = of_g;
        excess = (more, refl);
      } in
      let same = fewer_once model f g (Some index) None h beginning in
      cc

  they_begin : ComparesBeginning model f g None → FitFewer model f g
  they_begin h = (h.others, h.excess.0, subst (HasArguments model f) h.excess.1 h.first_accepted, h.second_accepted)

  -- what the profile answers, and the whole language
  pub same_relates : (found : Result Bool (Side × Refusal)) → MatchResult found (AreTextsSame model f g) (TextStops f g)
      → MatchResult found (Relates Same model f g) (TextStops f g)
  same_relates (Ok is) h = ((h.first, h.second), h.same, h.one)
  same_relates (Err stop) h = h

  pub whole_relates : (found : Result Bool (Side × Refusal)) → MatchResult found (AreWholeSame model f g) (FaultForWholeSame model f g)
      → MatchResult found (Relates WholeSame model f g) (FaultForWholeSame model f g)
  whole_relates (Ok is) h = ((h.first, h.second), h.same, h.one)
  whole_relates (Err stop) h = h

  -- arguments differ nowhere, or somewhere
  nowhere : (relation : Relation)
      → ((is : Bool) → (IsTrue is ↔ AreRelated relation model f g) → (IsTrue is ↔ HaveOneText relation model f g))
      → (Compares : Option ℕ → Type 0) → ((index : Option ℕ) → Compares index → AcceptsRelated relation f g model)
      → (Compares None → AreRelated relation model f g) → ((index : ℕ) → Compares (Some index) → ¬ AreRelated relation model f g)
      → (Refuses : Side × Refusal → Type 0) (found : Result (Option ℕ) (Side × Refusal))
      → MatchResult found Compares Refuses → MatchResult (is_nowhere found) (Relates relation model f g) Refuses
  nowhere relation too Compares accepted so not Refuses (Ok None) h =
      let related : IsTrue true ↔ AreRelated relation model f g = ((λ yes. so h), (λ related. refl)) in
      (accepted None h, related, too true related)
  nowhere relation too Compares accepted so not Refuses (Ok (Some index)) h =
      let related : IsTrue false ↔ AreRelated relation model f g =
      ((λ no. absurd (false≢true no)), (λ related. absurd (not index h related))) in
      (accepted (Some index) h, related, too false related)
  nowhere relation too Compares accepted so not Refuses (Err stop) h = h

  pub fits_relates : (found : Result (Option ℕ) (Side × Refusal)) → MatchResult found (ComparesArgumentTypes model f g) (FaultForFits model f g)
      → MatchResult (is_nowhere found) (Relates Fits model f g) (FaultForFits model f g)
  fits_relates found h =
      nowhere Fits (λ is related. related) (ComparesArgumentTypes model f g) (λ index k. ((k.types, k.first_accepted), (k.others, k.second_accepted)))
      (λ k. (k.types, k.first_accepted, subst (HasArguments model g) (sym k.difference) k.second_accepted))
      they_differ (FaultForFits model f g) found h

  pub fewer_relates : (found : Result (Option ℕ) (Side × Refusal)) → MatchResult found (ComparesBeginning model f g) (FaultForFits model f g)
      → MatchResult (is_nowhere found) (Relates FitsFewer model f g) (FaultForFits model f g)
  fewer_relates found h =
      nowhere FitsFewer (λ is related. related) (ComparesBeginning model f g) (λ index k. ((k.types, k.first_accepted), (k.others, k.second_accepted)))
      they_begin they_exceed (FaultForFits model f g) found h

-- a rejected text doesn't fit
unfit : (model : Model) (f g : Text) (side : Side) (refusal : Refusal) → RefusesRelated FitsFewer f g (side, refusal) model → ¬ FitFewer model f g
unfit model f g First refusal r (types, more, of_f, of_g) = never_both model f (types ++ more) refusal.kind refusal.at of_f r
unfit model f g Second refusal r (types, more, of_f, of_g) = never_both model g types refusal.kind refusal.at of_g r.1

-- the answer 1 says that the arguments fit
pub one_is_fit : OneIsFit
one_is_fit model f g error error_now code (inl (accepted, inl (fit, e), one, same)) = ((λ yes. fit), (λ fit. e))
one_is_fit model f g error error_now code (inl (accepted, inr (not, e), one, same)) =
    ((λ yes. absurd (omega (arith, ints, yes, e))), (λ fit. absurd (not fit)))
one_is_fit model f g error error_now code (inr (stop, refuses, is)) =
    ((λ yes. absurd (omega (arith, ints, yes, is.code_is))), (λ fit. absurd (unfit model f g stop.0 stop.1 refuses fit)))

-- the records that a call has put at the front of a slice that has room for them
pub taken_directives : (model : Model) (t : Text) (old new : List DirectiveSpan) (count : ℕ) (h : HasDirectiveCount model t old new count)
    → length h.directives ≤ length old → take count new ≡ h.directives
taken_directives model t old new count h few = taken old new h.directives count h.count_is h.front few
