-- A call has one answer, unless memory is out.
use Rattle.std.proofs.Common.{◌≡◌, ◌∙◌, ℕ, ℤ, List, length, sym, ap, inl, inr, pos, neg_ℤ}
use Rattle.pf_values.specs.declared.models.Model.{Model}
use Rattle.pf_values.specs.declared.refusals.RefusalKind.{RefusalKind}
use Rattle.pf_values.specs.meaning.Items.{types}
use Rattle.pf_values.specs.meaning.Refusals.{IsRefusedAt}
use Rattle.pf_values.specs.meaning.Text.{Text}
use Rattle.pf_values.specs.RefusalKinds.{number}
use Rattle.pf_text.specs.Refusals.{RefusesOne}
use Rattle.pf_text.specs.declared.refusals.Refusal.{Refusal}
use Rattle.pf_text.specs.declared.refusals.Side.{Side}
use Rattle.pf_text.specs.declared.refusals.Side.TheVariants.{First, Second}
use Rattle.pf_text.specs.Signatures.{TakesTypes}
use Rattle.pf_text.proofs.Texts.{Reads-unique}
use Rattle.pf_text.proofs.Unique.{IsRefusedAt-unique}
use Rattle.pf_bounds.proofs.BoundsLemmas.{bounds_once}
use Rattle.pf_canon.specs.Answers.{IsCanonicalFor}
use Rattle.pf_posix.specs.OpaqueParts.{parts_of_opaque}
use Rattle.pf_posix.specs.declared.specification_spans.SpecificationSpan.{SpecificationSpan}
use Rattle.pf_posix.proofs.ListLemmas.{directives_once}
use Rattle.pf_posix.proofs.Unique.{never_both, one_list, one_refusal}
use Rattle.pf_posix.proofs.UnnumberedVerdicts.{judged, refused_whole_once}
use Rattle.pf_probes.proofs.Unique.{one_canonical}
use Rattle.pf_whole.specs.Languages.{AcceptsText, Language, Numbered, Profile, RefusesText, Unnumbered}
use Rattle.pf_whole.proofs.NeedlessLemmas.{needless_once}
use Rattle.pf_whole.proofs.SomeCanonical.{one_whole_canonical}
use Rattle.fmtcanon_c.specs.declared.byte_counts.CBounds.{CBounds}
use Rattle.fmtcanon_c.specs.declared.directives.CDirective.{CDirective}
use Rattle.fmtcanon_c.specs.declared.interface.CError.{CError}
use Rattle.fmtcanon_c.specs.declared.relations.Relation.{Relation}
use Rattle.fmtcanon_c.specs.declared.specifications.CSpecification.{CSpecification}
use Rattle.fmtcanon_c.specs.Buffers.{put}
use Rattle.fmtcanon_c.specs.ByteCounts.{PutsBounds, limited, limited_or_none}
use Rattle.fmtcanon_c.specs.Calls.{
  AnswersCanonical,
  AreOneAnswer,
  Checks,
  IsTruthCode,
  PutsArguments,
  PutsCanonical,
  PutsDirectives,
  PutsElements,
  PutsTypes,
  PutsWholeCanonical,
}
use Rattle.fmtcanon_c.specs.Errors.{IsRefusalCode, IsRefusedAs, IsRefusedBy}
use Rattle.fmtcanon_c.specs.Relations.{AnswersRelation, relation_language}
use Rattle.fmtcanon_c.specs.Specifications.{IsRecordOf, specification_record}

pub one_record : (model : Model) (span : SpecificationSpan) (entry other : CSpecification) → IsRecordOf model span entry → IsRecordOf model span other
    → entry ≡ other
one_record model span entry other h g =
    h.2 ∙ ap (specification_record span) (needless_once model (parts_of_opaque span.parts) h.0 g.0 h.1 g.1) ∙ sym g.2

same_error : (e f : CError) → e.at ≡ f.at → e.kind ≡ f.kind → e.side ≡ f.side → e ≡ f
same_error e f at kind side = λ i. record { at = at i; kind = kind i; side = side i }

-- rejected for one reason at one offset, and not if it is accepted
record JudgedOnce (Accepts : Type 0) (Refuses : RefusalKind → ℕ → Type 0) : Type 0 where
  pub once : (kind other : RefusalKind) (p q : ℕ) → Refuses kind p → Refuses other q → (kind ≡ other) × (p ≡ q)
  pub never : (kind : RefusalKind) (at : ℕ) → Accepts → Refuses kind at → ⊥

judged_text : (language : Language) (model : Model) (t : Text) → JudgedOnce (AcceptsText language model t) (RefusesText language model t)
judged_text Profile model t = record { once = IsRefusedAt-unique t; never = λ kind at accepted refused. refused.not_accepted accepted }
judged_text Numbered model t =
    record { once = one_refusal model t; never = λ kind at accepted refused. never_both model t accepted.0 kind at accepted.1 refused }
judged_text Unnumbered model t =
    record { once = refused_whole_once model t; never = λ kind at accepted refused. (judged model t).1 kind at refused accepted }

truth_once : (Is : Type 0) (code other : ℤ) → IsTruthCode Is code → IsTruthCode Is other → code ≡ other
truth_once Is code other (inl h) (inl g) = h.1 ∙ sym g.1
truth_once Is code other (inl h) (inr g) = absurd (g.0 h.0)
truth_once Is code other (inr h) (inl g) = absurd (h.0 g.0)
truth_once Is code other (inr h) (inr g) = h.1 ∙ sym g.1

module _ (Refuses : RefusalKind → ℕ → Type 0) (once : (kind other : RefusalKind) (p q : ℕ) → Refuses kind p → Refuses other q → (kind ≡ other) × (p ≡ q))
    (side : Side) (code other : ℤ) (e f : CError) where
  refused_as_once : IsRefusedAs Refuses side code e → IsRefusedAs Refuses side other f → (code ≡ other) × (e ≡ f)
  refused_as_once h g =
      let same = once h.kind g.kind e.at f.at h.refused g.refused in (
        h.code_is ∙ ap (λ k. neg_ℤ (pos (number k))) same.0 ∙ sym g.code_is,
        same_error e f same.1 (h.kind_is ∙ ap number same.0 ∙ sym g.kind_is) (h.side_is ∙ sym g.side_is),
      )

  coded_once : (refusal stop : Refusal) → Refuses refusal.kind refusal.at → Refuses stop.kind stop.at → IsRefusalCode side refusal code e
      → IsRefusalCode side stop other f → (code ≡ other) × (e ≡ f)
  coded_once refusal stop x y h g =
      let same = once refusal.kind stop.kind refusal.at stop.at x y in (
        h.code_is ∙ ap (λ k. neg_ℤ (pos (number k))) same.0 ∙ sym g.code_is,
        same_error e f (h.at_is ∙ same.1 ∙ sym g.at_is) (h.kind_is ∙ ap number same.0 ∙ sym g.kind_is) (h.side_is ∙ sym g.side_is),
      )

module _ (t : Text) (error : CError) (code other : ℤ) (now after : CError) where
  profile_once : IsRefusedBy First t code now → IsRefusedBy First t other after → (code ≡ other) × (now ≡ after)
  profile_once h g = refused_as_once (IsRefusedAt t) (IsRefusedAt-unique t) First code other now after h g

  pub one_check : Checks t error code now → Checks t error other after → (code ≡ other) × (now ≡ after)
  one_check (inl h) (inl g) = (h.1 ∙ sym g.1, h.2 ∙ sym g.2)
  one_check (inl h) (inr g) = absurd (g.refused.not_accepted h.0)
  one_check (inr h) (inl g) = absurd (h.refused.not_accepted g.0)
  one_check (inr h) (inr g) = profile_once h g

  pub one_decision : (model : Model) → AnswersCanonical model t error code now → AnswersCanonical model t error other after → (code ≡ other) × (now ≡ after)
  one_decision model (inl h) (inl g) = (truth_once _ code other h.1 g.1, h.2 ∙ sym g.2)
  one_decision model (inl h) (inr g) = absurd (g.refused.not_accepted h.0)
  one_decision model (inr h) (inl g) = absurd (h.refused.not_accepted g.0)
  one_decision model (inr h) (inr g) = profile_once h g

  pub one_count : (model : Model) (bounds put_now put_after : CBounds) → PutsBounds model t bounds error code put_now now → PutsBounds model t bounds error other put_after after
      → (code ≡ other) × (put_now ≡ put_after) × (now ≡ after)
  one_count model bounds put_now put_after (inl h) (inl g) =
      let same = bounds_once model t h.0 g.0 h.1 g.1 h.2 g.2 in
      let least = h.4 ∙ ap limited same.0 ∙ sym g.4 in
      let greatest = h.5 ∙ ap limited_or_none same.1 ∙ sym g.5 in
      (h.3 ∙ sym g.3, λ i. record { least = least i; greatest = greatest i }, h.6 ∙ sym g.6)
  one_count model bounds put_now put_after (inl h) (inr g) = absurd (g.1.refused.not_accepted (h.2.items, h.2.accepted))
  one_count model bounds put_now put_after (inr h) (inl g) = absurd (h.1.refused.not_accepted (g.2.items, g.2.accepted))
  one_count model bounds put_now put_after (inr h) (inr g) =
      let same = profile_once h.1 g.1 in
      (same.0, h.0 ∙ sym g.0, same.1)

-- what is answered about two texts
module _ (relation : Relation) (model : Model) (first second : Text) (error : CError) (code other : ℤ) (now after : CError) where
  one_of_both : (side found : Side) (refusal stop : Refusal)
      → RefusesOne (AcceptsText (relation_language relation) model) (RefusesText (relation_language relation) model) first second side refusal
      → RefusesOne (AcceptsText (relation_language relation) model) (RefusesText (relation_language relation) model) first second found stop
      → IsRefusalCode side refusal code now → IsRefusalCode found stop other after → (code ≡ other) × (now ≡ after)
  one_of_both First First refusal stop x y h g =
      coded_once (RefusesText (relation_language relation) model first) (judged_text (relation_language relation) model first).once First code other now after
      refusal stop x y h g
  one_of_both First Second refusal stop x y h g =
      absurd ((judged_text (relation_language relation) model first).never refusal.kind refusal.at y.0 x)
  one_of_both Second First refusal stop x y h g =
      absurd ((judged_text (relation_language relation) model first).never stop.kind stop.at x.0 y)
  one_of_both Second Second refusal stop x y h g =
      coded_once (RefusesText (relation_language relation) model second) (judged_text (relation_language relation) model second).once Second code other now after
      refusal stop x.1 y.1 h g

  none_of_both : (side : Side) (refusal : Refusal) → AcceptsText (relation_language relation) model first
      → AcceptsText (relation_language relation) model second
      → RefusesOne (AcceptsText (relation_language relation) model) (RefusesText (relation_language relation) model) first second side refusal → ⊥
  none_of_both First refusal a b x = (judged_text (relation_language relation) model first).never refusal.kind refusal.at a x
  none_of_both Second refusal a b x = (judged_text (relation_language relation) model second).never refusal.kind refusal.at b x.1

  pub one_relation : AnswersRelation relation model first second error code now → AnswersRelation relation model first second error other after
      → (code ≡ other) × (now ≡ after)
  one_relation (inl h) (inl g) = (truth_once _ code other h.1 g.1, h.3 ∙ sym g.3)
  one_relation (inl h) (inr g) = absurd (none_of_both g.0.0 g.0.1 h.0.0 h.0.1 g.1)
  one_relation (inr h) (inl g) = absurd (none_of_both h.0.0 h.0.1 g.0.0 g.0.1 h.1)
  one_relation (inr h) (inr g) = one_of_both h.0.0 g.0.0 h.0.1 g.0.1 h.1 g.1 h.2 g.2

-- elements in a buffer
module _ {X Y : Type 0} (Has : List X → Type 0) (written : List X → List Y) (Refuses : RefusalKind → ℕ → Type 0) (Needs : Type 0)
    (one : (elements others : List X) → Has elements → Has others → elements ≡ others)
    (judges : JudgedOnce ((elements : List X) × Has elements) Refuses) where
  put_once : (out now after : List Y) (error e f : CError) (code other : ℤ) → PutsElements Has written Refuses Needs out error code now e
      → PutsElements Has written Refuses Needs out error other after f → AreOneAnswer code now e other after f
  put_once out now after error e f code other (inl h) (inl g) =
      let same = one h.0 g.0 h.1 g.1 in
      inl (h.2 ∙ ap (λ l. pos (length l)) same ∙ sym g.2, h.3 ∙ ap (λ l. put (written l) out) same ∙ sym g.3, h.4 ∙ sym g.4)
  put_once out now after error e f code other (inl h) (inr (same, inl g)) = absurd (judges.never g.kind f.at (h.0, h.1) g.refused)
  put_once out now after error e f code other h (inr (same, inr g)) = inr (inr g.1)
  put_once out now after error e f code other (inr (same, inl h)) (inl g) = absurd (judges.never h.kind e.at (g.0, g.1) h.refused)
  put_once out now after error e f code other (inr (same, inr h)) g = inr (inl h.1)
  put_once out now after error e f code other (inr (same, inl h)) (inr (also, inl g)) =
      let one = refused_as_once Refuses judges.once First code other e f h g in
      inl (one.0, same ∙ sym also, one.1)

module _ (model : Model) (t : Text) where
  pub one_canonical_put : (out now after : Text) (error e f : CError) (code other : ℤ) → PutsCanonical model t out error code now e
      → PutsCanonical model t out error other after f → AreOneAnswer code now e other after f
  one_canonical_put = put_once (IsCanonicalFor model t) _ (IsRefusedAt t) _ (λ c d h g. one_canonical model t c d h.canonical_is g.canonical_is)
      (record { once = IsRefusedAt-unique t; never = λ kind at h refused. refused.not_accepted (h.1.items, h.1.accepted) })

  pub one_whole_put : (out now after : Text) (error e f : CError) (code other : ℤ) → PutsWholeCanonical model t out error code now e
      → PutsWholeCanonical model t out error other after f → AreOneAnswer code now e other after f
  one_whole_put = put_once _ _ _ _ (one_whole_canonical model t)
      (record { once = refused_whole_once model t; never = λ kind at h refused. (judged model t).1 kind at refused h.1.accepted })

  pub one_types_put : (out now after : Text) (error e f : CError) (code other : ℤ) → PutsTypes model t out error code now e
      → PutsTypes model t out error other after f → AreOneAnswer code now e other after f
  one_types_put = put_once (TakesTypes model t) _ (IsRefusedAt t) _
      (λ ts us h g. h.types_are ∙ ap (types model) (Reads-unique t h.items g.items h.accepted.reads g.accepted.reads) ∙ sym g.types_are)
      (record { once = IsRefusedAt-unique t; never = λ kind at h refused. refused.not_accepted (h.1.items, h.1.accepted) })

  pub one_arguments_put : (out now after : Text) (error e f : CError) (code other : ℤ) → PutsArguments model t out error code now e
      → PutsArguments model t out error other after f → AreOneAnswer code now e other after f
  one_arguments_put = put_once _ _ _ _ (one_list model t)
      (record { once = one_refusal model t; never = λ kind at h refused. never_both model t h.0 kind at h.1 refused })

  pub one_directives_put : (out now after : List CDirective) (error e f : CError) (code other : ℤ) → PutsDirectives model t out error code now e
      → PutsDirectives model t out error other after f → AreOneAnswer code now e other after f
  one_directives_put = put_once _ _ _ _ (directives_once model t)
      (record { once = one_refusal model t; never = λ kind at h refused. never_both model t h.1.types kind at h.1.accepted refused })
