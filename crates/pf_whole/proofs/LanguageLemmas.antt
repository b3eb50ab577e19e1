-- Canonical texts of the whole language, as the engine of `pf_canon` puts them together.
use Rattle.std.proofs.Common.{◌≡◌, ℕ, ◌+◌, ◌-◌, Bool, ◌++◌, drop, length, take, sym, ap, ◌∙◌, subst, arith}
use Rattle.std.specs.Prelude.{IsTrue, MatchResult, Result, Ok, Err, ◌↔◌}
use Rattle.std.proofs.Math.Seq.{take-add}
use Rattle.pf_values.specs.declared.models.Model.{Model}
use Rattle.pf_values.specs.meaning.Text.{Text}
use Rattle.pf_text.specs.declared.refusals.Refusal.{Refusal}
use Rattle.pf_text.specs.declared.refusals.Side.{Side}
use Rattle.pf_text.specs.declared.refusals.Side.TheVariants.{First, Second}
use Rattle.pf_text.specs.declared.refusals.TextFault.{TextFault}
use Rattle.pf_text.specs.declared.refusals.TextFault.TheVariants.{Refused, Memory}
use Rattle.pf_canon.specs.Languages.{AreSameIn, DecidesIn, FaultIn, HasCanonicalIn, IsAcceptedIn, StopsIn}
use Rattle.pf_posix.specs.Heads.{IsOpaqueAt}
use Rattle.pf_posix.specs.declared.opaque_directives.Opaque.{Opaque}
use Rattle.pf_posix.specs.OpaqueParts.{item_of_opaque}
use Rattle.pf_posix.specs.Stretches.{Last, IsUnnumberedAccepted}
use Rattle.pf_posix.specs.Unnumbered.{IsUnnumberedRefusedAt}
use Rattle.pf_whole.specs.Answers.{IsWholeCanonicalFor}
use Rattle.pf_whole.specs.Faults.{AreWholeSame, FaultForWholeCanonical, FaultForWholeSame}
use Rattle.pf_whole.specs.Fronts.{IsWholeFront}
use Rattle.pf_whole.specs.meaning.NormalSpellings.{normal_spelling}
use Rattle.pf_whole.specs.meaning.WholeCanonical.{IsWholeCanonicalOf}
use Rattle.pf_whole.proofs.AnswerLemmas.{are_same, canonical_for}
use Rattle.pf_whole.proofs.Completeness.{alike_have_one_canonical}
use Rattle.pf_whole.specs.FrontLaws.{past_opaque, stretch_of}
use Rattle.pf_whole.proofs.OneCanonical.{one_canonical_is_alike}

module _ (model : Model) where
  module _ (t : Text) where
    -- the engine's canonical text is the canonical text
    pub whole_accepted : (c : Text) → HasCanonicalIn IsWholeFront model t c → IsUnnumberedAccepted t
    whole_accepted c h =
        let (whole, reads, together) = h.begins.continues h.last (Last h.ends.items) h.ends.accepted.reads in
        record { stretches = whole; reads = rw h.split reads; limit = h.limit }

    pub whole_canonical : (c : Text) → HasCanonicalIn IsWholeFront model t c → IsWholeCanonicalFor model t c
    whole_canonical c h =
        let (whole, reads, together) = h.begins.continues h.last (Last h.ends.items) h.ends.accepted.reads in
        canonical_for model t c (whole_accepted c h) (record {
          stretches = whole;
          reads = rw h.split reads;
          together = rw h.whole (together h.own (stretch_of model h.last h.own h.ends.items h.ends.accepted.reads h.ends.canonical_is));
        })

    -- what the profile lacks comes after a text, and is put in its normal spelling
    pub opaque_past : (at : ℕ) (c : Text) (found : Opaque × ℕ) (spelling : Text) → HasCanonicalIn IsWholeFront model (take at t) c → IsOpaqueAt t at found
        → spelling ≡ normal_spelling model (item_of_opaque found.0) → IsWholeFront model (take found.1 t) (c ++ spelling)
    opaque_past at c found spelling h there is =
        let middle = take (found.1 - at) (drop at t) in
        let place : at + (found.1 - at) ≡ found.1 = omega (arith, there.some) in
        let text : (h.front ++ h.last) ++ middle ≡ take found.1 t =
        ap (λ u. u ++ middle) (sym h.split) ∙ sym (take-add at (found.1 - at) t) ∙ ap (λ n. take n t) place in
        let put : (h.out ++ h.own) ++ normal_spelling model (item_of_opaque found.0) ≡ c ++ spelling =
        ap (λ u. u ++ normal_spelling model (item_of_opaque found.0)) (sym h.whole) ∙ ap (λ u. c ++ u) (sym is) in
        subst (λ u. IsWholeFront model u (c ++ spelling)) text
        (subst (IsWholeFront model ((h.front ++ h.last) ++ middle)) put
        (past_opaque model h.front h.out h.last h.own middle h.ends.items
        (item_of_opaque found.0) h.begins h.ends.accepted.reads h.ends.canonical_is there.spelled))

module _ (model : Model) (t : Text) where
  pub fault_of_whole : (fault : TextFault) → FaultIn IsWholeFront IsUnnumberedRefusedAt model t fault → FaultForWholeCanonical model t fault
  fault_of_whole (Refused refusal) h = h
  fault_of_whole Memory h = (h.0, whole_canonical model t h.0 h.1, h.2)

  pub checked_of_whole : (r : Result (Unit {0}) Refusal)
      → MatchResult r (λ done. IsAcceptedIn IsWholeFront model t) (λ refusal. IsUnnumberedRefusedAt model t refusal.kind refusal.at)
      → MatchResult r (λ done. IsUnnumberedAccepted t) (λ refusal. IsUnnumberedRefusedAt model t refusal.kind refusal.at)
  checked_of_whole (Ok done) h = whole_accepted model t h.0 h.1
  checked_of_whole (Err refusal) h = h

  pub answer_of_whole : {V : Type 0} (of : V → Text) (r : Result V TextFault)
      → MatchResult r (λ c. HasCanonicalIn IsWholeFront model t (of c)) (FaultIn IsWholeFront IsUnnumberedRefusedAt model t)
      → MatchResult r (λ c. IsWholeCanonicalFor model t (of c)) (FaultForWholeCanonical model t)
  answer_of_whole of (Ok c) h = whole_canonical model t (of c) h
  answer_of_whole of (Err fault) h = fault_of_whole fault h

  pub len_of_whole : (r : Result ℕ Refusal)
      → MatchResult r (λ len. (c : Text) × HasCanonicalIn IsWholeFront model t c × (len ≡ length c))
      (λ refusal. IsUnnumberedRefusedAt model t refusal.kind refusal.at)
      → MatchResult r (λ len. (c : Text) × IsWholeCanonicalFor model t c × (len ≡ length c)) (λ refusal. IsUnnumberedRefusedAt model t refusal.kind refusal.at)
  len_of_whole (Ok len) h = (h.0, whole_canonical model t h.0 h.1, h.2)
  len_of_whole (Err refusal) h = h

  pub decided_of_whole : (r : Result Bool Refusal)
      → MatchResult r (DecidesIn IsWholeFront model t) (λ refusal. IsUnnumberedRefusedAt model t refusal.kind refusal.at)
      → MatchResult r (λ is. IsUnnumberedAccepted t × (IsTrue is ↔ IsWholeCanonicalOf model t t))
      (λ refusal. IsUnnumberedRefusedAt model t refusal.kind refusal.at)
  decided_of_whole (Ok is) h =
      let w = whole_canonical model t h.0 h.1 in
      (w.accepted, (λ yes. subst (IsWholeCanonicalOf model t) (h.2.0 yes) w.canonical_is, λ own. h.2.1 (w.kept own)))
  decided_of_whole (Err refusal) h = h

-- what the engine answers of two texts
module _ (model : Model) (t u : Text) where
  same_of_whole : (is : Bool) → AreSameIn IsWholeFront model t u is → AreWholeSame model t u is
  same_of_whole is h =
      let one = whole_canonical model t h.first h.of_first in
      let other = whole_canonical model u h.second h.of_second in
      are_same model t u one.accepted other.accepted is (
        λ yes. one_canonical_is_alike model t u h.first one.canonical_is
            (subst (IsWholeCanonicalOf model u) (sym (h.one.0 yes)) other.canonical_is),
        λ alike. h.one.1 (alike_have_one_canonical model t u h.first h.second alike one.canonical_is other.canonical_is),
      )

  stops_of_whole : (side : Side) (refusal : Refusal) → StopsIn IsWholeFront IsUnnumberedRefusedAt model t u (side, refusal)
      → FaultForWholeSame model t u (side, refusal)
  stops_of_whole First refusal h = h
  stops_of_whole Second refusal h = (whole_accepted model t h.0.0 h.0.1, h.1)

  pub compared_of_whole : (r : Result Bool (Side × Refusal))
      → MatchResult r (AreSameIn IsWholeFront model t u) (StopsIn IsWholeFront IsUnnumberedRefusedAt model t u)
      → MatchResult r (AreWholeSame model t u) (FaultForWholeSame model t u)
  compared_of_whole (Ok is) h = same_of_whole is h
  compared_of_whole (Err stop) h = stops_of_whole stop.0 stop.1 h
