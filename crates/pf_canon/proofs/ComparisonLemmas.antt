-- Two texts that are compared.
use Rattle.std.proofs.Common.{Some, ◌≡◌, ℕ, ◌+◌, ◌≤◌, ◌++◌, length, take, drop, sym, ap, ap₂, ◌∙◌, ◌≢◌, ◌<◌, Bool, true, false, [], ◌∷◌, None, Result, Ok, Err, refl}
use Rattle.std.proofs.Common.{subst, arith, inl, inr}
use Rattle.std.proofs.Math.Seq.{take-add}
use Rattle.std.proofs.lemmas.List.{take-append-le, append_assoc, append_cancel_left, length-append, length-take}
use Rattle.std.specs.Prelude.{◌⊎◌}
use Rattle.std.specs.Io.KnownBytes.{Consumes}
use Rattle.pf_canon.proofs.OneCanonical.{end_both}
use Rattle.pf_values.specs.meaning.Printing.{AreEquivalent}
use Rattle.pf_values.specs.meaning.Text.{Text}
use Rattle.pf_values.specs.declared.models.Model.{Model}
use Rattle.pf_values.specs.Counting.{Known}
use Rattle.pf_probes.proofs.Unique.{equivalent_formats_one}
use Rattle.pf_canon.specs.Output.{IsFrontOf}
use Rattle.pf_canon.specs.Comparison.{
  AreCommon,
  HaveCommon,
  CountsSides,
  CountsStop,
  Drained,
  DrainsTo,
  EndsBoth,
  IsFilledInStep,
  IsInStep,
  IsReadInStep,
  StopsOn,
}
use Rattle.pf_canon.specs.declared.faults.SideFault.{SideFault}
use Rattle.pf_canon.specs.declared.faults.StreamFault.{StreamFault}
use Rattle.pf_canon.specs.declared.faults.StreamFault.TheVariants as faults
use Rattle.pf_text.specs.declared.refusals.Side.{Side}
use Rattle.pf_text.specs.declared.refusals.Side.TheVariants.{First, Second}
use Rattle.pf_canon.specs.declared.canonical_bytes.ByteTransducer.{ByteTransducer}
use Rattle.pf_canon.specs.CanonicalBytes.{History, IsFilled, IsReadFor, AnswerLeaves, pending_in}
use Rattle.pf_canon.proofs.ByteTransducerLemmas.{ending, fault_later, read_in, reader_in, stops_by}
use Rattle.pf_canon.proofs.EquivalentTexts.{equivalent_by}
use Rattle.pf_canon.proofs.SliceLemmas.{none_both}
use Rattle.pf_canon.specs.CanonicalSlices.{AreApart, GoInStep, IsTakenWhole, pending_of}
use Rattle.pf_canon.specs.Languages.{AreSameIn, Front, HasCanonicalIn, Refuses}
use Rattle.pf_canon.specs.declared.canonical_slices.CanonicalSlices.{CanonicalSlices}

-- more bytes are equal
pub common_more : (t u : Text) (at more : ℕ) → AreCommon t u at → at + more ≤ length t → at + more ≤ length u → take more (drop at t) ≡ take more (drop at u)
    → AreCommon t u (at + more)
common_more t u at more h first second same = record {
  first = first;
  second = second;
  same = take-add at more t ∙ ap (λ v. v ++ take more (drop at t)) h.same ∙ ap (λ v. take at u ++ v) same ∙ sym (take-add at more u);
}

-- the first bytes of texts whose fronts have them in common
pub common_taken : (t u f g : Text) (count : ℕ) → IsFrontOf t f → IsFrontOf u g → HaveCommon f g (Some count) → take count u ≡ take count t
common_taken t u f g count h k common =
    ap (take count) k.whole ∙ take-append-le count g k.behind common.1 ∙ sym common.2 ∙ sym (take-append-le count f h.behind common.0)
    ∙ ap (take count) (sym h.whole)

-- a text that is over, and one that isn't
over_apart : (t u x y : Text) → t ≡ [] → x ≡ [] → (t ≡ [] → u ≡ [] → ⊥) → t ++ x ≢ u ++ y
over_apart t u x y none no_x some e =
    let both : u ++ y ≡ [] = sym e ∙ ap (λ v. v ++ x) none ∙ no_x in
    some none (none_both u y both).0

-- texts whose fronts differ
pub fronts_apart : (t u f g : Text) → IsFrontOf t f → IsFrontOf u g → HaveCommon f g None → AreApart t u
fronts_apart t u f g h k common x y no_x no_y e = go common.1
  where
    some : t ≡ [] → u ≡ [] → ⊥
    some first second = elim common.0 [
      | inl some_f ↦ some_f (none_both f h.behind (sym h.whole ∙ first)).0
      | inr some_g ↦ some_g (none_both g k.behind (sym k.whole ∙ second)).0
    ]

    go : (f ≡ []) ⊎ (g ≡ []) ⊎ ((x y : Text) → f ++ x ≢ g ++ y) → ⊥
    go (inl none) = over_apart t u x y (h.some none) (no_x (h.some none)) some e
    go (inr (inl none)) = over_apart u t y x (k.some none) (no_y (k.some none)) (λ second first. some first second) (sym e)
    go (inr (inr apart)) = apart (h.behind ++ x) (k.behind ++ y) (sym (append_assoc f h.behind x) ∙ ap (λ v. v ++ x) (sym h.whole) ∙ e
        ∙ ap (λ v. v ++ y) k.whole ∙ append_assoc g k.behind y)

-- a longer text is settled on the other side
pub in_step_by : (model : Model) (taken given settled : Text) → IsReadFor model taken given → length given < length settled → IsReadInStep model taken settled
in_step_by model taken given settled (inl none) more = inl none
in_step_by model taken given settled (inr h) more = let few = h.5 in inr (h.0, h.1, h.2, h.3, h.4, omega (arith, few, more))

pub in_step_more : (model : Model) (taken given more : Text) → IsReadFor model taken given → 0 < length more → IsReadInStep model taken (given ++ more)
in_step_more model taken given more h some = in_step_by model taken given (given ++ more) h (omega (arith, some, length-append given more))

-- what was read of a text that stopped
stopped_in_step : (model : Model) (fault : StreamFault) (s : ByteTransducer) (start left : Known) (taken given settled : Text)
    → AnswerLeaves model (Some (Err fault)) s start left taken given → length given < length settled → (other : Text) × Consumes start left other
    × IsReadInStep model other settled
stopped_in_step model faults.Read s start left taken given settled h more = (taken, h.0, in_step_by model taken given settled h.2 more)
stopped_in_step model (faults.Refused refusal) s start left taken given settled h more = elim h.0.cause [
  | inl end ↦ (taken, end.1, in_step_by model taken given settled h.2 more)
  | inr byte ↦ (taken ++ byte.0 ∷ [], byte.2, inr (taken, byte.0, given, refl, h.1, more))
]

module _ (model : Model) (f f_left g g_left : Known) where
  -- the first text stopped in step
  pub first_stops : (fault : StreamFault) (one two : ByteTransducer) (t u given : Text) → AnswerLeaves model (Some (Err fault)) one f f_left t given
      → History model two g g_left u given → IsReadInStep model u given → StopsOn model First fault f f_left g g_left
  first_stops fault one two t u given h k in_step = (
    t,
    given,
    u,
    stops_by model fault one f f_left t given h,
    reader_in model two.is_open two.transducer _ g g_left u given k,
    in_step,
  )

  -- the second stopped, and then the first
  pub both_stop : (pending : Text) (fault behind : StreamFault) (two : ByteTransducer) (u given : Text) → DrainsTo model pending f f_left given (Err behind)
      → AnswerLeaves model (Some (Err fault)) two g g_left u given → StopsOn model First behind f f_left g g_left
  both_stop pending fault behind two u given d h =
      let other = stopped_in_step model fault two g g_left u given d.1 h d.3 in
      (d.0, d.1, other.0, d.2, other.1, other.2)

  -- the first was read whole, and the second stopped
  pub second_stops : (pending : Text) (fault : StreamFault) (two : ByteTransducer) (u given : Text) → Drained model pending f f_left given
      → AnswerLeaves model (Some (Err fault)) two g g_left u given → StopsOn model Second fault f f_left g g_left
  second_stops pending fault two u given d h = (d.text, u, given, d.whole, stops_by model fault two g g_left u given h)

  -- they differ, and the first stopped
  pub apart_first : (pending : Text) (fault : StreamFault) (two : ByteTransducer) (u given : Text) → DrainsTo model pending f f_left given (Err fault)
      → History model two g g_left u given → StopsOn model First fault f f_left g g_left
  apart_first pending fault two u given d h = (
    d.0,
    d.1,
    u,
    d.2,
    reader_in model two.is_open two.transducer _ g g_left u given h,
    in_step_by model u given d.1
        (read_in model two.is_open two.transducer _ g g_left u given h) d.3,
  )

  pub apart_second : (pending other : Text) (fault : StreamFault) (given : Text) → Drained model pending f f_left given
      → DrainsTo model other g g_left given (Err fault) → StopsOn model Second fault f f_left g g_left
  apart_second pending other fault given d h = (d.text, h.0, h.1, d.whole, h.2)

  -- both were read whole, and their canonical texts differ
  pub apart_ends : (pending other given : Text) → AreApart pending other → Drained model pending f f_left given → Drained model other g g_left given
      → EndsBoth model f f_left g g_left false
  apart_ends pending other given apart d h =
      let c = d.canonical in
      let k = h.canonical in
      let unlike : AreEquivalent model d.text h.text → ⊥ = λ e.
      apart d.rest h.rest d.ended h.ended
      (append_cancel_left given (pending ++ d.rest) (other ++ h.rest) (equivalent_formats_one model d.text h.text (given ++ (pending ++ d.rest))
      (given ++ (other ++ h.rest)) e c k)) in
      end_both model d.text h.text false (λ is. absurd (cc), λ e. absurd (unlike e)) f f_left g g_left d.whole h.whole

  -- both ended together
  pub same_ends : (one two : ByteTransducer) (t u given : Text) → IsFilled one → IsFilled two → pending_in one ≡ [] → pending_in two ≡ []
      → History model one f f_left t given → History model two g g_left u given → EndsBoth model f f_left g g_left true
  same_ends one two t u given one_filled two_filled none no_more h k =
      let a = rw none at (ending model one.is_open one.transducer _ f f_left t given (one_filled none) h) in
      let b = rw no_more at (ending model two.is_open two.transducer _ g g_left u given (two_filled no_more) k) in
      let c = a.canonical in
      let d = b.canonical in
      end_both model t u true (λ _. equivalent_by model t u (given ++ []) c.equivalent d.equivalent, λ _. refl) f f_left g g_left
      (record { reader = a.reader; end = a.end; accepted = a.accepted; canonical = (_, c) })
      (record { reader = b.reader; end = b.end; accepted = b.accepted; canonical = (_, d) })

-- the same number of bytes more were given on both sides
pub in_step_on : (model : Model) (first one second two : ByteTransducer) (a b f g : Known) (x y : Text) (count : ℕ) → IsFrontOf (pending_in first) x
    → IsFrontOf (pending_in second) y → HaveCommon x y (Some count) → count ≢ 0 → (k : IsFilledInStep model first a second b f g)
    → History model one f a k.t (k.given ++ take count (pending_in first)) → History model two g b k.u (k.given ++ take count (pending_in second))
    → IsInStep model one a two b f g
in_step_on model first one second two a b f g x y count h j common some k given other =
    let w = pending_in first in
    let within = common.0 in
    let n : 0 < length (take count w) = omega (arith, some, within, ap length h.whole, length-append x h.behind, length-take count w) in
    record {
      t = k.t;
      u = k.u;
      given = k.given ++ take count w;
      one = given;
      two = subst (λ t. History model two g b k.u (k.given ++ t)) (common_taken w (pending_in second) x y count h j common) other;
      in_step = in_step_more model k.u k.given (take count w) (read_in model second.is_open second.transducer _ g b k.u k.given k.two) n;
    }

module _ {A B : Type 0} (kept_a failed_a : A → A → Type 0) (kept_b failed_b : B → B → Type 0) where
  stop_later : ((a b c : A) → kept_a a b → kept_a b c → kept_a a c) → ((a b c : A) → kept_a a b → failed_a b c → failed_a a c)
      → ((a b c : B) → kept_b a b → kept_b b c → kept_b a c) → ((a b c : B) → kept_b a b → failed_b b c → failed_b a c)
      → (side : Side) (fault : StreamFault) (a a_mid a_new : A) (b b_mid b_new : B) → kept_a a a_mid → kept_b b b_mid
      → CountsStop kept_a failed_a kept_b failed_b side fault a_mid a_new b_mid b_new
      → CountsStop kept_a failed_a kept_b failed_b side fault a a_new b b_new
  stop_later also_a later_a also_b later_b First fault a a_mid a_new b b_mid b_new h k s = (
    fault_later kept_a failed_a also_a later_a fault a a_mid a_new h s.0,
    elim s.1 [
      | inl same ↦ inl (also_b b b_mid b_new k same)
      | inr failed ↦ inr (later_b b b_mid b_new k failed)
    ],
  )
  stop_later also_a later_a also_b later_b Second fault a a_mid a_new b b_mid b_new h k s =
      (also_a a a_mid a_new h s.0, fault_later kept_b failed_b also_b later_b fault b b_mid b_new k s.1)

  -- nothing failed before
  pub sides_later : ((a b c : A) → kept_a a b → kept_a b c → kept_a a c) → ((a b c : A) → kept_a a b → failed_a b c → failed_a a c)
      → ((a b c : B) → kept_b a b → kept_b b c → kept_b a c) → ((a b c : B) → kept_b a b → failed_b b c → failed_b a c)
      → (T : Type 0) (r : Result T SideFault) (a a_mid a_new : A) (b b_mid b_new : B) → kept_a a a_mid → kept_b b b_mid
      → CountsSides kept_a failed_a kept_b failed_b r a_mid a_new b_mid b_new → CountsSides kept_a failed_a kept_b failed_b r a a_new b b_new
  sides_later also_a later_a also_b later_b T (Ok answer) a a_mid a_new b b_mid b_new h k s = (also_a a a_mid a_new h s.0, also_b b b_mid b_new k s.1)
  sides_later also_a later_a also_b later_b T (Err stop) a a_mid a_new b b_mid b_new h k s =
      stop_later also_a later_a also_b later_b stop.side stop.fault a a_mid a_new b b_mid b_new h k s

-- two canonical texts that begin with what both gave
module _ (has_front : Front) (model : Model) (f g given w v : Text) where
  -- they are equal
  pub same_told : (x y : Text) → w ≡ [] → x ≡ [] → v ≡ [] → y ≡ [] → HasCanonicalIn has_front model f (given ++ (w ++ x))
      → HasCanonicalIn has_front model g (given ++ (v ++ y)) → AreSameIn has_front model f g true
  same_told x y w_none x_none v_none y_none h k = record {
    first = _;
    second = _;
    of_first = h;
    of_second = k;
    one = (λ yes. ap₂ (λ t u. given ++ (t ++ u)) (w_none ∙ sym v_none) (x_none ∙ sym y_none), λ same. refl);
  }

  -- they go on with other bytes
  pub apart_told : (x y : Text) → AreApart w v → (w ≡ [] → x ≡ []) → (v ≡ [] → y ≡ []) → HasCanonicalIn has_front model f (given ++ (w ++ x))
      → HasCanonicalIn has_front model g (given ++ (v ++ y)) → AreSameIn has_front model f g false
  apart_told x y apart no_x no_y h k = record {
    first = _;
    second = _;
    of_first = h;
    of_second = k;
    one = (λ is. absurd (cc), λ same. absurd (apart x y no_x no_y (append_cancel_left given (w ++ x) (v ++ y) same)));
  }

-- both texts were taken to their ends
pub told : (has_front : Front) (refuses : Refuses) (model : Model) (first second : CanonicalSlices) (f g : Text) (is : Bool)
    → (step : GoInStep has_front refuses model first f second g is) → IsTakenWhole has_front model first f step.given
    → IsTakenWhole has_front model second g step.given → AreSameIn has_front model f g is
told has_front refuses model first second f g true step h k =
    let none = step.so in
    same_told has_front model f g step.given (pending_of first) (pending_of second) h.more k.more none.0 (h.ended (step.one_ended none.0)) none.1
    (k.ended (step.two_ended none.1)) h.whole k.whole
told has_front refuses model first second f g false step h k =
    apart_told has_front model f g step.given (pending_of first) (pending_of second) h.more k.more step.so (λ none. h.ended (step.one_ended none))
    (λ none. k.ended (step.two_ended none)) h.whole k.whole

-- an accepted text and itself
pub told_itself : (has_front : Front) (model : Model) (t c : Text) → HasCanonicalIn has_front model t c → AreSameIn has_front model t t true
told_itself has_front model t c h = record { first = c; second = c; of_first = h; of_second = h; one = (λ yes. refl, λ same. refl) }
