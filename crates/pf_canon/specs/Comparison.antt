-- What two texts that are compared have come to. This project's own.
use Rattle.std.specs.Prelude.{◌≡◌, ◌≢◌, ℕ, [], ◌++◌, get_or, length, take, Option, Some, None, ◌⊎◌, ◌≤◌, ◌<◌, Bool, ◌∷◌, Result, Ok, Err, ◌↔◌, IsTrue}
use Rattle.std.specs.Io.KnownBytes.{Consumes, IsAtEnd}
use Rattle.pf_values.specs.meaning.Text.{Text, percent}
use Rattle.pf_values.specs.declared.models.Model.{Model}
use Rattle.pf_values.specs.meaning.Canonical.{IsCanonicalOf}
use Rattle.pf_values.specs.Counting.{Known}
use Rattle.pf_values.specs.meaning.Items.{IsAccepted}
use Rattle.pf_values.specs.meaning.Printing.{AreEquivalent}
use Rattle.pf_values.specs.meaning.Refusals.{IsRefusedAt}
use Rattle.pf_text.specs.declared.refusals.Refusal.{Refusal}
use Rattle.pf_canon.specs.declared.faults.SideFault.{SideFault}
use Rattle.pf_canon.specs.declared.faults.StreamFault.{StreamFault}
use Rattle.pf_canon.specs.declared.faults.StreamFault.TheVariants as faults
use Rattle.pf_text.specs.declared.refusals.Side.{Side}
use Rattle.pf_text.specs.declared.refusals.Side.TheVariants.{First, Second}
use Rattle.pf_text.specs.Refusals.{RefusesOne}
use Rattle.pf_canon.specs.declared.canonical_bytes.ByteTransducer.{ByteTransducer}
use Rattle.pf_canon.specs.CanonicalBytes.{FaultCounts, History, IsFilled, IsRefusedBehind}
use Rattle.pf_canon.specs.Transducer.{SettlesTo}

-- two texts have equal bytes at the front, `count` of them
pub record AreCommon (t u : Text) (count : ℕ) : Type 0 where
  pub first : count ≤ length t
  pub second : count ≤ length u
  pub same : take count t ≡ take count u

-- after this many bytes one of two texts ends, or they go on with different ones
abbrev pub EndsCommon : Text → Text → ℕ → Type 0
EndsCommon t u count = count < length t → count < length u → get_or t count 0 ≢ get_or u count 0

-- Two texts begin with this many equal bytes, some unless both are empty. Or they begin with
-- unequal ones, or just one of them is empty.
abbrev pub HaveCommon : Text → Text → Option ℕ → Type 0
HaveCommon t u (Some count) =
    (count ≤ length t) × (count ≤ length u) × (take count t ≡ take count u)
    × (count ≡ 0 → (t ≡ []) × (u ≡ []))
HaveCommon t u None =
    ((t ≢ []) ⊎ (u ≢ [])) × ((t ≡ []) ⊎ (u ≡ []) ⊎ ((x y : Text) → t ++ x ≢ u ++ y))

-- Two texts begin with ordinary characters that differ, or one does and the other is empty
-- (C11 7.21.6.1 p3).
abbrev pub BeginApart : Text → Text → Type 0
BeginApart [] [] = ⊥
BeginApart [] (y ∷ u) = y ≢ percent
BeginApart (x ∷ t) [] = x ≢ percent
BeginApart (x ∷ t) (y ∷ u) = (x ≢ y) × (x ≢ percent) × (y ≢ percent)

-- a text has a canonical text
abbrev pub HasCanonical : Model → Text → Type 0
HasCanonical model t = (c : Text) × IsCanonicalOf model t c

-- one text is the canonical text of both
abbrev pub HaveOneCanonical : Model → Text → Text → Type 0
HaveOneCanonical model t u = (c : Text) × IsCanonicalOf model t c × IsCanonicalOf model u c

-- a text was read to its end, and is accepted
pub record IsReadWhole (model : Model) (start left : Known) (t : Text) : Type 0 where
  pub reader : Consumes start left t
  pub end : IsAtEnd left
  pub accepted : IsAccepted t
  pub canonical : HasCanonical model t

-- both texts were, and this is whether they are equivalent, and whether they have one canonical text
pub record EndsBoth (model : Model) (f f_left g g_left : Known) (is : Bool) : Type 0 where
  pub t : Text
  pub u : Text
  pub first : IsReadWhole model f f_left t
  pub second : IsReadWhole model g g_left u
  pub same : IsTrue is ↔ AreEquivalent model t u
  pub one : IsTrue is ↔ HaveOneCanonical model t u

-- a text stopped after `taken`, whose whole items settle this
abbrev pub StopsBy : Model → StreamFault → Known → Known → Text → Text → Type 0
StopsBy model (faults.Refused refusal) start left taken settled =
    IsRefusedBehind start left taken refusal × SettlesTo model taken settled
StopsBy model faults.Read start left taken settled =
    Consumes start left taken × SettlesTo model taken settled

-- before its last byte was taken, fewer bytes were settled than these
abbrev pub IsReadInStep : Model → Text → Text → Type 0
IsReadInStep model taken settled = (taken ≡ []) ⊎ (
    (before : Text) × (last : ℕ) × (s : Text) × (taken ≡ before ++ last ∷ [])
    × SettlesTo model before s × (length s < length settled))

-- The first text stopped, and of the second no more was read than to give as many bytes. Or the
-- first was read whole, and the second stopped.
abbrev pub StopsOn : Model → Side → StreamFault → Known → Known → Known → Known → Type 0
StopsOn model First fault f f_left g g_left =
    (taken settled other : Text) × StopsBy model fault f f_left taken settled
    × Consumes g g_left other
    × IsReadInStep model other settled
StopsOn model Second fault f f_left g g_left =
    (t taken settled : Text) × IsReadWhole model f f_left t
    × StopsBy model fault g g_left taken settled

-- the side that stopped, and how
abbrev pub StopsSide : Model → Known → Known → Known → Known → SideFault → Type 0
StopsSide model f f_left g g_left stop = StopsOn model stop.side stop.fault f f_left g g_left

-- a reader has not failed, or just once
abbrev pub FailsOnceAtMost : {B : Type 0} → (B → B → Type 0) → (B → B → Type 0) → B → B → Type 0
FailsOnceAtMost kept failed old new = kept old new ⊎ failed old new

module _ {A B : Type 0} (kept_a failed_a : A → A → Type 0) (kept_b failed_b : B → B → Type 0) where
  -- What both readers count where one side stopped. The second may have failed before it was seen
  -- that the first stops.
  abbrev pub CountsStop : Side → StreamFault → A → A → B → B → Type 0
  CountsStop First fault a a_new b b_new =
      FaultCounts kept_a failed_a fault a a_new × FailsOnceAtMost kept_b failed_b b b_new
  CountsStop Second fault a a_new b b_new =
      kept_a a a_new × FaultCounts kept_b failed_b fault b b_new

  -- what both readers count, by the result
  abbrev pub CountsSides : {T : Type 0} → Result T SideFault → A → A → B → B → Type 0
  CountsSides (Ok answer) a a_new b b_new = kept_a a a_new × kept_b b b_new
  CountsSides (Err stop) a a_new b b_new = CountsStop stop.side stop.fault a a_new b b_new

-- the first text's fault, or that of the second
abbrev pub CountsBehind : {A : Type 0} → (A → A → Type 0) → (A → A → Type 0) → StreamFault
    → Side → StreamFault → A → A → Type 0
CountsBehind kept failed fault First told old new = FaultCounts kept failed told old new
CountsBehind kept failed fault Second told old new = kept old new × (told ≡ fault)

-- two texts in memory are accepted, have canonical texts, and this is whether they are equivalent, and
-- whether they have one canonical text
pub record AreTextsSame (model : Model) (f g : Text) (is : Bool) : Type 0 where
  pub first : IsAccepted f
  pub second : IsAccepted g
  pub first_canonical : HasCanonical model f
  pub second_canonical : HasCanonical model g
  pub same : IsTrue is ↔ AreEquivalent model f g
  pub one : IsTrue is ↔ HaveOneCanonical model f g

-- the first is rejected, or the first is accepted and the second rejected
abbrev pub TextStops : Text → Text → Side × Refusal → Type 0
TextStops f g stop = RefusesOne IsAccepted IsRefusedAt f g stop.0 stop.1

-- A text was read whole, and `given` begins its canonical text. What was pending comes then, and nothing
-- after it if that is nothing.
pub record Drained (model : Model) (pending : Text) (start left : Known)
    (given : Text) : Type 0 where
  pub text : Text
  pub rest : Text
  pub whole : IsReadWhole model start left text
  pub canonical : IsCanonicalOf model text (given ++ (pending ++ rest))
  pub ended : pending ≡ [] → rest ≡ []

-- the rest was read, or the text stopped on the way, having settled more than was given
abbrev pub DrainsTo : Model → Text → Known → Known → Text → Result (Unit {0}) StreamFault → Type 0
DrainsTo model pending start left given (Ok done) = Drained model pending start left given
DrainsTo model pending start left given (Err fault) =
    (taken settled : Text) × StopsBy model fault start left taken settled
    × (length given < length settled)

-- both gave equal bytes
pub record IsInStep (model : Model) (first : ByteTransducer) (a : Known) (second : ByteTransducer)
    (b f g : Known) : Type 0 where
  pub t : Text
  pub u : Text
  pub given : Text
  pub one : History model first f a t given
  pub two : History model second g b u given
  pub in_step : IsReadInStep model u given

-- both gave equal bytes, and more is pending of each, or it is over
pub record IsFilledInStep (model : Model) (first : ByteTransducer) (a : Known)
    (second : ByteTransducer) (b f g : Known) : Type 0 where
  pub t : Text
  pub u : Text
  pub given : Text
  pub one : History model first f a t given
  pub two : History model second g b u given
  pub one_filled : IsFilled first
  pub two_filled : IsFilled second
