-- A text can't go on at one place: it has one list of types, or one refusal, of a kind that it may have.
use Rattle.std.proofs.Common.{◌≡◌, ℕ, ◌+◌, ◌<◌, ◌≤◌, List, [], ◌∷◌, ◌++◌, length, get_or, refl, sym, ap, ◌∙◌, arith, subst, inl, inr, length-append, ◌≢◌, ◌==◌, Bool}
use Rattle.std.proofs.Common.{true, false, zero, suc}
use Rattle.std.specs.Prelude.{Option, Some, None, slice_get, MatchBool, is_some, ◌==◌, ◌⊎◌, if◌then◌else◌}
use Rattle.std.specs.List.{AllByRecursion}
use Rattle.std.proofs.lemmas.List.{append-nil, append_assoc, ext_get_or, length_push}
use Rattle.std.proofs.lemmas.Option.{slice_get-get_or, slice_get_within}
use Rattle.pf_values.specs.declared.models.Model.{Model}
use Rattle.pf_values.specs.meaning.Text.{Text, percent}
use Rattle.pf_posix.specs.declared.fetches.Fetch.{Fetch}
use Rattle.pf_values.specs.declared.refusals.RefusalKind.{RefusalKind}
use Rattle.pf_posix.specs.declared.types.WholeArgType.{WholeArgType}
use Rattle.pf_posix.specs.Types.{int_type, AreInOrder, AreNumbered, HaveTypes, IsFetched, HasTypeIn}
use Rattle.pf_posix.specs.Items.{HasArguments, errno_letter, fetched, ReadsWhole}
use Rattle.pf_posix.specs.Refusals.{AreAgreed, HasGap, IsWholeRefusalCause, IsOneType, IsWholeRefusedAt, numbering_by, numbering_of, IsWrong}
use Rattle.pf_posix.proofs.Agreeing.{all_map, agreed_none, no_gap, types_or_gap}
use Rattle.pf_posix.proofs.GoodFronts.{front_by, Advances, Goes, Halts, IsFrontIn, Next, Taken, advance, front_empty, front_none, good_front, halted, halts, next}
use Rattle.pf_posix.proofs.GoodFronts.{retreat, state_there}
use Rattle.pf_values.specs.declared.flags.FlagSet.{FlagSet}
use Rattle.pf_values.specs.declared.limits.TheConstants.{MAX_TEXT_LEN}
use Rattle.pf_values.specs.declared.refusals.RefusalKind.TheVariants.{NulByte, Truncated, Unexpected, BadPercent, Numbered, WidthTooLarge, PrecisionTooLarge}
use Rattle.pf_values.specs.declared.refusals.RefusalKind.TheVariants.{AltUndefined, ZeroUndefined, GroupUndefined, PrecisionUndefined, LengthUndefined, TooLong}
use Rattle.pf_values.specs.declared.refusals.RefusalKind.TheVariants.{CountUndefined, Mixed, MissingArgument, TwoTypes}
use Rattle.pf_values.specs.RefusalKinds.{is_profile_alone}
use Rattle.pf_text.proofs.Sound.{find_holds}
use Rattle.pf_posix.specs.declared.conversions.WholeConv.{WholeConv}
use Rattle.pf_posix.specs.declared.conversions.WholeLength.{WholeLength}
use Rattle.pf_posix.specs.Defined.{is_undefined_as}
use Rattle.pf_posix.specs.Beginnings.{TakesAmount}
use Rattle.pf_posix.specs.Unnumbered.{IsUnnumberedRefusedAt}
use Rattle.std.proofs.lemmas.Bool.Decides.{nat_tests}
use Rattle.pf_text.proofs.Texts.{split_last}
use Rattle.pf_posix.specs.Laws.{IsAcceptedOrRefused}
use Rattle.pf_posix.proofs.Bounds.{IsWithin, items_within}
use Rattle.pf_posix.proofs.OneState.{never_empty}
use Rattle.pf_posix.proofs.Steps.{IsStateAfter, State}

pub record Stop : Type 0 where
  pub at : ℕ
  pub fetches : List Fetch
  pub state : Option State
  pub rest : Text

abbrev pub stop : ℕ → List Fetch → Option State → Text → Stop
stop at fetches state rest = record { at = at; fetches = fetches; state = state; rest = rest }

abbrev pub on_next : Next → Stop → (List Fetch → Option State → Stop) → Stop
on_next (Goes now to) here on = on now to
on_next (Halts kind) here on = here

-- at the limit, at a byte that can't follow, or at the end
abbrev pub stop_from : Model → Text → ℕ → List Fetch → Option State → Stop
stop_from model [] at fetches state = stop at fetches state []
stop_from model (byte ∷ rest) at fetches state = if at == MAX_TEXT_LEN then stop at fetches state (byte ∷ rest) else
    on_next (next model fetches state byte) (stop at fetches state (byte ∷ rest)) (stop_from model rest (at + 1))

-- and why, if it can't go on; at its end an argument may be missing
abbrev pub kind_of : Next → Option RefusalKind
kind_of (Goes now to) = None
kind_of (Halts kind) = Some kind

abbrev pub halts_at : Model → Text → ℕ → List Fetch → Option State → Option RefusalKind
halts_at model [] at fetches None = Some MissingArgument
halts_at model [] at fetches (Some state) = Some Truncated
halts_at model (byte ∷ rest) at fetches state = if at == MAX_TEXT_LEN then Some TooLong else kind_of (next model fetches state byte)

abbrev pub halts_in : Model → Stop → Option RefusalKind
halts_in model s = halts_at model s.rest s.at s.fetches s.state

pub halts_by : (n : Next) (kind : RefusalKind) → kind_of n ≡ Some kind → n ≡ Halts kind
halts_by n kind e = grind arith

pub not_full : (n : ℕ) → n < MAX_TEXT_LEN → (n == MAX_TEXT_LEN) ≡ false
not_full n h = grind (arith, nat_tests)

pub below_full : (n : ℕ) → n ≤ MAX_TEXT_LEN → (n == MAX_TEXT_LEN) ≡ false → n < MAX_TEXT_LEN
below_full n few e = grind (arith, nat_tests)

-- at the end between two items
abbrev pub is_end : Option State → Text → Bool
is_end (Some state) rest = false
is_end None [] = true
is_end None (byte ∷ rest) = false

module _ (model : Model) (before : List Fetch) where
  pub record IsStopped (t : Text) (s : Stop) (kind : RefusalKind) : Type 0 where
    pub front : Text
    pub split : t ≡ front ++ s.rest
    pub offset : s.at ≡ length front
    pub limit : s.at ≤ MAX_TEXT_LEN
    pub good : IsFrontIn model before front s.fetches s.state
    pub halts : halts_in model s ≡ Some kind

  abbrev pub Stops : Text → Stop → Type 0
  Stops t s = (kind : RefusalKind) × IsStopped t s kind

  here : (front rest : Text) (at : ℕ) (fetches : List Fetch) (state : Option State) → IsFrontIn model before front fetches state → at ≡ length front
      → at ≤ MAX_TEXT_LEN → (kind : RefusalKind) → halts_at model rest at fetches state ≡ Some kind → Stops (front ++ rest) (stop at fetches state rest)
  here front rest at fetches state g e few kind h =
      (kind, record { front = front; split = refl; offset = e; limit = few; good = g; halts = h })

  module _ (front rest : Text) (at : ℕ) (fetches : List Fetch) (state : Option State) (byte : ℕ) (g : IsFrontIn model before front fetches state)
      (e : at ≡ length front) (few : at ≤ MAX_TEXT_LEN) (on : (now : List Fetch) (to : Option State) → IsFrontIn model before (front ++ byte ∷ []) now to
      → at + 1 ≤ MAX_TEXT_LEN → Stops (front ++ byte ∷ rest) (stop_from model rest (at + 1) now to)) where
    by_next : (b : Bool) (n : Next) → (at == MAX_TEXT_LEN) ≡ b → next model fetches state byte ≡ n → Advances model before front fetches state byte g n
        → Stops (front ++ byte ∷ rest) (if b then stop at fetches state (byte ∷ rest) else
        on_next n (stop at fetches state (byte ∷ rest)) (stop_from model rest (at + 1)))
    by_next true n last k h = here front (byte ∷ rest) at fetches state g e few TooLong (rw last refl)
    by_next false (Halts kind) last k h = here front (byte ∷ rest) at fetches state g e few kind (rw (last, k) refl)
    by_next false (Goes now to) last k h = on now to h (let less = below_full at few last in omega (arith, less))

  -- each text stops somewhere
  pub stops : (rest front : Text) (at : ℕ) (fetches : List Fetch) (state : Option State) → IsFrontIn model before front fetches state → at ≡ length front
      → at ≤ MAX_TEXT_LEN → Stops (front ++ rest) (stop_from model rest at fetches state)
  stops [] front at fetches None g e few = here front [] at fetches None g e few MissingArgument refl
  stops [] front at fetches (Some q) g e few = here front [] at fetches (Some q) g e few Truncated refl
  stops (byte ∷ rest) front at fetches state g e few = by_next front rest at fetches state byte g e few
      (λ now to h more. subst (λ t. Stops t (stop_from model rest (at + 1) now to)) (append_assoc front (byte ∷ []) rest)
      (stops rest (front ++ byte ∷ []) (at + 1) now to h (omega (arith, e, length_push front byte)) more))
      (at == MAX_TEXT_LEN) (next model fetches state byte) refl refl (advance model before front fetches state byte g)

  -- and at no other place
  pub reached : (n : ℕ) (front rest : Text) (fetches : List Fetch) (state : Option State) → length front ≡ n → n ≤ MAX_TEXT_LEN
      → IsFrontIn model before front fetches state → stop_from model (front ++ rest) 0 before None ≡ stop_from model rest n fetches state
  reached n [] rest fetches state e few g =
      let none = front_empty model before fetches state g in
      rw (none.0, none.1) (ap (λ k. stop_from model rest k before None) e)
  reached zero (b ∷ front) rest fetches state e few g = absurd (omega (arith, e))
  reached (suc n) (b ∷ front) rest fetches state e few g =
      let cut = split_last (b ∷ front) (λ e. cc) in
      let r = retreat model before cut.0 cut.1 fetches state (subst (λ t. IsFrontIn model before t fetches state) cut.2 g) in
      let long = length_push cut.0 cut.1 in
      let room = not_full n (omega (arith, few)) in
      let goes = r.3 in
      let place : n + 1 ≡ suc n = omega arith in
      ap (λ t. stop_from model t 0 before None) (ap (λ t. t ++ rest) cut.2 ∙ append_assoc cut.0 (cut.1 ∷ []) rest)
      ∙ reached n cut.0 (cut.1 ∷ rest) r.0 r.1 (omega (arith, long, e, ap length cut.2)) (omega (arith, few)) r.2
      ∙ rw (room, goes) (ap (λ k. stop_from model rest k fetches state) place)

  stopped_over : (rest : Text) (at : ℕ) (fetches : List Fetch) (state : Option State) (kind : RefusalKind)
      → halts_at model rest at fetches state ≡ Some kind
      → stop_from model rest at fetches state ≡ stop at fetches state rest
  stopped_over [] at fetches state kind h = refl
  stopped_over (byte ∷ rest) at fetches state kind h = grind arith

  pub stops_there : (t : Text) (s : Stop) (kind : RefusalKind) → IsStopped t s kind → stop_from model t 0 before None ≡ s
  stops_there t s kind h = ap (λ u. stop_from model u 0 before None) h.split
      ∙ reached s.at h.front s.rest s.fetches s.state (sym h.offset) h.limit h.good ∙ stopped_over s.rest s.at s.fetches s.state kind h.halts

  -- a text of items
  pub whole_stop : (t : Text) (fetches : List Fetch) → IsFrontIn model before t fetches None → length t ≤ MAX_TEXT_LEN
      → stop_from model t 0 before None ≡ stop (length t) fetches None []
  whole_stop t fetches g few = stops_there t (stop (length t) fetches None []) MissingArgument
      (record { front = t; split = sym (append-nil t); offset = refl; limit = few; good = g; halts = refl })

  -- a text is read to its end, or can't go on before
  pub ends_or_halts : (t : Text) → AreAgreed before → ((fetches : List Fetch) × IsFrontIn model before t fetches None × (length t ≤ MAX_TEXT_LEN))
      ⊎ ((s : Stop) × (kind : RefusalKind) × IsStopped t s kind × (is_end s.state s.rest ≡ false))
  ends_or_halts t agreed = go s.at s.fetches s.state s.rest (stops t [] 0 before None (front_none model before agreed) refl (omega arith)) where
    s : Stop
    s = stop_from model t 0 before None

    go : (at : ℕ) (fetches : List Fetch) (state : Option State) (rest : Text) → Stops t (stop at fetches state rest)
        → ((fetches : List Fetch) × IsFrontIn model before t fetches None × (length t ≤ MAX_TEXT_LEN))
        ⊎ ((s : Stop) × (kind : RefusalKind) × IsStopped t s kind × (is_end s.state s.rest ≡ false))
    go at fetches None [] (kind, h) =
        let whole = h.split ∙ append-nil h.front in
        inl (fetches, subst (λ u. IsFrontIn model before u fetches None) (sym whole) h.good, omega (arith, h.limit, h.offset, ap length whole))
    go at fetches state rest (kind, h) = inr (stop at fetches state rest, kind, h, refl)

pub not_before : (model : Model) (rest : Text) (at : ℕ) (fetches : List Fetch) (state : Option State) → at ≤ Stop.at (stop_from model rest at fetches state)
not_before model [] at fetches state = omega arith
not_before model (byte ∷ rest) at fetches state = let more = not_before model rest (at + 1) in grind (arith, more)

-- what can't go on is a cause of a refusal, and the other way
module _ (model : Model) (front : Text) (at : ℕ) (fetches : List Fetch) (kind : RefusalKind) where
  cause : (rest : Text) (state : Option State) (g : IsFrontIn model [] front fetches state) → halts_at model rest at fetches state ≡ Some kind
      → (is_end state rest ≡ true → HasGap fetches) → IsWholeRefusalCause model fetches g.part at rest kind
  cause [] None g h gap = inr (cc, g.begun, gap refl)
  cause [] (Some state) g h gap = inl (cc, λ none. never_empty state (subst (IsStateAfter state) none g.begun.0))
  cause (byte ∷ rest) state g h gap = grind (arith, halts model [] front fetches state byte kind g, halts_by)

  caused : (rest : Text) (state : Option State) (g : IsFrontIn model [] front fetches state) → IsWholeRefusalCause model fetches g.part at rest kind
      → (halts_at model rest at fetches state ≡ Some kind) × (is_end state rest ≡ true → HasGap fetches)
  caused [] None g (inl h) = absurd (h.1 g.begun)
  caused [] None g (inr h) = (ap Some (sym h.0), λ e. h.2)
  caused [] (Some state) g (inl h) = (ap Some (sym h.0), λ e. cc)
  caused [] (Some state) g (inr h) = absurd (never_empty state (subst (IsStateAfter state) h.1 g.begun.0))
  caused (byte ∷ rest) state g h = (grind (arith, halted model [] front fetches state byte kind g), none state) where
    none : (state : Option State) → is_end state (byte ∷ rest) ≡ true → HasGap fetches
    none state e = grind arith

-- a text is rejected where it stops
pub refused_there : (model : Model) (t : Text) (s : Stop) (kind : RefusalKind) → IsStopped model [] t s kind
    → (is_end s.state s.rest ≡ true → HasGap s.fetches) → IsWholeRefusedAt model t kind s.at
refused_there model t s kind h gap = record {
  front = h.front;
  rest = s.rest;
  part = h.good.part;
  fetches = s.fetches;
  split = h.split;
  offset = h.offset;
  limit = h.limit;
  good = good_front model h.front s.fetches s.state h.good;
  cause = cause model h.front s.at s.fetches kind s.rest s.state h.good h.halts gap;
}

-- and a rejected text stops there
pub said : (model : Model) (t : Text) (kind : RefusalKind) (at : ℕ) → IsWholeRefusedAt model t kind at → (fetches : List Fetch) × (state : Option State)
    × (rest : Text) × IsStopped model [] t (stop at fetches state rest) kind × (is_end state rest ≡ true → HasGap fetches)
said model t kind at h =
    let there = state_there model h.front h.fetches h.part h.good in
    let c = caused model h.front at h.fetches kind h.rest there.0 there.1
    (subst (λ p. IsWholeRefusalCause model h.fetches p at h.rest kind) (sym there.2) h.cause) in (
      h.fetches,
      there.0,
      h.rest,
      record { front = h.front; split = h.split; offset = h.offset; limit = h.limit; good = there.1; halts = c.0 },
      c.1,
    )

-- the front of a text between two items is their text
pub front_read : {model : Model} {before : List Fetch} {front : Text} {fetches : List Fetch} → (g : IsFrontIn model before front fetches None)
    → ReadsWhole front g.items
front_read g = subst (λ u. ReadsWhole u g.items) (sym (g.split ∙ ap (λ u. g.whole ++ u) g.begun ∙ append-nil g.whole)) g.reads

-- what is read is accepted with its types, or an argument is missing
module _ (model : Model) (t : Text) (fs : List Fetch) (h : Taken model t fs) where
  accepted : (types : List WholeArgType) → HaveTypes fs types → HasArguments model t types
  accepted types g = record { items = h.items; reads = h.reads; limit = h.limit; types_are = subst (λ f. HaveTypes f types) h.seen_are g }

  pub missing : HasGap fs → IsWholeRefusedAt model t MissingArgument (length t)
  missing gap = refused_there model t (stop (length t) fs None []) MissingArgument (record {
    front = t;
    split = sym (append-nil t);
    offset = refl;
    limit = h.limit;
    good = front_by h.items t [] h.reads (sym (append-nil t)) (h.seen_are ∙ sym (append-nil _)) h.agreed refl;
    halts = refl;
  }) (λ e. gap)

  seen_within : AllByRecursion IsWithin fs
  seen_within = subst (AllByRecursion IsWithin) (sym h.seen_are) (items_within model t h.items h.reads)

  settled_taken : IsAcceptedOrRefused model t
  settled_taken = elim (types_or_gap fs h.agreed seen_within) [
    | inl g ↦ inl (g.0, accepted g.0 g.1)
    | inr gap ↦ inr (MissingArgument, length t, missing gap)
  ]

-- a text is accepted, or rejected
pub one_of_both : (model : Model) (t : Text) → IsAcceptedOrRefused model t
one_of_both model t = elim (ends_or_halts model [] t agreed_none) [
  | inl (fetches, g, limit) ↦ settled_taken model t fetches
      (record { items = g.items; reads = front_read g; seen_are = g.fetches_are ∙ append-nil _; agreed = g.agreed; limit = limit })
  | inr (s, kind, h, other) ↦ inr (kind, s.at, refused_there model t s kind h (λ whole. let no = sym whole ∙ other in cc))
]

numbering_head : (fs : List Fetch) (P : Fetch → Type 0) (s : Option ℕ → Type 0) → AllByRecursion P fs
    → ((f g : Fetch) → P f → P g → numbering_by f.number ≡ numbering_by g.number) → AllByRecursion (λ f. numbering_by f.number ≡ numbering_of fs) fs
numbering_head [] P s h same = tt
numbering_head (g ∷ fs) P s h same = all_map _ _ (g ∷ fs) (λ f p. same f g p h.0) h

two_of : (P : Fetch → Type 0) (fs gs : List Fetch) → ((f g : Fetch) → P f → P g → IsOneType f g) → AllByRecursion P fs → AllByRecursion P gs
    → AllByRecursion (λ f. AllByRecursion (IsOneType f) gs) fs
two_of P fs gs same h k = all_map _ _ fs (λ f p. all_map _ _ gs (λ g q. same f g p q) k) h

one_place : (p q : ℕ) → Some (p + 1) ≡ Some (q + 1) → p ≡ q
one_place p q e = let next : p + 1 ≡ q + 1 = cc in omega (arith, next)

pub types_agreed : (fs : List Fetch) (types : List WholeArgType) → HaveTypes fs types → AreAgreed fs
types_agreed fs types (inl h) =
    record {
      one_numbering = numbering_head fs (λ f. f.number ≡ None) (λ o. o ≡ None) h.unnumbered (λ f g p q. ap numbering_by (p ∙ sym q));
      one_type = two_of (λ f. f.number ≡ None) fs fs (λ f g p q n a b. let no : None ≡ Some n = sym p ∙ a in cc) h.unnumbered h.unnumbered;
    }
types_agreed fs types (inr h) =
    record {
      one_numbering = numbering_head fs (HasTypeIn types) (λ o. o ≡ o) h.each (λ f g p q. ap numbering_by p.1 ∙ sym (ap numbering_by q.1));
      one_type = two_of (HasTypeIn types) fs fs one h.each h.each;
    } where
      one : (f g : Fetch) → HasTypeIn types f → HasTypeIn types g → IsOneType f g
      one f g p q n a b =
          let place = one_place p.0 q.0 (sym p.1 ∙ a ∙ sym b ∙ q.1) in
          let wanted : Some f.wanted ≡ Some g.wanted = sym p.2 ∙ ap (slice_get types) place ∙ q.2 in cc

-- a place of a numbered list has the type of its fetch
place_type : (fs : List Fetch) (types others : List WholeArgType) (place : ℕ) → AllByRecursion (HasTypeIn types) fs → AllByRecursion (HasTypeIn others) fs
    → IsFetched place fs → slice_get types place ≡ slice_get others place
place_type [] types others place h k f = absurd f
place_type (g ∷ fs) types others place h k (inl e) =
    ap (slice_get types) (sym (one_place h.0.0 place (sym h.0.1 ∙ e))) ∙ h.0.2 ∙ sym k.0.2
    ∙ ap (slice_get others) (one_place k.0.0 place (sym k.0.1 ∙ e))
place_type (g ∷ fs) types others place h k (inr e) = place_type fs types others place h.1 k.1 e

length_least : (types others : List WholeArgType) → ((p : ℕ) → p < length types → p < length others) → length types ≤ length others
length_least [] others h = omega arith
length_least (t ∷ types) others h = let last = h (length types) (omega arith) in omega (arith, last)

numbered_unique : (fs : List Fetch) (types others : List WholeArgType) → AreNumbered fs types → AreNumbered fs others → types ≡ others
numbered_unique fs types others h k = ext_get_or int_type types others
    (omega (arith, length_least types others (there types others h k), length_least others types (there others types k h))) at where
      there : (a b : List WholeArgType) → AreNumbered fs a → AreNumbered fs b → (p : ℕ) → p < length a → p < length b
      there a b x y p less =
          let same = place_type fs a b p x.each y.each (x.all p less) in
          slice_get_within b p (get_or a p int_type) (sym same ∙ slice_get-get_or a p int_type less)

      at : (i : ℕ) → i < length types → get_or types i int_type ≡ get_or others i int_type
      at i less =
          let same = place_type fs types others i h.each k.each (h.all i less) in
          let both : Some (get_or types i int_type) ≡ Some (get_or others i int_type) = sym (slice_get-get_or types i int_type less) ∙ same
          ∙ slice_get-get_or others i int_type (there types others h k i less) in cc

mixed_unique : (fs : List Fetch) (types others : List WholeArgType) → AreInOrder fs types → AreNumbered fs others → types ≡ others
mixed_unique [] types [] h k = h.types_are
mixed_unique [] types (o ∷ others) h k = absurd (k.all 0 (omega arith))
mixed_unique (f ∷ fs) types others h k = let no : None ≡ Some (k.each.0.0 + 1) = sym h.unnumbered.0 ∙ k.each.0.1 in cc

pub types_unique : (fs : List Fetch) (types others : List WholeArgType) → HaveTypes fs types → HaveTypes fs others → types ≡ others
types_unique fs types others (inl h) (inl k) = h.types_are ∙ sym k.types_are
types_unique fs types others (inl h) (inr k) = mixed_unique fs types others h k
types_unique fs types others (inr h) (inl k) = sym (mixed_unique fs others types k h)
types_unique fs types others (inr h) (inr k) = numbered_unique fs types others h k

-- an accepted text stops at its end
accepted_stop : (model : Model) (t : Text) (types : List WholeArgType) (h : HasArguments model t types)
    → stop_from model t 0 [] None ≡ stop (length t) (fetched model h.items) None []
accepted_stop model t types h =
    let seen = fetched model h.items in
    whole_stop model [] t seen
    (front_by h.items t [] h.reads (sym (append-nil t)) (sym (append-nil seen)) (types_agreed seen types h.types_are) refl) h.limit

pub one_list : (model : Model) (t : Text) (types others : List WholeArgType) → HasArguments model t types → HasArguments model t others → types ≡ others
one_list model t types others h k =
    let same = ap Stop.fetches (sym (accepted_stop model t others k) ∙ accepted_stop model t types h) in
    types_unique (fetched model h.items) types others h.types_are (subst (λ f. HaveTypes f others) same k.types_are)

pub never_both : (model : Model) (t : Text) (types : List WholeArgType) (kind : RefusalKind) (at : ℕ) → HasArguments model t types
    → IsWholeRefusedAt model t kind at → ⊥
never_both model t types kind at h r =
    let (fetches, state, rest, stopped, gap) = said model t kind at r in
    let same : stop (length t) (fetched model h.items) None [] ≡ stop at fetches state rest =
    sym (accepted_stop model t types h) ∙ stops_there model [] t (stop at fetches state rest) kind stopped in
    no_gap (fetched model h.items) types h.types_are (subst HasGap (sym (ap Stop.fetches same))
    (gap (ap (λ s. is_end (Stop.state s) (Stop.rest s)) (sym same))))

pub one_refusal : (model : Model) (t : Text) (kind other : RefusalKind) (p q : ℕ) → IsWholeRefusedAt model t kind p → IsWholeRefusedAt model t other q
    → (kind ≡ other) × (p ≡ q)
one_refusal model t kind other p q h k =
    let a = said model t kind p h in
    let b = said model t other q k in
    let same = sym (stops_there model [] t _ kind a.3) ∙ stops_there model [] t _ other b.3 in
    let kinds : Some kind ≡ Some other = sym a.3.halts ∙ ap (halts_in model) same ∙ b.3.halts in
    (cc, ap Stop.at same)

pub refused_longer : (model : Model) (t more : Text) (kind : RefusalKind) (at : ℕ) → IsWholeRefusedAt model t kind at → at < length t
    → IsWholeRefusedAt model (t ++ more) kind at
refused_longer model t more kind at h less = go h.rest h.split h.cause where
  go : (rest : Text) → t ≡ h.front ++ rest → IsWholeRefusalCause model h.fetches h.part at rest kind → IsWholeRefusedAt model (t ++ more) kind at
  go [] e c = absurd (omega (arith, less, h.offset, ap length e, length-append h.front []))
  go (byte ∷ rest) e c =
      record {
        front = h.front;
        rest = byte ∷ rest ++ more;
        part = h.part;
        fetches = h.fetches;
        split = ap (λ u. u ++ more) e ∙ append_assoc h.front (byte ∷ rest) more;
        offset = h.offset;
        limit = h.limit;
        good = h.good;
        cause = c;
      }

-- a kind that the profile doesn't have alone, and that isn't of numbers where there may be none
abbrev IsNumberedKind : RefusalKind → Type 0
IsNumberedKind kind = (is_profile_alone kind ≡ false) × (kind ≢ Numbered)

by_kind : (kind known : RefusalKind) → kind ≡ known → IsNumberedKind known → IsNumberedKind kind
by_kind kind known e h = subst IsNumberedKind (sym e) h

undefined_kind : (set : FlagSet) (width precision : Bool) (modifier : WholeLength) (conversion : WholeConv) (kind : RefusalKind)
    → is_undefined_as set width precision modifier conversion kind ≡ true → IsNumberedKind kind
undefined_kind set width precision modifier conversion kind h = (grind arith, λ e. grind arith)

amount_kind : (kind : RefusalKind) (t : Text) (position : Option ℕ) (own : List Fetch) → TakesAmount kind t position own → IsNumberedKind kind
amount_kind WidthTooLarge t position own h = (refl, λ e. cc)
amount_kind PrecisionTooLarge t position own h = (refl, λ e. cc)
amount_kind _ t position own h = absurd h

module _ (model : Model) (fetches : List Fetch) (part : Text) (kind : RefusalKind) where
  wrong_kind : (byte : ℕ) → IsWrong model fetches part byte kind → IsNumberedKind kind
  wrong_kind byte (inl h) = by_kind kind Mixed h.0 (refl, λ e. cc)
  wrong_kind byte (inr (inl (n, more, inl h))) = amount_kind kind h.before h.position h.own h.before_is
  wrong_kind byte (inr (inl (n, more, inr h))) = amount_kind kind h.2.before h.0 h.1 h.2.before_is
  wrong_kind byte (inr (inr (inl h))) =
      let s = h.0.s in
      let is_undefined = is_undefined_as s.flags (is_some s.width) (is_some s.precision) s.modifier s.conversion in
      undefined_kind s.flags (is_some s.width) (is_some s.precision) s.modifier s.conversion kind
      (find_holds is_undefined (AltUndefined ∷ ZeroUndefined ∷ GroupUndefined ∷ PrecisionUndefined ∷ LengthUndefined ∷ CountUndefined ∷ []) kind h.1)
  wrong_kind byte (inr (inr (inr (inl h)))) = by_kind kind TwoTypes h.0 (refl, λ e. cc)
  wrong_kind byte (inr (inr (inr (inr h)))) = by_kind kind Unexpected h.0 (refl, λ e. cc)

  cause_kind : (at : ℕ) (rest : Text) → IsWholeRefusalCause model fetches part at rest kind → IsNumberedKind kind
  cause_kind at [] (inl h) = by_kind kind Truncated h.0 (refl, λ e. cc)
  cause_kind at [] (inr h) = by_kind kind MissingArgument h.0 (refl, λ e. cc)
  cause_kind at (byte ∷ rest) h = by_tests (at == MAX_TEXT_LEN) (byte == 0) (byte == percent) h where
    by_tests : (full nul percents : Bool) → MatchBool full (kind ≡ TooLong) (MatchBool nul (kind ≡ NulByte)
        (MatchBool percents ((kind ≡ BadPercent) × (part ≢ []) × (part ≢ percent ∷ []))
        ((part ≡ percent ∷ [] → byte ≢ errno_letter) × IsWrong model fetches part byte kind))) → IsNumberedKind kind
    by_tests true nul percents h = by_kind kind TooLong h (refl, λ e. cc)
    by_tests false true percents h = by_kind kind NulByte h (refl, λ e. cc)
    by_tests false false true h = by_kind kind BadPercent h.0 (refl, λ e. cc)
    by_tests false false false h = wrong_kind byte h.1

pub numbered_kind : (model : Model) (t : Text) (kind : RefusalKind) (at : ℕ) → IsWholeRefusedAt model t kind at → IsNumberedKind kind
numbered_kind model t kind at h = cause_kind model h.fetches h.part kind at h.rest h.cause

pub unnumbered_kind : (model : Model) (t : Text) (kind : RefusalKind) (at : ℕ) → IsUnnumberedRefusedAt model t kind at → is_profile_alone kind ≡ false
unnumbered_kind model t Numbered at h = refl
unnumbered_kind model t NulByte at h = (numbered_kind model t NulByte at h.0).0
unnumbered_kind model t kind at h = (numbered_kind model t kind at h.0).0
