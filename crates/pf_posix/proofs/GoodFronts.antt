-- A good front of a text has one state, and what one more byte makes of it is one thing.
use Rattle.std.proofs.Common.{◌≡◌, ◌≢◌, ℕ, Bool, true, false, List, [], ◌∷◌, ◌++◌, length, refl, sym, ap, ◌∙◌, arith, subst, inl, inr, ◌≤◌}
use Rattle.std.specs.Prelude.{Option, Some, None, ◌⊎◌, ◌==◌, MatchBool, if◌then◌else◌, ⊤}
use Rattle.std.proofs.lemmas.Bool.{eqb-false, eqb-true, ne_eqb}
use Rattle.std.proofs.lemmas.List.{append_assoc, append-nil, length_push, same_from_push}
use Rattle.pf_values.specs.declared.models.Model.{Model}
use Rattle.pf_values.specs.declared.refusals.RefusalKind.{RefusalKind}
use Rattle.pf_values.specs.declared.refusals.RefusalKind.TheVariants.{Mixed, NulByte, TwoTypes}
use Rattle.pf_values.specs.meaning.Text.{Text, percent}
use Rattle.pf_posix.specs.declared.fetches.Fetch.{Fetch}
use Rattle.pf_posix.specs.declared.specifications.Numbering.{Numbering}
use Rattle.pf_posix.specs.Beginnings.{IsUndecided}
use Rattle.pf_posix.specs.Defined.{undefined_of}
use Rattle.pf_posix.specs.Items.{Byte, Errno, WholeItem, ReadsWhole, Specification, IsWholeReadAs, errno_letter, fetched}
use Rattle.pf_posix.specs.Readings.{conflicts}
use Rattle.pf_posix.specs.Refusals.{AreAgreed, Follows, IsGoodWholeFront, IsWholeRefusedByte, IsWrong, MayFollow, numbering_by, numbering_of}
use Rattle.pf_posix.specs.Specifications.{WholeSpecification, conversion_letter, modifier_letters}
use Rattle.pf_posix.specs.Spelling.{SpellsWhole}
use Rattle.pf_posix.specs.Types.{star_fetches, fetches}
use Rattle.pf_posix.proofs.Agreeing.{agreed_clear, agreed_follows, agreed_front, agreed_push, numbering_push}
use Rattle.pf_posix.proofs.Growing.{finishes, grows}
use Rattle.pf_posix.proofs.OneState.{never_empty, ends, shrinks}
use Rattle.pf_posix.proofs.OutcomeLemmas.{refused, refuses, HasNumber, end_back, end_forth, fetch_follows, follows_fetch, own_end, own_step, step_back, step_forth}
use Rattle.pf_posix.proofs.OutcomeLemmas.{unmixed, with_fetch, begins, completes}
use Rattle.pf_posix.proofs.Outcomes.{Begins, EndsOther, Ends, MayGoOn, Outcome, Refuses, ended, ends_errno, exceeds, fetched_on, finished, last_fetch, mixes, on_percent, begun}
use Rattle.pf_posix.proofs.Outcomes.{outcome, stepped, within}
use Rattle.pf_posix.proofs.PartStates.{begun_of, may_follow, may_go_on, state_of}
use Rattle.pf_posix.proofs.Steps.{IsStateAfter, Opened, Sign, StarDigits, State, finish, own_in, position_in, sign_of, step}
use Rattle.pf_values.specs.declared.limits.TheConstants.{MAX_TEXT_LEN}
use Rattle.pf_text.proofs.Texts.{split_last}

-- a text is read as items that fetch this
pub record Taken (model : Model) (t : Text) (seen : List Fetch) : Type 0 where
  pub items : List WholeItem
  pub reads : ReadsWhole t items
  pub seen_are : seen ≡ fetched model items
  pub agreed : AreAgreed seen
  pub limit : length t ≤ MAX_TEXT_LEN

pub reads_push : (whole first : Text) (items : List WholeItem) (item : WholeItem) → ReadsWhole whole items → IsWholeReadAs first item
    → ReadsWhole (whole ++ first) (items ++ item ∷ [])
reads_push whole first [] item h g = (first, [], g, refl, ap (λ w. w ++ first) h ∙ sym (append-nil first))
reads_push whole first (i ∷ items) item h g =
    (h.0, h.1 ++ first, h.2, reads_push h.1 first items item h.3 g, ap (λ w. w ++ first) h.4 ∙ append_assoc h.0 h.1 first)

pub fetched_append : (model : Model) (items more : List WholeItem) → fetched model (items ++ more) ≡ fetched model items ++ fetched model more
fetched_append model [] more = refl
fetched_append model (Byte c ∷ items) more = fetched_append model items more
fetched_append model (Errno ∷ items) more = fetched_append model items more
fetched_append model (Specification s ∷ items) more = ap (λ r. fetches model s ++ r) (fetched_append model items more)
    ∙ sym (append_assoc (fetches model s) (fetched model items) (fetched model more))

pub none_both : (t u : Text) → t ++ u ≡ [] → (t ≡ []) × (u ≡ [])
none_both [] u e = (refl, e)
none_both (b ∷ t) u e = cc

pub item_some : (t : Text) (item : WholeItem) → IsWholeReadAs t item → t ≢ []
item_some t (Byte b) h = go (b == percent) h where
  go : (c : Bool) → MatchBool c (t ≡ percent ∷ percent ∷ []) ((b ≢ 0) × (t ≡ b ∷ [])) → t ≢ []
  go true e = λ none. cc
  go false e = λ none. cc
item_some t Errno h = λ none. cc
item_some t (Specification s) h = λ none.
    omega (arith, ap length (sym none ∙ h.0.whole), length_push (h.0.before ++ modifier_letters s.modifier) (conversion_letter s.conversion))

-- a text ends in its last byte
abbrev IsPushed : Text → ℕ → Text → Text → Type 0
IsPushed front byte whole last = (less : Text) × (last ≡ less ++ byte ∷ []) × (front ≡ whole ++ less)

pushed : (front : Text) (byte : ℕ) (whole last : Text) → front ++ byte ∷ [] ≡ whole ++ last → last ≢ [] → IsPushed front byte whole last
pushed front byte whole last e some =
    let cut = split_last last some in
    let same = same_from_push front (whole ++ cut.0) byte cut.1 (e ∙ ap (λ u. whole ++ u) cut.2 ∙ sym (append_assoc whole cut.0 (cut.1 ∷ []))) in
    (cut.0, cut.2 ∙ ap (λ b. cut.0 ++ b ∷ []) (sym same.1), same.0)

-- the last item, with its text and what comes before it
abbrev HasLast : Text → List WholeItem → Type 0
HasLast t items = (earlier : List WholeItem) × (item : WholeItem) × (whole last : Text) × (items ≡ earlier ++ item ∷ []) × ReadsWhole whole earlier
    × IsWholeReadAs last item × (t ≡ whole ++ last)

last_item : (t : Text) (items : List WholeItem) → ReadsWhole t items → ((t ≡ []) × (items ≡ [])) ⊎ HasLast t items
last_item t [] h = inl (h, refl)
last_item t (i ∷ items) h = inr (go (last_item h.1 items h.3)) where
  go : ((h.1 ≡ []) × (items ≡ [])) ⊎ HasLast h.1 items → HasLast t (i ∷ items)
  go (inl e) = ([], i, [], h.0, ap (λ l. i ∷ l) e.1, refl, h.2, h.4 ∙ ap (λ u. h.0 ++ u) e.0 ∙ append-nil h.0)
  go (inr (earlier, item, whole, last, items_are, reads, spelled, split)) = (
    i ∷ earlier,
    item,
    h.0 ++ whole,
    last,
    ap (λ k. i ∷ k) items_are,
    (h.0, whole, h.2, reads, refl),
    spelled,
    h.4 ∙ ap (λ u. h.0 ++ u) split ∙ sym (append_assoc h.0 whole last),
  )

-- what one more byte makes of what was fetched and of a specification that has begun, if one has
pub data Next : Type 0 where
  Goes : (now : List Fetch) (to : Option State) → Next
  Halts : (kind : RefusalKind) → Next

abbrev pub next_of : List Fetch → Outcome → Next
next_of fetches (Begins to o) = Goes (with_fetch fetches o) (Some to)
next_of fetches (Ends s last) = Goes (fetches ++ last ∷ []) None
next_of fetches EndsOther = Goes fetches None
next_of fetches (Refuses kind) = Halts kind

abbrev pub next : Model → List Fetch → Option State → ℕ → Next
next model fetches None byte = if byte == 0 then Halts NulByte else Goes fetches (if byte == percent then Some Opened else None)
next model fetches (Some state) byte = next_of fetches (outcome model fetches state byte)

abbrev pub own_at : Option State → List Fetch
own_at None = []
own_at (Some state) = own_in state

abbrev pub IsPart : Numbering → Option State → Text → Type 0
IsPart numbering None part = part ≡ []
IsPart numbering (Some state) part = IsStateAfter state part × MayGoOn numbering state

-- a good front by its state, after what was fetched before it
pub record IsFrontIn (model : Model) (before : List Fetch) (front : Text) (fetches : List Fetch) (state : Option State) : Type 0 where
  pub items : List WholeItem
  pub whole : Text
  pub part : Text
  pub reads : ReadsWhole whole items
  pub split : front ≡ whole ++ part
  pub fetches_are : fetches ≡ before ++ fetched model items ++ own_at state
  pub agreed : AreAgreed fetches
  pub begun : IsPart (numbering_of fetches) state part

abbrev pub front_by : {model : Model} {before : List Fetch} {front : Text} {fetches : List Fetch} {state : Option State}
    → (items : List WholeItem) (whole part : Text)
    → ReadsWhole whole items → front ≡ whole ++ part → fetches ≡ before ++ fetched model items ++ own_at state → AreAgreed fetches
    → IsPart (numbering_of fetches) state part → IsFrontIn model before front fetches state
front_by items whole part reads split fetches_are agreed begun =
    record { items = items; whole = whole; part = part; reads = reads; split = split; fetches_are = fetches_are; agreed = agreed; begun = begun }

-- by its parts
pub state_there : (model : Model) (front : Text) (fetches : List Fetch) (part : Text) → IsGoodWholeFront model front fetches part
    → (state : Option State) × (good : IsFrontIn model [] front fetches state) × (good.part ≡ part)
state_there model front fetches part g = go g.begun where
  by : (state : Option State) → g.own ≡ own_at state → IsPart (numbering_of fetches) state part
      → (state : Option State) × (good : IsFrontIn model [] front fetches state) × (good.part ≡ part)
  by state own h =
      (state, front_by g.items g.whole part g.reads g.split (g.fetches_are ∙ ap (λ o. fetched model g.items ++ o) own) g.agreed h, refl)

  go : MayFollow (numbering_of fetches) part g.own → (state : Option State) × (good : IsFrontIn model [] front fetches state) × (good.part ≡ part)
  go (inl h) = by None h.1 h.0
  go (inr h) =
      let s = state_of part h.0 g.own h.1 in
      let follows = subst (λ p. IsUndecided part ⊎ Follows (numbering_of fetches) (Some (numbering_by p))) (sym s.position_is) h.2 in
      by (Some s.state) (sym s.own_is) (s.after, may_go_on s.state part (numbering_of fetches) s.after follows)

pub good_front : (model : Model) (front : Text) (fetches : List Fetch) (state : Option State) (g : IsFrontIn model [] front fetches state)
    → IsGoodWholeFront model front fetches g.part
good_front model front fetches state g = record {
  items = g.items;
  whole = g.whole;
  own = own_at state;
  reads = g.reads;
  split = g.split;
  fetches_are = g.fetches_are;
  agreed = g.agreed;
  begun = go state g.begun;
} where
  go : (state : Option State) → IsPart (numbering_of fetches) state g.part → MayFollow (numbering_of fetches) g.part (own_at state)
  go None h = inl (h, refl)
  go (Some state) h = inr (position_in state, begun_of state g.part h.0, may_follow state g.part (numbering_of fetches) h.0 h.1)

with_own : (seen own : List Fetch) (o : Option Fetch) → with_fetch (seen ++ own) o ≡ seen ++ with_fetch own o
with_own seen own None = refl
with_own seen own (Some f) = append_assoc seen own (f ∷ [])

with_last : (model : Model) (before : List Fetch) (items : List WholeItem) (s : WholeSpecification) (own : List Fetch)
    → own ≡ star_fetches s.width ++ star_fetches s.precision
    → before ++ (fetched model items ++ fetched model (Specification s ∷ [])) ≡ before ++ fetched model items ++ own ++ last_fetch model s ∷ []
with_last model before items s own e = rw e (grind (arith, append_assoc, append-nil))

star_numbered : (state : State) (part : Text) → IsStateAfter state part → HasNumber state
star_numbered (StarDigits place n) part h = h.4
star_numbered _ part h = tt

-- between two items nothing but NUL is rejected
never_whole : (byte : ℕ) (s : WholeSpecification) → SpellsWhole (byte ∷ []) s → ⊥
never_whole byte s h = let e = ends [] byte s h in never_empty e.state e.after

never_wrong : (model : Model) (fetches : List Fetch) (byte : ℕ) (kind : RefusalKind) → IsWrong model fetches [] byte kind → ⊥
never_wrong model fetches byte kind (inr (inr (inl h))) = never_whole byte h.0.s h.0.spelled
never_wrong model fetches byte kind (inr (inr (inr (inl (k, f, inr h, more))))) = never_whole byte h.0.s h.0.spelled
never_wrong model fetches byte kind (inr (inr (inr (inl (k, f, inl h, more))))) = let e = h.4.whole in grind arith
never_wrong model fetches byte kind (inr (inr (inr (inr h)))) = h.1.begun refl
never_wrong model fetches byte kind (inr (inl h)) = grind arith
never_wrong model fetches byte kind (inl h) = grind arith

-- before a byte with which more of a specification has begun
continues : (model : Model) (byte : ℕ) (f : List Fetch) (from to : State) → step from (sign_of byte) ≡ Some to → HasNumber from → (q : Option Fetch)
    → fetched_on (sign_of byte) from ≡ q → AreAgreed (with_fetch f q) → MayGoOn (numbering_of (with_fetch f q)) to
    → AreAgreed f × (MayGoOn (numbering_of f) from × (outcome model f from byte ≡ Begins to q))
continues model byte f from to e some q k = go q k where
  goes : (q : Option Fetch) → fetched_on (sign_of byte) from ≡ q → begun f to q ≡ Begins to q → MayGoOn (numbering_of f) to
      → MayGoOn (numbering_of f) from × (outcome model f from byte ≡ Begins to q)
  goes q k b h = (
    step_back (numbering_of f) from to (sign_of byte) e h,
    begins model f from byte (unmixed (numbering_of f) from to (sign_of byte) e h) to e ∙ ap (begun f to) k ∙ b,
  )

  go : (q : Option Fetch) → fetched_on (sign_of byte) from ≡ q → AreAgreed (with_fetch f q) → MayGoOn (numbering_of (with_fetch f q)) to
      → AreAgreed f × (MayGoOn (numbering_of f) from × (outcome model f from byte ≡ Begins to q))
  go None k agreed h = (agreed, goes None k refl h)
  go (Some x) k agreed h =
      let clear = agreed_clear f [] x agreed in
      let follows = follows_fetch (numbering_of f) from to (sign_of byte) e x k some (agreed_follows f [] x agreed) in
      (agreed_front f (x ∷ []) agreed, goes (Some x) k (rw clear refl) follows)

module _ (model : Model) (before : List Fetch) where
  pub front_none : AreAgreed before → IsFrontIn model before [] before None
  front_none agreed = front_by [] [] [] refl refl (sym (append-nil before) ∙ sym (append-nil (before ++ []))) agreed refl

  -- a good front, and one more byte
  module _ (front : Text) (fetches : List Fetch) (state : Option State) (byte : ℕ) (g : IsFrontIn model before front fetches state) where
    longer : (front ++ byte ∷ []) ≡ (g.whole ++ (g.part ++ byte ∷ []))
    longer = ap (λ f. f ++ byte ∷ []) g.split ∙ append_assoc g.whole g.part (byte ∷ [])

    abbrev pub Advances : Next → Type 0
    Advances (Goes now to) = IsFrontIn model before (front ++ byte ∷ []) now to
    Advances (Halts kind) = ⊤

    -- it ends an item
    with_item : (item : WholeItem) (now : List Fetch) → IsWholeReadAs (g.part ++ byte ∷ []) item
        → now ≡ before ++ (fetched model g.items ++ fetched model (item ∷ [])) → AreAgreed now → Advances (Goes now None)
    with_item item now spelled e agreed = front_by (g.items ++ item ∷ []) (g.whole ++ (g.part ++ byte ∷ [])) []
        (reads_push g.whole (g.part ++ byte ∷ []) g.items item g.reads spelled) (longer ∙ sym (append-nil _))
        (e ∙ ap (λ l. before ++ l) (sym (fetched_append model g.items (item ∷ []))) ∙ sym (append-nil _)) agreed refl

    -- it goes on
    with_part : (to : State) (o : Option Fetch) → IsStateAfter to (g.part ++ byte ∷ []) → own_in to ≡ with_fetch (own_at state) o
        → AreAgreed (with_fetch fetches o) → MayGoOn (numbering_of (with_fetch fetches o)) to → Advances (Goes (with_fetch fetches o) (Some to))
    with_part to o after own agreed follows = front_by g.items g.whole (g.part ++ byte ∷ []) g.reads longer
        (ap (λ l. with_fetch l o) g.fetches_are ∙ with_own (before ++ fetched model g.items) (own_at state) o
        ∙ ap (λ l. before ++ fetched model g.items ++ l) (sym own)) agreed (after, follows)

  -- a good front in a state
  module _ (front : Text) (fetches : List Fetch) (state : State) (byte : ℕ) (g : IsFrontIn model before front fetches (Some state)) where
    abbrev sign : Sign
    sign = sign_of byte

    abbrev numbering : Numbering
    numbering = numbering_of fetches

    abbrev Comes : Outcome → Type 0
    Comes o = Advances front fetches (Some state) byte g (next_of fetches o)

    doubled : (q : State) → state ≡ q → byte ≡ percent → Comes (on_percent q)
    doubled Opened e b = with_item front fetches (Some state) byte g (Byte percent) fetches
        (ap (λ u. u ++ byte ∷ []) (subst (λ q. IsStateAfter q g.part) e g.begun.0) ∙ ap (λ c. percent ∷ c ∷ []) b)
        (g.fetches_are ∙ ap (λ q. before ++ fetched model g.items ++ own_in q) e ∙ append_assoc before (fetched model g.items) []) g.agreed
    doubled _ e b = tt

    closed : (q : State) → state ≡ q → ends_errno q byte ≡ true → Comes EndsOther
    closed Opened e b = with_item front fetches (Some state) byte g Errno fetches
        (ap (λ u. u ++ byte ∷ []) (subst (λ q. IsStateAfter q g.part) e g.begun.0) ∙ ap (λ c. percent ∷ c ∷ []) (eqb-true byte errno_letter b))
        (g.fetches_are ∙ ap (λ q. before ++ fetched model g.items ++ own_in q) e ∙ append_assoc before (fetched model g.items) []) g.agreed
    closed _ e b = cc

    by_conflict : (f : Fetch) (o : Outcome) → (conflicts fetches f ≡ false → Comes o) → (b : Bool) → conflicts fetches f ≡ b
        → Comes (if b then Refuses TwoTypes else o)
    by_conflict f o clear true e = tt
    by_conflict f o clear false e = clear e

    module _ (m : mixes state numbering sign ≡ false) where
      by_fetch : (to : State) → step state sign ≡ Some to → (o : Option Fetch) → fetched_on sign state ≡ o → Comes (begun fetches to o)
      by_fetch to e None k = with_part front fetches (Some state) byte g to None (grows state to g.part byte g.begun.0 e)
          (own_step state to sign e ∙ ap (with_fetch (own_in state)) k) g.agreed (step_forth numbering state to sign e g.begun.1 m)
      by_fetch to e (Some f) k = by_conflict f (Begins to (Some f)) (λ clear.
          let some = star_numbered state g.part g.begun.0 in
          let follows = fetch_follows numbering state to sign e f k some (step_forth numbering state to sign e g.begun.1 m) in
          with_part front fetches (Some state) byte g to (Some f) (grows state to g.part byte g.begun.0 e)
          (own_step state to sign e ∙ ap (with_fetch (own_in state)) k) (agreed_push fetches f g.agreed follows clear)
          (follows_fetch (numbering_of (fetches ++ f ∷ [])) state to sign e f k some (inr (numbering_push fetches f follows)))) (conflicts fetches f) refl

      by_defined : (s : WholeSpecification) → finish state sign ≡ Some s → (o : Option RefusalKind) → undefined_of s ≡ o → Comes (ended model fetches s o)
      by_defined s e None d = by_conflict (last_fetch model s) (Ends s (last_fetch model s)) (λ clear.
          with_item front fetches (Some state) byte g (Specification s) (fetches ++ last_fetch model s ∷ []) (finishes state g.part byte s g.begun.0 e, d)
          (ap (λ l. l ++ last_fetch model s ∷ []) g.fetches_are ∙ sym (with_last model before g.items s (own_in state) (own_end state sign s e)))
          (agreed_push fetches (last_fetch model s) g.agreed (end_forth state sign s e numbering g.begun.1 m) clear))
          (conflicts fetches (last_fetch model s)) refl
      by_defined s e (Some kind) d = tt

      by_end : (o : Option WholeSpecification) → finish state sign ≡ o → Comes (finished model fetches o)
      by_end None e = tt
      by_end (Some s) e = by_defined s e (undefined_of s) refl

      by_step : (o : Option State) → step state sign ≡ o → Comes (stepped model fetches state sign o)
      by_step None e = by_end (finish state sign) refl
      by_step (Some to) e = by_fetch to e (fetched_on sign state) refl

    by_tests : (nul percents errno mixed : Bool) (o : Option RefusalKind) → (byte == percent) ≡ percents → ends_errno state byte ≡ errno
        → mixes state numbering sign ≡ mixed
        → Comes (if nul then Refuses NulByte else (if percents then on_percent state else (if errno then EndsOther else
        (if mixed then Refuses Mixed else within model fetches state sign o))))
    by_tests false true errno mixed o p q m = doubled state refl (eqb-true byte percent p)
    by_tests false false true mixed o p q m = closed state refl q
    by_tests false false false false None p q m = by_step m (step state sign) refl
    by_tests _ _ _ _ o p q m = tt

  -- what the next byte makes of a good front is good
  pub advance : (front : Text) (fetches : List Fetch) (state : Option State) (byte : ℕ) (g : IsFrontIn model before front fetches state)
      → Advances front fetches state byte g (next model fetches state byte)
  advance front fetches (Some state) byte g = by_tests front fetches state byte g (byte == 0) (byte == percent) (ends_errno state byte)
      (mixes state (numbering_of fetches) (sign_of byte))
      (exceeds state (sign_of byte)) refl refl refl
  advance front fetches None byte g = go (byte == 0) (byte == percent) refl refl where
    part_is : g.part ++ byte ∷ [] ≡ byte ∷ []
    part_is = ap (λ u. u ++ byte ∷ []) g.begun

    go : (nul percents : Bool) → (byte == 0) ≡ nul → (byte == percent) ≡ percents
        → Advances front fetches None byte g (if nul then Halts NulByte else Goes fetches (if percents then Some Opened else None))
    go true percents e p = tt
    go false true e p = with_part front fetches None byte g Opened None (part_is ∙ ap (λ c. c ∷ []) (eqb-true byte percent p)) refl g.agreed tt
    go false false e p = with_item front fetches None byte g (Byte byte) fetches (rw p (eqb-false byte 0 e, part_is))
        (g.fetches_are ∙ append_assoc before (fetched model g.items) []) g.agreed

  pub front_empty : (fetches : List Fetch) (state : Option State) → IsFrontIn model before [] fetches state → (fetches ≡ before) × (state ≡ None)
  front_empty fetches (Some state) g = absurd (never_empty state (subst (IsStateAfter state) (none_both g.whole g.part (sym g.split)).1 g.begun.0))
  front_empty fetches None g = (go (last_item g.whole g.items g.reads), refl) where
    go : ((g.whole ≡ []) × (g.items ≡ [])) ⊎ HasLast g.whole g.items → fetches ≡ before
    go (inl e) = g.fetches_are ∙ ap (λ l. before ++ fetched model l ++ []) e.1 ∙ append-nil _ ∙ append-nil before
    go (inr l) = absurd (item_some l.3 l.1 l.6 (none_both l.2 l.3 (sym l.7 ∙ (none_both g.whole g.part (sym g.split)).0)).1)

  -- what came before the last byte of a good front
  abbrev pub Retreats : Text → ℕ → List Fetch → Option State → Type 0
  Retreats front byte now to = (fetches : List Fetch) × (state : Option State) × IsFrontIn model before front fetches state
      × (next model fetches state byte ≡ Goes now to)

  retreat_part : (front : Text) (byte : ℕ) (now : List Fetch) (to : State) → IsFrontIn model before (front ++ byte ∷ []) now (Some to)
      → Retreats front byte now (Some to)
  retreat_part front byte now to g = go (pushed front byte g.whole g.part g.split (λ none. never_empty to (subst (IsStateAfter to) none g.begun.0))) where
    go : IsPushed front byte g.whole g.part → Retreats front byte now (Some to)
    go (less, part_is, front_is) = elim (shrinks to less byte (subst (IsStateAfter to) part_is g.begun.0)) [
      | inl h ↦ (
        now,
        None,
        front_by g.items g.whole [] g.reads (front_is ∙ ap (λ u. g.whole ++ u) h.0)
            (g.fetches_are ∙ ap (λ q. before ++ fetched model g.items ++ own_in q) h.2) g.agreed refl,
        ap (next model now None) h.1 ∙ ap (λ q. Goes now (Some q)) (sym h.2),
      )
      | inr h ↦
          let seen = before ++ fetched model g.items in
          let f = seen ++ own_in h.state in
          let q = fetched_on (sign_of byte) h.state in
          let same : now ≡ with_fetch f q = g.fetches_are ∙ ap (λ l. seen ++ l) (own_step h.state to (sign_of byte) h.goes)
          ∙ sym (with_own seen (own_in h.state) q) in
          let c = continues model byte f h.state to h.goes (star_numbered h.state less h.after) q refl (subst AreAgreed same g.agreed)
          (subst (λ l. MayGoOn (numbering_of l) to) same g.begun.1) in (
            f,
            Some h.state,
            front_by g.items g.whole less g.reads front_is refl c.0 (h.after, c.1.0),
            ap (next_of f) c.1.1
                ∙ ap (λ l. Goes l (Some to)) (sym same),
          )
    ]

  module _ (front : Text) (byte : ℕ) (now : List Fetch) (g : IsFrontIn model before (front ++ byte ∷ []) now None) where
    whole_is : front ++ byte ∷ [] ≡ g.whole
    whole_is = g.split ∙ ap (λ u. g.whole ++ u) g.begun ∙ append-nil g.whole

    module _ (earlier : List WholeItem) (whole last less : Text) (reads : ReadsWhole whole earlier) (last_is : last ≡ less ++ byte ∷ [])
        (front_is : front ≡ whole ++ less) where
      now_is : (item : WholeItem) → g.items ≡ earlier ++ item ∷ [] → now ≡ before ++ (fetched model earlier ++ fetched model (item ∷ []))
      now_is item e = g.fetches_are ∙ append-nil _ ∙ ap (λ k. before ++ fetched model k) e ∙ ap (λ k. before ++ k) (fetched_append model earlier (item ∷ []))

      by_byte : (b : ℕ) (item : WholeItem) → fetched model (item ∷ []) ≡ [] → g.items ≡ earlier ++ item ∷ [] → (state : Option State) (part : Text)
          → last ≡ part ++ b ∷ [] → own_at state ≡ []
          → ((numbering : Numbering) → IsPart numbering state part) → ((f : List Fetch) → next model f state b ≡ Goes f None) → Retreats front byte now None
      by_byte b item none e state part is own begun goes =
          let same = same_from_push part less b byte (sym is ∙ last_is) in (
            now,
            state,
            front_by earlier whole part reads (front_is ∙ ap (λ u. whole ++ u) (sym same.0))
                (now_is item e ∙ ap (λ l. before ++ (fetched model earlier ++ l)) none ∙ sym (append_assoc before (fetched model earlier) [])
                ∙ ap (λ o. before ++ fetched model earlier ++ o) (sym own))
                g.agreed (begun (numbering_of now)),
            ap (next model now state) (sym same.1) ∙ goes now,
          )

      by_item : (item : WholeItem) → g.items ≡ earlier ++ item ∷ [] → IsWholeReadAs last item → Retreats front byte now None
      by_item (Byte b) e h = by_percent (b == percent) refl h where
        by_percent : (c : Bool) → (b == percent) ≡ c → MatchBool c (last ≡ percent ∷ percent ∷ []) ((b ≢ 0) × (last ≡ b ∷ [])) → Retreats front byte now None
        by_percent true c h = by_byte b (Byte b) refl e (Some Opened) (percent ∷ [])
            (h ∙ ap (λ k. percent ∷ k ∷ []) (sym (eqb-true b percent c))) refl (λ n. (refl, tt))
            (λ f. ap (next model f (Some Opened)) (eqb-true b percent c))
        by_percent false c h = let some = ne_eqb b 0 h.0 in by_byte b (Byte b) refl e None [] h.1 refl (λ n. refl) (λ f. rw (some, c) refl)
      by_item Errno e h = by_byte errno_letter Errno refl e (Some Opened) (percent ∷ []) h refl (λ n. (refl, tt)) (λ f. refl)
      by_item (Specification s) e h =
          let end = ends less byte s (subst (λ u. SpellsWhole u s) last_is h.0) in
          let ending = last_fetch model s in
          let f = before ++ fetched model earlier ++ own_in end.state in
          let same : now ≡ f ++ ending ∷ [] = now_is (Specification s) e
          ∙ with_last model before earlier s (own_in end.state) (own_end end.state (sign_of byte) s end.goes) in
          let agreed = subst AreAgreed same g.agreed in
          let back = end_back end.state (sign_of byte) s end.goes (numbering_of f) (agreed_follows f [] ending agreed) in
          let clear = agreed_clear f [] ending agreed in
          let now_ended : ended model f s None ≡ Ends s ending = rw clear refl in (
            f,
            Some end.state,
            front_by earlier whole less reads front_is refl (agreed_front f (ending ∷ []) agreed) (end.after, back.1),
            ap (next_of f) (completes model f end.state byte back.0 s end.goes ∙ ap (ended model f s) h.1 ∙ now_ended) ∙ ap (λ k. Goes k None) (sym same),
          )

    retreat_item : ((g.whole ≡ []) × (g.items ≡ [])) ⊎ HasLast g.whole g.items → Retreats front byte now None
    retreat_item (inl none) = absurd (omega (arith, length_push front byte, ap length (whole_is ∙ none.0)))
    retreat_item (inr (earlier, item, whole, last, items_are, reads, spelled, split)) =
        let cut = pushed front byte whole last (whole_is ∙ split) (item_some last item spelled) in
        by_item earlier whole last cut.0 reads cut.1 cut.2 item items_are spelled

  pub retreat : (front : Text) (byte : ℕ) (now : List Fetch) (to : Option State) → IsFrontIn model before (front ++ byte ∷ []) now to
      → Retreats front byte now to
  retreat front byte now None g = retreat_item front byte now g (last_item g.whole g.items g.reads)
  retreat front byte now (Some to) g = retreat_part front byte now to g

  -- a byte is rejected where it can't follow
  pub halts : (front : Text) (fetches : List Fetch) (state : Option State) (byte : ℕ) (kind : RefusalKind) (g : IsFrontIn model before front fetches state)
      → next model fetches state byte ≡ Halts kind → IsWholeRefusedByte model fetches g.part byte kind
  halts front fetches (Some state) byte kind g e = refuses model fetches g.part state byte kind g.begun.0 g.begun.1
      (go (outcome model fetches state byte) e) where
        go : (o : Outcome) → next_of fetches o ≡ Halts kind → o ≡ Refuses kind
        go o e = grind arith
  halts front fetches None byte kind g e = grind arith

  pub halted : (front : Text) (fetches : List Fetch) (state : Option State) (byte : ℕ) (kind : RefusalKind) (g : IsFrontIn model before front fetches state)
      → IsWholeRefusedByte model fetches g.part byte kind → next model fetches state byte ≡ Halts kind
  halted front fetches (Some state) byte kind g r = ap (next_of fetches) (refused model fetches g.part state byte kind g.begun.0 r)
  halted front fetches None byte kind g r = none g.part g.begun r where
    none : (part : Text) → part ≡ [] → IsWholeRefusedByte model fetches part byte kind → next model fetches None byte ≡ Halts kind
    none part e r = grind (arith, never_wrong model fetches byte kind)
