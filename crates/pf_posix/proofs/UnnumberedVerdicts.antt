-- Texts in which no argument may have a number. They are read as if a specification without numbers came before: a `$`
-- after a first number is then rejected as Mixed, and everything other than that is as ever.
use Rattle.std.proofs.Common.{◌≡◌, ℕ, ◌<◌, ◌≤◌, Bool, true, false, List, [], ◌∷◌, ◌++◌, length, refl, sym, ap, ◌∙◌, arith, subst, inl, inr, ◌≢◌, ◌+◌, drop, get_or}
use Rattle.std.proofs.Common.{take}
use Rattle.std.specs.Prelude.{Option, Some, None, ◌⊎◌, ◌==◌, if◌then◌else◌}
use Rattle.std.specs.List.{AllByRecursion}
use Rattle.std.proofs.lemmas.Bool.Decides.{nat_tests}
use Rattle.std.proofs.lemmas.List.{append-nil, drop_all, drop_more, take-take, get_or-take, get_or_past, take-append-drop, length-take, length-take-le}
use Rattle.pf_values.specs.declared.limits.TheConstants.{MAX_TEXT_LEN}
use Rattle.pf_values.specs.declared.models.Model.{Model}
use Rattle.pf_values.specs.declared.refusals.RefusalKind.{RefusalKind}
use Rattle.pf_values.specs.declared.refusals.RefusalKind.TheVariants.{Mixed, Numbered, TooLong, NulByte, Truncated}
use Rattle.pf_values.specs.meaning.Text.{Text, dollar, percent}
use Rattle.pf_posix.specs.declared.fetches.Fetch.{Fetch}
use Rattle.pf_posix.specs.declared.specifications.Numbering.{Numbering}
use Rattle.pf_posix.specs.declared.specifications.Numbering.TheVariants.{Undecided, Unnumbered}
use Rattle.pf_posix.specs.Items.{Byte, Errno, WholeItem, ReadsWhole, Specification, fetched}
use Rattle.pf_posix.specs.Refusals.{IsWholeRefusedAt, numbering_by, numbering_of}
use Rattle.pf_posix.specs.Stretches.{IsUnnumberedAccepted, whole_types}
use Rattle.pf_posix.specs.Types.{conversion_type, fetch, fetches, int_type, star_fetches}
use Rattle.pf_posix.specs.Unnumbered.{IsJudged, IsNumberedAt, IsUnnumbered, IsUnnumberedRefusedAt, IsReadUnnumbered}
use Rattle.pf_posix.proofs.Agreeing.{all_back, all_front, all_map, without_number}
use Rattle.pf_posix.proofs.Bounds.{all_append}
use Rattle.pf_posix.proofs.FrontRefusals.{agreed_plain, begun_numbering, undecided_own}
use Rattle.pf_posix.proofs.GoodFronts.{IsFrontIn, IsPart, front_by, next, next_of, own_at, Halts}
use Rattle.pf_posix.proofs.KeptTypes.{accepted_there, types_are_kept, items_free}
use Rattle.pf_posix.proofs.Unique.{numbered_kind, never_both, one_refusal, IsStopped, Stop, below_full, ends_or_halts, front_read, halts_at, is_end, kind_of}
use Rattle.pf_posix.proofs.Unique.{not_before, not_full, reached, refused_there, said, stop, stop_from, stops_there, whole_stop}
use Rattle.pf_posix.proofs.Narrowed.{accepted_here}
use Rattle.pf_posix.proofs.Outcomes.{MayGoOn, Outcome, begun, outcome}
use Rattle.pf_posix.proofs.Steps.{Dollar, First, Sign, State, sign_of, own_in}
use Rattle.pf_posix.proofs.LetterLemmas.{dollar_of}
use Rattle.std.proofs.lemmas.Bool.{cases_lt, cases_eq, eq-eqb, false_from_ne_true, ne_eqb}
use Rattle.pf_values.specs.meaning.Items.{Byte as ReadByte}
use Rattle.pf_text.specs.FoundDirectives.{BeginsNoItem}
use Rattle.pf_text.specs.declared.refusals.Refusal.{Refusal}
use Rattle.pf_text.specs.Offsets.{HasBytes}
use Rattle.pf_text.proofs.SpecificationLemmas.{bytes_none}
use Rattle.pf_posix.specs.Beginnings.{IsUndecided}
use Rattle.pf_posix.specs.Endings.{numbered_instead, refusal_of_long}
use Rattle.pf_posix.specs.Halts.{FollowsBy, IsHalt}
use Rattle.pf_posix.proofs.OutcomeLemmas.{refused}
use Rattle.pf_posix.proofs.PartStates.{StateOf, may_go_on, state_of}

-- an argument without a number, as if one came before
abbrev pub first_one : Fetch
first_one = fetch None int_type

abbrev pub ahead : List Fetch
ahead = first_one ∷ []

abbrev pub AreFree : List Fetch → Type 0
AreFree seen = AllByRecursion (λ f. f.number ≡ None) seen

-- items that fetch by no number have none
free_items : (model : Model) (items : List WholeItem) → AreFree (fetched model items) → AllByRecursion IsUnnumbered items
free_items model [] h = tt
free_items model (Byte byte ∷ items) h = (tt, free_items model items h)
free_items model (Errno ∷ items) h = (tt, free_items model items h)
free_items model (Specification s ∷ items) h =
    let own = all_front (λ f. f.number ≡ None) (fetches model s) (fetched model items) h in (
      (all_back (λ f. f.number ≡ None) (star_fetches s.width ++ star_fetches s.precision)
          (fetch s.position (conversion_type model s.modifier s.conversion) ∷ []) own).0,
      free_items model items (all_back (λ f. f.number ≡ None) (fetches model s) (fetched model items) h),
    )

-- what goes on after such specifications
still_on : (state : State) (numbering : Numbering) → (numbering ≡ Undecided) ⊎ (numbering ≡ Unnumbered) → MayGoOn Unnumbered state → MayGoOn numbering state
still_on state numbering free h = grind arith

-- the `$` after a first number
abbrev pub is_dollar : Option State → Sign → Bool
is_dollar (Some (First n)) Dollar = true
is_dollar _ sign = false

pub unnumbered_none : (o : Option ℕ) → numbering_by o ≡ Unnumbered → o ≡ None
unnumbered_none o e = grind arith

free_numbering : (seen : List Fetch) → AreFree seen → (numbering_of seen ≡ Undecided) ⊎ (numbering_of seen ≡ Unnumbered)
free_numbering [] h = inl refl
free_numbering (f ∷ seen) h = inr (ap numbering_by h.0)

-- a byte that isn't one is rejected as ever
same_outcome : (model : Model) (rest : List Fetch) (state : State) (byte : ℕ) → (numbering_of rest ≡ Undecided) ⊎ (numbering_of rest ≡ Unnumbered)
    → is_dollar (Some state) (sign_of byte) ≡ false → outcome model (first_one ∷ rest) state byte ≡ outcome model rest state byte
same_outcome model rest state byte free other = grind arith

same_kind : (model : Model) (rest : List Fetch) (state : Option State) (byte : ℕ) → AreFree rest → is_dollar state (sign_of byte) ≡ false
    → kind_of (next model (first_one ∷ rest) state byte) ≡ kind_of (next model rest state byte)
same_kind model rest None byte free other = grind arith
same_kind model rest (Some state) byte free other =
    ap (λ o. kind_of (next_of (first_one ∷ rest) o)) (same_outcome model rest state byte (free_numbering rest free) other)
    ∙ go (outcome model rest state byte) where
      go : (o : Outcome) → kind_of (next_of (first_one ∷ rest) o) ≡ kind_of (next_of rest o)
      go o = grind arith

-- a `$` numbers an argument where a text stops
abbrev pub numbers_at : ℕ → Option State → Text → Bool
numbers_at at state [] = false
numbers_at at state (byte ∷ rest) = if at == MAX_TEXT_LEN then false else is_dollar state (sign_of byte)

pub dollar_found : (b : Bool) (state : Option State) (sign : Sign) → (if b then false else is_dollar state sign) ≡ true
    → (b ≡ false) × (sign ≡ Dollar) × (n : ℕ) × (state ≡ Some (First n))
dollar_found false (Some (First n)) Dollar h = (refl, refl, n, refl)
dollar_found true state sign h = cc
dollar_found false _ sign h = cc

module _ (model : Model) where
  -- the front of a text, with items that aren't numbered
  abbrev pub plain_front : (front whole part : Text) (items : List WholeItem) (state : Option State) → ReadsWhole whole items
      → AllByRecursion IsUnnumbered items
      → front ≡ whole ++ part → AreFree (own_at state) → IsPart Unnumbered state part
      → IsFrontIn model ahead front (first_one ∷ (fetched model items ++ own_at state)) state
  plain_front front whole part items state reads unnumbered split own begun = front_by items whole part reads split refl
      (agreed_plain _ (refl, all_append (λ f. f.number ≡ None) (fetched model items) (own_at state) (items_free model whole items reads unnumbered) own)) begun

  -- what was fetched in one
  module _ (front : Text) (fetches : List Fetch) (state : Option State) (g : IsFrontIn model ahead front fetches state) where
    abbrev behind : List Fetch
    behind = fetched model g.items ++ own_at state

    behind_free : AreFree behind
    behind_free = all_map (λ f. numbering_by f.number ≡ Unnumbered) _ behind (λ f. unnumbered_none f.number)
        (subst (λ l. AllByRecursion (λ f. numbering_by f.number ≡ numbering_of l) l) g.fetches_are g.agreed.one_numbering).1

    items_plain : AllByRecursion IsUnnumbered g.items
    items_plain = free_items model g.items (all_front (λ f. f.number ≡ None) (fetched model g.items) (own_at state) behind_free)

    -- the same front, where arguments may have numbers
    as_ever : IsFrontIn model [] front behind state
    as_ever = front_by g.items g.whole g.part g.reads g.split refl (agreed_plain behind behind_free)
        (go state (subst (λ l. IsPart (numbering_of l) state g.part) g.fetches_are g.begun)) where
          go : (state : Option State) → IsPart Unnumbered state g.part → IsPart (numbering_of behind) state g.part
          go None h = h
          go (Some q) h = (h.0, still_on q (numbering_of behind) (free_numbering behind behind_free) h.1)

  module _ (t : Text) where
    -- up to a `$` that numbers an argument, both as ever and as if one came before
    module _ (at : ℕ) (h : IsNumberedAt t at) where
      abbrev base : Text
      base = h.whole ++ percent ∷ h.digits

      abbrev seen : List Fetch
      seen = fetched model h.items ++ []

      abbrev dollar_front : IsFrontIn model ahead base (first_one ∷ seen) (Some (First h.n))
      dollar_front = plain_front base h.whole (percent ∷ h.digits) h.items (Some (First h.n)) h.reads h.unnumbered refl tt ((h.digits, h.number, refl), tt)

      -- it stops there
      numbered_stop : stop_from model t 0 ahead None ≡ stop at (first_one ∷ seen) (Some (First h.n)) (dollar ∷ h.rest)
      numbered_stop =
          let room = not_full at h.limit in
          stops_there model ahead t (stop at (first_one ∷ seen) (Some (First h.n)) (dollar ∷ h.rest)) Mixed
          (record { front = base; split = h.split; offset = h.offset; limit = omega (arith, h.limit); good = dollar_front; halts = rw room refl })

      -- and as ever no earlier
      no_earlier : (kind : RefusalKind) (place : ℕ) → IsWholeRefusedAt model t kind place → ¬ (place < at)
      no_earlier kind place r = λ less.
          let q = said model t kind place r in
          let there : stop place q.0 q.1 q.2 ≡ stop_from model (dollar ∷ h.rest) at seen (Some (First h.n)) =
          sym (stops_there model [] t _ kind q.3) ∙ ap (λ u. stop_from model u 0 [] None) h.split
          ∙ reached model [] at base (dollar ∷ h.rest) _ (Some (First h.n)) (sym h.offset) (omega (arith, h.limit))
          (as_ever base _ (Some (First h.n)) dollar_front) in
          omega (arith, less, ap Stop.at there, not_before model (dollar ∷ h.rest) at seen (Some (First h.n)))

    -- where it stops, as if one came before
    module _ (s : Stop) (kind : RefusalKind) (h : IsStopped model ahead t s kind) where
      abbrev more : List Fetch
      more = behind h.front s.fetches s.state h.good

      -- at a `$` that numbers an argument
      numbered_there : (rest : Text) → t ≡ h.front ++ rest → numbers_at s.at s.state rest ≡ true → IsNumberedAt t s.at
      numbered_there [] whole n = cc
      numbered_there (byte ∷ rest) whole n =
          let d = dollar_found (s.at == MAX_TEXT_LEN) s.state (sign_of byte) n in
          let begun = subst (λ o. IsPart (numbering_of s.fetches) o h.good.part) d.3 h.good.begun in
          let base : h.front ≡ h.good.whole ++ percent ∷ begun.0.0 = h.good.split ∙ ap (λ u. h.good.whole ++ u) begun.0.2 in
          record {
            whole = h.good.whole;
            digits = begun.0.0;
            rest = rest;
            items = h.good.items;
            n = d.2;
            reads = h.good.reads;
            unnumbered = items_plain h.front s.fetches s.state h.good;
            number = begun.0.1;
            split = whole ∙ ap (λ b. h.front ++ b ∷ rest) (dollar_of byte d.1) ∙ ap (λ u. u ++ dollar ∷ rest) base;
            offset = h.offset ∙ ap length base;
            limit = below_full s.at h.limit d.0;
          }

      -- everything other than that is as ever
      halts_ever : (rest : Text) (q : Option State) → halts_at model rest s.at (first_one ∷ more) q ≡ Some kind → numbers_at s.at q rest ≡ false
          → halts_at model rest s.at more q ≡ Some kind
      halts_ever [] q e other = grind arith
      halts_ever (byte ∷ rest) q e other = go (s.at == MAX_TEXT_LEN) e other where
        go : (full : Bool) → (if full then Some TooLong else kind_of (next model (first_one ∷ more) q byte)) ≡ Some kind
            → (if full then false else is_dollar q (sign_of byte)) ≡ false → (if full then Some TooLong else kind_of (next model more q byte)) ≡ Some kind
        go true e other = e
        go false e other = sym (same_kind model more q byte (behind_free h.front s.fetches s.state h.good) other) ∙ e

      as_there : (kind : RefusalKind) → IsWholeRefusedAt model t kind s.at → ((place : ℕ) → IsNumberedAt t place → s.at < place)
          → IsUnnumberedRefusedAt model t kind s.at
      as_there Numbered r first = absurd ((numbered_kind model t Numbered s.at r).1 refl)
      as_there kind r first = (r, first)

      pub ends_refused : is_end s.state s.rest ≡ false → IsUnnumberedRefusedAt model t (if numbers_at s.at s.state s.rest then Numbered else kind) s.at
      ends_refused w = go (numbers_at s.at s.state s.rest) refl where
        first : numbers_at s.at s.state s.rest ≡ false → (place : ℕ) → IsNumberedAt t place → s.at < place
        first other place n =
            let room = not_full place n.limit in
            let same = sym (stops_there model ahead t s kind h) ∙ numbered_stop place n in
            let numbered : numbers_at s.at s.state s.rest ≡ true = ap (λ s. numbers_at (Stop.at s) (Stop.state s) (Stop.rest s)) same ∙ rw room refl in
            let no : true ≡ false = sym numbered ∙ other in cc

        go : (b : Bool) → numbers_at s.at s.state s.rest ≡ b → IsUnnumberedRefusedAt model t (if b then Numbered else kind) s.at
        go true n = let there = numbered_there s.rest h.split n in (there, no_earlier s.at there)
        go false n = as_there kind (refused_there model t (stop s.at more s.state s.rest) kind (record {
          front = h.front;
          split = h.split;
          offset = h.offset;
          limit = h.limit;
          good = as_ever h.front s.fetches s.state h.good;
          halts = halts_ever s.rest s.state (subst (λ l. halts_at model s.rest s.at l s.state ≡ Some kind) h.good.fetches_are h.halts) n;
        }) (λ whole. let no : true ≡ false = sym whole ∙ w in cc)) (first n)

    accepted_or_refused : IsUnnumberedAccepted t ⊎ ((kind : RefusalKind) × (at : ℕ) × IsUnnumberedRefusedAt model t kind at)
    accepted_or_refused = elim (ends_or_halts model ahead t (agreed_plain ahead (refl, tt))) [
      | inl (fetches, g, limit) ↦ inl (accepted_here t
          (record { items = g.items; reads = front_read g; unnumbered = items_plain t fetches None g; limit = limit }))
      | inr (s, kind, h, other) ↦ inr (_, s.at, ends_refused s kind h other)
    ]

    -- the two ways of a refusal
    abbrev IsEither : RefusalKind → ℕ → Type 0
    IsEither kind at = ((kind ≡ Numbered) × IsNumberedAt t at × ((k : RefusalKind) (other : ℕ) → IsWholeRefusedAt model t k other → ¬ (other < at)))
        ⊎ (IsWholeRefusedAt model t kind at × ((other : ℕ) → IsNumberedAt t other → at < other))

    either : (kind : RefusalKind) (at : ℕ) → IsUnnumberedRefusedAt model t kind at → IsEither kind at
    either Numbered at h = inl (refl, h.0, h.1)
    either kind at h = inr h

    not_accepted : (kind : RefusalKind) (at : ℕ) → IsUnnumberedRefusedAt model t kind at → ¬ IsUnnumberedAccepted t
    not_accepted kind at h a = go (either kind at h) where
      go : IsEither kind at → ⊥
      go (inl n) =
          let h = accepted_there t a in
          let whole = whole_stop model ahead t _ (plain_front t t [] h.items None h.reads h.unnumbered (sym (append-nil t)) tt refl) h.limit in
          let no : [] ≡ dollar ∷ n.1.rest = ap Stop.rest (sym whole ∙ numbered_stop at n.1) in cc
      go (inr r) = never_both model t (whole_types model a.stretches) kind at (types_are_kept model t a.stretches a.reads a.limit) r.0

    pub judged : IsJudged model t
    judged = (accepted_or_refused, not_accepted)

    pub refused_whole_once : (kind other : RefusalKind) (p q : ℕ) → IsUnnumberedRefusedAt model t kind p → IsUnnumberedRefusedAt model t other q
        → (kind ≡ other) × (p ≡ q)
    refused_whole_once kind other p q h k = go (either kind p h) (either other q k) where
      go : IsEither kind p → IsEither other q → (kind ≡ other) × (p ≡ q)
      go (inl a) (inl b) = (a.0 ∙ sym b.0, ap Stop.at (sym (numbered_stop p a.1) ∙ numbered_stop q b.1))
      go (inl a) (inr b) = absurd (a.2 other q b.0 (b.1 p a.1))
      go (inr a) (inl b) = absurd (b.2 kind p a.0 (a.1 q b.1))
      go (inr a) (inr b) = one_refusal model t kind other p q a.0 b.0

-- bytes of the front up to the limit are those of the text
bytes_whole : (t : Text) (start stop : ℕ) (bytes : Text) → HasBytes (take MAX_TEXT_LEN t) start stop bytes → HasBytes t start stop bytes
bytes_whole t start stop bytes h =
    let few : stop ≤ MAX_TEXT_LEN = omega (arith, h.within, length-take MAX_TEXT_LEN t) in
    record {
      from = h.from;
      within = omega (arith, h.within, length-take MAX_TEXT_LEN t);
      whole = sym (take-take stop MAX_TEXT_LEN t few) ∙ h.whole ∙ ap (λ u. u ++ bytes) (take-take start MAX_TEXT_LEN t (omega (arith, few, h.from)));
    }

-- what is said of a text that may be longer than the limit
module _ (t : Text) (made : Refusal) where
  lasting : made.at < MAX_TEXT_LEN ⊎ length t ≤ MAX_TEXT_LEN → refusal_of_long t made ≡ made
  lasting h = grind (arith, nat_tests)

  cut : MAX_TEXT_LEN < length t → MAX_TEXT_LEN ≤ made.at → refusal_of_long t made ≡ record { kind = TooLong; at = MAX_TEXT_LEN }
  cut more past = grind (arith, nat_tests)

-- where no specification begins
module _ (model : Model) (t : Text) (at : ℕ) (within : at ≤ length t) (front : IsUnnumberedAccepted (take at t)) where
  abbrev before : IsReadUnnumbered (take at t)
  before = accepted_there (take at t) front

  -- after them, and the beginning of one more, if there is one
  stopped_at : (place : ℕ) (part rest : Text) (state : Option State) → HasBytes t at place part → place ≤ MAX_TEXT_LEN → AreFree (own_at state)
      → IsPart Unnumbered state part → drop place t ≡ rest → (kind : RefusalKind)
      → halts_at model rest place (first_one ∷ (fetched model before.items ++ own_at state)) state ≡ Some kind → is_end state rest ≡ false
      → IsUnnumberedRefusedAt model t (if numbers_at place state rest then Numbered else kind) place
  stopped_at place part rest state bytes few own begun e kind halts w = ends_refused model t (stop place _ state rest) kind (record {
    front = take place t;
    split = sym (take-append-drop place t) ∙ ap (λ u. take place t ++ u) e;
    offset = sym (length-take-le place t bytes.within);
    limit = few;
    good = plain_front model (take place t) (take at t) part before.items state before.reads before.unnumbered bytes.whole own begun;
    halts = halts;
  }) w

  begins_here : at < length t → (byte : ℕ) → get_or t at 0 ≡ byte → (kind : RefusalKind)
      → halts_at model (byte ∷ drop (at + 1) t) at (first_one ∷ (fetched model before.items ++ [])) None ≡ Some kind → IsUnnumberedRefusedAt model t kind at
  begins_here less byte e kind h = subst (λ b. IsUnnumberedRefusedAt model t (if b then Numbered else kind) at) (none (at == MAX_TEXT_LEN))
      (stopped_at at [] (byte ∷ drop (at + 1) t) None (bytes_none t at within) (omega (arith, length-take-le at t within, front.limit)) tt refl
      (drop_more t at 0 less ∙ ap (λ b. b ∷ drop (at + 1) t) e) kind h refl) where
        none : (b : Bool) → (if b then false else false) ≡ false
        none b = grind arith

  pub whole_too_long : at ≡ length (take MAX_TEXT_LEN t) → at ≢ length t → IsUnnumberedRefusedAt model t TooLong MAX_TEXT_LEN
  whole_too_long end other =
      let limit : at ≡ MAX_TEXT_LEN = omega (arith, end, other, within, length-take MAX_TEXT_LEN t) in
      let full = eq-eqb at MAX_TEXT_LEN limit in
      let less : at < length t = omega (arith, other, within) in
      subst (IsUnnumberedRefusedAt model t TooLong) limit (begins_here less (get_or t at 0) refl TooLong (rw full refl))

  pub inside_front : (u : Text) → u ≡ take MAX_TEXT_LEN t → at ≢ length u → at < length (take MAX_TEXT_LEN t)
  inside_front u e other = omega (arith, within, other, ap length e, length-take MAX_TEXT_LEN t, front.limit, length-take-le at t within)

  module _ (less : at < length (take MAX_TEXT_LEN t)) (none : BeginsNoItem (drop at (take MAX_TEXT_LEN t))) where
    abbrev first : ℕ
    first = get_or (take MAX_TEXT_LEN t) at 0

    inside : (at < length t) × (at < MAX_TEXT_LEN)
    inside = (omega (arith, less, length-take MAX_TEXT_LEN t), omega (arith, less, length-take MAX_TEXT_LEN t))

    zero_there : first ≢ 37 → first ≡ 0
    zero_there other = elim (cases_eq first 0) [
      | inl e ↦ e
      | inr some ↦ absurd (none (first ∷ []) (drop (at + 1) (take MAX_TEXT_LEN t)) (ReadByte first) (drop_more (take MAX_TEXT_LEN t) at 0 less)
          (rw (ne_eqb first 37 other) (some, refl)))
    ]

    pub no_second : first ≡ 37 → get_or (take MAX_TEXT_LEN t) (at + 1) 0 ≢ 37
    no_second percent second = elim (cases_lt (at + 1) (length (take MAX_TEXT_LEN t))) [
      | inl more ↦ none (37 ∷ 37 ∷ []) (drop (at + 1 + 1) (take MAX_TEXT_LEN t)) (ReadByte 37)
          (drop_more (take MAX_TEXT_LEN t) at 0 less ∙ ap (λ b. b ∷ drop (at + 1) (take MAX_TEXT_LEN t)) percent
          ∙ ap (λ v. 37 ∷ v) (drop_more (take MAX_TEXT_LEN t) (at + 1) 0 more ∙ ap (λ b. b ∷ drop (at + 1 + 1) (take MAX_TEXT_LEN t)) second)) refl
      | inr over ↦ (let no : 0 ≡ 37 = sym (get_or_past (take MAX_TEXT_LEN t) (at + 1) 0 over) ∙ second in absurd (omega (arith, no)))
    ]

    pub whole_nul : first ≢ 37 → IsUnnumberedRefusedAt model t NulByte at
    whole_nul other =
        let room = not_full at inside.1 in
        begins_here inside.0 0 (sym (get_or-take MAX_TEXT_LEN t at 0 inside.1) ∙ zero_there other) NulByte (rw room refl)

-- a `$` that is rejected as Mixed numbers an argument
at_dollar : (model : Model) (rest : List Fetch) (state : State) (kind : RefusalKind) → MayGoOn Unnumbered state
    → next model (first_one ∷ rest) (Some state) 36 ≡ Halts kind
    → numbered_instead (36 ∷ []) kind 0 ≡ (if is_dollar (Some state) (sign_of 36) then Numbered else kind)
at_dollar model rest state kind follows e = grind arith

no_dollar : (state : State) (byte : ℕ) → byte ≢ 36 → is_dollar (Some state) (sign_of byte) ≡ false
no_dollar state byte other = false_from_ne_true (is_dollar (Some state) (sign_of byte))
    (λ d. other (dollar_of byte (dollar_found false (Some state) (sign_of byte) d).1))

instead_there : (model : Model) (rest : List Fetch) (state : State) (byte : ℕ) (kind : RefusalKind) (t : Text) (at : ℕ) → MayGoOn Unnumbered state
    → next model (first_one ∷ rest) (Some state) byte ≡ Halts kind → get_or t at 0 ≡ byte
    → numbered_instead t kind at ≡ (if is_dollar (Some state) (sign_of byte) then Numbered else kind)
instead_there model rest state byte kind t at follows e there = instead kind ∙ elim (cases_eq byte 36) [
  | inl d ↦ subst (λ b. next model (first_one ∷ rest) (Some state) b ≡ Halts kind
      → numbered_instead (b ∷ []) kind 0 ≡ (if is_dollar (Some state) (sign_of b) then Numbered else kind)) (sym d) (at_dollar model rest state kind follows) e
  | inr other ↦ (let no = no_dollar state byte other in rw no (elsewhere other kind))
] where
  instead : (kind : RefusalKind) → numbered_instead t kind at ≡ numbered_instead (byte ∷ []) kind 0
  instead Mixed = ap (λ b. numbered_instead (b ∷ []) Mixed 0) there
  instead kind = refl

  elsewhere : byte ≢ 36 → (kind : RefusalKind) → numbered_instead (byte ∷ []) kind 0 ≡ kind
  elsewhere other Mixed = let no = ne_eqb byte 36 other in rw no refl
  elsewhere other kind = refl

module _ (model : Model) (t : Text) (at : ℕ) (within : at ≤ length t) (front : IsUnnumberedAccepted (take at t)) (position : Option ℕ) (own : List Fetch)
    (refusal : Refusal) (h : IsHalt (take MAX_TEXT_LEN t) at Unnumbered position own refusal) where
  abbrev u : Text
  u = take MAX_TEXT_LEN t

  abbrev place : ℕ
  place = refusal.at

  s : StateOf h.part position own
  s = state_of h.part position own h.begun

  -- no argument has a number
  own_none : AreFree own
  own_none = go h.follows where
    go : IsUndecided h.part ⊎ FollowsBy Unnumbered position → AreFree own
    go (inl undecided) = subst AreFree (sym (undecided_own h.part position own undecided h.begun)) tt
    go (inr f) = all_map _ _ own (λ g e. unnumbered_none g.number (e ∙ ap numbering_by (without_number position f)))
        (begun_numbering h.part position own h.begun)

  abbrev taken : List Fetch
  taken = fetched model (accepted_there (take at t) front).items ++ own_in s.state

  follows : MayGoOn Unnumbered s.state
  follows = may_go_on s.state h.part Unnumbered s.after (subst (λ p. IsUndecided h.part ⊎ FollowsBy Unnumbered p) (sym s.position_is) h.follows)

  stopped : (rest : Text) → drop place t ≡ rest → (kind : RefusalKind) → halts_at model rest place (first_one ∷ taken) (Some s.state) ≡ Some kind
      → (result now : Refusal) → result ≡ now → (if numbers_at place (Some s.state) rest then Numbered else kind) ≡ now.kind → now.at ≡ place
      → IsUnnumberedRefusedAt model t result.kind result.at
  stopped rest e kind halts result now is kind_is at_is =
      let few = h.bytes.within in
      subst (λ r. IsUnnumberedRefusedAt model t (Refusal.kind r) (Refusal.at r)) (sym is) (subst (IsUnnumberedRefusedAt model t now.kind) (sym at_is)
      (subst (λ k. IsUnnumberedRefusedAt model t k place) kind_is
      (stopped_at model t at within front place h.part rest (Some s.state) (bytes_whole t at place h.part h.bytes)
      (omega (arith, few, length-take MAX_TEXT_LEN t)) (subst AreFree (sym s.own_is) own_none) (s.after, follows) e kind halts refl)))

  -- the refusal of the text
  pub whole_refused : (made result : Refusal) → made.at ≡ place → made.kind ≡ numbered_instead u refusal.kind place → result ≡ refusal_of_long t made
      → IsUnnumberedRefusedAt model t result.kind result.at
  whole_refused made result same instead is = elim (cases_lt place (length u)) [
    | inl less ↦ at_byte less
    | inr over ↦ elim (cases_lt MAX_TEXT_LEN (length t)) [
      | inl more ↦ too_long (omega (arith, over, h.bytes.within, more, length-take MAX_TEXT_LEN t)) more
      | inr short ↦ stopped [] (drop_all place t (omega (arith, over, short, length-take MAX_TEXT_LEN t))) Truncated refl result made
          (is ∙ lasting t made (inr short)) (sym (instead ∙ ap (λ k. numbered_instead u k place) (h.ended over))) same
    ]
  ] where
    at_byte : place < length u → IsUnnumberedRefusedAt model t result.kind result.at
    at_byte less =
        let under : place < MAX_TEXT_LEN = omega (arith, less, length-take MAX_TEXT_LEN t) in
        let byte = get_or u place 0 in
        let room = not_full place under in
        let halts = ap (next_of (first_one ∷ taken)) (refused model (first_one ∷ taken) h.part s.state byte refusal.kind s.after
        (h.byte less model (first_one ∷ taken) (λ none. refl) h.follows)) in
        stopped (byte ∷ drop (place + 1) t)
        (drop_more t place 0 (omega (arith, less, length-take MAX_TEXT_LEN t))
        ∙ ap (λ b. b ∷ drop (place + 1) t) (sym (get_or-take MAX_TEXT_LEN t place 0 under)))
        refusal.kind (rw (room, halts) refl) result made (is ∙ lasting t made (inl (omega (arith, same, under))))
        (rw room (sym (instead_there model taken s.state byte refusal.kind u place follows halts refl) ∙ sym instead)) same

    too_long : place ≡ MAX_TEXT_LEN → MAX_TEXT_LEN < length t → IsUnnumberedRefusedAt model t result.kind result.at
    too_long past more =
        let full = eq-eqb place MAX_TEXT_LEN past in
        stopped (get_or t place 0 ∷ drop (place + 1) t) (drop_more t place 0 (omega (arith, past, more))) TooLong (rw full refl) result
        (record { kind = TooLong; at = MAX_TEXT_LEN }) (is ∙ cut t made more (omega (arith, same, past))) (rw full refl) (sym past)
