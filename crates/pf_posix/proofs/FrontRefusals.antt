-- What is rejected after items that are read, by the grammar.
use Rattle.std.proofs.Common.{◌≡◌, ◌≢◌, ℕ, ◌+◌, ◌-◌, ◌<◌, ◌≤◌, Bool, true, false, List, [], ◌∷◌, ◌++◌, length, drop, get_or, take, refl, sym, ap, ◌∙◌, arith, subst}
use Rattle.std.proofs.Common.{inl, inr}
use Rattle.std.specs.Prelude.{Option, Some, None, ◌==◌, ◌&&◌, ◌⊎◌, nat_le, nat_lt, if◌then◌else◌}
use Rattle.std.specs.List.{AllByRecursion}
use Rattle.std.proofs.lemmas.Bool.{cases_lt, ne_eqb}
use Rattle.std.proofs.lemmas.Bool.Decides.{nat_tests}
use Rattle.std.proofs.lemmas.List.{append-nil, append_assoc, length-append, drop_all, drop_more, get_or_past, length-take-le, same_from_push, take-append-drop}
use Rattle.std.proofs.lemmas.List.{take_all, take_more}
use Rattle.pf_values.specs.declared.limits.TheConstants.{MAX_TEXT_LEN}
use Rattle.pf_values.specs.declared.models.Model.{Model}
use Rattle.pf_values.specs.declared.refusals.RefusalKind.{RefusalKind}
use Rattle.pf_values.specs.declared.refusals.RefusalKind.TheVariants.{NulByte, PrecisionTooLarge, TooLong, Truncated, TwoTypes, WidthTooLarge}
use Rattle.pf_values.specs.meaning.Text.{Text, dollar, percent}
use Rattle.pf_text.specs.Offsets.{HasBytes}
use Rattle.pf_text.specs.Walks.{BeginsNothing}
use Rattle.pf_text.specs.declared.refusals.Refusal.{Refusal}
use Rattle.pf_text.proofs.RefusalLemmas.{take_between}
use Rattle.pf_text.proofs.SpecificationLemmas.{bytes_none, bytes_one}
use Rattle.pf_posix.specs.declared.fetches.Fetch.{Fetch}
use Rattle.pf_posix.specs.declared.specifications.Numbering.{Numbering}
use Rattle.pf_posix.specs.declared.specifications.Numbering.TheVariants.{Numbered}
use Rattle.pf_posix.specs.declared.specifications.Specification.{Specification as Read}
use Rattle.pf_posix.specs.declared.types.WholeArgType.{WholeArgType}
use Rattle.pf_posix.specs.Beginnings.{IsBegunAs, IsUndecided, TakesAmount}
use Rattle.pf_posix.specs.Endings.{end_refusal, refusal_of_long}
use Rattle.pf_posix.specs.Halts.{FollowsBy, IsDefinedAt, IsHalt, IsStarAt}
use Rattle.pf_posix.specs.Items.{WholeItem, ReadsWhole, IsWholeReadAs, errno_letter, fetched}
use Rattle.pf_posix.specs.Laws.{HasCount}
use Rattle.pf_posix.specs.PartsInText.{specification_read}
use Rattle.pf_posix.specs.Readings.{conflicts}
use Rattle.pf_posix.specs.Refusals.{AreAgreed, FetchesLast, FetchesStar, IsGoodWholeFront, IsOneType, IsWholeRefusalCause, IsWholeRefusedAt, IsWholeRefusedByte}
use Rattle.pf_posix.specs.Refusals.{MayFollow, numbering_by, numbering_of}
use Rattle.pf_posix.specs.Specifications.{WholeSpecification, conversion_letter, modifier_letters}
use Rattle.pf_posix.specs.Spelling.{SpellsWhole, SpellsStar}
use Rattle.pf_posix.specs.Tables.{HaveOneType}
use Rattle.pf_posix.specs.Types.{conversion_type, fetch, int_type, star_fetches}
use Rattle.pf_posix.proofs.Agreeing.{agreed_none, all_back, all_map, conflicts_not}
use Rattle.pf_posix.proofs.Bounds.{all_append, stars_fetch, width_fetches}
use Rattle.pf_posix.proofs.LetterLemmas.{letter_tests}
use Rattle.pf_posix.proofs.OneState.{never_empty, one_state}
use Rattle.pf_posix.proofs.PartStates.{begun_of, state_of}
use Rattle.pf_posix.proofs.GoodFronts.{reads_push}
use Rattle.pf_posix.proofs.Steps.{First, IsStateAfter, Opened, State, own_in}
use Rattle.pf_posix.proofs.Unique.{refused_longer, types_agreed}

-- the argument of a `*`, in a specification with this number
abbrev IsOwn : Option ℕ → Fetch → Type 0
IsOwn position f = (numbering_by f.number ≡ numbering_by position) × (f.wanted ≡ int_type)

star_own : (position : Option ℕ) (t : Text) (number : Option ℕ) → SpellsStar t position number → IsOwn position (fetch number int_type)
star_own position t number s = (grind (arith, s.numbering), refl)

takes_own : (kind : RefusalKind) (t : Text) (position : Option ℕ) (own : List Fetch) → TakesAmount kind t position own → AllByRecursion (IsOwn position) own
takes_own WidthTooLarge t position own h = subst (AllByRecursion (IsOwn position)) (sym h.2) tt
takes_own PrecisionTooLarge t position own h =
    subst (AllByRecursion (IsOwn position)) (sym h.5) (width_fetches (IsOwn position) position (star_own position) h.3.text h.2 h.3.width_is)
takes_own _ t position own h = absurd h

begun_own : (part : Text) (position : Option ℕ) (own : List Fetch) → IsBegunAs part position own → AllByRecursion (IsOwn position) own
begun_own part position own (inl h) = subst (AllByRecursion (IsOwn position)) (sym h.own_is)
    (stars_fetch (IsOwn position) position (star_own position) h.before h.set h.width h.precision h.before_is)
begun_own part position own (inr (inl h)) = takes_own h.0.kind h.0.before position own h.0.before_is
begun_own part position own (inr (inr h)) = takes_own h.0 h.2.before position own h.2.before_is

-- all that a specification has fetched has its numbering
pub begun_numbering : (part : Text) (position : Option ℕ) (own : List Fetch) → IsBegunAs part position own
    → AllByRecursion (λ f. numbering_by f.number ≡ numbering_by position) own
begun_numbering part position own h = all_map (IsOwn position) _ own (λ f p. p.0) (begun_own part position own h)

-- as long as this is undecided, it has fetched nothing
pub undecided_own : (part : Text) (position : Option ℕ) (own : List Fetch) → IsUndecided part → IsBegunAs part position own → own ≡ []
undecided_own part position own u h = let s = state_of part position own h in sym s.own_is ∙ go s.state s.after u where
  go : (state : State) → IsStateAfter state part → IsUndecided part → own_in state ≡ []
  go state after (inl one) = ap own_in (one_state state Opened part after one)
  go state after (inr (n, first)) = ap own_in (one_state state (First n) part after first)

-- fetches of one numbering
pub agreed_by : (fs : List Fetch) (n : Numbering) → AllByRecursion (λ f. numbering_by f.number ≡ n) fs → HaveOneType fs → AreAgreed fs
agreed_by [] n h one = agreed_none
agreed_by (g ∷ fs) n h one = record { one_numbering = all_map (λ f. numbering_by f.number ≡ n) _ (g ∷ fs) (λ f p. p ∙ sym h.0) h; one_type = one }

pub agreed_plain : (fs : List Fetch) → AllByRecursion (λ f. f.number ≡ None) fs → AreAgreed fs
agreed_plain fs h = types_agreed fs _ (inl (record { unnumbered = h; types_are = refl }))

-- arguments without numbers, and those of the `*`s of one more specification
agreed_own : (fs own : List Fetch) (position : Option ℕ) → AllByRecursion (λ f. f.number ≡ None) fs → AllByRecursion (IsOwn position) own
    → FollowsBy (numbering_of fs) position → AreAgreed (fs ++ own)
agreed_own fs own None h o follows = agreed_plain (fs ++ own) (all_append _ fs own h (all_map (IsOwn None) _ own (λ f p. grind (arith, p.0)) o))
agreed_own [] own (Some n) h o follows =
    agreed_by own Numbered (all_map (IsOwn (Some n)) _ own (λ f p. p.0) o)
    (all_map (IsOwn (Some n)) _ own (λ f p. all_map (IsOwn (Some n)) _ own (λ g q m a b. p.1 ∙ sym q.1) o) o)
agreed_own (f ∷ fs) own (Some n) h o follows = absurd (grind (arith, follows, h.0))

-- what may follow the items before it may follow what it has fetched itself
follows_own : (fs own : List Fetch) (position : Option ℕ) → AllByRecursion (λ f. numbering_by f.number ≡ numbering_by position) own → AreAgreed (fs ++ own)
    → FollowsBy (numbering_of fs) position → FollowsBy (numbering_of (fs ++ own)) position
follows_own fs [] position same agreed h = subst (λ l. FollowsBy (numbering_of l) position) (sym (append-nil fs)) h
follows_own fs (f ∷ own) position same agreed h =
    inr (sym (all_back (λ g. numbering_by g.number ≡ numbering_of (fs ++ f ∷ own)) fs (f ∷ own) agreed.one_numbering).0 ∙ same.0)

abbrev pub IsRefused : Model → Text → Refusal → Type 0
IsRefused model t refusal = IsWholeRefusedAt model t refusal.kind refusal.at

-- a text is rejected after a front
refused_after : (model : Model) (t : Text) (at : ℕ) (kind : RefusalKind) (fetches : List Fetch) (part : Text) → IsGoodWholeFront model (take at t) fetches part
    → at ≤ length t → at ≤ MAX_TEXT_LEN → IsWholeRefusalCause model fetches part at (drop at t) kind → IsWholeRefusedAt model t kind at
refused_after model t at kind fetches part good within limit cause =
    record {
      front = take at t;
      rest = drop at t;
      part = part;
      fetches = fetches;
      split = sym (take-append-drop at t);
      offset = sym (length-take-le at t within);
      limit = limit;
      good = good;
      cause = cause;
    }

-- items, and then the beginning of one more
module _ (model : Model) (t : Text) (start : ℕ) (items : List WholeItem) (short : length t ≤ MAX_TEXT_LEN) (reads : ReadsWhole (take start t) items) where
  abbrev seen : List Fetch
  seen = fetched model items

  module _ (at : ℕ) (part : Text) (own : List Fetch) (bytes : HasBytes t start at part) (agreed : AreAgreed (seen ++ own))
      (begun : MayFollow (numbering_of (seen ++ own)) part own) where
    good_front : IsGoodWholeFront model (take at t) (seen ++ own) part
    good_front = record {
      items = items;
      whole = take start t;
      own = own;
      reads = reads;
      split = bytes.whole;
      fetches_are = refl;
      agreed = agreed;
      begun = begun;
    }

    refused_at_end : length t ≤ at → part ≢ [] → IsWholeRefusedAt model t Truncated at
    refused_at_end over some =
        refused_after model t at Truncated (seen ++ own) part good_front bytes.within (omega (arith, short, bytes.within))
        (subst (λ r. IsWholeRefusalCause model (seen ++ own) part at r Truncated) (sym (drop_all at t over)) (inl (refl, some)))

    refused_at_byte : (kind : RefusalKind) → at < length t → IsWholeRefusedByte model (seen ++ own) part (get_or t at 0) kind → IsWholeRefusedAt model t kind at
    refused_at_byte kind less cause =
        let below = ne_eqb at MAX_TEXT_LEN (λ e. absurd (omega (arith, less, short, e))) in
        refused_after model t at kind (seen ++ own) part good_front bytes.within (omega (arith, short, bytes.within))
        (subst (λ r. IsWholeRefusalCause model (seen ++ own) part at r kind) (sym (drop_more t at 0 less)) (rw below cause))

  -- a beginning that halts
  pub halt_refused : (position : Option ℕ) (own : List Fetch) (refusal : Refusal) → AreAgreed (seen ++ own)
      → IsHalt t start (numbering_of seen) position own refusal → IsRefused model t refusal
  halt_refused position own refusal agreed h =
      elim (cases_lt refusal.at (length t)) [
        | inl less ↦ refused_at_byte refusal.at h.part own h.bytes agreed (inr (position, h.begun, follows h.follows)) refusal.kind less
            (h.byte less model (seen ++ own) (λ e. ap (λ l. numbering_of (seen ++ l)) e ∙ ap numbering_of (append-nil seen)) (follows h.follows))
        | inr over ↦ subst (λ kind. IsWholeRefusedAt model t kind refusal.at) (sym (h.ended over))
            (refused_at_end refusal.at h.part own h.bytes agreed (inr (position, h.begun, follows h.follows)) over some)
      ] where
        follows : IsUndecided h.part ⊎ FollowsBy (numbering_of seen) position → IsUndecided h.part ⊎ FollowsBy (numbering_of (seen ++ own)) position
        follows (inl u) = inl u
        follows (inr f) = inr (follows_own seen own position (begun_numbering h.part position own h.begun) agreed f)

        some : h.part ≢ []
        some e = let s = state_of h.part position own h.begun in never_empty s.state (subst (IsStateAfter s.state) e s.after)

  -- after items whose arguments have no numbers
  pub halt_refused_plain : (position : Option ℕ) (own : List Fetch) (refusal : Refusal) → AllByRecursion (λ f. f.number ≡ None) seen
      → IsHalt t start (numbering_of seen) position own refusal → IsRefused model t refusal
  halt_refused_plain position own refusal plain h = halt_refused position own refusal (agreed h.follows) h where
    agreed : IsUndecided h.part ⊎ FollowsBy (numbering_of seen) position → AreAgreed (seen ++ own)
    agreed (inl u) = agreed_plain (seen ++ own) (all_append _ seen own plain (rw (undecided_own h.part position own u h.begun) tt))
    agreed (inr f) = agreed_own seen own position plain (begun_own h.part position own h.begun) f

  -- two types at a byte with which an argument is fetched
  conflict_refused : (at : ℕ) (part : Text) (position : Option ℕ) (own : List Fetch) (byte : ℕ) (f : Fetch) → HasBytes t start at part
      → IsBegunAs part position own → AreAgreed (seen ++ own) → FollowsBy (numbering_of seen) position → get_or t at 0 ≡ byte → byte ≢ 0
      → byte ≢ percent → byte ≢ errno_letter
      → (FollowsBy (numbering_of (seen ++ own)) position → FetchesStar part byte f ⊎ FetchesLast model (numbering_of (seen ++ own)) part byte f)
      → conflicts (seen ++ own) f ≡ true → IsWholeRefusedAt model t TwoTypes at
  conflict_refused at part position own byte f bytes begun agreed before there nul other errno fetches c =
      refused_at_byte at part own bytes agreed (inr (position, begun, inr follows)) TwoTypes less
      (subst (λ b. IsWholeRefusedByte model (seen ++ own) part b TwoTypes) (sym there) cause) where
        follows : FollowsBy (numbering_of (seen ++ own)) position
        follows = follows_own seen own position (begun_numbering part position own begun) agreed before

        less : at < length t
        less = elim (cases_lt at (length t)) [ inl l ↦ l | inr over ↦ absurd (nul (sym there ∙ get_or_past t at 0 over)) ]

        no_type : ¬ AllByRecursion (IsOneType f) (seen ++ own)
        no_type all = let none = conflicts_not (seen ++ own) f all in let no : true ≡ false = sym c ∙ none in cc

        cause : IsWholeRefusedByte model (seen ++ own) part byte TwoTypes
        cause =
            let no_nul = ne_eqb byte 0 nul in
            let no_percent = ne_eqb byte percent other in
            rw (no_nul, no_percent) (λ one. errno, inr (inr (inr (inl (refl, f, fetches follows, no_type)))))

  -- at the `$` of a `*`
  pub star_conflict : (position : Option ℕ) (own : List Fetch) (stop n : ℕ) → IsStarAt t start stop n position own → AreAgreed (seen ++ own)
      → FollowsBy (numbering_of seen) position → conflicts (seen ++ own) (fetch (Some n) int_type) ≡ true → IsWholeRefusedAt model t TwoTypes (stop - 1)
  star_conflict position own stop n star agreed follows c =
      conflict_refused (stop - 1) star.part position own dollar (fetch (Some n) int_type) star.bytes (inr (inr (star.kind, n, star.digits))) agreed follows
      star.dollar_is (λ e. omega (arith, e)) (λ e. omega (arith, e)) (λ e. omega (arith, e)) (λ f. inl (star.kind, n, position, own, star.digits, refl, refl)) c

  -- and at a conversion
  pub last_conflict : (read : Read) (stop : ℕ) → IsDefinedAt t start (numbering_of seen) (read, stop)
      → AreAgreed (seen ++ (star_fetches (specification_read read).width ++ star_fetches (specification_read read).precision))
      → conflicts (seen ++ (star_fetches (specification_read read).width ++ star_fetches (specification_read read).precision))
      (fetch read.position (conversion_type model read.parts.modifier read.parts.conversion)) ≡ true → IsWholeRefusedAt model t TwoTypes (stop - 1)
  last_conflict read stop h agreed c =
      conflict_refused (stop - 1) part s.position (star_fetches s.width ++ star_fetches s.precision) letter
      (fetch s.position (conversion_type model s.modifier s.conversion))
      (record { from = omega (arith, h.is.read.some); within = omega (arith, h.is.read.within); whole = last.0 }) begins agreed h.is.follows last.1
      (λ e. omega (arith, e, high)) (λ e. omega (arith, e, high)) (letter_tests s.conversion).no_errno
      (λ follows. inr (record { s = s; spelled = spelled; follows = follows }, h.defined, refl)) c where
        s : WholeSpecification
        s = specification_read read

        letter : ℕ
        letter = conversion_letter s.conversion

        high : 57 < letter
        high = (letter_tests s.conversion).high

        part : Text
        part = h.is.read.spelled.before ++ modifier_letters s.modifier

        spelled : SpellsWhole (part ++ letter ∷ []) s
        spelled = record { before = h.is.read.spelled.before; before_is = h.is.read.spelled.before_is; whole = refl }

        begins : IsBegunAs part s.position (star_fetches s.width ++ star_fetches s.precision)
        begins = inl (record {
          before = spelled.before;
          set = s.flags;
          width = s.width;
          precision = s.precision;
          modifier = s.modifier;
          before_is = spelled.before_is;
          whole = refl;
          own_is = refl;
        })

        last : (take (stop - 1) t ≡ take start t ++ part) × (get_or t (stop - 1) 0 ≡ letter)
        last =
            let place : stop - 1 + 1 ≡ stop = omega (arith, h.is.read.some) in
            same_from_push (take (stop - 1) t) (take start t ++ part) (get_or t (stop - 1) 0) letter
            (sym (take_more t (stop - 1) 0 (omega (arith, h.is.read.some, h.is.read.within))) ∙ ap (λ k. take k t) place
            ∙ take_between t start stop (omega (arith, h.is.read.some)) ∙ ap (λ u. take start t ++ u) h.is.read.spelled.whole
            ∙ sym (append_assoc (take start t) part (letter ∷ [])))

  -- where nothing begins, before the end
  pub end_refused : AreAgreed seen → start < length t → BeginsNothing t start → IsRefused model t (end_refusal t start)
  end_refused agreed less nothing = go nothing where
    agrees : AreAgreed (seen ++ [])
    agrees = subst AreAgreed (sym (append-nil seen)) agreed

    go : BeginsNothing t start → IsRefused model t (end_refusal t start)
    go (inl over) = absurd (omega (arith, less, over))
    go (inr (inl nul)) =
        let known : (get_or t start 0 == 0) ≡ true = grind (arith, nat_tests) in
        rw known (refused_at_byte start [] [] (bytes_none t start (omega (arith, less))) agrees (inl (refl, refl)) NulByte less
        (subst (λ b. IsWholeRefusedByte model (seen ++ []) [] b NulByte) (sym nul) refl))
    go (inr (inr h)) =
        let other : (get_or t start 0 == 0) ≡ false = ne_eqb (get_or t start 0) 0 (λ e. absurd (omega (arith, e, h.1))) in
        let end : start + 1 ≡ length t = omega (arith, less, h.0) in
        let one = percent ∷ [] in
        rw other (refused_at_end (length t) one [] (subst (λ k. HasBytes t start k one) end (bytes_one t start percent less (sym h.1))) agrees
        (inr (None, begun_of Opened one refl, inl (inl refl))) (omega arith) (λ e. cc))

-- an item more
pub whole_item : (t : Text) (start stop : ℕ) (items : List WholeItem) (item : WholeItem) → start ≤ stop → ReadsWhole (take start t) items
    → IsWholeReadAs (take (stop - start) (drop start t)) item → ReadsWhole (take stop t) (items ++ item ∷ [])
whole_item t start stop items item from reads h =
    subst (λ u. ReadsWhole u (items ++ item ∷ [])) (sym (take_between t start stop from))
    (reads_push (take start t) (take (stop - start) (drop start t)) items item reads h)

-- a text goes on after a good front of as many bytes as are allowed
too_long : (model : Model) (t : Text) (fetches : List Fetch) (part : Text) → IsGoodWholeFront model (take MAX_TEXT_LEN t) fetches part → MAX_TEXT_LEN < length t
    → IsWholeRefusedAt model t TooLong MAX_TEXT_LEN
too_long model t fetches part good long =
    refused_after model t MAX_TEXT_LEN TooLong fetches part good (omega (arith, long)) (omega arith)
    (subst (λ r. IsWholeRefusalCause model fetches part MAX_TEXT_LEN r TooLong) (sym (drop_more t MAX_TEXT_LEN 0 long)) refl)

pub long_accepted : (model : Model) (t : Text) (old new : List WholeArgType) (count : ℕ) → HasCount model (take MAX_TEXT_LEN t) old new count
    → MAX_TEXT_LEN < length t → IsWholeRefusedAt model t TooLong MAX_TEXT_LEN
long_accepted model t old new count h long =
    let seen = fetched model h.accepted.items in
    let agreed : AreAgreed (seen ++ []) = subst AreAgreed (sym (append-nil seen)) (types_agreed seen h.types h.accepted.types_are) in
    let whole = take MAX_TEXT_LEN t in
    too_long model t (seen ++ []) [] (record {
      items = h.accepted.items;
      whole = whole;
      own = [];
      reads = h.accepted.reads;
      split = sym (append-nil whole);
      fetches_are = refl;
      agreed = agreed;
      begun = inl (refl, refl);
    }) long

pub long_refused : (model : Model) (t : Text) (refusal : Refusal) → IsRefused model (take MAX_TEXT_LEN t) refusal
    → IsRefused model t (refusal_of_long t refusal)
long_refused model t refusal h = go (nat_lt MAX_TEXT_LEN (length t)) (nat_le MAX_TEXT_LEN refusal.at) refl refl where
  front : Text
  front = take MAX_TEXT_LEN t

  -- all of the front is read
  at_limit : MAX_TEXT_LEN < length t → MAX_TEXT_LEN ≤ refusal.at → (rest : Text) → front ≡ h.front ++ rest → IsWholeRefusedAt model t TooLong MAX_TEXT_LEN
  at_limit long over [] e =
      too_long model t h.fetches h.part (subst (λ f. IsGoodWholeFront model f h.fetches h.part) (sym (e ∙ append-nil h.front)) h.good) long
  at_limit long over (byte ∷ rest) e =
      absurd (omega (arith, over, h.offset, ap length e, length-append h.front (byte ∷ rest), length-take-le MAX_TEXT_LEN t (omega (arith, long))))

  go : (a b : Bool) → nat_lt MAX_TEXT_LEN (length t) ≡ a → nat_le MAX_TEXT_LEN refusal.at ≡ b
      → IsRefused model t (if a && b then record { kind = TooLong; at = MAX_TEXT_LEN } else refusal)
  go true true x y = at_limit (grind (arith, nat_tests, x)) (grind (arith, nat_tests, y)) h.rest h.split
  go true false x y =
      let long : MAX_TEXT_LEN ≤ length t = grind (arith, nat_tests, x) in
      let less : refusal.at < MAX_TEXT_LEN = grind (arith, nat_tests, y) in
      subst (λ u. IsRefused model u refusal) (take-append-drop MAX_TEXT_LEN t) (refused_longer model front (drop MAX_TEXT_LEN t) refusal.kind refusal.at h
      (omega (arith, less, length-take-le MAX_TEXT_LEN t long)))
  go false b x y = subst (λ u. IsRefused model u refusal) (take_all MAX_TEXT_LEN t (grind (arith, nat_tests, x))) h
