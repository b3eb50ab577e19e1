-- What a step of a specification keeps, and what its end tells; and the outcome of a byte is a refusal exactly where the
-- definitions reject it.
use Rattle.std.proofs.Common.{◌≡◌, ◌≢◌, ℕ, ◌+◌, ◌-◌, ◌*◌, ◌<◌, Bool, true, false, List, [], ◌∷◌, ◌++◌, drop, refl, sym, ap, ap₂, ◌∙◌, subst, arith, inl, inr}
use Rattle.std.specs.Prelude.{Option, Some, None, is_some, ◌⊎◌, MatchBool, ◌==◌, if◌then◌else◌, ⊤}
use Rattle.std.specs.List.{AllByRecursion}
use Rattle.std.proofs.lemmas.Bool.{cases_Bool, eqb-true, false_from_ne_true, ne_eqb, true_from_ne_false}
use Rattle.std.proofs.lemmas.Bool.Decides.{nat_tests}
use Rattle.std.proofs.lemmas.List.{append-nil}
use Rattle.pf_values.specs.declared.limits.TheConstants.{MAX_NUMBER}
use Rattle.pf_values.specs.declared.models.Model.{Model}
use Rattle.pf_values.specs.declared.refusals.RefusalKind.{RefusalKind}
use Rattle.pf_values.specs.declared.refusals.RefusalKind.TheVariants.{BadPercent, Mixed, NulByte, TwoTypes, Unexpected, WidthTooLarge}
use Rattle.pf_values.specs.meaning.Digits.{AreDigits}
use Rattle.pf_values.specs.meaning.Flags.{no_flags}
use Rattle.pf_values.specs.meaning.Text.{Text}
use Rattle.pf_posix.specs.declared.fetches.Fetch.{Fetch}
use Rattle.pf_posix.specs.declared.specifications.Numbering.{Numbering}
use Rattle.pf_posix.specs.Beginnings.{EndsInDigits, EndsInFirst, EndsInStar, EndsInStarDigits, IsBegunAs, SpellsAmount}
use Rattle.pf_posix.specs.Defined.{undefined_of}
use Rattle.pf_posix.specs.Readings.{conflicts}
use Rattle.pf_posix.specs.Refusals.{CompletesSpecification, FetchesStar, IsMixed, IsNumberTooLarge, IsOneType, IsWholeRefusedByte, IsUnexpected, IsWrong}
use Rattle.pf_posix.specs.Refusals.{PassesLimit, numbering_of, Follows, numbering_by}
use Rattle.pf_posix.specs.Specifications.{WholeSpecification}
use Rattle.pf_posix.specs.Spelling.{SpellsUpToFlags}
use Rattle.pf_posix.specs.Types.{fetch, int_type, star_fetches}
use Rattle.pf_posix.proofs.Agreeing.{conflicts_no, conflicts_not}
use Rattle.pf_posix.proofs.Growing.{finishes, grows}
use Rattle.pf_posix.proofs.OneState.{never_empty, one_state, Earlier, ends, shrinks}
use Rattle.pf_posix.proofs.Outcomes.{MayGoOn, Outcome, Begins, EndsOther, Ends, Refuses, begun, by_sign, dollar_fetched, ended, ends_errno, exceeds, exceeds_by, fetched_on}
use Rattle.pf_posix.proofs.Outcomes.{last_fetch, mixes, mixes_opened, mixes_star, on_percent, outcome, passes, star_fetched}
use Rattle.pf_posix.proofs.PartStates.{IsMore, PlaceOf, begun_of, known, more_than, place_of, state_of, takes}
use Rattle.pf_posix.proofs.Steps.{IsBefore, IsStateAfter, Place, Width, Precision, Sign, Digit, Dollar, Asterisk, SpellsDigits, State, Opened, First, Digits, Star}
use Rattle.pf_posix.proofs.Steps.{StarDigits, finish, own_before, own_in, place_in, position_in, position_of, sign_of, step, too_large, Dot, Letter, Strange}
use Rattle.pf_posix.proofs.LetterLemmas.{digit_of, digits_mix, dollar_of, first_mixes, mixes_after_digits, mixes_after_first, mixes_after_percent, mixes_after_star}
use Rattle.pf_posix.proofs.LetterLemmas.{passes_limit, passes_so, percent_mixes, sign_of_digit, star_mixes}

-- what was fetched, and one more
abbrev pub with_fetch : List Fetch → Option Fetch → List Fetch
with_fetch fetches None = fetches
with_fetch fetches (Some f) = fetches ++ f ∷ []

-- the number of a `*` is one of a numbered specification
abbrev pub HasNumber : State → Type 0
HasNumber (StarDigits place n) = is_some (position_of place) ≡ true
HasNumber _ = ⊤

-- with one more sign
pub own_step : (state to : State) (sign : Sign) → step state sign ≡ Some to → own_in to ≡ with_fetch (own_in state) (fetched_on sign state)
own_step state to Dot e = grind (arith, append-nil)
own_step state to (Letter letter) e = grind (arith, append-nil)
own_step state to sign e = grind (arith, append-nil)

pub step_back : (numbering : Numbering) (state to : State) (sign : Sign) → step state sign ≡ Some to → MayGoOn numbering to → MayGoOn numbering state
step_back numbering Opened to sign e h = tt
step_back numbering (First n) to sign e h = tt
step_back numbering state to sign e h = grind arith

module _ (numbering : Numbering) (state to : State) (sign : Sign) (e : step state sign ≡ Some to) where
  pub unmixed : MayGoOn numbering to → mixes state numbering sign ≡ false
  unmixed h = grind arith

  -- what it fetches shows whether the specification is numbered
  module _ (f : Fetch) (k : fetched_on sign state ≡ Some f) (some : HasNumber state) where
    pub fetch_follows : MayGoOn numbering to → Follows numbering (Some (numbering_by f.number))
    fetch_follows h = grind arith

    pub follows_fetch : Follows numbering (Some (numbering_by f.number)) → MayGoOn numbering to
    follows_fetch h = grind arith

pub step_forth : (numbering : Numbering) (state to : State) (sign : Sign) → step state sign ≡ Some to → MayGoOn numbering state
    → mixes state numbering sign ≡ false → MayGoOn numbering to
step_forth numbering (Star place) to sign e h m = grind arith
step_forth numbering state to sign e h m = grind arith

-- at its end
module _ (state : State) (sign : Sign) (s : WholeSpecification) (e : finish state sign ≡ Some s) where
  pub own_end : own_in state ≡ star_fetches s.width ++ star_fetches s.precision
  own_end = grind arith

  module _ (numbering : Numbering) where
    pub end_back : Follows numbering (Some (numbering_by s.position)) → (mixes state numbering sign ≡ false) × MayGoOn numbering state
    end_back h = grind arith

    pub end_forth : MayGoOn numbering state → mixes state numbering sign ≡ false → Follows numbering (Some (numbering_by s.position))
    end_forth h m = grind arith

-- the letter of `%m` has no meaning in a specification
pub no_errno : (state : State) (byte : ℕ) → (sign_of byte ≢ Strange) → ends_errno state byte ≡ false
no_errno state byte known = false_from_ne_true (ends_errno state byte) (λ e. known (ap sign_of (letter_is state byte e))) where
  letter_is : (state : State) (byte : ℕ) → ends_errno state byte ≡ true → byte ≡ 109
  letter_is Opened byte e = eqb-true byte 109 e
  letter_is _ byte e = cc

-- what is rejected for no mixing begins or ends as its sign says, which is neither NUL nor `%`
module _ (model : Model) (fetches : List Fetch) (state : State) where
  pub completes_sign : (sign : Sign) → mixes state (numbering_of fetches) sign ≡ false → (s : WholeSpecification) → finish state sign ≡ Some s
      → by_sign model fetches state sign ≡ ended model fetches s (undefined_of s)
  completes_sign sign m s e = grind arith

  module _ (byte : ℕ) (m : mixes state (numbering_of fetches) (sign_of byte) ≡ false) where
    pub begins : (to : State) → step state (sign_of byte) ≡ Some to → outcome model fetches state byte ≡ begun fetches to (fetched_on (sign_of byte) state)
    begins to e =
        let signed = no_errno state byte (λ strange. let no = sym e ∙ ap (step state) strange in cc) in
        rw signed (grind (arith, nat_tests))

    pub completes : (s : WholeSpecification) → finish state (sign_of byte) ≡ Some s → outcome model fetches state byte ≡ ended model fetches s (undefined_of s)
    completes s e =
        let signed = no_errno state byte (λ strange. let no = sym e ∙ ap (finish state) strange in cc) in
        rw signed (grind (arith, nat_tests))

star_digits_there : (place : Place) (n : ℕ) (part : Text) → IsStateAfter (StarDigits place n) part
    → EndsInStarDigits part (too_large place) n (position_of place) (own_before place)
star_digits_there place n part h =
    record { before = h.0; digits = h.1; before_is = takes place h.0 h.2; numbered = h.4; digits_are = h.3; whole = h.5 }

-- mixed
pub mixed_there : (state : State) (part : Text) (numbering : Numbering) (byte : ℕ) → IsStateAfter state part → mixes state numbering (sign_of byte) ≡ true
    → IsMixed part numbering byte
mixed_there Opened part numbering byte h e = let m = mixes_after_percent numbering byte e in inl (h, m.0, m.1)
mixed_there (First n) part numbering byte h e = inr (inl (n, h, mixes_after_first numbering byte e))
mixed_there (Star place) part numbering byte h e =
    let star : EndsInStar part (position_of place) (own_before place) =
    record { kind = too_large place; before = h.0; before_is = takes place h.0 h.1; whole = h.2 } in
    inr (inr (inl (position_of place, own_before place, star, mixes_after_star (position_of place) byte e)))
mixed_there (StarDigits place n) part numbering byte h e =
    let m = mixes_after_digits byte e in
    inr (inr (inr (too_large place, n, position_of place, own_before place, star_digits_there place n part h, m.0, m.1)))
mixed_there _ part numbering byte h e = cc

pub star_digits_at : (part : Text) (kind : RefusalKind) (n : ℕ) (position : Option ℕ) (own : List Fetch) (h : EndsInStarDigits part kind n position own)
    → (p : PlaceOf kind h.before position own) × IsStateAfter (StarDigits (PlaceOf.place p) n) part
star_digits_at part kind n position own h =
    let p = place_of kind h.before position own h.before_is in
    (p, (h.before, h.digits, p.before, h.digits_are, ap is_some p.position_is ∙ h.numbered, h.whole))

-- digits of a width or of a precision
pub record DigitsState (place : Place) (n : ℕ) (t : Text) : Type 0 where
  pub state : State
  pub after : IsStateAfter state t
  pub position_is : position_in state ≡ position_of place
  pub own_is : own_in state ≡ own_before place
  pub grows_past : (digit : ℕ) → exceeds_by state digit ≡ passes (too_large place) n digit

pub digits_state : (place : Place) (before digits t : Text) (n : ℕ) → IsBefore place before → SpellsDigits place digits n → t ≡ before ++ digits
    → DigitsState place n t
digits_state (Precision position set width) before digits t n h d e =
    let place = Precision position set width in
    let own = append-nil (star_fetches width) in
    record { state = Digits place n; after = (before, digits, h, d, tt, e); position_is = refl; own_is = own; grows_past = λ digit. refl }
digits_state (Width position set) before digits t n h d e = go (more_than before position set h) where
  go : IsMore before position → DigitsState (Width position set) n t
  go (inl more) =
      let place = Width position set in
      record { state = Digits place n; after = (before, digits, h, d, more, e); position_is = refl; own_is = refl; grows_past = λ digit. refl }
  go (inr (one, none)) =
      let whole = e ∙ ap (λ u. u ++ digits) one in
      record { state = First n; after = (digits, d, whole); position_is = none; own_is = refl; grows_past = λ digit. refl }

digits_amount : (place : Place) (t : Text) (n : ℕ) → SpellsDigits place t n → SpellsAmount (too_large place) t n
digits_amount (Width position set) t n d = d
digits_amount (Precision position set width) t n d = ((d.0, d.1, ap (λ u. 46 ∷ u) d.4), d.3)

amount_digits : (place : Place) (t : Text) (n : ℕ) → 0 < n → SpellsAmount (too_large place) t n → SpellsDigits place t n
amount_digits (Width position set) t n some s = s
amount_digits (Precision position set width) t n some s =
    let more : s.0.0 ≢ [] = λ none. let a : AreDigits 10 n [] = subst (AreDigits 10 n) none s.0.1 in omega (arith, some, a.sum) in
    (s.0.0, s.0.1, more, s.1, ap (drop 1) s.0.2)

some_limit : (n byte : ℕ) → PassesLimit n byte → 0 < n
some_limit n byte p = grind (arith, nat_tests, p.0, p.1)

pub digits_there : (place : Place) (before digits part : Text) (n : ℕ) → IsBefore place before → SpellsAmount (too_large place) digits n
    → part ≡ before ++ digits → EndsInDigits part (too_large place) n
digits_there place before digits part n h a e =
    let is = takes place before h in
    record { before = before; digits = digits; position = position_of place; own = own_before place; before_is = is; digits_are = a; whole = e }

pub digits_begun : (place : Place) (before digits : Text) (n byte : ℕ) → IsBefore place before → SpellsAmount (too_large place) digits n → PassesLimit n byte
    → IsBegunAs (before ++ digits) (position_of place) (own_before place)
digits_begun place before digits n byte h a passing =
    let s = digits_state place before digits (before ++ digits) n h (amount_digits place digits n (some_limit n byte passing) a) refl in
    rw (s.position_is, s.own_is) at (begun_of s.state (before ++ digits) s.after)

pub first_too_large : (part : Text) (n byte : ℕ) → EndsInFirst part n → PassesLimit n byte → IsNumberTooLarge part byte WidthTooLarge
first_too_large part n byte h p =
    let opening : SpellsUpToFlags (37 ∷ []) None no_flags = record { number = []; flags = []; number_is = refl; set_is = refl; whole = refl } in
    (n, p, inl (digits_there (Width None no_flags) (37 ∷ []) h.0 part n opening h.1 h.2))

-- a number passes the limit
pub large_there : (state : State) (part : Text) (byte : ℕ) (kind : RefusalKind) (sign : Sign) → sign_of byte ≡ sign → IsStateAfter state part
    → exceeds state sign ≡ Some kind → IsNumberTooLarge part byte kind
large_there state part byte kind (Digit digit) s h e = go state h e where
  passing : (n : ℕ) (other : RefusalKind) → passes other n digit ≡ Some kind → PassesLimit n byte × (other ≡ kind)
  passing n other e =
      let d = digit_of byte digit s in
      let p = passes_so other kind n digit e in
      ((d.0, subst (λ k. MAX_NUMBER < 10 * n + k) d.1 p.0), p.1)

  go : (state : State) → IsStateAfter state part → exceeds_by state digit ≡ Some kind → IsNumberTooLarge part byte kind
  go (First n) h e = let p = passing n WidthTooLarge e in subst (IsNumberTooLarge part byte) p.1 (first_too_large part n byte h p.0)
  go (Digits place n) h e =
      let p = passing n (too_large place) e in
      subst (IsNumberTooLarge part byte) p.1 (n, p.0, inl (digits_there place h.0 h.1 part n h.2 (digits_amount place h.1 n h.3) h.5))
  go (StarDigits place n) h e =
      let p = passing n (too_large place) e in
      subst (IsNumberTooLarge part byte) p.1
      (n, p.0, inr (position_of place, own_before place, star_digits_there place n part h))
  go _ h e = cc
large_there state part byte kind _ s h e = cc

-- a fetch without a number conflicts with none
all_types : (seen : List Fetch) (f : Fetch) → f.number ≡ None → AllByRecursion (IsOneType f) seen
all_types [] f e = tt
all_types (g ∷ seen) f e = ((λ n a b. let no : None ≡ Some n = sym e ∙ a in cc), all_types seen f e)

star_number : (state : State) (f : Fetch) → star_fetched (place_in state) ≡ Some f → f.number ≡ None
star_number _ f e = grind arith

pub no_some : {X : Type 0} (o : Option X) → ((x : X) → o ≡ Some x → ⊥) → o ≡ None
no_some None h = refl
no_some (Some x) h = absurd (h x refl)

unmixed_large : (sign : Sign) (state : State) (numbering : Numbering) (kind : RefusalKind) → exceeds state sign ≡ Some kind → mixes state numbering sign ≡ false
unmixed_large sign state numbering kind e = grind arith

-- one of two outcomes by a test
on_test : {A B : Type 0} (c : Bool) (x y z : Outcome) → (if c then x else y) ≡ z → (x ≡ z → A) → (y ≡ z → B) → MatchBool c A B
on_test true x y z e f g = f e
on_test false x y z e f g = g e

by_test : {A B : Type 0} (c : Bool) (x y z : Outcome) → MatchBool c A B → (A → x ≡ z) → (B → y ≡ z) → (if c then x else y) ≡ z
by_test true x y z m f g = f m
by_test false x y z m f g = g m

module _ (part : Text) (state : State) (byte : ℕ) (h : IsStateAfter state part) where
  abbrev sign : Sign
  sign = sign_of byte

  mixed_here : (numbering : Numbering) → IsMixed part numbering byte → mixes state numbering sign ≡ true
  mixed_here numbering (inl m) =
      ap (λ s. mixes s numbering sign) (one_state state Opened part h m.0) ∙ ap (λ q. mixes_opened q sign) m.1 ∙ percent_mixes byte m.2
  mixed_here numbering (inr (inl (n, first, m))) =
      ap (λ s. mixes s numbering sign) (one_state state (First n) part h first) ∙ first_mixes numbering byte m
  mixed_here numbering (inr (inr (inl (position, own, m, e)))) =
      let p = place_of m.kind m.before position own m.before_is in
      ap (λ s. mixes s numbering sign) (one_state state (Star p.place) part h (m.before, p.before, m.whole))
      ∙ ap (λ o. mixes_star o sign) p.position_is ∙ star_mixes position byte e
  mixed_here numbering (inr (inr (inr (kind, n, position, own, m, d, e)))) =
      let p = star_digits_at part kind n position own m in
      ap (λ s. mixes s numbering sign) (one_state state (StarDigits p.0.place n) part h p.1) ∙ digits_mix byte d e

  large_here : (kind : RefusalKind) → IsNumberTooLarge part byte kind → exceeds state sign ≡ Some kind
  large_here kind (n, passing, m) = ap (exceeds state) (sign_of_digit byte passing.0) ∙ go m where
    passed : (place : Place) → too_large place ≡ kind → passes (too_large place) n (byte - 48) ≡ Some kind
    passed place e = ap (λ k. passes k n (byte - 48)) e ∙ passes_limit kind n byte passing

    go : EndsInDigits part kind n ⊎ ((position : Option ℕ) × (own : List Fetch) × EndsInStarDigits part kind n position own)
        → exceeds_by state (byte - 48) ≡ Some kind
    go (inl m) =
        let p = place_of kind m.before m.position m.own m.before_is in
        let amount = subst (λ k. SpellsAmount k m.digits n) (sym p.kind_is) m.digits_are in
        let s = digits_state p.place m.before m.digits part n p.before (amount_digits p.place m.digits n (some_limit n byte passing) amount) m.whole in
        ap (λ q. exceeds_by q (byte - 48)) (one_state state s.state part h s.after) ∙ s.grows_past (byte - 48) ∙ passed p.place p.kind_is
    go (inr (position, own, m)) =
        let p = star_digits_at part kind n position own m in
        ap (λ q. exceeds_by q (byte - 48)) (one_state state (StarDigits p.0.place n) part h p.1) ∙ passed p.0.place p.0.kind_is

  fetched_there : (given : Sign) → sign ≡ given → (f : Fetch) → fetched_on given state ≡ Some f → (f.number ≡ None) ⊎ FetchesStar part byte f
  fetched_there Asterisk s f e = inl (star_number state f e)
  fetched_there Dollar s f e = go state h e where
    go : (state : State) → IsStateAfter state part → dollar_fetched state ≡ Some f → (f.number ≡ None) ⊎ FetchesStar part byte f
    go (StarDigits place n) h e =
        inr (too_large place, n, position_of place, own_before place, star_digits_there place n part h, dollar_of byte s, cc)
    go _ h e = cc
  fetched_there _ s f e = cc

  -- with the byte it is neither whole nor begun
  pub nowhere : (numbering : Numbering) → mixes state numbering sign ≡ false → exceeds state sign ≡ None → step state sign ≡ None → finish state sign ≡ None
      → IsUnexpected numbering part byte
  nowhere numbering m x s f =
      record {
        begun = λ none. never_empty state (subst (IsStateAfter state) none h);
        one_kind = λ k. let no = sym m ∙ mixed_here numbering k in cc;
        small = λ kind k. let no = sym x ∙ large_here kind k in cc;
        no_whole = λ s k.
            let e = ends part byte s k in
            let no = sym f ∙ ap (λ q. finish q sign) (one_state state e.state part h e.after) ∙ e.goes in cc;
        no_part = λ position own k. let q = state_of (part ++ byte ∷ []) position own k in earlier q.state (shrinks q.state part byte q.after);
      } where
        earlier : (to : State) → ((part ≡ []) × (byte ≡ 37) × (to ≡ Opened)) ⊎ Earlier to part byte → ⊥
        earlier to (inl none) = never_empty state (subst (IsStateAfter state) none.0 h)
        earlier to (inr e) = let no = sym s ∙ ap (λ q. step q sign) (one_state state e.state part h e.after) ∙ e.goes in cc

  module _ (model : Model) (fetches : List Fetch) (kind : RefusalKind) where
    abbrev numbering : Numbering
    numbering = numbering_of fetches

    two_types : (f : Fetch) (to : Outcome) → (if conflicts fetches f then Refuses TwoTypes else to) ≡ Refuses kind → (to ≢ Refuses kind)
        → (kind ≡ TwoTypes) × ¬ AllByRecursion (IsOneType f) fetches
    two_types f to e other = elim (cases_Bool (conflicts fetches f)) [
      | inl c ↦ let k : Refuses TwoTypes ≡ Refuses kind = rw c at e in (cc, λ all. let no = sym c ∙ conflicts_not fetches f all in cc)
      | inr c ↦ absurd (other (rw c at e))
    ]

    conflict_begun : (to : State) (o : Option Fetch) → begun fetches to o ≡ Refuses kind
        → (f : Fetch) × (o ≡ Some f) × (kind ≡ TwoTypes) × ¬ AllByRecursion (IsOneType f) fetches
    conflict_begun to None e = cc
    conflict_begun to (Some f) e = let two = two_types f (Begins to (Some f)) e (λ f. cc) in (f, refl, two.0, two.1)

    wrong_end : (s : WholeSpecification) → MayGoOn numbering state → mixes state numbering sign ≡ false → finish state sign ≡ Some s
        → ended model fetches s (undefined_of s) ≡ Refuses kind → IsWrong model fetches part byte kind
    wrong_end s follows m f e = go (undefined_of s) refl e where
      there : CompletesSpecification numbering part byte
      there = record { s = s; spelled = finishes state part byte s h f; follows = end_forth state sign s f numbering follows m }

      go : (o : Option RefusalKind) → undefined_of s ≡ o → ended model fetches s o ≡ Refuses kind → IsWrong model fetches part byte kind
      go (Some other) u e = inr (inr (inl (there, u ∙ cc)))
      go None u e =
          let two = two_types (last_fetch model s) (Ends s (last_fetch model s)) e (λ f. cc) in
          inr (inr (inr (inl (two.0, last_fetch model s, inr (there, u, refl), two.1))))

    wrong : MayGoOn numbering state → by_sign model fetches state sign ≡ Refuses kind → IsWrong model fetches part byte kind
    wrong follows e = elim (cases_Bool (mixes state numbering sign)) [
      | inl m ↦ let k : Refuses Mixed ≡ Refuses kind = rw m at e in inl (cc, mixed_there state part numbering byte h m)
      | inr m ↦ elim (known (exceeds state sign)) [
        | inr x ↦
            let k : Refuses x.0 ≡ Refuses kind = rw (m, x.1) at e in
            let same : x.0 ≡ kind = cc in
            inr (inl (large_there state part byte kind sign refl h (x.1 ∙ ap Some same)))
        | inl x ↦ elim (known (step state sign)) [
          | inr to ↦
              let two = conflict_begun to.0 (fetched_on sign state) (rw (m, x, to.1) at e) in
              elim (fetched_there sign refl two.0 two.1) [
                | inl none ↦ absurd (two.3 (all_types fetches two.0 none))
                | inr star ↦ inr (inr (inr (inl (two.2, two.0, inl star, two.3))))
              ]
          | inl s ↦ elim (known (finish state sign)) [
            | inr whole ↦ wrong_end whole.0 follows m whole.1 (rw (m, x, s, whole.1) at e)
            | inl f ↦
                let k : Refuses Unexpected ≡ Refuses kind = rw (m, x, s, f) at e in
                inr (inr (inr (inr (cc, nowhere numbering m x s f))))
          ]
        ]
      ]
    ]

    two_refused : (f : Fetch) (to : Outcome) → ¬ AllByRecursion (IsOneType f) fetches
        → (if conflicts fetches f then Refuses TwoTypes else to) ≡ Refuses TwoTypes
    two_refused f to none =
        let c = true_from_ne_false (conflicts fetches f) (λ c. none (conflicts_no fetches f c)) in rw c refl

    -- the byte ends a specification
    ending : (end : CompletesSpecification numbering part byte) → by_sign model fetches state sign ≡ ended model fetches end.s (undefined_of end.s)
    ending end =
        let e = ends part byte end.s end.spelled in
        let goes : finish state sign ≡ Some end.s = ap (λ q. finish q sign) (one_state state e.state part h e.after) ∙ e.goes in
        completes_sign model fetches state sign (end_back state sign end.s goes numbering end.follows).0 end.s goes

    right : IsWrong model fetches part byte kind → by_sign model fetches state sign ≡ Refuses kind
    right (inl (k, m)) = let mixed = mixed_here numbering m in rw mixed (ap Refuses (sym k))
    right (inr (inl m)) =
        let x = large_here kind m in
        let m = unmixed_large sign state numbering kind x in rw (m, x) refl
    right (inr (inr (inl (end, u)))) = ending end ∙ ap (ended model fetches end.s) u
    right (inr (inr (inr (inl (k, f, inl (other, n, position, own, m, dollar, is), none))))) =
        let p = star_digits_at part other n position own m in
        ap (λ q. by_sign model fetches q sign) (one_state state (StarDigits p.0.place n) part h p.1)
        ∙ ap (λ b. by_sign model fetches (StarDigits p.0.place n) (sign_of b)) dollar
        ∙ two_refused (fetch (Some n) int_type) _ (subst (λ f. ¬ AllByRecursion (IsOneType f) fetches) is none) ∙ ap Refuses (sym k)
    right (inr (inr (inr (inl (k, f, inr (end, u, is), none))))) =
        ending end ∙ ap (ended model fetches end.s) u
        ∙ two_refused (last_fetch model end.s) _ (subst (λ f. ¬ AllByRecursion (IsOneType f) fetches) is none) ∙ ap Refuses (sym k)
    right (inr (inr (inr (inr (k, u))))) =
        let m = false_from_ne_true (mixes state numbering sign) (λ m. u.one_kind (mixed_there state part numbering byte h m)) in
        let x = no_some (exceeds state sign) (λ other x. u.small other (large_there state part byte other sign refl h x)) in
        let s = no_some (step state sign) (λ to s. u.no_part (position_in to) (own_in to) (begun_of to (part ++ byte ∷ []) (grows state to part byte h s))) in
        let f = no_some (finish state sign) (λ whole f. u.no_whole whole (finishes state part byte whole h f)) in
        rw (m, x, s, f) (ap Refuses (sym k))

pub refuses : (model : Model) (fetches : List Fetch) (part : Text) (state : State) (byte : ℕ) (kind : RefusalKind) → IsStateAfter state part
    → MayGoOn (numbering_of fetches) state → outcome model fetches state byte ≡ Refuses kind → IsWholeRefusedByte model fetches part byte kind
refuses model fetches part state byte kind h follows e =
    on_test (byte == 0) (Refuses NulByte) _ _ e (λ z. cc)
    (λ e. on_test (byte == 37) (on_percent state) _ _ e percent (other (ends_errno state byte) refl)) where
      kind_is : (state : State) → on_percent state ≡ Refuses kind → kind ≡ BadPercent
      kind_is Opened e = cc
      kind_is _ e = cc

      percent : on_percent state ≡ Refuses kind → (kind ≡ BadPercent) × (part ≢ []) × (part ≢ 37 ∷ [])
      percent e = (
        kind_is state e,
        (λ none. never_empty state (subst (IsStateAfter state) none h)),
        (λ one. let no : EndsOther ≡ Refuses kind = sym (ap on_percent (one_state state Opened part h one)) ∙ e in cc),
      )

      other : (errno : Bool) → ends_errno state byte ≡ errno → (if errno then EndsOther else by_sign model fetches state (sign_of byte)) ≡ Refuses kind
          → (part ≡ 37 ∷ [] → byte ≢ 109) × IsWrong model fetches part byte kind
      other true is e = cc
      other false is e = (
        (λ one letter. let no : true ≡ false = sym (ap₂ ends_errno (one_state state Opened part h one) letter) ∙ is in cc),
        wrong part state byte h model fetches kind follows e,
      )

pub refused : (model : Model) (fetches : List Fetch) (part : Text) (state : State) (byte : ℕ) (kind : RefusalKind) → IsStateAfter state part
    → IsWholeRefusedByte model fetches part byte kind → outcome model fetches state byte ≡ Refuses kind
refused model fetches part state byte kind h r =
    by_test (byte == 0) (Refuses NulByte) _ _ r (λ k. ap Refuses (sym k))
    (λ r. by_test (byte == 37) (on_percent state) _ _ r (percent state h) other) where
      percent : (state : State) → IsStateAfter state part → (kind ≡ BadPercent) × (part ≢ []) × (part ≢ 37 ∷ []) → on_percent state ≡ Refuses kind
      percent Opened h m = absurd (m.2 h)
      percent _ h m = ap Refuses (sym m.0)

      none : (state : State) → IsStateAfter state part → (part ≡ 37 ∷ [] → byte ≢ 109) → ends_errno state byte ≡ false
      none Opened h m = ne_eqb byte 109 (m h)
      none _ h m = refl

      other : (part ≡ 37 ∷ [] → byte ≢ 109) × IsWrong model fetches part byte kind
          → (if ends_errno state byte then EndsOther else by_sign model fetches state (sign_of byte)) ≡ Refuses kind
      other r = let no = none state h r.0 in rw no (right part state byte h model fetches kind r.1)
