-- Where and why a specification can't go on, and that no defined one begins there.
use Rattle.std.proofs.Common.{◌≡◌, ◌≢◌, ℕ, ◌+◌, ◌<◌, ◌≤◌, Bool, true, false, List, [], ◌∷◌, ◌++◌, get_or, length, refl, sym, ap, ◌∙◌, arith, inl, inr, subst, suc}
use Rattle.std.proofs.Common.{drop}
use Rattle.std.specs.Prelude.{Option, Some, None, is_some, ◌==◌, ◌||◌, ◌⊎◌, MatchBool, if◌then◌else◌, unwrap_or}
use Rattle.std.proofs.lemmas.Bool.{cases_lt, eqb-false, eqb-true}
use Rattle.std.proofs.lemmas.Bool.Decides.{nat_tests}
use Rattle.std.proofs.lemmas.List.{append_assoc, length-drop, append-nil, length_push}
use Rattle.pf_values.specs.declared.flags.FlagSet.{FlagSet}
use Rattle.pf_values.specs.declared.limits.TheConstants.{MAX_NUMBER}
use Rattle.pf_values.specs.declared.models.Model.{Model}
use Rattle.pf_values.specs.declared.refusals.RefusalKind.{RefusalKind}
use Rattle.pf_values.specs.declared.refusals.RefusalKind.TheVariants.{BadPercent, Mixed, NulByte, PrecisionTooLarge, WidthTooLarge}
use Rattle.pf_values.specs.declared.refusals.RefusalKind.TheVariants.{AltUndefined, CountUndefined, GroupUndefined, LengthUndefined, PrecisionUndefined, ZeroUndefined}
use Rattle.pf_values.specs.meaning.Defined.{is_above_limit}
use Rattle.pf_values.specs.meaning.Digits.{AreDigits}
use Rattle.pf_values.specs.meaning.Spelling.{width_spelled}
use Rattle.pf_values.specs.meaning.Text.{Text}
use Rattle.pf_values.proofs.Numerals.{number_after-place_sum}
use Rattle.pf_text.specs.Offsets.{ContinuesNumber, EndsNumber, EndsWidth, HasBytes}
use Rattle.pf_text.specs.States.{is_digit}
use Rattle.pf_text.specs.declared.refusals.Refusal.{Refusal}
use Rattle.pf_text.proofs.NoDirectiveLemmas.{bytes_rest, same_place}
use Rattle.pf_text.proofs.SpecificationLemmas.{bytes_join}
use Rattle.pf_posix.specs.declared.fetches.Fetch.{Fetch}
use Rattle.pf_posix.specs.declared.specifications.Numbering.{Numbering}
use Rattle.pf_posix.specs.declared.specifications.Numbering.TheVariants.{Undecided, Unnumbered, Numbered}
use Rattle.pf_posix.specs.Beginnings.{EndsInFirst, EndsInStar, EndsInStarDigits, IsBegunAs, IsUndecided, SpellsAmount, TakesAmount}
use Rattle.pf_posix.specs.Halts.{FollowsBy, Halts, IsHalt, IsStrayAt, stray, BeginsNoAfter, BeginsNoneAfter, is_of_combination}
use Rattle.pf_posix.specs.Refusals.{IsWholeRefusedByte, IsWrong, MixesStar, PassesLimit, numbering_of}
use Rattle.pf_posix.specs.Specifications.{Amount, WholeSpecification}
use Rattle.pf_posix.specs.Spelling.{SpellsUpToFlags, SpellsUpToWidth, SpellsWhole}
use Rattle.pf_posix.specs.Types.{star_fetches, fetch, int_type}
use Rattle.pf_posix.proofs.OneState.{never_empty, one_state, ends_here, from_end, ends, shrinks}
use Rattle.pf_posix.proofs.OutcomeLemmas.{digits_begun, digits_there, first_too_large, star_digits_at, refused, begins, completes, end_back, step_back, unmixed}
use Rattle.pf_posix.proofs.PartLemmas.{bool_no, no_first_digit, numeral_read, head_at, inside_at}
use Rattle.pf_posix.proofs.PartStates.{PlaceOf, begun_of, place_of, state_of, StateOf}
use Rattle.pf_posix.proofs.Steps.{IsBefore, IsStateAfter, Place, Width, Precision, State, Opened, First, Star, StarDigits, own_before, own_in, position_of}
use Rattle.pf_posix.proofs.Steps.{too_large, finish, sign_of, step}
use Rattle.pf_values.specs.declared.models.Model.TheVariants.{Lp64}
use Rattle.pf_text.proofs.Sound.{find_holds}
use Rattle.pf_text.proofs.Unique.{Cuts, Later, Sooner, cuts}
use Rattle.pf_posix.specs.declared.conversions.WholeConv.{WholeConv}
use Rattle.pf_posix.specs.declared.conversions.WholeLength.{WholeLength}
use Rattle.pf_posix.specs.Defined.{is_undefined_as, undefined_of}
use Rattle.pf_posix.specs.Readings.{conflicts}
use Rattle.pf_posix.proofs.Outcomes.{Begins, Ends, MayGoOn, Refuses, begun, ended, fetched_on, last_fetch, mixes}

-- tests of a byte: it isn't NUL, `%`, or the letter of `%m`
digit_plain : (byte : ℕ) → is_digit byte ≡ true → (byte == 0 || (byte == 37 || byte == 109)) ≡ false
digit_plain byte d = grind (arith, nat_tests)

dollar_plain : (byte : ℕ) → (byte == 36) ≡ true → (byte == 0 || (byte == 37 || byte == 109)) ≡ false
dollar_plain byte d = grind (arith, nat_tests)

-- one byte
pub one_on : (t : Text) (start stop byte : ℕ) → HasBytes t start stop (byte ∷ []) → start + 1 ≡ stop
one_on t start stop byte h =
    let split = bytes_rest t start stop (byte ∷ []) h in
    omega (arith, h.from, h.within, ap length split, length-drop start t, length-drop stop t)

-- the byte ends neither `%%` nor `%m`
abbrev pub IsNoOther : Text → ℕ → Type 0
IsNoOther part byte = part ≡ 37 ∷ [] → (byte ≡ 37) ⊎ (byte ≡ 109) → ⊥

-- a byte that isn't allowed where it is, with kinds of their own for NUL and `%`
stray_refused : (model : Model) (fetches : List Fetch) (part : Text) (byte : ℕ) (kind : RefusalKind) → part ≢ [] → IsNoOther part byte
    → IsWrong model fetches part byte kind → IsWholeRefusedByte model fetches part byte (stray byte kind)
stray_refused model fetches part byte kind some more wrong = go (byte == 0) (byte == 37) (λ e one. more one (inl (eqb-true byte 37 e))) where
  go : (zero percent : Bool) → (percent ≡ true → part ≢ 37 ∷ []) → MatchBool zero ((if zero then NulByte else if percent then BadPercent else kind) ≡ NulByte)
      (MatchBool percent (((if zero then NulByte else if percent then BadPercent else kind) ≡ BadPercent) × (part ≢ []) × (part ≢ 37 ∷ []))
      ((part ≡ 37 ∷ [] → byte ≢ 109) × IsWrong model fetches part byte (if zero then NulByte else if percent then BadPercent else kind)))
  go true percent more = refl
  go false true more = (refl, some, more refl)
  go false false percent = (λ one letter. more one (inr letter), wrong)

pub past_percent : (state : State) (part : Text) → IsStateAfter state part → state ≢ Opened → part ≢ 37 ∷ []
past_percent state part h some one = some (one_state state Opened part h one)

-- the refusal of a byte after the part
module _ (t : Text) (begin : ℕ) (numbering : Numbering) (part : Text) (position : Option ℕ) (own : List Fetch) (begun : IsBegunAs part position own)
    (follows : IsUndecided part ⊎ FollowsBy numbering position) (stop : ℕ) (bytes : HasBytes t begin stop part) (kind : RefusalKind) (refusal : Refusal) where
  -- why it is rejected, after fetches of any numbering that may be there
  abbrev pub Wrong : Type 0
  Wrong = (model : Model) (fetches : List Fetch) → (own ≡ [] → numbering_of fetches ≡ numbering)
      → IsUndecided part ⊎ FollowsBy (numbering_of fetches) position → IsWrong model fetches part (get_or t stop 0) kind

  -- a byte that isn't allowed there, or the end
  pub halt_stray : IsStrayAt t stop kind refusal → IsNoOther part (get_or t stop 0) → (stop < length t → Wrong)
      → IsHalt t begin numbering position own refusal
  halt_stray s more wrong =
      record {
        part = part;
        bytes = subst (λ k. HasBytes t begin k part) (sym s.at_is) bytes;
        begun = begun;
        follows = follows;
        ended = λ over. s.ended (subst (λ k. length t ≤ k) s.at_is over);
        byte = λ less model fetches same f.
            let inside : stop < length t = subst (λ k. k < length t) s.at_is less in
            subst (λ k. IsWholeRefusedByte model fetches part (get_or t k 0) refusal.kind) (sym s.at_is)
            (subst (IsWholeRefusedByte model fetches part (get_or t stop 0)) (sym (s.inside inside))
            (stray_refused model fetches part (get_or t stop 0) kind some more (wrong inside model fetches same f)));
      } where
        some : part ≢ []
        some none = let s = state_of part position own begun in never_empty s.state (subst (IsStateAfter s.state) none s.after)

  -- a byte that is there
  pub halt_at : refusal ≡ record { kind = kind; at = stop } → stop < length t
      → (get_or t stop 0 == 0 || (get_or t stop 0 == 37 || get_or t stop 0 == 109)) ≡ false → Wrong
      → IsHalt t begin numbering position own refusal
  halt_at is inside plain wrong =
      halt_stray (subst (IsStrayAt t stop kind) (sym is) (record {
        at_is = refl;
        inside = λ less. grind (arith, nat_tests, plain);
        ended = λ over. absurd (omega (arith, over, inside));
      })) (λ one e. plainly (get_or t stop 0) plain e) (λ less. wrong) where
        plainly : (byte : ℕ) → (byte == 0 || (byte == 37 || byte == 109)) ≡ false → (byte ≡ 37) ⊎ (byte ≡ 109) → ⊥
        plainly byte plain (inl e) = absurd (grind (arith, nat_tests, plain, e))
        plainly byte plain (inr e) = absurd (grind (arith, nat_tests, plain, e))

-- specifications with numbers, or without, may follow
pub may_be_unnumbered : (numbering : Numbering) → numbering ≢ Numbered → FollowsBy numbering None
may_be_unnumbered numbering h = grind arith

pub may_be_numbered : (numbering : Numbering) (n : ℕ) → numbering ≢ Unnumbered → FollowsBy numbering (Some n)
may_be_numbered numbering n h = grind arith

-- after `%`
module _ (t : Text) (start begin : ℕ) (numbering : Numbering) (h : HasBytes t begin start (37 ∷ [])) where
  -- no number, where there must be one
  pub position_missing : (stop : ℕ) (refusal : Refusal) → HasBytes t start stop [] → EndsWidth None t stop → get_or t start 0 ≢ 37 → get_or t start 0 ≢ 109
      → numbering ≡ Numbered
      → IsStrayAt t stop Mixed refusal → IsHalt t begin numbering None [] refusal
  position_missing stop refusal none ends other errno numbered s =
      halt_stray t begin numbering (37 ∷ []) None [] (begun_of Opened (37 ∷ []) refl) (inl (inl refl)) stop (bytes_join t begin start stop (37 ∷ []) [] h none)
      Mixed refusal s (λ one e. go (subst (λ k. (get_or t k 0 ≡ 37) ⊎ (get_or t k 0 ≡ 109)) (sym (same_place t start stop none)) e))
      (λ less model fetches same f. inl (refl, inl (refl, same refl ∙ numbered, no_first_digit t stop ends))) where
        go : (get_or t start 0 ≡ 37) ⊎ (get_or t start 0 ≡ 109) → ⊥
        go (inl e) = other e
        go (inr e) = errno e

  -- after a number
  module _ (n stop : ℕ) (read : HasBytes t start stop (width_spelled (Some n))) (some : Some n ≢ Some 0) (few : is_above_limit (Some n) ≡ false)
      (ends : EndsWidth (Some n) t stop) where
    abbrev part_here : Text
    part_here = 37 ∷ width_spelled (Some n)

    first_here : EndsInFirst part_here n
    first_here = (width_spelled (Some n), numeral_read t start n stop read some few ends, refl)

    begun_here : IsBegunAs part_here None []
    begun_here = begun_of (First n) part_here first_here

    bytes_here : HasBytes t begin stop part_here
    bytes_here = bytes_join t begin start stop (37 ∷ []) (width_spelled (Some n)) h read

    pub position_over : (refusal : Refusal) → refusal ≡ record { kind = WidthTooLarge; at = stop } → stop < length t → is_digit (get_or t stop 0) ≡ true
        → IsHalt t begin numbering None [] refusal
    position_over refusal is inside digit =
        halt_at t begin numbering part_here None [] begun_here (inl (inr (n, first_here))) stop bytes_here WidthTooLarge refusal is inside
        (digit_plain (get_or t stop 0) digit)
        (λ model fetches same f. inr (inl (first_too_large part_here n (get_or t stop 0) first_here (digit, ends inside digit))))

    pub position_mixed : (refusal : Refusal) → refusal ≡ record { kind = Mixed; at = stop } → stop < length t → (get_or t stop 0 == 36) ≡ true
        → numbering ≡ Unnumbered → IsHalt t begin numbering None [] refusal
    position_mixed refusal is inside dollar unnumbered =
        halt_at t begin numbering part_here None [] begun_here (inl (inr (n, first_here))) stop bytes_here Mixed refusal is inside
        (dollar_plain (get_or t stop 0) dollar)
        (λ model fetches same f. inl (refl, inr (inl (n, first_here, inl (same refl ∙ unnumbered, eqb-true (get_or t stop 0) 36 dollar)))))

    pub position_open : (refusal : Refusal) → IsStrayAt t stop Mixed refusal → is_digit (get_or t stop 0) ≡ false → (get_or t stop 0 == 36) ≡ false
        → numbering ≡ Numbered → IsHalt t begin numbering None [] refusal
    position_open refusal s digit dollar numbered =
        halt_stray t begin numbering part_here None [] begun_here (inl (inr (n, first_here))) stop bytes_here Mixed refusal s
        (λ one e. past_percent (First n) part_here first_here (λ same. cc) one)
        (λ less model fetches same f. inl (refl, inr (inl (n, first_here, inr (same refl ∙ numbered, digit, eqb-false (get_or t stop 0) 36 dollar)))))

-- after a `*`
module _ (t : Text) (start begin : ℕ) (numbering : Numbering) (position : Option ℕ) (kind : RefusalKind) (before : Text) (own : List Fetch)
    (h : HasBytes t begin start (before ++ 42 ∷ [])) (takes : TakesAmount kind before position own) (follows : FollowsBy numbering position) where
  p : PlaceOf kind before position own
  p = place_of kind before position own takes

  star_here : EndsInStar (before ++ 42 ∷ []) position own
  star_here = record { kind = kind; before = before; before_is = takes; whole = refl }

  -- a digit, where there is no number
  pub star_mixed : (refusal : Refusal) → refusal ≡ record { kind = Mixed; at = start } → start < length t → is_digit (get_or t start 0) ≡ true → position ≡ None
      → Halts t begin numbering position own refusal
  star_mixed refusal is inside digit none =
      let begun = subst (λ o. IsBegunAs (before ++ 42 ∷ []) o (own_in (Star p.place))) p.position_is
      (begun_of (Star p.place) (before ++ 42 ∷ []) (before, p.before, refl)) in (
        own_in (Star p.place),
        halt_at t begin numbering (before ++ 42 ∷ []) position (own_in (Star p.place)) begun (inr follows) start h Mixed refusal is inside
            (digit_plain (get_or t start 0) digit)
            (λ model fetches same f. inl (refl, inr (inr (inl (position, own, star_here, subst (λ o. MixesStar o (get_or t start 0)) (sym none) digit))))),
        λ some. let no : false ≡ true = ap is_some (sym none) ∙ some in cc,
      )

  module _ (k : ℕ) (numbered : position ≡ Some k) where
    -- no number
    pub star_missing : (stop : ℕ) (refusal : Refusal) → HasBytes t start stop [] → EndsWidth None t stop → IsStrayAt t stop Mixed refusal
        → Halts t begin numbering position own refusal
    star_missing stop refusal none ends s = (
      own,
      halt_stray t begin numbering (before ++ 42 ∷ []) position own (inr (inl (star_here, ap is_some numbered))) (inr follows) stop
          (subst (λ u. HasBytes t begin u (before ++ 42 ∷ [])) (same_place t start stop none) h) Mixed refusal s
          (λ one e. past_percent (Star p.place) (before ++ 42 ∷ []) (before, p.before, refl) (λ same. cc) one)
          (λ less model fetches same f.
          inl (refl, inr (inr (inl (position, own, star_here, subst (λ o. MixesStar o (get_or t stop 0)) (sym numbered) (no_first_digit t stop ends)))))),
      λ some. refl,
    )

    module _ (n stop : ℕ) (read : HasBytes t start stop (width_spelled (Some n))) (some : Some n ≢ Some 0) (few : is_above_limit (Some n) ≡ false)
        (ends : EndsWidth (Some n) t stop) where
      abbrev digits : Text
      digits = width_spelled (Some n)

      star_digits : EndsInStarDigits (before ++ 42 ∷ digits) kind n position own
      star_digits =
          record {
            before = before;
            digits = digits;
            before_is = takes;
            numbered = ap is_some numbered;
            digits_are = numeral_read t start n stop read some few ends;
            whole = refl;
          }

      star_bytes : HasBytes t begin stop (before ++ 42 ∷ digits)
      star_bytes = subst (HasBytes t begin stop) (append_assoc before (42 ∷ []) digits) (bytes_join t begin start stop (before ++ 42 ∷ []) digits h read)

      -- one more digit passes the limit
      pub star_over : (refusal : Refusal) → refusal ≡ record { kind = kind; at = stop } → stop < length t → is_digit (get_or t stop 0) ≡ true
          → Halts t begin numbering position own refusal
      star_over refusal is inside digit = (
        own,
        halt_at t begin numbering (before ++ 42 ∷ digits) position own (inr (inr (kind, n, star_digits))) (inr follows) stop star_bytes kind refusal is inside
            (digit_plain (get_or t stop 0) digit)
            (λ model fetches same f. inr (inl (n, (digit, ends inside digit), inr (position, own, star_digits)))),
        λ has. refl,
      )

      -- no `$`
      pub star_open : (refusal : Refusal) → IsStrayAt t stop Mixed refusal → is_digit (get_or t stop 0) ≡ false → (get_or t stop 0 == 36) ≡ false
          → Halts t begin numbering position own refusal
      star_open refusal s digit dollar = (
        own,
        halt_stray t begin numbering (before ++ 42 ∷ digits) position own (inr (inr (kind, n, star_digits))) (inr follows) stop star_bytes Mixed refusal s
            (λ one e. let q = star_digits_at (before ++ 42 ∷ digits) kind n position own star_digits in
            past_percent (StarDigits q.0.place n) (before ++ 42 ∷ digits) q.1 (λ same. cc) one)
            (λ less model fetches same f.
            inl (refl, inr (inr (inr (kind, n, position, own, star_digits, digit, eqb-false (get_or t stop 0) 36 dollar))))),
        λ has. refl,
      )

-- digits that pass the limit
digits_halt : (t : Text) (start begin : ℕ) (numbering : Numbering) (place : Place) (before digits : Text) (n stop : ℕ) → HasBytes t begin start before
    → IsBefore place before → FollowsBy numbering (position_of place) → SpellsAmount (too_large place) digits n → HasBytes t start stop digits
    → EndsNumber n t stop → (refusal : Refusal) → refusal ≡ record { kind = too_large place; at = stop } → stop < length t
    → is_digit (get_or t stop 0) ≡ true → Halts t begin numbering (position_of place) (own_before place) refusal
digits_halt t start begin numbering place before digits n stop h is_before follows amount read ends refusal is inside digit =
    let passing : PassesLimit n (get_or t stop 0) = (digit, ends inside digit) in (
      own_before place,
      halt_at t begin numbering (before ++ digits) (position_of place) (own_before place)
          (digits_begun place before digits n (get_or t stop 0) is_before amount passing) (inr follows) stop
          (bytes_join t begin start stop before digits h read) (too_large place) refusal is inside (digit_plain (get_or t stop 0) digit)
          (λ model fetches same f. inr (inl (n, passing, inl (digits_there place before digits (before ++ digits) n is_before amount refl)))),
      λ has. refl,
    )

-- of a width
module _ (t : Text) (start begin : ℕ) (numbering : Numbering) (position : Option ℕ) (before : Text) (set : FlagSet) (h : HasBytes t begin start before)
    (spelled : SpellsUpToFlags before position set) (follows : FollowsBy numbering position) (n stop : ℕ)
    (read : HasBytes t start stop (width_spelled (Some n)))
    (some : Some n ≢ Some 0) (few : is_above_limit (Some n) ≡ false) (ends : EndsWidth (Some n) t stop) where
  pub width_halts : (refusal : Refusal) → refusal ≡ record { kind = WidthTooLarge; at = stop } → stop < length t → is_digit (get_or t stop 0) ≡ true
      → Halts t begin numbering position [] refusal
  width_halts = digits_halt t start begin numbering (Width position set) before (width_spelled (Some n)) n stop h spelled follows
      (numeral_read t start n stop read some few ends) read ends

-- and of a precision
module _ (t : Text) (start begin : ℕ) (numbering : Numbering) (position : Option ℕ) (before : Text) (set : FlagSet) (width : Option Amount)
    (h : HasBytes t begin start (before ++ 46 ∷ [])) (spelled : SpellsUpToWidth before position set width) (follows : FollowsBy numbering position) (n stop : ℕ)
    (few : n ≤ MAX_NUMBER) (read : (bytes : Text) × ContinuesNumber 0 bytes n × HasBytes t start stop bytes) (ends : EndsNumber n t stop) where
  pub point_halts : (refusal : Refusal) → refusal ≡ record { kind = PrecisionTooLarge; at = stop } → stop < length t → is_digit (get_or t stop 0) ≡ true
      → Halts t begin numbering position (star_fetches width) refusal
  point_halts =
      let c = read.1 in
      let digits : AreDigits 10 n c.digits = record { below = c.below; sum = omega (arith, number_after-place_sum 10 0 c.digits, c.value) } in
      digits_halt t start begin numbering (Precision position set width) (before ++ 46 ∷ []) read.0 n stop h (before, spelled, refl) follows
      ((c.digits, digits, ap (λ u. 46 ∷ u) c.spelled), few) read.2 ends

-- Where a specification is rejected, no defined one begins.
-- the text is the beginning of a specification, which may follow others of a numbering
record IsBegun (numbering : Numbering) (t : Text) : Type 0 where
  state : State
  after : IsStateAfter state t
  follows : MayGoOn numbering state

module _ (numbering : Numbering) (t : Text) (some : t ≢ []) where
  begun_front : (more : Text) → IsBegun numbering (t ++ more) → IsBegun numbering t
  begun_front = from_end (λ more. IsBegun numbering (t ++ more) → IsBegun numbering t) (subst (IsBegun numbering) (append-nil t)) (λ more byte earlier b.
      elim (shrinks b.state (t ++ more) byte (subst (IsStateAfter b.state) (sym (append_assoc t more (byte ∷ []))) b.after)) [
        | inl none ↦ absurd (none_front t more some none.0)
        | inr a ↦ earlier (record { state = a.state; after = a.after; follows = step_back numbering a.state b.state (sign_of byte) a.goes b.follows })
      ]) where
        none_front : (t more : Text) → t ≢ [] → t ++ more ≢ []
        none_front [] more some e = some refl
        none_front (byte ∷ t) more some e = cc

  spelled_front : (s : WholeSpecification) → FollowsBy numbering s.position → (more : Text) → SpellsWhole (t ++ more) s → (more ≡ []) ⊎ IsBegun numbering t
  spelled_front s follows = from_end (λ more. SpellsWhole (t ++ more) s → (more ≡ []) ⊎ IsBegun numbering t) (λ h. inl refl) (λ more byte earlier h.
      let a = ends (t ++ more) byte s (subst (λ u. SpellsWhole u s) (sym (append_assoc t more (byte ∷ []))) h) in
      inr (begun_front more (record { state = a.state; after = a.after; follows = (end_back a.state (sign_of byte) s a.goes numbering follows).1 })))

-- earlier fetches of a numbering that give no argument of a fetch another type
abbrev AreHarmless : Numbering → Fetch → Type 0
AreHarmless numbering f = (fetches : List Fetch) × (numbering_of fetches ≡ numbering) × (conflicts fetches f ≡ false)

harmless : (numbering : Numbering) (f : Fetch) → AreHarmless numbering f
harmless Undecided f = ([], refl, refl)
harmless Unnumbered f = (fetch None int_type ∷ [], refl, refl)
harmless Numbered f = (other f ∷ [], refl, go f.number refl) where
  other : Fetch → Fetch
  other f = fetch (Some (suc (unwrap_or f.number 0))) int_type

  go : (o : Option ℕ) → f.number ≡ o → conflicts (other f ∷ []) f ≡ false
  go o e = grind (arith, nat_tests)

module _ (numbering : Numbering) (part : Text) (byte : ℕ) (state : State) (at : IsStateAfter state part) (kind : RefusalKind)
    (refused_byte : (fetches : List Fetch) → numbering_of fetches ≡ numbering → IsWholeRefusedByte Lp64 fetches part byte kind) where
  -- the byte isn't rejected that goes on
  goes_on : (to : State) → step state (sign_of byte) ≡ Some to → MayGoOn numbering to → ⊥
  goes_on to e follows = go (fetched_on (sign_of byte) state) refl where
    never : (o : Option Fetch) (fetches : List Fetch) → numbering_of fetches ≡ numbering → fetched_on (sign_of byte) state ≡ o
        → begun fetches to o ≡ Begins to o → ⊥
    never o fetches same k so =
        let mixed = subst (λ q. mixes state q (sign_of byte) ≡ false) (sym same) (unmixed numbering state to (sign_of byte) e follows) in
        let no : Begins to o ≡ Refuses kind = sym so ∙ ap (begun fetches to) (sym k) ∙ sym (begins Lp64 fetches state byte mixed to e)
        ∙ refused Lp64 fetches part state byte kind at (refused_byte fetches same) in cc

    go : (o : Option Fetch) → fetched_on (sign_of byte) state ≡ o → ⊥
    go None k = let h = harmless numbering (fetch None int_type) in never None h.0 h.1 k refl
    go (Some f) k = let h = harmless numbering f in let clear = h.2 in never (Some f) h.0 h.1 k (rw clear refl)

  -- nor is the one that ends a specification, unless that is undefined for this reason
  ends_so : (s : WholeSpecification) → finish state (sign_of byte) ≡ Some s → FollowsBy numbering s.position → undefined_of s ≢ Some kind → ⊥
  ends_so s e follows other = go (undefined_of s) refl where
    last : Fetch
    last = last_fetch Lp64 s

    h : AreHarmless numbering last
    h = harmless numbering last

    so : ended Lp64 h.0 s (undefined_of s) ≡ Refuses kind
    so =
        let mixed = (end_back state (sign_of byte) s e numbering follows).0 in
        sym (completes Lp64 h.0 state byte (subst (λ q. mixes state q (sign_of byte) ≡ false) (sym h.1) mixed) s e)
        ∙ refused Lp64 h.0 part state byte kind at (refused_byte h.0 h.1)

    go : (o : Option RefusalKind) → undefined_of s ≡ o → ⊥
    go (Some k) d = let no : Refuses k ≡ Refuses kind = ap (ended Lp64 h.0 s) (sym d) ∙ so in let same : k ≡ kind = cc in other (d ∙ ap Some same)
    go None d =
        let clear = h.2 in
        let ended_so : ended Lp64 h.0 s None ≡ Ends s last = rw clear refl in
        let no : Ends s last ≡ Refuses kind = sym ended_so ∙ ap (ended Lp64 h.0 s) (sym d) ∙ so in cc

-- a specification that begins there is undefined for the reason that is given
pub halt_begins : (t : Text) (start : ℕ) (numbering : Numbering) (position : Option ℕ) (own : List Fetch) (refusal : Refusal)
    → IsHalt t start numbering position own refusal → (text rest : Text) (s : WholeSpecification) → SpellsWhole text s → drop start t ≡ text ++ rest
    → FollowsBy numbering s.position → undefined_of s ≢ Some refusal.kind → ⊥
halt_begins t start numbering position own refusal h text rest s spelled e follows other =
    go (cuts text rest h.part (drop refusal.at t) (sym e ∙ bytes_rest t start refusal.at h.part h.bytes)) where
      b : StateOf h.part position own
      b = state_of h.part position own h.begun

      never : (x : Text) → h.part ≡ text ++ x → ⊥
      never x same = ends_here text x s b.state spelled (subst (IsStateAfter b.state) same b.after)

      go : Cuts text rest h.part (drop refusal.at t) → ⊥
      go (Later x same back) = never x same
      go (Sooner [] same back) = never [] (sym (same ∙ append-nil h.part) ∙ sym (append-nil text))
      go (Sooner (byte ∷ more) same back) = elim (spelled_front numbering (h.part ++ byte ∷ []) some s follows more whole) [
        | inl none ↦ ended_here (subst (λ u. SpellsWhole u s) (ap (λ m. (h.part ++ byte ∷ []) ++ m) none ∙ append-nil (h.part ++ byte ∷ [])) whole)
        | inr to ↦ elim (shrinks to.state h.part byte to.after) [
          | inl none ↦ never_empty b.state (subst (IsStateAfter b.state) none.0 b.after)
          | inr a ↦ goes_on numbering h.part byte a.state a.after refusal.kind refused_here to.state a.goes to.follows
        ]
      ] where
        some : h.part ++ byte ∷ [] ≢ []
        some none = omega (arith, ap length none, length_push h.part byte)

        whole : SpellsWhole ((h.part ++ byte ∷ []) ++ more) s
        whole = subst (λ u. SpellsWhole u s) (same ∙ sym (append_assoc h.part (byte ∷ []) more)) spelled

        refused_here : (fetches : List Fetch) → numbering_of fetches ≡ numbering → IsWholeRefusedByte Lp64 fetches h.part byte refusal.kind
        refused_here fetches q =
            subst (λ c. IsWholeRefusedByte Lp64 fetches h.part c refusal.kind) (head_at t refusal.at byte (more ++ rest) back)
            (h.byte (inside_at t refusal.at byte (more ++ rest) back) Lp64 fetches (λ none. q)
            (subst (λ n. IsUndecided h.part ⊎ FollowsBy n position) (sym q) h.follows))

        ended_here : SpellsWhole (h.part ++ byte ∷ []) s → ⊥
        ended_here k = let a = ends h.part byte s k in ends_so numbering h.part byte a.state a.after refusal.kind refused_here s a.goes follows other

pub halt_begins_none : (t : Text) (start : ℕ) (numbering : Numbering) (position : Option ℕ) (own : List Fetch) (refusal : Refusal)
    → IsHalt t start numbering position own refusal → BeginsNoneAfter numbering (drop start t)
halt_begins_none t start numbering position own refusal h text rest s spelled e follows defined =
    halt_begins t start numbering position own refusal h text rest s spelled e follows (λ some. let no : None ≡ Some refusal.kind = sym defined ∙ some in cc)

-- if it is rejected for no combination of parts, none begins there
pub halt_begins_no : (t : Text) (start : ℕ) (numbering : Numbering) (position : Option ℕ) (own : List Fetch) (refusal : Refusal)
    → IsHalt t start numbering position own refusal → is_of_combination refusal.kind ≡ false → BeginsNoAfter numbering (drop start t)
halt_begins_no t start numbering position own refusal h early text rest s spelled e follows =
    halt_begins t start numbering position own refusal h text rest s spelled e follows (λ some.
    bool_no (of_combination s.flags (is_some s.width) (is_some s.precision) s.modifier s.conversion refusal.kind
    (find_holds (is_undefined_as s.flags (is_some s.width) (is_some s.precision) s.modifier s.conversion)
    combinations refusal.kind some)) early) where
      combinations : List RefusalKind
      combinations = AltUndefined ∷ ZeroUndefined ∷ GroupUndefined ∷ PrecisionUndefined ∷ LengthUndefined ∷ CountUndefined ∷ []

      of_combination : (set : FlagSet) (width precision : Bool) (modifier : WholeLength) (conversion : WholeConv) (kind : RefusalKind)
          → is_undefined_as set width precision modifier conversion kind ≡ true → is_of_combination kind ≡ true
      of_combination set width precision modifier conversion kind h = grind arith

-- a byte that isn't allowed is rejected for no combination
pub stray_early : (t : Text) (at : ℕ) (kind : RefusalKind) (refusal : Refusal) → IsStrayAt t at kind refusal → is_of_combination kind ≡ false
    → is_of_combination refusal.kind ≡ false
stray_early t at kind refusal h early = elim (cases_lt at (length t)) [
  | inl less ↦ ap is_of_combination (h.inside less) ∙ go (get_or t at 0 == 0) (get_or t at 0 == 37)
  | inr over ↦ ap is_of_combination (h.ended over)
] where
  go : (zero percent : Bool) → is_of_combination (if zero then NulByte else if percent then BadPercent else kind) ≡ false
  go true percent = refl
  go false true = refl
  go false false = early
