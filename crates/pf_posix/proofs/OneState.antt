-- Without its last byte, what has begun or is whole is begun. So a text has one state at most, and a specification isn't the
-- beginning of another.
use Rattle.std.proofs.Common.{◌≡◌, ◌≢◌, ℕ, ◌<◌, false, List, [], ◌∷◌, ◌++◌, map, length, length-append, refl, sym, ap, ◌∙◌, arith, subst, inl, inr}
use Rattle.std.specs.Prelude.{Option, Some, None, nat_lt, option_map, if◌then◌else◌, ◌⊎◌}
use Rattle.std.specs.Fmt.{digit_glyph}
use Rattle.std.proofs.lemmas.Grind.{fold-append}
use Rattle.std.proofs.lemmas.List.{append_assoc, append-nil, map_push, same_from_push, length_push}
use Rattle.pf_values.specs.declared.flags.Flag.{Flag}
use Rattle.pf_values.specs.declared.flags.FlagSet.{FlagSet}
use Rattle.pf_values.specs.declared.lengths.Length.TheVariants as lengths
use Rattle.pf_values.specs.declared.limits.TheConstants.{MAX_NUMBER}
use Rattle.pf_values.specs.meaning.Digits.{AreDigits}
use Rattle.pf_values.specs.meaning.Flags.{flag_byte, flag_set, no_flags, with_flag}
use Rattle.pf_values.specs.meaning.Text.{Text}
use Rattle.pf_text.proofs.Complete.{small}
use Rattle.pf_posix.specs.declared.conversions.WholeLength.{WholeLength}
use Rattle.pf_posix.specs.declared.conversions.WholeLength.TheVariants.{Integer, LongDouble}
use Rattle.pf_posix.specs.Specifications.{Amount, Given, Fetched, WholeSpecification, conversion_letter, modifier_letters}
use Rattle.pf_posix.specs.Spelling.{SpellsPosition, SpellsPositive, SpellsWhole, SpellsStar, SpellsUpToFlags, SpellsUpToPrecision, SpellsUpToWidth}
use Rattle.pf_posix.proofs.LetterLemmas.{digit_sign, letter_tests}
use Rattle.pf_posix.proofs.Growing.{LastDigit, MayBegin, last_digit}
use Rattle.pf_posix.proofs.Steps.{IsBefore, IsStateAfter, Numbers, Place, SpellsDigits, State, Width, Precision, finish, numbers_by, numbers_in, Opened, First}
use Rattle.pf_posix.proofs.Steps.{Flags, Digits, Star, StarDigits, Placed, Point, Modified, place_in, position_of, sign_of, step, Letter, Last, after_star, filled}
use Rattle.pf_posix.proofs.Steps.{on_digit, on_dot, on_last, on_letter, specification_by, with_digit, Sign}

pub record StateOfNumbers (t : Text) (numbers : Numbers) : Type 0 where
  pub state : State
  pub after : IsStateAfter state t
  pub has : numbers_in state ≡ Some numbers

pub record StateOfPlace (t : Text) (place : Place) : Type 0 where
  pub state : State
  pub after : IsStateAfter state t
  pub has : place_in state ≡ Some place

stands : (t : Text) (numbers : Numbers) (state : State) → IsStateAfter state t → numbers_in state ≡ Some numbers → StateOfNumbers t numbers
stands t numbers state h e = record { state = state; after = h; has = e }

-- the state after flags
at_flags : (t : Text) (position : Option ℕ) (set : FlagSet) → SpellsUpToFlags t position set → StateOfPlace t (Width position set)
at_flags t position set h = go position h.number h.flags h.number_is h.whole h.set_is refl where
  more : t ≢ 37 ∷ [] → StateOfPlace t (Width position set)
  more some = record { state = Flags position set; after = (h, some); has = refl }

  go : (known : Option ℕ) (number : Text) (flags : List Flag) → SpellsPosition number known → t ≡ 37 ∷ number ++ map flag_byte flags → set ≡ flag_set flags
      → position ≡ known → StateOfPlace t (Width position set)
  go None number [] d e s k = rw (k, s) (record { state = Opened; after = e ∙ ap (λ u. 37 ∷ u ++ []) d; has = refl })
  go None number (flag ∷ flags) d e s k =
      more (λ f. omega (arith, ap length f, ap length e, length-append number (flag_byte flag ∷ map flag_byte flags)))
  go (Some m) number flags d e s k =
      more (λ f. omega (arith, ap length f, ap length e, ap length d.2, length-append number (map flag_byte flags), length-append d.0 (36 ∷ [])))

-- and what may come there
module _ (state : State) (position : Option ℕ) (set : FlagSet) (at : place_in state ≡ Some (Width position set)) where
  numbers_there : numbers_in state ≡ Some (numbers_by position set None None)
  numbers_there = grind arith

  flag_goes : (flag : Flag) → step state (sign_of (flag_byte flag)) ≡ Some (Flags position (with_flag set flag))
  flag_goes flag = grind arith

number_goes : (t digits : Text) (n : ℕ) (position : Option ℕ) (set : FlagSet) (state : State) → SpellsPositive digits n → IsStateAfter state t
    → place_in state ≡ Some (Width position set) → StateOfNumbers (t ++ digits) (filled (Width position set) (Given n))
number_goes t digits n position set Opened d h e = stands (t ++ digits) _ (First n) (digits, d, ap (λ u. u ++ digits) h) (grind arith)
number_goes t digits n position set (Flags p f) d h e = stands (t ++ digits) _ (Digits (Width p f) n) (t, digits, h.0, d, h.1, refl) (grind arith)
number_goes t digits n position set _ d h e = absurd (grind arith)

at_star : (place : Place) (t before text : Text) (number : Option ℕ) → IsBefore place before → SpellsStar text (position_of place) number → t ≡ before ++ text
    → StateOfNumbers t (filled place (Fetched number))
at_star place t before text None h s e =
    let none : position_of place ≡ None = grind (arith, s.numbering) in
    stands t _ (Star place) (before, h, e ∙ ap (λ u. before ++ u) (s.whole ∙ ap (λ d. 42 ∷ d) s.digits_are)) (ap (after_star place) none)
at_star place t before text (Some n) h s e =
    let whole = e ∙ ap (λ u. before ++ u) (s.whole ∙ ap (λ d. 42 ∷ d) s.digits_are.2) ∙ sym (append_assoc before (42 ∷ s.digits_are.0) (36 ∷ [])) in
    stands t _ (Placed place n) (before, s.digits_are.0, h, s.digits_are.1, sym s.numbering, whole) refl

at_width : (t : Text) (position : Option ℕ) (set : FlagSet) (width : Option Amount) → SpellsUpToWidth t position set width
    → StateOfNumbers t (numbers_by position set width None)
at_width t position set None h =
    let same : t ≡ h.before = h.whole ∙ ap (λ u. h.before ++ u) h.width_is ∙ append-nil h.before in
    let f = at_flags t position set (subst (λ u. SpellsUpToFlags u position set) (sym same) h.before_is) in
    stands t _ f.state f.after (numbers_there f.state position set f.has)
at_width t position set (Some (Given n)) h =
    let f = at_flags h.before position set h.before_is in
    subst (λ u. StateOfNumbers u (filled (Width position set) (Given n))) (sym h.whole)
    (number_goes h.before h.text n position set f.state h.width_is f.after f.has)
at_width t position set (Some (Fetched number)) h = at_star (Width position set) t h.before h.text number h.before_is h.width_is h.whole

at_precision : (t : Text) (position : Option ℕ) (set : FlagSet) (width precision : Option Amount) → SpellsUpToPrecision t position set width precision
    → StateOfNumbers t (numbers_by position set width precision)
at_precision t position set width None h = at_width t position set width
    (subst (λ u. SpellsUpToWidth u position set width) (sym (h.whole ∙ ap (λ u. h.before ++ u) h.precision_is ∙ append-nil h.before)) h.before_is)
at_precision t position set width (Some (Given n)) h = go h.precision_is.0.0 h.precision_is.0.1 (h.whole ∙ ap (λ u. h.before ++ u) h.precision_is.0.2) where
  go : (ds : List ℕ) → AreDigits 10 n ds → t ≡ h.before ++ 46 ∷ map (digit_glyph false) ds → StateOfNumbers t (numbers_by position set width (Some (Given n)))
  go [] a e = stands t _ (Point position set width) (h.before, h.before_is, e) (ap (λ m. Some (numbers_by position set width (Some (Given m)))) a.sum)
  go (d ∷ ds) a e =
      let digits = map (digit_glyph false) (d ∷ ds) in
      let spelled : SpellsDigits (Precision position set width) digits n = (d ∷ ds, a, (λ none. cc), h.precision_is.1, refl) in
      stands t _ (Digits (Precision position set width) n)
      (h.before ++ 46 ∷ [], digits, (h.before, h.before_is, refl), spelled, tt, e ∙ sym (append_assoc h.before (46 ∷ []) digits)) refl
at_precision t position set width (Some (Fetched number)) h =
    let p = h.precision_is in
    at_star (Precision position set width) t (h.before ++ 46 ∷ []) p.0 number (h.before, h.before_is, refl) p.1
    (h.whole ∙ ap (λ u. h.before ++ u) p.2 ∙ sym (append_assoc h.before (46 ∷ []) p.0))

pub state_of_numbers : (t : Text) (numbers : Numbers) → SpellsUpToPrecision t numbers.position numbers.flags numbers.width numbers.precision
    → StateOfNumbers t numbers
state_of_numbers t numbers h = at_precision t numbers.position numbers.flags numbers.width numbers.precision h

pub state_of_place : (t : Text) (place : Place) → IsBefore place t → StateOfPlace t place
state_of_place t (Width position set) h = at_flags t position set h
state_of_place t (Precision position set width) h = record { state = Point position set width; after = h; has = refl }

-- what was begun before the last byte
pub record Earlier (to : State) (t : Text) (byte : ℕ) : Type 0 where
  pub state : State
  pub after : IsStateAfter state t
  pub goes : step state (sign_of byte) ≡ Some to

earlier : (to : State) (t : Text) (byte : ℕ) (front : Text) (last : ℕ) (state : State) → IsStateAfter state front → step state (sign_of last) ≡ Some to
    → t ++ byte ∷ [] ≡ front ++ last ∷ [] → Earlier to t byte
earlier to t byte front last state h g e =
    let same = same_from_push t front byte last e in
    record { state = state; after = subst (IsStateAfter state) (sym same.0) h; goes = ap (λ b. step state (sign_of b)) same.1 ∙ g }

-- the last digit of a number, in the states that hold it
module _ (place : Place) (before : Text) (state : ℕ → State) (from : State) (from_is : IsStateAfter from before)
    (begins : (d : ℕ) → MayBegin place d → on_digit from d ≡ Some (state d))
    (goes_on : (digits : Text) (n : ℕ) → SpellsDigits place digits n → IsStateAfter (state n) (before ++ digits))
    (goes : (n d : ℕ) → on_digit (state n) d ≡ with_digit state n d) where
  number_shrinks : (t digits : Text) (byte n : ℕ) → SpellsDigits place digits n → t ++ byte ∷ [] ≡ before ++ digits → Earlier (state n) t byte
  number_shrinks t digits byte n h e = go last.front_is where
    last : LastDigit place digits n
    last = last_digit place digits n h

    at_last : (q : State) → IsStateAfter q (before ++ last.front) → on_digit q last.digit ≡ Some (state n) → Earlier (state n) t byte
    at_last q a g = earlier (state n) t byte (before ++ last.front) (digit_glyph false last.digit) q a (ap (step q) (digit_sign last.digit last.small) ∙ g)
        (e ∙ ap (λ u. before ++ u) last.whole ∙ sym (append_assoc before last.front (digit_glyph false last.digit ∷ [])))

    go : ((last.front ≡ []) × (n ≡ last.digit) × MayBegin place last.digit) ⊎ SpellsDigits place last.front last.before → Earlier (state n) t byte
    go (inl one) = at_last from (subst (IsStateAfter from) (sym (ap (λ u. before ++ u) one.0 ∙ append-nil before)) from_is)
        (begins last.digit one.2 ∙ ap (λ k. Some (state k)) (sym one.1))
    go (inr front) = at_last (state last.before) (goes_on last.front last.before front)
        (goes last.before last.digit ∙ ap (λ k. if nat_lt MAX_NUMBER k then None else Some (state k)) last.number_is ∙ rw (small n last.few) refl)

last_flag : (flags : List Flag) → (flags ≡ []) ⊎ ((front : List Flag) × (flag : Flag) × (flags ≡ front ++ flag ∷ []))
last_flag [] = inl refl
last_flag (flag ∷ flags) = elim (last_flag flags) [
  | inl none ↦ inr ([], flag, ap (λ f. flag ∷ f) none)
  | inr some ↦ inr (flag ∷ some.0, some.1, ap (λ f. flag ∷ f) some.2)
]

pub shrinks : (to : State) (t : Text) (byte : ℕ) → IsStateAfter to (t ++ byte ∷ []) → ((t ≡ []) × (byte ≡ 37) × (to ≡ Opened)) ⊎ Earlier to t byte
shrinks Opened t byte h = let same = same_from_push t [] byte 37 h in inl (same.0, same.1, refl)
shrinks (First n) t byte h =
    inr (number_shrinks (Width None no_flags) (37 ∷ []) First Opened refl (λ d some. grind arith)
    (λ digits n d. (digits, d, refl)) (λ n d. refl) t h.0 byte n h.1 h.2)
shrinks (Flags position set) t byte h = inr (go (last_flag h.0.flags)) where
  none : (position : Option ℕ) → SpellsPosition h.0.number position → t ++ byte ∷ [] ≡ 37 ∷ h.0.number → set ≡ no_flags → Earlier (Flags position set) t byte
  none None d e s = absurd (h.1 (e ∙ ap (λ u. 37 ∷ u) d))
  none (Some n) d e s = earlier (Flags (Some n) set) t byte (37 ∷ d.0) 36 (First n) (d.0, d.1, refl) (ap (λ f. Some (Flags (Some n) f)) (sym s))
      (e ∙ ap (λ u. 37 ∷ u) d.2)

  go : (h.0.flags ≡ []) ⊎ ((front : List Flag) × (flag : Flag) × (h.0.flags ≡ front ++ flag ∷ [])) → Earlier (Flags position set) t byte
  go (inl e) = none position h.0.number_is (h.0.whole ∙ ap (λ f. 37 ∷ h.0.number ++ map flag_byte f) e ∙ append-nil _) (h.0.set_is ∙ ap flag_set e)
  go (inr (front, flag, e)) =
      let text = 37 ∷ h.0.number ++ map flag_byte front in
      let f = at_flags text position (flag_set front) (record { number = h.0.number; flags = front; number_is = h.0.number_is; set_is = refl; whole = refl }) in
      earlier (Flags position set) t byte text (flag_byte flag) f.state f.after
      (flag_goes f.state position (flag_set front) f.has flag
      ∙ ap (λ s. Some (Flags position s)) (sym (h.0.set_is ∙ ap flag_set e ∙ fold-append with_flag no_flags front (flag ∷ []))))
      (h.0.whole ∙ ap (λ f. 37 ∷ h.0.number ++ map flag_byte f) e ∙ ap (λ u. 37 ∷ h.0.number ++ u) (map_push flag_byte front flag)
      ∙ sym (append_assoc (37 ∷ h.0.number) (map flag_byte front) (flag_byte flag ∷ [])))
shrinks (Digits (Width position set) n) t byte h =
    inr (number_shrinks (Width position set) h.0 (Digits (Width position set)) (Flags position set) (h.2, h.4)
    (λ d some. grind arith)
    (λ digits n d. (h.0, digits, h.2, d, h.4, refl)) (λ n d. refl) t h.1 byte n h.3 h.5)
shrinks (Digits (Precision position set width) n) t byte h =
    inr (number_shrinks (Precision position set width) h.0 (Digits (Precision position set width)) (Point position set width) h.2 (λ d some. refl)
    (λ digits n d. (h.0, digits, h.2, d, h.4, refl)) (λ n d. refl) t h.1 byte n h.3 h.5)
shrinks (Star place) t byte h =
    let p = state_of_place h.0 place h.1 in inr (earlier (Star place) t byte h.0 42 p.state p.after (ap (option_map Star) p.has) h.2)
shrinks (StarDigits place n) t byte h =
    inr (number_shrinks (Width None no_flags) (h.0 ++ 42 ∷ []) (StarDigits place) (Star place) (h.0, h.2, refl)
    (λ d some. grind (arith, h.4))
    (λ digits n d. (h.0, digits, h.2, d, h.4, append_assoc h.0 (42 ∷ []) digits)) (λ n d. refl)
    t h.1 byte n h.3 (h.5 ∙ sym (append_assoc h.0 (42 ∷ []) h.1)))
shrinks (Placed place n) t byte h =
    inr (earlier (Placed place n) t byte (h.0 ++ 42 ∷ h.1) 36 (StarDigits place n) (h.0, h.1, h.2, h.3, h.4, refl) refl h.5)
shrinks (Point position set width) t byte h =
    let p = at_width h.0 position set width h.1 in inr (earlier (Point position set width) t byte h.0 46 p.state p.after (ap on_dot p.has) h.2)
shrinks (Modified numbers modifier) t byte h = inr (go modifier h.2 h.3) where
  one : (modifier : WholeLength) (last : ℕ) → t ++ byte ∷ [] ≡ h.0 ++ last ∷ [] → sign_of last ≡ Letter modifier → Earlier (Modified numbers modifier) t byte
  one modifier last e s =
      let p = state_of_numbers h.0 numbers h.1 in
      earlier (Modified numbers modifier) t byte h.0 last p.state p.after (ap (step p.state) s ∙ ap (λ o. on_letter p.state o modifier) p.has) e

  two : (first second : WholeLength) (last : ℕ) → modifier_letters first ≡ last ∷ [] → first ≢ Integer lengths.None
      → step (Modified numbers first) (sign_of last) ≡ Some (Modified numbers second) → t ++ byte ∷ [] ≡ h.0 ++ last ∷ last ∷ []
      → Earlier (Modified numbers second) t byte
  two first second last m some g e = earlier (Modified numbers second) t byte (h.0 ++ last ∷ []) last (Modified numbers first)
      (h.0, h.1, ap (λ u. h.0 ++ u) (sym m), some) g (e ∙ sym (append_assoc h.0 (last ∷ []) (last ∷ [])))

  go : (modifier : WholeLength) → t ++ byte ∷ [] ≡ h.0 ++ modifier_letters modifier → modifier ≢ Integer lengths.None
      → Earlier (Modified numbers modifier) t byte
  go LongDouble e some = one LongDouble 76 e refl
  go (Integer lengths.None) e some = absurd (some refl)
  go (Integer lengths.Hh) e some = two (Integer lengths.H) (Integer lengths.Hh) 104 refl (λ f. cc) refl e
  go (Integer lengths.Ll) e some = two (Integer lengths.L) (Integer lengths.Ll) 108 refl (λ f. cc) refl e
  go (Integer _) e some = one _ _ e refl

pub record Ending (t : Text) (byte : ℕ) (s : WholeSpecification) : Type 0 where
  pub state : State
  pub after : IsStateAfter state t
  pub goes : finish state (sign_of byte) ≡ Some s

pub ends : (t : Text) (byte : ℕ) (s : WholeSpecification) → SpellsWhole (t ++ byte ∷ []) s → Ending t byte s
ends t byte s h = go s.modifier refl where
  same : (t ≡ h.before ++ modifier_letters s.modifier) × (byte ≡ conversion_letter s.conversion)
  same = same_from_push t (h.before ++ modifier_letters s.modifier) byte (conversion_letter s.conversion) h.whole

  sign : sign_of byte ≡ Last s.conversion
  sign = ap sign_of same.1 ∙ (letter_tests s.conversion).sign_is

  letters : s.modifier ≢ Integer lengths.None → Ending t byte s
  letters some = record {
    state = Modified (numbers_by s.position s.flags s.width s.precision) s.modifier;
    after = (h.before, h.before_is, same.0, some);
    goes = ap (finish (Modified (numbers_by s.position s.flags s.width s.precision) s.modifier)) sign;
  }

  go : (modifier : WholeLength) → s.modifier ≡ modifier → Ending t byte s
  go (Integer lengths.None) none =
      let whole : t ≡ h.before = same.0 ∙ ap (λ m. h.before ++ modifier_letters m) none ∙ append-nil h.before in
      let p = state_of_numbers t (numbers_by s.position s.flags s.width s.precision)
      (subst (λ u. SpellsUpToPrecision u s.position s.flags s.width s.precision) (sym whole) h.before_is) in
      record {
        state = p.state;
        after = p.after;
        goes = ap (finish p.state) sign ∙ ap (λ o. on_last p.state o s.conversion) p.has
            ∙ ap (λ m. Some (specification_by (numbers_by s.position s.flags s.width s.precision) m s.conversion)) (sym none);
      }
  go LongDouble some = letters (λ e. cc)
  go (Integer _) some = letters (λ e. cc)

-- induction over a text from its end
pub from_end : (P : Text → Type 0) → P [] → ((t : Text) (byte : ℕ) → P t → P (t ++ byte ∷ [])) → (t : Text) → P t
from_end P none more t = go [] t none where
  go : (front rest : Text) → P front → P (front ++ rest)
  go front [] p = subst P (sym (append-nil front)) p
  go front (byte ∷ rest) p = subst P (append_assoc front (byte ∷ []) rest) (go (front ++ byte ∷ []) rest (more front byte p))

some_before : (place : Place) (t : Text) → IsBefore place t → 0 < length t
some_before (Width position set) t h = omega (arith, ap length h.whole)
some_before (Precision position set width) t h = omega (arith, ap length h.2, length_push h.0 46)

pub never_empty : (state : State) → ¬ IsStateAfter state []
never_empty Opened h = omega (arith, ap length h)
never_empty (First n) h = omega (arith, ap length h.2)
never_empty (Flags position set) h = omega (arith, ap length h.0.whole)
never_empty (Digits place n) h = omega (arith, ap length h.5, length-append h.0 h.1, some_before place h.0 h.2)
never_empty (Star place) h = omega (arith, ap length h.2, length_push h.0 42)
never_empty (StarDigits place n) h = omega (arith, ap length h.5, length-append h.0 (42 ∷ h.1))
never_empty (Placed place n) h = omega (arith, ap length h.5, length_push (h.0 ++ 42 ∷ h.1) 36)
never_empty (Point position set width) h = omega (arith, ap length h.2, length_push h.0 46)
never_empty (Modified numbers modifier) h =
    let width = h.1.before_is in
    omega (
      arith,
      ap length h.2,
      length-append h.0 (modifier_letters modifier),
      ap length h.1.whole,
      length-append h.1.before h.1.text,
      ap length width.whole,
      length-append width.before width.text,
      ap length width.before_is.whole,
    )

shrinks_more : (t : Text) (byte : ℕ) (state : State) → IsStateAfter state (t ++ byte ∷ []) → t ≢ [] → Earlier state t byte
shrinks_more t byte state h some = elim (shrinks state t byte h) [ inl e ↦ absurd (some e.0) | inr b ↦ b ]

pub one_state : (s q : State) (t : Text) → IsStateAfter s t → IsStateAfter q t → s ≡ q
one_state s q t = from_end (λ t. (s q : State) → IsStateAfter s t → IsStateAfter q t → s ≡ q) (λ s q h k. absurd (never_empty s h)) (λ t byte same s q h k.
    let some : (state : State) → IsStateAfter state t → t ≢ [] = λ state a e. never_empty state (subst (IsStateAfter state) e a) in
    let equal : Earlier s t byte → Earlier q t byte → s ≡ q = λ a b.
    let both : Some s ≡ Some q = sym a.goes ∙ ap (λ state. step state (sign_of byte)) (same a.state b.state a.after b.after) ∙ b.goes in cc in
    elim (shrinks s t byte h) [
      | inl e ↦ elim (shrinks q t byte k) [ inl f ↦ e.2 ∙ sym f.2 | inr b ↦ absurd (some b.state b.after e.0) ]
      | inr a ↦ equal a (shrinks_more t byte q k (some a.state a.after))
    ]) t s q

pub some_spelled : (t : Text) (s : WholeSpecification) → SpellsWhole t s → 0 < length t
some_spelled t s h = omega (arith, ap length h.whole, length_push (h.before ++ modifier_letters s.modifier) (conversion_letter s.conversion))

pub one_spelled : (t : Text) (s u : WholeSpecification) → SpellsWhole t s → SpellsWhole t u → s ≡ u
one_spelled t s u = from_end (λ t. SpellsWhole t s → SpellsWhole t u → s ≡ u) (λ h k. absurd (omega (arith, some_spelled [] s h))) (λ t byte same h k.
    let a = ends t byte s h in
    let b = ends t byte u k in
    let both : Some s ≡ Some u = sym a.goes ∙ ap (λ state. finish state (sign_of byte)) (one_state a.state b.state t a.after b.after) ∙ b.goes in cc) t

goes_or_ends : (state to : State) (sign : Sign) (s : WholeSpecification) → step state sign ≡ Some to → finish state sign ≡ Some s → ⊥
goes_or_ends state to (Last conversion) s e f = cc
goes_or_ends state to _ s e f = cc

ended : (t : Text) (s : WholeSpecification) (state : State) → SpellsWhole t s → ¬ IsStateAfter state t
ended t s state = from_end (λ t. SpellsWhole t s → ¬ IsStateAfter state t) (λ h k. never_empty state k) (λ t byte same h k.
    let a = ends t byte s h in
    let b = shrinks_more t byte state k (λ e. never_empty a.state (subst (IsStateAfter a.state) e a.after)) in
    goes_or_ends a.state state (sign_of byte) s
    (ap (λ state. step state (sign_of byte)) (one_state a.state b.state t a.after b.after) ∙ b.goes) a.goes) t

-- what goes on after a specification is neither the beginning of one nor one
pub ends_here : (t more : Text) (s : WholeSpecification) (state : State) → SpellsWhole t s → ¬ IsStateAfter state (t ++ more)
ends_here t more s state h = from_end (λ more. (state : State) → ¬ IsStateAfter state (t ++ more))
    (λ state k. ended t s state h (subst (IsStateAfter state) (append-nil t) k)) (λ more byte none state k.
    let b = shrinks_more (t ++ more) byte state (subst (IsStateAfter state) (sym (append_assoc t more (byte ∷ []))) k)
    (λ e. omega (arith, ap length e, length-append t more, some_spelled t s h)) in
    none b.state b.after) more state

pub no_longer : (t more : Text) (s u : WholeSpecification) → SpellsWhole t s → SpellsWhole (t ++ more) u → more ≡ []
no_longer t more s u h = from_end (λ more. SpellsWhole (t ++ more) u → more ≡ []) (λ k. refl) (λ more byte same k.
    let a = ends (t ++ more) byte u (subst (λ v. SpellsWhole v u) (sym (append_assoc t more (byte ∷ []))) k) in
    absurd (ends_here t more s a.state h a.after)) more
