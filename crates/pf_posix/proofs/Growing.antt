-- With one more byte, what has begun is begun or ends. Digits of a width or of a precision, and the last of them.
use Rattle.std.proofs.Common.{◌≡◌, ◌≢◌, ℕ, ◌+◌, ◌*◌, ◌<◌, ◌≤◌, false, List, [], ◌∷◌, ◌++◌, map, length, refl, sym, ap, ◌∙◌, arith, subst, inl, inr, zero, suc, Bool}
use Rattle.std.proofs.Common.{true}
use Rattle.std.specs.Prelude.{◌⊎◌, ⊤, Option, Some, None, IfSome, is_some, nat_lt, option_map, if◌then◌else◌}
use Rattle.std.specs.Fmt.{digit_glyph}
use Rattle.std.specs.List.{AllByRecursion}
use Rattle.std.proofs.Math.Nat.{one-le-mul, one-le-pow, pow-zero}
use Rattle.std.proofs.lemmas.List.{length_push, map_push, append_assoc, append-nil, same_from_push}
use Rattle.std.proofs.lemmas.Bool.Decides.{nat_tests}
use Rattle.std.proofs.lemmas.Grind.{fold-append}
use Rattle.pf_values.specs.declared.limits.TheConstants.{MAX_NUMBER}
use Rattle.pf_values.specs.meaning.Digits.{AreDigits, AreLeastDigits, place_sum}
use Rattle.pf_values.specs.meaning.Text.{Text}
use Rattle.pf_values.specs.declared.flags.Flag.{Flag}
use Rattle.pf_values.specs.declared.flags.Flag.TheVariants as flags
use Rattle.pf_values.specs.declared.flags.FlagSet.{FlagSet}
use Rattle.pf_values.specs.declared.lengths.Length.TheVariants as lengths
use Rattle.pf_values.specs.meaning.Flags.{flag_byte, no_flags, with_flag}
use Rattle.pf_text.proofs.NumberDigits.{another_digit, digits_push, first_above_zero, one_digit}
use Rattle.pf_text.proofs.Texts.{split_last}
use Rattle.pf_posix.specs.declared.conversions.WholeConv.{WholeConv}
use Rattle.pf_posix.specs.declared.conversions.WholeLength.{WholeLength}
use Rattle.pf_posix.specs.declared.conversions.WholeLength.TheVariants.{Integer}
use Rattle.pf_posix.specs.Specifications.{Amount, Given, Fetched, WholeSpecification, conversion_letter, modifier_letters}
use Rattle.pf_posix.specs.Spelling.{SpellsWhole, SpellsWholePrecision, SpellsWholeWidth, SpellsStar, SpellsUpToFlags, SpellsUpToPrecision, SpellsUpToWidth}
use Rattle.pf_posix.proofs.Steps.{Place, Width, Precision, SpellsDigits, IsBefore, IsStateAfter, Numbers, State, Sign, filled, finish, numbers_by, numbers_in}
use Rattle.pf_posix.proofs.Steps.{Opened, First, Flags, Digits, Star, StarDigits, Placed, Point, Modified, place_in, position_of, sign_of, step, with_digit, Digit}
use Rattle.pf_posix.proofs.Steps.{Dollar, Asterisk, Dot, Mark, Letter, Last, after_star, number_after, on_digit, on_dollar, on_dot, on_last, on_letter, on_mark}
use Rattle.pf_posix.proofs.Steps.{second_letter}
use Rattle.pf_posix.proofs.LetterLemmas.{HasSign, has_sign}

-- 0 before a width is a flag
abbrev pub MayBegin : Place → ℕ → Type 0
MayBegin (Width position set) d = 0 < d
MayBegin (Precision position set width) d = ⊤

pub first_digit : (place : Place) (d : ℕ) → d < 10 → MayBegin place d → SpellsDigits place (digit_glyph false d ∷ []) d
first_digit (Width position set) d small some =
    record { some = some; numeral = (d ∷ [], one_digit d some small, refl); within = omega (arith, small) }
first_digit (Precision position set width) d small some =
    let one = pow-zero 10 in (d ∷ [], record { below = (small, tt); sum = omega arith }, λ e. cc, omega (arith, small), refl)

pub more_digits : (place : Place) (t : Text) (n d : ℕ) → d < 10 → 10 * n + d ≤ MAX_NUMBER → SpellsDigits place t n
    → SpellsDigits place (t ++ digit_glyph false d ∷ []) (10 * n + d)
more_digits (Width position set) t n d small few h =
    let ds = h.numeral.0 in
    record {
      some = omega (arith, h.some);
      numeral = (
        ds ++ d ∷ [],
        another_digit n d ds h.some small h.numeral.1,
        ap (λ u. u ++ digit_glyph false d ∷ []) h.numeral.2 ∙ sym (map_push (digit_glyph false) ds d),
      );
      within = few;
    }
more_digits (Precision position set width) t n d small few h =
    let ds = h.0 in (
      ds ++ d ∷ [],
      digits_push n d ds small h.1,
      λ e. omega (arith, ap length e, length_push ds d),
      few,
      ap (λ u. u ++ digit_glyph false d ∷ []) h.4 ∙ sym (map_push (digit_glyph false) ds d),
    )

-- a number and its last digit
pub record LastDigit (place : Place) (t : Text) (n : ℕ) : Type 0 where
  pub front : Text
  pub before : ℕ
  pub digit : ℕ
  pub small : digit < 10
  pub few : n ≤ MAX_NUMBER
  pub number_is : 10 * before + digit ≡ n
  pub front_is : ((front ≡ []) × (n ≡ digit) × MayBegin place digit) ⊎ SpellsDigits place front before
  pub whole : t ≡ front ++ digit_glyph false digit ∷ []

below_front : (ds : List ℕ) (d : ℕ) → AllByRecursion (λ x. x < 10) (ds ++ d ∷ []) → AllByRecursion (λ x. x < 10) ds × (d < 10)
below_front [] d h = (tt, h.0)
below_front (x ∷ ds) d h = let rest = below_front ds d h.1 in ((h.0, rest.0), rest.1)

-- the digits before the last one
digits_before : (n : ℕ) (ds : List ℕ) (d : ℕ) → AreDigits 10 n (ds ++ d ∷ []) → (10 * place_sum 10 ds + d ≡ n) × (d < 10) × AreDigits 10 (place_sum 10 ds) ds
digits_before n ds d h =
    let below = below_front ds d h.below in
    let digits : AreDigits 10 (place_sum 10 ds) ds = record { below = below.0; sum = refl } in
    (sym (digits_push (place_sum 10 ds) d ds below.1 digits).sum ∙ h.sum, below.1, digits)

module _ (place : Place) (t : Text) (n : ℕ) (few : n ≤ MAX_NUMBER) where
  -- by what its digits tell, if there is one or there are more
  last_by : (ds : List ℕ) → AreDigits 10 n ds → ds ≢ [] → t ≡ map (digit_glyph false) ds → ((d : ℕ) → ds ≡ d ∷ [] → MayBegin place d)
      → ((x : ℕ) (front : List ℕ) (d : ℕ) → ds ≡ x ∷ front ++ d ∷ [] → 10 * place_sum 10 (x ∷ front) + d ≡ n
      → AreDigits 10 (place_sum 10 (x ∷ front)) (x ∷ front)
      → SpellsDigits place (map (digit_glyph false) (x ∷ front)) (place_sum 10 (x ∷ front))) → LastDigit place t n
  last_by ds h some whole one more = let cut = split_last ds some in go cut.0 cut.1 cut.2 where
    go : (front : List ℕ) (d : ℕ) → ds ≡ front ++ d ∷ [] → LastDigit place t n
    go front d e =
        let before = digits_before n front d (subst (AreDigits 10 n) e h) in
        record {
          front = map (digit_glyph false) front;
          before = place_sum 10 front;
          digit = d;
          small = before.1;
          few = few;
          number_is = before.0;
          front_is = front_is front e before.0 before.2;
          whole = whole ∙ ap (map (digit_glyph false)) e ∙ map_push (digit_glyph false) front d;
        }
      where
        front_is : (front : List ℕ) → ds ≡ front ++ d ∷ [] → 10 * place_sum 10 front + d ≡ n → AreDigits 10 (place_sum 10 front) front
            → ((map (digit_glyph false) front ≡ []) × (n ≡ d) × MayBegin place d) ⊎ SpellsDigits place (map (digit_glyph false) front) (place_sum 10 front)
        front_is [] e sum digits = inl (refl, omega (arith, sum), one d e)
        front_is (x ∷ front) e sum digits = inr (more x front d e sum digits)

pub last_digit : (place : Place) (t : Text) (n : ℕ) → SpellsDigits place t n → LastDigit place t n
last_digit (Width position set) t n h =
    let l = h.numeral.1 in
    last_by (Width position set) t n h.within h.numeral.0 l.digits (λ none. omega (arith, l.enough, ap length none)) h.numeral.2
    (λ d e. first_above_zero n d [] h.some (subst (AreLeastDigits 10 1 n) e l)) (λ x front d e sum digits.
    let first : 0 < x = (subst (AreLeastDigits 10 1 n) e l).no_more (omega (arith, length_push front d)) in
    let counts = one-le-mul first (one-le-pow (length front) 10 (omega arith)) in
    record {
      some = omega (arith, counts);
      numeral = (x ∷ front, record { digits = digits; enough = omega arith; no_more = λ _. first }, refl);
      within = omega (arith, sum, h.within);
    })
last_digit (Precision position set width) t n h =
    last_by (Precision position set width) t n h.3 h.0 h.1 h.2 h.4 (λ d e. tt) (λ x front d e sum digits.
    (x ∷ front, digits, (λ none. cc), omega (arith, sum, h.3), refl))

-- all up to a modifier
abbrev pub SpellsNumbers : Text → Numbers → Type 0
SpellsNumbers t numbers = SpellsUpToPrecision t numbers.position numbers.flags numbers.width numbers.precision

-- a width, or a precision without its point
abbrev SpellsAmount : Place → Text → Amount → Type 0
SpellsAmount place t (Given n) = SpellsDigits place t n
SpellsAmount place t (Fetched number) = SpellsStar t (position_of place) number

opening : (t : Text) → t ≡ 37 ∷ [] → SpellsUpToFlags t None no_flags
opening t e = record { number = []; flags = []; number_is = refl; set_is = refl; whole = e }

with_precision : (t before text : Text) (position : Option ℕ) (set : FlagSet) (width precision : Option Amount) → SpellsUpToWidth before position set width
    → SpellsWholePrecision text position precision → t ≡ before ++ text → SpellsNumbers t (numbers_by position set width precision)
with_precision t before text position set width precision h p e =
    record { before = before; text = text; before_is = h; precision_is = p; whole = e }

with_width : (t before text : Text) (position : Option ℕ) (set : FlagSet) (width : Option Amount) → SpellsUpToFlags before position set
    → SpellsWholeWidth text position width → t ≡ before ++ text → SpellsNumbers t (numbers_by position set width None)
with_width t before text position set width h w e = with_precision t t [] position set width None
    (record { before = before; text = text; before_is = h; width_is = w; whole = e }) refl (sym (append-nil t))

with_amount : (place : Place) (t before text : Text) (amount : Amount) → IsBefore place before → SpellsAmount place text amount → t ≡ before ++ text
    → SpellsNumbers t (filled place amount)
with_amount (Width position set) t before text (Given n) h a e = with_width t before text position set (Some (Given n)) h a e
with_amount (Width position set) t before text (Fetched number) h a e = with_width t before text position set (Some (Fetched number)) h a e
with_amount (Precision position set width) t before text (Given n) h a e =
    with_precision t h.0 (46 ∷ text) position set width (Some (Given n)) h.1 ((a.0, a.1, ap (λ u. 46 ∷ u) a.4), a.3)
    (e ∙ ap (λ u. u ++ text) h.2 ∙ append_assoc h.0 (46 ∷ []) text)
with_amount (Precision position set width) t before text (Fetched number) h a e =
    with_precision t h.0 (46 ∷ text) position set width (Some (Fetched number)) h.1 (text, a, refl)
    (e ∙ ap (λ u. u ++ text) h.2 ∙ append_assoc h.0 (46 ∷ []) text)

spelled : (state : State) (t : Text) → IsStateAfter state t → IfSome (numbers_in state) (SpellsNumbers t)
spelled Opened t h = with_width t t [] None no_flags None (opening t h) refl (sym (append-nil t))
spelled (First n) t h = with_width t (37 ∷ []) h.0 None no_flags (Some (Given n)) (opening (37 ∷ []) refl) h.1 h.2
spelled (Flags position set) t h = with_width t t [] position set None h.0 refl (sym (append-nil t))
spelled (Digits place n) t h = with_amount place t h.0 h.1 (Given n) h.2 h.3 h.5
spelled (Star place) t h = go (position_of place) refl where
  go : (position : Option ℕ) → position_of place ≡ position → IfSome (after_star place position) (SpellsNumbers t)
  go None e =
      with_amount place t h.0 (42 ∷ []) (Fetched None) h.1 (record { digits = []; digits_are = refl; numbering = sym (ap is_some e); whole = refl }) h.2
  go (Some n) e = tt
spelled (Placed place n) t h =
    with_amount place t h.0 (42 ∷ h.1 ++ 36 ∷ []) (Fetched (Some n)) h.2
    (record { digits = h.1 ++ 36 ∷ []; digits_are = (h.1, h.3, refl); numbering = sym h.4; whole = refl }) (h.5 ∙ append_assoc h.0 (42 ∷ h.1) (36 ∷ []))
spelled (Point position set width) t h =
    with_precision t h.0 (46 ∷ []) position set width (Some (Given 0)) h.1 (([], record { below = tt; sum = refl }, refl), omega arith) h.2
spelled _ t h = tt

pub numbers_spelled : (state : State) (t : Text) (numbers : Numbers) → IsStateAfter state t → numbers_in state ≡ Some numbers
    → SpellsUpToPrecision t numbers.position numbers.flags numbers.width numbers.precision
numbers_spelled state t numbers h e = subst (λ o. IfSome o (SpellsNumbers t)) e (spelled state t h)

-- one more flag
more_flag : (t : Text) (position : Option ℕ) (set : FlagSet) (flag : Flag) → SpellsUpToFlags t position set
    → IsStateAfter (Flags position (with_flag set flag)) (t ++ flag_byte flag ∷ [])
more_flag t position set flag h = (
  record {
    number = h.number;
    flags = h.flags ++ flag ∷ [];
    number_is = h.number_is;
    set_is = ap (λ f. with_flag f flag) h.set_is ∙ sym (fold-append with_flag no_flags h.flags (flag ∷ []));
    whole = ap (λ u. u ++ flag_byte flag ∷ []) h.whole ∙ append_assoc (37 ∷ h.number) (map flag_byte h.flags) (flag_byte flag ∷ [])
        ∙ ap (λ u. 37 ∷ h.number ++ u) (sym (map_push flag_byte h.flags flag));
  },
  λ e. omega (arith, ap length e, ap length h.whole, length_push t (flag_byte flag)),
)

module _ (t : Text) (byte : ℕ) where
  abbrev Grows : Option State → Type 0
  Grows to = IfSome to (λ state. IsStateAfter state (t ++ byte ∷ []))

  limited : (state : ℕ → State) (n d : ℕ) → (10 * n + d ≤ MAX_NUMBER → IsStateAfter (state (10 * n + d)) (t ++ byte ∷ [])) → Grows (with_digit state n d)
  limited state n d f = go (nat_lt MAX_NUMBER (10 * n + d)) refl where
    go : (b : Bool) → nat_lt MAX_NUMBER (10 * n + d) ≡ b → Grows (if b then None else Some (state (10 * n + d)))
    go true e = tt
    go false e = f (grind (arith, nat_tests))

  with_letter : (modifier : WholeLength) (state : State) (numbers : Option Numbers) → HasSign (Letter modifier) byte → IsStateAfter state t
      → IfSome numbers (SpellsNumbers t) → Grows (on_letter state numbers modifier)
  with_letter modifier state (Some numbers) s h n = (t, n, ap (λ u. t ++ u) (sym s.0), s.1)
  with_letter modifier (Modified numbers first) None s h n = go first modifier h s where
    go : (first second : WholeLength) → IsStateAfter (Modified numbers first) t → HasSign (Letter second) byte → Grows (second_letter numbers first second)
    go (Integer lengths.H) (Integer lengths.H) h s =
        (h.0, h.1, ap (λ u. u ++ byte ∷ []) h.2 ∙ append_assoc h.0 (104 ∷ []) (byte ∷ []) ∙ ap (λ u. h.0 ++ 104 ∷ u) (sym s.0), λ e. cc)
    go (Integer lengths.L) (Integer lengths.L) h s =
        (h.0, h.1, ap (λ u. u ++ byte ∷ []) h.2 ∙ append_assoc h.0 (108 ∷ []) (byte ∷ []) ∙ ap (λ u. h.0 ++ 108 ∷ u) (sym s.0), λ e. cc)
    go _ _ h s = tt
  with_letter modifier _ None s h n = tt

  with_last : (conversion : WholeConv) (state : State) (numbers : Option Numbers) → byte ≡ conversion_letter conversion → IsStateAfter state t
      → IfSome numbers (SpellsNumbers t) → IfSome (on_last state numbers conversion) (SpellsWhole (t ++ byte ∷ []))
  with_last conversion state (Some numbers) s h n =
      record { before = t; before_is = n; whole = ap (λ b. t ++ b ∷ []) s ∙ ap (λ u. u ++ conversion_letter conversion ∷ []) (sym (append-nil t)) }
  with_last conversion (Modified numbers modifier) None s h n =
      record {
        before = h.0;
        before_is = h.1;
        whole = ap (λ u. u ++ byte ∷ []) h.2 ∙ ap (λ b. h.0 ++ modifier_letters modifier ++ b ∷ []) s;
      }
  with_last conversion _ None s h n = tt

with_number : (state : State) (t : Text) (d : ℕ) → d < 10 → IsStateAfter state t → Grows t (digit_glyph false d) (on_digit state d)
with_number Opened t zero small h = more_flag t None no_flags flags.Zero (opening t h)
with_number Opened t (suc d) small h =
    (digit_glyph false (suc d) ∷ [], first_digit (Width None no_flags) (suc d) small (omega arith), ap (λ u. u ++ digit_glyph false (suc d) ∷ []) h)
with_number (First n) t d small h = let g = digit_glyph false d ∷ [] in
    limited t (digit_glyph false d) First n d (λ few. (h.0 ++ g, more_digits (Width None no_flags) h.0 n d small few h.1, ap (λ u. u ++ g) h.2))
with_number (Flags position set) t zero small h = more_flag t position set flags.Zero h.0
with_number (Flags position set) t (suc d) small h =
    (t, digit_glyph false (suc d) ∷ [], h.0, first_digit (Width position set) (suc d) small (omega arith), h.1, refl)
with_number (Digits place n) t d small h = let g = digit_glyph false d ∷ [] in
    limited t (digit_glyph false d) (Digits place) n d (λ few.
    (h.0, h.1 ++ g, h.2, more_digits place h.1 n d small few h.3, h.4, ap (λ u. u ++ g) h.5 ∙ append_assoc h.0 h.1 g))
with_number (Star place) t d small h = go (position_of place) d small refl where
  go : (position : Option ℕ) (d : ℕ) → d < 10 → position_of place ≡ position → Grows t (digit_glyph false d) (number_after place position d)
  go (Some m) (suc d) small e = let g = digit_glyph false (suc d) ∷ [] in
      (h.0, g, h.1, first_digit (Width None no_flags) (suc d) small (omega arith), ap is_some e, ap (λ u. u ++ g) h.2 ∙ append_assoc h.0 (42 ∷ []) g)
  go (Some m) zero small e = tt
  go None d small e = tt
with_number (StarDigits place n) t d small h = let g = digit_glyph false d ∷ [] in
    limited t (digit_glyph false d) (StarDigits place) n d (λ few.
    (h.0, h.1 ++ g, h.2, more_digits (Width None no_flags) h.1 n d small few h.3, h.4, ap (λ u. u ++ g) h.5 ∙ append_assoc h.0 (42 ∷ h.1) g))
with_number (Point position set width) t d small h =
    (t, digit_glyph false d ∷ [], h, first_digit (Precision position set width) d small tt, tt, refl)
with_number _ t d small h = tt

with_dollar : (state : State) (t : Text) → IsStateAfter state t → Grows t 36 (on_dollar state)
with_dollar (First n) t h = (
  record {
    number = h.0 ++ 36 ∷ [];
    flags = [];
    number_is = (h.0, h.1, refl);
    set_is = refl;
    whole = ap (λ u. u ++ 36 ∷ []) h.2 ∙ sym (append-nil _);
  },
  λ e. omega (arith, (same_from_push t [] 36 37 e).1),
)
with_dollar (StarDigits place n) t h = (h.0, h.1, h.2, h.3, h.4, ap (λ u. u ++ 36 ∷ []) h.5)
with_dollar _ t h = tt

with_mark : (state : State) (t : Text) (flag : Flag) → IsStateAfter state t → Grows t (flag_byte flag) (on_mark state flag)
with_mark Opened t flag h = more_flag t None no_flags flag (opening t h)
with_mark (Flags position set) t flag h = more_flag t position set flag h.0
with_mark _ t flag h = tt

with_star : (state : State) (t : Text) → IsStateAfter state t → Grows t 42 (option_map Star (place_in state))
with_star Opened t h = (t, opening t h, refl)
with_star (Flags position set) t h = (t, h.0, refl)
with_star (Point position set width) t h = (t, h, refl)
with_star _ t h = tt

with_dot : (t : Text) (numbers : Option Numbers) → IfSome numbers (SpellsNumbers t) → Grows t 46 (on_dot numbers)
with_dot t (Some numbers) n = go numbers.precision n.precision_is where
  go : (precision : Option Amount) → SpellsWholePrecision n.text numbers.position precision
      → Grows t 46 (if is_some precision then None else Some (Point numbers.position numbers.flags numbers.width))
  go None e = (n.before, n.before_is, ap (λ u. u ++ 46 ∷ []) (n.whole ∙ ap (λ v. n.before ++ v) e ∙ append-nil n.before))
  go (Some amount) e = tt
with_dot t None n = tt

grown : (state : State) (t : Text) (byte : ℕ) (sign : Sign) → HasSign sign byte → IsStateAfter state t → Grows t byte (step state sign)
grown state t byte (Digit d) s h = rw s.1 (with_number state t d s.0 h)
grown state t byte Dollar s h = rw s (with_dollar state t h)
grown state t byte Asterisk s h = rw s (with_star state t h)
grown state t byte Dot s h = rw s (with_dot t (numbers_in state) (spelled state t h))
grown state t byte (Mark flag) s h = rw s (with_mark state t flag h)
grown state t byte (Letter modifier) s h = with_letter t byte modifier state (numbers_in state) s h (spelled state t h)
grown state t byte _ s h = tt

pub grows : (state to : State) (t : Text) (byte : ℕ) → IsStateAfter state t → step state (sign_of byte) ≡ Some to → IsStateAfter to (t ++ byte ∷ [])
grows state to t byte h e = subst (Grows t byte) e (grown state t byte (sign_of byte) (has_sign byte) h)

pub finishes : (state : State) (t : Text) (byte : ℕ) (s : WholeSpecification) → IsStateAfter state t → finish state (sign_of byte) ≡ Some s
    → SpellsWhole (t ++ byte ∷ []) s
finishes state t byte s h e = subst (λ o. IfSome o (SpellsWhole (t ++ byte ∷ []))) e (go (sign_of byte) (has_sign byte)) where
  go : (sign : Sign) → HasSign sign byte → IfSome (finish state sign) (SpellsWhole (t ++ byte ∷ []))
  go (Last conversion) s = with_last t byte conversion state (numbers_in state) s h (spelled state t h)
  go _ s = tt
