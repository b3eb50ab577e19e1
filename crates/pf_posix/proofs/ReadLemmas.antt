-- A specification that is read part by part, up to its end or to where it can't go on.
use Rattle.std.proofs.Common.{◌≡◌, ◌≢◌, ℕ, ◌+◌, ◌-◌, ◌<◌, ◌≤◌, Bool, true, false, List, [], ◌∷◌, ◌++◌, drop, get_or, length, map, take, refl, sym, ap, ◌∙◌, arith}
use Rattle.std.proofs.Common.{inl, inr, subst}
use Rattle.std.specs.Prelude.{Option, Some, None, is_some, ◌==◌, ◌||◌, ◌⊎◌, ⊤}
use Rattle.std.specs.Fmt.{digit_glyph}
use Rattle.std.proofs.lemmas.Bool.Decides.{nat_tests}
use Rattle.std.proofs.lemmas.Bool.{cases_lt, false_from_ne_true, ne_eqb, or_parts}
use Rattle.std.proofs.lemmas.List.{append-nil, append_assoc, drop-drop, get_or_past, length-append, length-drop}
use Rattle.pf_values.specs.declared.flags.Flag.{Flag}
use Rattle.pf_values.specs.declared.flags.FlagSet.{FlagSet}
use Rattle.pf_values.specs.declared.lengths.Length.TheVariants as lengths
use Rattle.pf_values.specs.declared.limits.TheConstants.{MAX_NUMBER}
use Rattle.pf_values.specs.declared.models.Model.{Model}
use Rattle.pf_values.specs.declared.refusals.RefusalKind.{RefusalKind}
use Rattle.pf_values.specs.declared.refusals.RefusalKind.TheVariants.{Unexpected}
use Rattle.pf_values.specs.meaning.Digits.{AreDigits}
use Rattle.pf_values.specs.meaning.Flags.{flag_byte, flag_set}
use Rattle.pf_values.specs.meaning.Text.{Text}
use Rattle.pf_text.specs.Letters.{flag_of}
use Rattle.pf_text.specs.Offsets.{EndsFlags, EndsWidth, HasBytes}
use Rattle.pf_text.specs.States.{is_digit}
use Rattle.pf_text.specs.declared.refusals.Refusal.{Refusal}
use Rattle.pf_text.proofs.NoDirectiveLemmas.{bytes_rest, same_place}
use Rattle.pf_text.proofs.SpecificationLemmas.{bytes_join, bytes_one}
use Rattle.pf_posix.specs.declared.conversions.WholeConv.{WholeConv}
use Rattle.pf_posix.specs.declared.conversions.WholeLength.{WholeLength}
use Rattle.pf_posix.specs.declared.conversions.WholeLength.TheVariants.{Integer, LongDouble}
use Rattle.pf_posix.specs.declared.fetches.Fetch.{Fetch}
use Rattle.pf_posix.specs.declared.opaque_directives.OpaqueAmount.{OpaqueAmount}
use Rattle.pf_posix.specs.declared.opaque_directives.OpaqueAmount.TheVariants as amounts
use Rattle.pf_posix.specs.declared.specifications.Numbering.{Numbering}
use Rattle.pf_posix.specs.declared.specifications.Numbering.TheVariants.{Undecided, Unnumbered, Numbered}
use Rattle.pf_posix.specs.declared.specifications.Refused.{Refused}
use Rattle.pf_posix.specs.declared.specifications.Specification.{Specification}
use Rattle.pf_posix.specs.Defined.{undefined_of}
use Rattle.pf_posix.specs.Halts.{FollowsBy, HaltsAtPosition, HaltsAtPrecision, HaltsAtWidth, HasStar, HasStars, IsHalt, IsReadAt, IsRefusedIn, IsStarAt, IsStrayAt}
use Rattle.pf_posix.specs.Halts.{IsUnreadIn, is_of_combination, one_fetch}
use Rattle.pf_posix.specs.Letters.{conversion_of, length_modifier_of}
use Rattle.pf_posix.specs.OpaqueParts.{amount_at, parts_of_opaque}
use Rattle.pf_posix.specs.PartsInText.{IsFirstWidth, ModifierEnds, NumbersStar, PrecisionEnds, WidthEnds, second_modifier, specification_read}
use Rattle.pf_posix.specs.Refusals.{numbering_of, IsUnexpected}
use Rattle.pf_posix.specs.Specifications.{Amount, Fetched, conversion_letter, modifier_letters}
use Rattle.pf_posix.specs.Spelling.{SpellsPosition, SpellsWhole, SpellsPositive, SpellsWholePrecision, SpellsWholeWidth, SpellsStar, SpellsUpToFlags}
use Rattle.pf_posix.specs.Spelling.{SpellsUpToPrecision, SpellsUpToWidth}
use Rattle.pf_posix.specs.Types.{int_type, star_fetches}
use Rattle.pf_posix.specs.Beginnings.{IsBegunAs, IsUndecided}
use Rattle.pf_posix.proofs.FrontRefusals.{undecided_own}
use Rattle.pf_posix.proofs.HaltLemmas.{IsNoOther, halt_at, halt_stray, one_on, halt_begins_no, halt_begins_none}
use Rattle.pf_posix.proofs.OneState.{one_state}
use Rattle.pf_posix.proofs.OutcomeLemmas.{no_some, nowhere}
use Rattle.pf_posix.proofs.Outcomes.{exceeds, mixes}
use Rattle.pf_posix.proofs.PartStates.{IsMore, in_part, more_than, takes}
use Rattle.pf_posix.proofs.Steps.{IsBefore, IsStateAfter, Numbers, Place, Width, Precision, Sign, State, Opened, First, Flags, Digits, Star, Placed, Point, Modified}
use Rattle.pf_posix.proofs.Steps.{finish, numbers_by, own_before, position_of, sign_of, step, too_large}
use Rattle.pf_text.proofs.WalkLemmas.{bytes_between}
use Rattle.std.proofs.Math.Seq.{drop-append_seam, take-add, take-append_seam}
use Rattle.pf_posix.specs.declared.specifications.Stars.{Stars}
use Rattle.pf_posix.proofs.PartLemmas.{head_at}

-- bytes up to the last one
pub bytes_but_last : (t : Text) (start stop : ℕ) (part : Text) (byte : ℕ) → HasBytes t start stop (part ++ byte ∷ [])
    → HasBytes t start (stop - 1) part × (get_or t (stop - 1) 0 ≡ byte) × (stop ≡ stop - 1 + 1)
bytes_but_last t start stop part byte h = (
  record {
    from = omega (arith, long);
    within = omega (arith, h.within, long);
    whole = ap (λ k. take k t) (sym place) ∙ take-add start (length part) t ∙ ap (λ u. take start t ++ take (length part) u) split
        ∙ ap (λ u. take start t ++ u) (take-append_seam part (byte ∷ drop stop t));
  },
  head_at t (stop - 1) byte (drop stop t) rest,
  omega (arith, long),
) where
  split : drop start t ≡ part ++ byte ∷ drop stop t
  split = bytes_rest t start stop (part ++ byte ∷ []) h ∙ append_assoc part (byte ∷ []) (drop stop t)

  long : start + length part + 1 ≡ stop
  long = omega (arith, h.from, h.within, ap length split, length-append part (byte ∷ drop stop t), length-drop start t, length-drop stop t)

  place : start + length part ≡ stop - 1
  place = omega (arith, long)

  rest : drop (stop - 1) t ≡ byte ∷ drop stop t
  rest = ap (λ k. drop k t) (sym place) ∙ sym (drop-drop (length part) start t) ∙ ap (drop (length part)) split ∙ drop-append_seam part (byte ∷ drop stop t)

-- a `*` with its number
star_at : (t : Text) (start stop n : ℕ) (place : Place) (before text : Text) → IsBefore place before → SpellsStar text (position_of place) (Some n)
    → HasBytes t start stop (before ++ text) → IsStarAt t start stop n (position_of place) (own_before place)
star_at t start stop n place before text h s bytes =
    let digits = s.digits_are.0 in
    let whole : before ++ text ≡ (before ++ 42 ∷ digits) ++ 36 ∷ [] =
    ap (λ u. before ++ u) (s.whole ∙ ap (λ u. 42 ∷ u) s.digits_are.2) ∙ sym (append_assoc before (42 ∷ digits) (36 ∷ [])) in
    let last = bytes_but_last t start stop (before ++ 42 ∷ digits) 36 (subst (HasBytes t start stop) whole bytes) in
    let is = takes place before h in
    record {
      part = before ++ 42 ∷ digits;
      kind = too_large place;
      digits = record { before = before; digits = digits; before_is = is; numbered = sym s.numbering; digits_are = s.digits_are.1; whole = refl };
      bytes = last.0;
      dollar_is = last.1;
      within = bytes.within;
    }

-- the argument of a `*`, by the number that was read of it
star_there : (t : Text) (start stop : ℕ) (position : Option ℕ) (own : List Fetch) (amount : Option OpaqueAmount) (number : Option ℕ) → NumbersStar amount number
    → ((n : ℕ) → amount_at amount number ≡ Some (Fetched (Some n)) → IsStarAt t start stop n position own) → HasStar t start position number stop own
star_there t start stop position own amount None alone f = tt
star_there t start stop position own (Some amounts.Star) (Some n) alone f = f n refl
star_there t start stop position own None (Some n) alone f = cc
star_there t start stop position own (Some (amounts.Number m)) (Some n) alone f = cc

own_there : (amount : Option OpaqueAmount) (number : Option ℕ) → NumbersStar amount number → (amount_at amount number ≡ Some (Fetched None) → ⊥)
    → star_fetches (amount_at amount number) ≡ one_fetch number int_type
own_there None number alone f = ap (λ o. one_fetch o int_type) (sym alone)
own_there (Some (amounts.Number n)) number alone f = ap (λ o. one_fetch o int_type) (sym alone)
own_there (Some amounts.Star) None alone f = absurd (f refl)
own_there (Some amounts.Star) (Some n) alone f = refl

-- what a byte may do after a state
abbrev allows : State → Numbering → Sign → Bool
allows state q sign = mixes state q sign || is_some (exceeds state sign) || is_some (step state sign) || is_some (finish state sign)

-- no point comes after a width
abbrev EndsPlace : Place → ℕ → Type 0
EndsPlace (Width position set) byte = (byte == 46) ≡ false
EndsPlace (Precision position set width) byte = ⊤

-- a byte that is neither part of a number nor of anything after it
module _ (byte : ℕ) (q : Numbering) (none : conversion_of byte ≡ None) where
  quiet_modified : (numbers : Numbers) (modifier : WholeLength) → second_modifier modifier byte ≡ None
      → allows (Modified numbers modifier) q (sign_of byte) ≡ false
  quiet_modified numbers (Integer lengths.H) e = grind (arith, nat_tests)
  quiet_modified numbers (Integer lengths.L) e = grind (arith, nat_tests)
  quiet_modified numbers (Integer length) e = grind (arith, nat_tests)
  quiet_modified numbers LongDouble e = grind (arith, nat_tests)

  module _ (plain : length_modifier_of byte ≡ None) where
    quiet_digits : (place : Place) (n : ℕ) → EndsPlace place byte → is_digit byte ≡ false → allows (Digits place n) q (sign_of byte) ≡ false
    quiet_digits (Width position set) n point digit = grind (arith, nat_tests)
    quiet_digits (Precision position set width) n point digit = grind (arith, nat_tests)

    quiet_placed : (place : Place) (n : ℕ) → EndsPlace place byte → allows (Placed place n) q (sign_of byte) ≡ false
    quiet_placed (Width position set) n point = grind (arith, nat_tests)
    quiet_placed (Precision position set width) n point = grind (arith, nat_tests)

    quiet_star : (place : Place) → EndsPlace place byte → position_of place ≡ None → is_digit byte ≡ false → allows (Star place) q (sign_of byte) ≡ false
    quiet_star (Width None set) point e digit = grind (arith, nat_tests)
    quiet_star (Precision None set width) point e digit = grind (arith, nat_tests)
    quiet_star (Width (Some n) set) point e digit = cc
    quiet_star (Precision (Some n) set width) point e digit = cc

    quiet_point : (position : Option ℕ) (set : FlagSet) (width : Option Amount) → is_digit byte ≡ false → (byte == 42) ≡ false
        → allows (Point position set width) q (sign_of byte) ≡ false
    quiet_point position set width digit star = grind (arith, nat_tests)

    module _ (point : (byte == 46) ≡ false) (digit : is_digit byte ≡ false) where
      quiet_flags : (position : Option ℕ) (set : FlagSet) → flag_of byte ≡ None → (byte == 42) ≡ false → allows (Flags position set) q (sign_of byte) ≡ false
      quiet_flags position set flag star = grind (arith, nat_tests)

      quiet_opened : flag_of byte ≡ None → (byte == 42) ≡ false → q ≢ Numbered → allows Opened q (sign_of byte) ≡ false
      quiet_opened flag star some = grind (arith, nat_tests, some)

      quiet_first : (n : ℕ) → (byte == 36) ≡ false → (unnumbered : Numbering) → unnumbered ≢ Numbered → allows (First n) unnumbered (sign_of byte) ≡ false
      quiet_first n dollar Undecided some = grind (arith, nat_tests)
      quiet_first n dollar Unnumbered some = grind (arith, nat_tests)
      quiet_first n dollar Numbered some = absurd (some refl)

no_digit_here : (byte : ℕ) → flag_of byte ≡ None → (is_digit byte ≡ true → byte ≡ 48) → is_digit byte ≡ false
no_digit_here byte f h = false_from_ne_true (is_digit byte) (λ d.
    let no : flag_of 48 ≡ None = ap flag_of (sym (h d)) ∙ f in cc)

not_numbered : (numbering q : Numbering) → q ≡ numbering → FollowsBy numbering None → q ≢ Numbered
not_numbered numbering q e (inl f) n = let no : Undecided ≡ Numbered = sym f ∙ sym e ∙ n in cc
not_numbered numbering q e (inr f) n = let no : Unnumbered ≡ Numbered = sym f ∙ sym e ∙ n in cc

is_none : {X : Type 0} (o : Option X) → is_some o ≡ false → o ≡ None
is_none o e = no_some o (λ x f. let no = sym e ∙ ap is_some f in cc)

-- a byte that isn't allowed after a part, after specifications of a numbering
record Stops (numbering : Numbering) (byte : ℕ) (part : Text) : Type 0 where
  more : IsNoOther part byte
  unexpected : (q : Numbering) → (IsUndecided part → q ≡ numbering) → IsUnexpected q part byte

module _ (numbering : Numbering) (byte : ℕ) where
  stops_like : (part text : Text) → part ≡ text → Stops numbering byte text → Stops numbering byte part
  stops_like part text e s = subst (Stops numbering byte) (sym e) s

  stops_in : (state : State) (part : Text) → IsStateAfter state part → (state ≡ Opened → (byte ≡ 37) ⊎ (byte ≡ 109) → ⊥)
      → ((q : Numbering) → (IsUndecided part → q ≡ numbering) → allows state q (sign_of byte) ≡ false) → Stops numbering byte part
  stops_in state part h more quiet =
      record {
        more = λ one. more (one_state state Opened part h one);
        unexpected = λ q same.
            let all = or_parts _ _ (quiet q same) in
            let ends = or_parts _ _ all.0 in
            let first = or_parts _ _ ends.0 in
            nowhere part state byte h q first.0 (is_none _ first.1) (is_none _ ends.1) (is_none _ all.1);
      }

  -- after a `*` and its number
  star_stops : conversion_of byte ≡ None → length_modifier_of byte ≡ None → (place : Place) (before text : Text) (number : Option ℕ) → EndsPlace place byte
      → IsBefore place before → SpellsStar text (position_of place) number → (position_of place ≡ None → is_digit byte ≡ false)
      → Stops numbering byte (before ++ text)
  star_stops none plain place before text None point h s digit =
      let alone = is_none (position_of place) (sym s.numbering) in
      stops_in (Star place) (before ++ text) (before, h, ap (λ u. before ++ u) (s.whole ∙ ap (λ d. 42 ∷ d) s.digits_are)) (λ same f. cc)
      (λ q same. quiet_star byte q none plain place point alone (digit alone))
  star_stops none plain place before text (Some n) point h s digit =
      let whole = ap (λ u. before ++ u) (s.whole ∙ ap (λ d. 42 ∷ d) s.digits_are.2) ∙ sym (append_assoc before (42 ∷ s.digits_are.0) (36 ∷ [])) in
      stops_in (Placed place n) (before ++ text) (before, s.digits_are.0, h, s.digits_are.1, sym s.numbering, whole) (λ same f. cc)
      (λ q same. quiet_placed byte q none plain place n point)

-- a text that halts, in the words of the code
refuse : (t : Text) (start : ℕ) (numbering : Numbering) (position : Option ℕ) (own : List Fetch) (refusal : Refusal) (stars : Stars) (refused : Refused)
    → refused ≡ record { refusal = refusal; stars = stars } → IsHalt t start numbering position own refusal → HasStars t start position stars own
    → IsRefusedIn t start numbering refused
refuse t start numbering position own refusal stars refused is halt has =
    subst (IsRefusedIn t start numbering) (sym is)
    (record { position = position; own = own; halt = halt; stars = has; none = halt_begins_none t start numbering position own refusal halt })

-- the code reads the parts of a specification in their order
module _ (t : Text) (start : ℕ) (numbering : Numbering) (position : Option ℕ) (k : ℕ)
    (follows : FollowsBy numbering position) (set : FlagSet) (a : ℕ)
    (flags_read : (flags : List Flag) × (set ≡ flag_set flags) × HasBytes t k a (map flag_byte flags)) (flags_end : EndsFlags t a) (less : start < length t)
    (percent : get_or t start 0 ≡ 37) (number_read : (bytes : Text) × SpellsPosition bytes position × HasBytes t (start + 1) k bytes) where
  abbrev before : Text
  before = 37 ∷ number_read.0 ++ map flag_byte flags_read.0

  before_is : SpellsUpToFlags before position set
  before_is = record { number = number_read.0; flags = flags_read.0; number_is = number_read.1; set_is = flags_read.1; whole = refl }

  before_bytes : HasBytes t start a before
  before_bytes =
      bytes_join t start k a (37 ∷ number_read.0) (map flag_byte flags_read.0)
      (bytes_join t start (start + 1) k (37 ∷ []) number_read.0 (bytes_one t start 37 less (sym percent)) number_read.2) flags_read.2

  pub refused_width : (refusal : Refusal) → HaltsAtWidth t a position refusal → (refused : Refused)
      → refused ≡ record { refusal = refusal; stars = record { width = None; width_stop = start; precision = None; precision_stop = start } }
      → IsRefusedIn t start numbering refused
  refused_width refusal halts refused is =
      let h = halts start numbering before set before_bytes before_is follows in
      refuse t start numbering position h.0 refusal _ refused is h.1 (record { width = tt; precision = tt; own_is = h.2 })

  module _ (width : Option OpaqueAmount) (width_number : Option ℕ) (b : ℕ)
      (width_read : (bytes : Text) × SpellsWholeWidth bytes position (amount_at width width_number) × HasBytes t a b bytes)
      (width_alone : NumbersStar width width_number) where
    abbrev wide : Text
    wide = before ++ width_read.0

    abbrev wide_amount : Option Amount
    wide_amount = amount_at width width_number

    wide_is : SpellsUpToWidth wide position set wide_amount
    wide_is = record { before = before; text = width_read.0; before_is = before_is; width_is = width_read.1; whole = refl }

    wide_bytes : HasBytes t start b wide
    wide_bytes = bytes_join t start a b before width_read.0 before_bytes width_read.2

    width_spelled : (amount : Amount) → wide_amount ≡ Some amount → SpellsWholeWidth width_read.0 position (Some amount)
    width_spelled amount e = subst (SpellsWholeWidth width_read.0 position) e width_read.1

    width_star : HasStar t start position width_number b []
    width_star = star_there t start b position [] width width_number width_alone
        (λ n e. star_at t start b n (Width position set) before width_read.0 before_is (width_spelled (Fetched (Some n)) e) wide_bytes)

    width_own : is_some position ≡ true → star_fetches wide_amount ≡ one_fetch width_number int_type
    width_own has = own_there width width_number width_alone (λ e. let no = (width_spelled (Fetched None) e).numbering ∙ has in cc)

    pub refused_precision : (refusal : Refusal) → HaltsAtPrecision t b position refusal → (refused : Refused)
        → refused ≡ record { refusal = refusal; stars = record { width = width_number; width_stop = b; precision = None; precision_stop = start } }
        → IsRefusedIn t start numbering refused
    refused_precision refusal halts refused is =
        let h = halts start numbering wide set wide_amount wide_bytes wide_is follows in
        refuse t start numbering position h.0 refusal _ refused is h.1
        (record { width = width_star; precision = tt; own_is = λ has. h.2 has ∙ width_own has ∙ sym (append-nil (one_fetch width_number int_type)) })

    module _ (precision : Option OpaqueAmount) (precision_number : Option ℕ) (c : ℕ)
        (precision_read : (bytes : Text) × SpellsWholePrecision bytes position (amount_at precision precision_number) × HasBytes t b c bytes)
        (precision_alone : NumbersStar precision precision_number) where
      abbrev precise : Text
      precise = wide ++ precision_read.0

      abbrev precise_amount : Option Amount
      precise_amount = amount_at precision precision_number

      abbrev own : List Fetch
      own = star_fetches wide_amount ++ star_fetches precise_amount

      precise_is : SpellsUpToPrecision precise position set wide_amount precise_amount
      precise_is = record { before = wide; text = precision_read.0; before_is = wide_is; precision_is = precision_read.1; whole = refl }

      precise_bytes : HasBytes t start c precise
      precise_bytes = bytes_join t start b c wide precision_read.0 wide_bytes precision_read.2

      -- after the point
      pointed : (rest : Text) → precision_read.0 ≡ 46 ∷ rest → precise ≡ (wide ++ 46 ∷ []) ++ rest
      pointed rest e = ap (λ u. wide ++ u) e ∙ sym (append_assoc wide (46 ∷ []) rest)

      precision_spelled : (amount : Amount) → precise_amount ≡ Some amount → SpellsWholePrecision precision_read.0 position (Some amount)
      precision_spelled amount e = subst (SpellsWholePrecision precision_read.0 position) e precision_read.1

      precision_star : HasStar t start position precision_number c (one_fetch width_number int_type)
      precision_star = star_there t start c position (one_fetch width_number int_type) precision precision_number precision_alone (λ n e.
          let s = precision_spelled (Fetched (Some n)) e in
          subst (IsStarAt t start c n position) (width_own (sym s.1.numbering))
          (star_at t start c n (Precision position set wide_amount) (wide ++ 46 ∷ []) s.0 (wide, wide_is, refl) s.1
          (subst (HasBytes t start c) (pointed s.0 s.2) precise_bytes)))

      precision_own : is_some position ≡ true → star_fetches precise_amount ≡ one_fetch precision_number int_type
      precision_own has = own_there precision precision_number precision_alone (λ e. let no = (precision_spelled (Fetched None) e).1.numbering ∙ has in cc)

      has_stars : HasStars t start position (record { width = width_number; width_stop = b; precision = precision_number; precision_stop = c }) own
      has_stars =
          record {
            width = width_star;
            precision = precision_star;
            own_is = λ has. ap (λ l. l ++ star_fetches precise_amount) (width_own has) ∙ ap (λ l. one_fetch width_number int_type ++ l) (precision_own has);
          }

      module _ (modifier : WholeLength) (d : ℕ) (modifier_read : HasBytes t c d (modifier_letters modifier)) where
        abbrev part : Text
        part = precise ++ modifier_letters modifier

        part_bytes : HasBytes t start d part
        part_bytes = bytes_join t start c d precise (modifier_letters modifier) precise_bytes modifier_read

        pub read_there : (conversion : WholeConv) (read : Specification) → read ≡ record {
          position = position;
          flags_start = k;
          flags_stop = a;
          parts = record { flags = set; width = width; precision = precision; modifier = modifier; conversion = conversion };
          stars = record { width = width_number; width_stop = b; precision = precision_number; precision_stop = c };
        } → HasBytes t d (d + 1) (conversion_letter conversion ∷ []) → IsReadAt t start numbering (read, d + 1)
        read_there conversion read is letter =
            subst (λ r. IsReadAt t start numbering (r, d + 1)) (sym is) (record {
              read = record {
                some = omega (arith, part_bytes.from);
                within = letter.within;
                spelled = subst (λ u. SpellsWhole u (specification_read made)) (sym (bytes_between t _ start (d + 1) whole)) (record {
                  before = precise;
                  before_is = precise_is;
                  whole = refl;
                });
              };
              parts = record {
                sign = bytes_one t start 37 less (sym percent);
                number = number_read;
                flags = flags_read;
                width = width_read;
                precision = precision_read;
                modifier = subst (λ last. HasBytes t c last (modifier_letters modifier)) before_last modifier_read;
                conversion = subst (λ last. HasBytes t last (d + 1) (conversion_letter conversion ∷ [])) before_last letter;
              };
              follows = follows;
              stars = has_stars;
            }) where
              made : Specification
              made = record {
                position = position;
                flags_start = k;
                flags_stop = a;
                parts = record { flags = set; width = width; precision = precision; modifier = modifier; conversion = conversion };
                stars = record { width = width_number; width_stop = b; precision = precision_number; precision_stop = c };
              }

              before_last : d ≡ d + 1 - 1
              before_last = omega arith

              whole : HasBytes t start (d + 1) (part ++ conversion_letter conversion ∷ [])
              whole = bytes_join t start d (d + 1) part (conversion_letter conversion ∷ []) part_bytes letter

        module _ (other : get_or t (start + 1) 0 ≢ 37) (errno : get_or t (start + 1) 0 ≢ 109)
            (first : position ≡ None → IsFirstWidth t (start + 1)) (width_ends : WidthEnds t b position width)
            (precision_ends : PrecisionEnds t b c position precision) (modifier_ends : ModifierEnds t d modifier) where
          abbrev byte : ℕ
          byte = get_or t d 0

          part_begun : IsBegunAs part position own
          part_begun = inl (in_part precise part (numbers_by position set wide_amount precise_amount) modifier precise_is refl)

          module _ (none : conversion_of byte ≡ None) where
            modified : (same : WholeLength) → modifier ≡ same → same ≢ Integer lengths.None → second_modifier same byte ≡ None → Stops numbering byte part
            modified same e some second =
                let numbers = numbers_by position set wide_amount precise_amount in
                stops_in numbering byte (Modified numbers same) part (precise, precise_is, ap (λ m. precise ++ modifier_letters m) e, some) (λ is f. cc)
                (λ q is. quiet_modified byte q none numbers same second)

            module _ (plain : length_modifier_of byte ≡ None) where
              -- where the width ends
              module _ (place : b ≡ d) (point : (byte == 46) ≡ false) where
                -- the place after `%` alone
                opened : before ≡ 37 ∷ [] → start + 1 ≡ a
                opened one = one_on t start a 37 (subst (HasBytes t start a) one before_bytes)

                unnumbered : None ≡ position → (q : Numbering) → q ≡ numbering → q ≢ Numbered
                unnumbered alone q e = not_numbered numbering q e (subst (FollowsBy numbering) (sym alone) follows)

                given_stops : (n : ℕ) → SpellsPositive width_read.0 n → is_digit byte ≡ false → IsMore before position
                    → Stops numbering byte wide
                given_stops n s digit (inl more) =
                    stops_in numbering byte (Digits (Width position set) n) wide (before, width_read.0, before_is, s, more, refl) (λ same e. cc)
                    (λ q same. quiet_digits byte q none plain (Width position set) n point digit)
                given_stops n s digit (inr (one, alone)) =
                    let there : HasBytes t (start + 1) d width_read.0 =
                    subst (λ k. HasBytes t k d width_read.0) (sym (opened one)) (subst (λ k. HasBytes t a k width_read.0) place width_read.2) in
                    let dollar = ne_eqb byte 36 (first (sym alone) d n width_read.0 s there) in
                    let here : IsStateAfter (First n) wide = (width_read.0, s, ap (λ u. u ++ width_read.0) one) in
                    stops_in numbering byte (First n) wide here (λ same e. cc)
                    (λ q same. quiet_first byte q none plain point digit n dollar q (unnumbered alone q (same (inr (n, here)))))

                none_stops : a ≡ d → EndsWidth None t d → byte ≢ 42 → IsMore before position → Stops numbering byte before
                none_stops here ends star = go where
                  flag : flag_of byte ≡ None
                  flag = elim (cases_lt d (length t)) [
                    | inl less ↦ subst (EndsFlags t) here flags_end less
                    | inr over ↦ ap flag_of (get_or_past t d 0 over)
                  ]

                  digit : is_digit byte ≡ false
                  digit = elim (cases_lt d (length t)) [
                    | inl less ↦ no_digit_here byte flag (ends less)
                    | inr over ↦ ap is_digit (get_or_past t d 0 over)
                  ]

                  ends_none : before ≡ 37 ∷ [] → a ≡ d → (byte ≡ 37) ⊎ (byte ≡ 109) → ⊥
                  ends_none one here (inl e) = other (ap (λ k. get_or t k 0) (opened one ∙ here) ∙ e)
                  ends_none one here (inr e) = errno (ap (λ k. get_or t k 0) (opened one ∙ here) ∙ e)

                  go : IsMore before position → Stops numbering byte before
                  go (inl more) = stops_in numbering byte (Flags position set) before (before_is, more) (λ same e. cc)
                      (λ q same. quiet_flags byte q none plain point digit position set flag (ne_eqb byte 42 star))
                  go (inr (one, alone)) = stops_in numbering byte Opened before one (λ same. ends_none one here)
                      (λ q same. quiet_opened byte q none plain point digit flag (ne_eqb byte 42 star) (unnumbered alone q (same (inl one))))

                width_stops : (width : Option OpaqueAmount) (number : Option ℕ) → SpellsWholeWidth width_read.0 position (amount_at width number)
                    → WidthEnds t d position width → Stops numbering byte wide
                width_stops (Some amounts.Star) number s ends =
                    star_stops numbering byte none plain (Width position set) before width_read.0 number point before_is s ends
                width_stops (Some (amounts.Number n)) number s ends = given_stops n s ends (more_than before position set before_is)
                width_stops None number s ends =
                    stops_like numbering byte wide before (ap (λ u. before ++ u) s ∙ append-nil before)
                    (none_stops (same_place t a b (subst (HasBytes t a b) s width_read.2) ∙ place) ends.0 ends.1 (more_than before position set before_is))

              -- where the precision ends
              number_stops : (n : ℕ) (ds : List ℕ) → AreDigits 10 n ds → n ≤ MAX_NUMBER → precision_read.0 ≡ 46 ∷ map (digit_glyph false) ds
                  → is_digit byte ≡ false → (d ≡ b + 1 → byte ≢ 42) → c ≡ d → Stops numbering byte precise
              number_stops n [] digits small e digit star place =
                  let one = one_on t b c 46 (subst (HasBytes t b c) e precision_read.2) in
                  stops_in numbering byte (Point position set wide_amount) precise (wide, wide_is, ap (λ u. wide ++ u) e) (λ same f. cc)
                  (λ q same. quiet_point byte q none plain position set wide_amount digit (ne_eqb byte 42 (star (sym place ∙ sym one))))
              number_stops n (k ∷ ds) digits small e digit star place =
                  let glyphs = map (digit_glyph false) (k ∷ ds) in
                  let here : IsStateAfter (Digits (Precision position set wide_amount) n) precise =
                  (wide ++ 46 ∷ [], glyphs, (wide, wide_is, refl), (k ∷ ds, digits, (λ f. cc), small, refl), tt, pointed glyphs e) in
                  stops_in numbering byte (Digits (Precision position set wide_amount) n) precise here (λ same f. cc)
                  (λ q same. quiet_digits byte q none plain (Precision position set wide_amount) n tt digit)

              precision_stops : c ≡ d → (precision : Option OpaqueAmount) (number : Option ℕ)
                  → SpellsWholePrecision precision_read.0 position (amount_at precision number) → PrecisionEnds t b d position precision
                  → Stops numbering byte precise
              precision_stops place (Some amounts.Star) number s ends =
                  stops_like numbering byte precise ((wide ++ 46 ∷ []) ++ s.0) (pointed s.0 s.2)
                  (star_stops numbering byte none plain (Precision position set wide_amount) (wide ++ 46 ∷ []) s.0 number tt (wide, wide_is, refl) s.1 ends)
              precision_stops place (Some (amounts.Number n)) number s ends = number_stops n s.0.0 s.0.1 s.1 s.0.2 ends.0 ends.1 place
              precision_stops place None number s ends =
                  let here = same_place t b c (subst (HasBytes t b c) s precision_read.2) ∙ place in
                  stops_like numbering byte precise wide (ap (λ u. wide ++ u) s ∙ append-nil wide)
                  (width_stops here (ne_eqb byte 46 ends) width width_number width_read.1 (subst (λ k. WidthEnds t k position width) here width_ends))

            stops : Stops numbering byte part
            stops = go modifier refl modifier_ends where
              go : (same : WholeLength) → modifier ≡ same → ModifierEnds t d same → Stops numbering byte part
              go (Integer lengths.None) e plain =
                  let place = same_place t c d (subst (λ m. HasBytes t c d (modifier_letters m)) e modifier_read) in
                  let ends = subst (λ k. PrecisionEnds t b k position precision) place precision_ends in
                  stops_like numbering byte part precise (ap (λ m. precise ++ modifier_letters m) e ∙ append-nil precise)
                  (precision_stops plain place precision precision_number precision_read.1 ends)
              go same e ends = modified same e (λ f. cc) ends

          pub refused_conversion : (refusal : Refusal) → IsStrayAt t d Unexpected refusal → conversion_of byte ≡ None → (refused : Refused)
              → refused ≡ record {
                refusal = refusal;
                stars = record { width = width_number; width_stop = b; precision = precision_number; precision_stop = c };
              } → IsRefusedIn t start numbering refused
          refused_conversion refusal stray_is none refused is =
              let s = stops none in
              refuse t start numbering position own refusal _ refused is
              (halt_stray t start numbering part position own part_begun (inr follows) d part_bytes Unexpected refusal stray_is (Stops.more s)
              (λ less model fetches same f. inr (inr (inr (inr (
                refl,
                Stops.unexpected s (numbering_of fetches)
                    (λ u. same (undecided_own part position own u part_begun)),
              )))))) has_stars

-- no defined specification begins where the text halts before the parts
pub refused_position : (t : Text) (start : ℕ) (numbering : Numbering) (refusal : Refusal) → start < length t → get_or t start 0 ≡ 37
    → HaltsAtPosition t (start + 1) numbering refusal → (refused : Refused)
    → refused ≡ record { refusal = refusal; stars = record { width = None; width_stop = start; precision = None; precision_stop = start } }
    → IsRefusedIn t start numbering refused
refused_position t start numbering refusal less percent halts refused is =
    let h = halts start (bytes_one t start 37 less (sym percent)) in
    refuse t start numbering None [] refusal _ refused is h (record { width = tt; precision = tt; own_is = λ has. refl })

conversion_plain : (conversion : WholeConv) → (conversion_letter conversion == 0 ||
    (conversion_letter conversion == 37 || conversion_letter conversion == 109)) ≡ false
conversion_plain conversion = grind arith

-- a specification that was read, but isn't defined
same_kind : (read : Specification) → undefined_of (specification_read read) ≡ undefined_of (parts_of_opaque read.parts)
same_kind read = grind arith

pub refused_undefined : (t : Text) (start : ℕ) (numbering : Numbering) (read : Specification) (stop : ℕ) (kind : RefusalKind)
    → IsReadAt t start numbering (read, stop) → undefined_of (parts_of_opaque read.parts) ≡ Some kind → (refused : Refused)
    → refused ≡ record { refusal = record { kind = kind; at = stop - 1 }; stars = read.stars } → IsRefusedIn t start numbering refused
refused_undefined t start numbering read stop kind is undefined refused made =
    refuse t start numbering read.position own (record { kind = kind; at = stop - 1 }) read.stars refused made
    (halt_at t start numbering part read.position own begun (inr is.follows) (stop - 1) last.0 kind (record { kind = kind; at = stop - 1 }) refl
    (omega (arith, is.read.some, is.read.within)) (rw (last.1) (conversion_plain read.parts.conversion))
    (λ model fetches same f. inr (inr (inl (record { s = specification_read read; spelled = spelled; follows = later model fetches same f }, why))))) is.stars where
      why : undefined_of (specification_read read) ≡ Some kind
      why = same_kind read ∙ undefined

      s : SpellsWhole (take (stop - start) (drop start t)) (specification_read read)
      s = is.read.spelled

      part : Text
      part = s.before ++ modifier_letters read.parts.modifier

      own : List Fetch
      own = star_fetches (specification_read read).width ++ star_fetches (specification_read read).precision

      begun : IsBegunAs part read.position own
      begun = inl (in_part s.before part (numbers_by read.position read.parts.flags (specification_read read).width
          (specification_read read).precision) read.parts.modifier s.before_is refl)

      place : start + (stop - start) ≡ stop
      place = omega (arith, is.read.some)

      bytes : HasBytes t start stop (take (stop - start) (drop start t))
      bytes = record {
        from = omega (arith, is.read.some);
        within = is.read.within;
        whole = ap (λ k. take k t) (sym place) ∙ take-add start (stop - start) t;
      }

      last : HasBytes t start (stop - 1) part × (get_or t (stop - 1) 0 ≡ conversion_letter read.parts.conversion) × (stop ≡ stop - 1 + 1)
      last = bytes_but_last t start stop part (conversion_letter read.parts.conversion) (subst (HasBytes t start stop) s.whole bytes)

      spelled : SpellsWhole (part ++ get_or t (stop - 1) 0 ∷ []) (specification_read read)
      spelled = rw (last.1) (rw s.whole at s)

      later : Model → (fetches : List Fetch) → (own ≡ [] → numbering_of fetches ≡ numbering) → IsUndecided part ⊎ FollowsBy (numbering_of fetches) read.position
          → FollowsBy (numbering_of fetches) read.position
      later model fetches same (inr f) = f
      later model fetches same (inl u) =
          subst (λ q. FollowsBy q read.position) (sym (same (undecided_own part read.position own u begun))) is.follows

-- for no combination of parts
pub unread : (t : Text) (start : ℕ) (numbering : Numbering) (refused : Refused) (refusal : Refusal) (stars : Stars)
    → refused ≡ record { refusal = refusal; stars = stars } → IsRefusedIn t start numbering refused → is_of_combination refusal.kind ≡ false
    → IsUnreadIn t start numbering refused
unread t start numbering refused refusal stars is h early =
    let same : is_of_combination refused.refusal.kind ≡ false = ap (λ r. is_of_combination r.refusal.kind) is ∙ early in
    record { refused_is = h; begins = halt_begins_no t start numbering h.position h.own refused.refusal h.halt same }
