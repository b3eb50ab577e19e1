-- Directives at an offset of a text, and their parts.
use Rattle.std.proofs.Common.{◌≡◌, ◌≢◌, ℕ, zero, suc, ◌+◌, ◌-◌, ◌≤◌, false, Option, Some, None, List, [], ◌∷◌, ◌++◌, drop, length, map, take, refl, sym, ap, ◌∙◌, arith, subst, inl, inr}
use Rattle.std.specs.Prelude.{IfSome, MatchOption, ◌⊎◌, decimal, filter}
use Rattle.std.proofs.lemmas.List.{append-nil, length-append, length-drop, length_push}
use Rattle.pf_values.specs.declared.flags.Flag.{Flag}
use Rattle.pf_values.specs.declared.flags.FlagSet.{FlagSet}
use Rattle.pf_values.specs.declared.lengths.Length.TheVariants as lengths
use Rattle.pf_values.specs.Directives.{specification_of, width_given}
use Rattle.pf_values.specs.meaning.Conversions.{conv_letter}
use Rattle.pf_values.specs.meaning.Defined.{is_above_limit}
use Rattle.pf_values.specs.meaning.Flags.{all_flags, flag_byte, flag_set, has}
use Rattle.pf_values.specs.meaning.Items.{Directive, IsReadAs}
use Rattle.pf_values.specs.meaning.Lengths.{length_letters}
use Rattle.pf_values.specs.meaning.Specification.{Specification}
use Rattle.pf_values.specs.meaning.Spelling.{Spells, SpellsPrecision, SpellsWidth, flags_spelled, precision_spelled, width_spelled}
use Rattle.pf_values.specs.meaning.Text.{Text, percent}
use Rattle.pf_text.specs.FoundDirectives.{ArePartsAt, BeginsNoDirective, EndsParts, EndsDirective, IsFoundAt, IsSpelledAt}
use Rattle.pf_text.specs.Fronts.{IsFront}
use Rattle.pf_text.specs.Offsets.{EndsFlags, EndsPrecision, EndsWidth, HasBytes}
use Rattle.pf_text.specs.Walks.{HasPercent}
use Rattle.pf_text.specs.declared.specification.FoundDirective.{FoundDirective}
use Rattle.pf_values.proofs.Printed.{IsNumeral-unique}
use Rattle.pf_text.proofs.NoDirectiveLemmas.{same_place}
use Rattle.pf_text.proofs.ReadBack.{set_kept, spelled_read, width_read}
use Rattle.pf_text.proofs.SpecificationLemmas.{bytes_join, bytes_one}
use Rattle.pf_text.proofs.WalkLemmas.{bytes_between}

-- a width is spelled in one way
pub width_is_spelled : (bytes : Text) (w : Option ℕ) → SpellsWidth bytes w → is_above_limit w ≡ false → bytes ≡ width_spelled w
width_is_spelled bytes None h few = h
width_is_spelled bytes (Some zero) h few = absurd (omega (arith, h.0))
width_is_spelled bytes (Some (suc n)) h few =
    IsNumeral-unique 10 false 1 (suc n) bytes (omega arith) h.1
    ∙ sym (IsNumeral-unique 10 false 1 (suc n) (decimal (suc n)) (omega arith) (width_read (Some (suc n)) (λ e. cc) few).1)

pub spelled_some : (bytes : Text) (w : Option ℕ) → SpellsWidth bytes w → w ≢ Some 0
spelled_some bytes None h = λ e. cc
spelled_some bytes (Some zero) h = absurd (omega (arith, h.0))
spelled_some bytes (Some (suc n)) h = λ e. cc

given_is : (w : Option ℕ) → w ≢ Some 0 → width_given w ≡ w
given_is None h = refl
given_is (Some zero) h = absurd (h refl)
given_is (Some (suc n)) h = refl

-- what begins with a `%`
pub percent_at : (t : Text) (at : ℕ) → HasPercent t at → HasBytes t at (at + 1) (percent ∷ [])
percent_at t at h = bytes_one t at percent (omega (arith, h.0)) (sym h.1)

-- a text of one byte or none begins no directive, nor does another byte than `%`
pub short_begins : (t : Text) → length t ≤ 1 → BeginsNoDirective t
short_begins t short read rest s split h =
    let whole = h.0.whole in
    let letters : length read ≡ length ((percent ∷ map flag_byte h.0.flags ++ h.0.width ++ h.0.precision ++ length_letters s.length)) + 1 =
    ap length whole ∙ length_push (percent ∷ map flag_byte h.0.flags ++ h.0.width ++ h.0.precision ++ length_letters s.length) (conv_letter s.conv) in
    let two : 1 ≤ length (percent ∷ map flag_byte h.0.flags ++ h.0.width ++ h.0.precision ++ length_letters s.length) = omega (
      arith,
      length-append (percent ∷ map flag_byte h.0.flags ++ h.0.width ++ h.0.precision) (length_letters s.length),
      length-append (percent ∷ map flag_byte h.0.flags ++ h.0.width) h.0.precision,
      length-append (percent ∷ map flag_byte h.0.flags) h.0.width,
    ) in
    omega (arith, short, letters, two, ap length split, length-append read rest)

pub none_at_end : (t : Text) (at : ℕ) → length t ≤ at + 1 → BeginsNoDirective (drop at t)
none_at_end t at over = short_begins (drop at t) (omega (arith, over, length-drop at t))

-- flags after a `%` are parts of a specification
flags_front : (flags : List Flag) → IsFront (percent ∷ map flag_byte flags) (flag_set flags) None None lengths.None
flags_front flags = record {
  flags = flags;
  width_text = [];
  precision_text = [];
  set_is = refl;
  width_is = refl;
  precision_is = refl;
  width_fits = refl;
  precision_fits = refl;
  whole = let t : Text = percent ∷ map flag_byte flags in sym (append-nil ((t ++ []) ++ []) ∙ append-nil (t ++ []) ∙ append-nil t);
}

pub flags_there : (t : Text) (start at : ℕ) (set : FlagSet) (flags : List Flag) → HasPercent t start → set ≡ flag_set flags
    → HasBytes t (start + 1) at (map flag_byte flags) → ArePartsAt t start set None None at
flags_there t start at set flags percent_is e h = (
  percent ∷ map flag_byte flags,
  subst (λ f. IsFront (percent ∷ map flag_byte flags) f None None lengths.None) (sym e) (flags_front flags),
  bytes_join t start (start + 1) at (percent ∷ []) (map flag_byte flags) (percent_at t start percent_is) h,
)

-- the flags of a set, each once, are some flags
pub flags_of_set : (t : Text) (start at : ℕ) (set : FlagSet) → HasBytes t start at (flags_spelled set)
    → (flags : List Flag) × (set ≡ flag_set flags) × HasBytes t start at (map flag_byte flags)
flags_of_set t start at set h = (filter (has set) all_flags, sym (set_kept set), h)

-- a field width after them, and a precision
module _ (t : Text) (start a b c : ℕ) (flags : FlagSet) (width precision : Option ℕ) (bytes : Text) (h : ArePartsAt t start flags None None a)
    (w : HasBytes t a b (width_spelled width)) (some : width ≢ Some 0) (few : is_above_limit width ≡ false) (p : HasBytes t b c bytes)
    (spelled : SpellsPrecision bytes precision) (small : is_above_limit precision ≡ false) where
  flags_only : h.0 ≡ percent ∷ map flag_byte h.1.flags
  flags_only =
      let front : Text = percent ∷ map flag_byte h.1.flags in
      h.1.whole ∙ ap (λ u. ((front ++ u) ++ h.1.precision_text) ++ []) h.1.width_is ∙ ap (λ u. ((front ++ []) ++ u) ++ []) h.1.precision_is
      ∙ append-nil ((front ++ []) ++ []) ∙ append-nil (front ++ []) ∙ append-nil front

  pub parts_there : ArePartsAt t start flags width precision c
  parts_there = (
    (h.0 ++ width_spelled width) ++ bytes,
    record {
      flags = h.1.flags;
      width_text = width_spelled width;
      precision_text = bytes;
      set_is = h.1.set_is;
      width_is = width_read width some few;
      precision_is = spelled;
      width_fits = few;
      precision_fits = small;
      whole = ap (λ u. (u ++ width_spelled width) ++ bytes) flags_only
          ∙ sym (append-nil (((percent ∷ map flag_byte h.1.flags) ++ width_spelled width) ++ bytes));
    },
    bytes_join t start b c (h.0 ++ width_spelled width) bytes (bytes_join t start a b h.0 (width_spelled width) h.2 w) p,
  )

  pub parts_end : EndsFlags t a → EndsWidth width t b → EndsPrecision precision t c → EndsParts t c width precision
  parts_end ends_flags ends_width ends_precision = record {
    flags = λ no_width no_precision.
        let first : a ≡ b = same_place t a b (subst (λ o. HasBytes t a b (width_spelled o)) no_width w) in
        subst (EndsFlags t) (first ∙ last no_precision) ends_flags;
    width_ends = λ no_precision. subst (EndsWidth width t) (last no_precision) ends_width;
    precision_ends = ends_precision;
  } where
    last : precision ≡ None → b ≡ c
    last e = same_place t b c (subst (HasBytes t b c) (subst (SpellsPrecision bytes) e spelled) p)

  -- and what ends the directive
  module _ (found : FoundDirective) (ending : EndsDirective t c flags width precision found) where
    found_there : IsFoundAt t start found
    unfolding parts_there
    found_there =
        let front = parts_there in
        let letters = bytes_join t start c ending.between front.0 (length_letters ending.length) front.2 ending.letters in
        let all = bytes_join t start ending.between (ending.between + 1) (front.0 ++ length_letters ending.length)
        (conv_letter ending.conv ∷ []) letters ending.letter in
        let s : Specification = specification_of flags width precision ending.length ending.conv in
        let same : s.width ≡ width = given_is width some in
        let whole : take (found.stop - start) (drop start t) ≡ (front.0 ++ length_letters ending.length) ++ conv_letter ending.conv ∷ [] =
        ap (λ k. take (k - start) (drop start t)) ending.stop ∙ bytes_between t _ start (ending.between + 1) all in
        let spells : Spells ((front.0 ++ length_letters ending.length) ++ conv_letter ending.conv ∷ []) s = record {
          flags = h.1.flags;
          width = width_spelled width;
          precision = bytes;
          flags_are = h.1.set_is;
          width_is = rw same (width_read width some few);
          precision_is = spelled;
          whole = ap (λ u. ((u ++ width_spelled width) ++ bytes) ++ length_letters ending.length ++ conv_letter ending.conv ∷ []) flags_only;
        } in
        record {
          some = omega (arith, h.2.from, w.from, p.from, ending.letters.from, ending.stop);
          within = omega (arith, ending.stop, ending.letter.within);
          read = (subst (λ u. Spells u found.directive) (sym whole) (rw ending.directive spells), ending.defined);
          modifier = rw (ending.modifier, ending.stop, ending.directive) (bytes_join t c ending.between (ending.between + 1)
              (length_letters ending.length) (conv_letter ending.conv ∷ []) ending.letters ending.letter);
        }

  pub found_or_none : (found : Option FoundDirective) → EndsWidth width t b → EndsPrecision precision t c
      → MatchOption found ((start : ℕ) → ArePartsAt t start flags width precision c → EndsParts t c width precision → BeginsNoDirective (drop start t))
      (EndsDirective t c flags width precision)
      → MatchOption found (EndsFlags t a → BeginsNoDirective (drop start t)) (IsFoundAt t start)
  found_or_none None ends_width ends_precision none = λ ends_flags. none start parts_there (parts_end ends_flags ends_width ends_precision)
  found_or_none (Some found) ends_width ends_precision ending = found_there found ending

-- with flags that all were read, or may go on
pub with_all : (t : Text) (start at : ℕ) (found : Option FoundDirective) → EndsFlags t at
    → MatchOption found (EndsFlags t at → BeginsNoDirective (drop start t)) (IsFoundAt t start)
    → MatchOption found (BeginsNoDirective (drop start t)) (IsFoundAt t start)
with_all t start at None ends none = none ends
with_all t start at (Some found) ends there = there

pub with_more : (t : Text) (start at : ℕ) (found : Option FoundDirective) → (EndsFlags t at → BeginsNoDirective (drop start t))
    → MatchOption found (EndsFlags t at ⊎ BeginsNoDirective (drop start t)) (IsFoundAt t start)
    → MatchOption found (BeginsNoDirective (drop start t)) (IsFoundAt t start)
with_more t start at None none (inl ends) = none ends
with_more t start at None none (inr other) = other
with_more t start at (Some found) none there = there

-- parts that are spelled as their spellings are
pub spelled_there : (t : Text) (start a b c : ℕ) (flags : FlagSet) (width precision : Option ℕ) (found : Option FoundDirective) → HasPercent t start
    → HasBytes t (start + 1) a (flags_spelled flags) → HasBytes t a b (width_spelled width) → width ≢ Some 0 → HasBytes t b c (precision_spelled precision)
    → MatchOption found ((start : ℕ) → ArePartsAt t start flags width precision c → EndsParts t c width precision → BeginsNoDirective (drop start t))
    (EndsDirective t c flags width precision)
    → IfSome found (IsSpelledAt t start)
spelled_there t start a b c flags width precision None percent_is f w some p none = tt
spelled_there t start a b c flags width precision (Some found) percent_is f w some p h =
    let one = bytes_join t start (start + 1) a (percent ∷ []) (flags_spelled flags) (percent_at t start percent_is) f in
    let two = bytes_join t start a b (percent ∷ flags_spelled flags) (width_spelled width) one w in
    let head = bytes_join t start b c (percent ∷ flags_spelled flags ++ width_spelled width) (precision_spelled precision) two p in
    let letters = bytes_join t start c h.between (percent ∷ flags_spelled flags ++ width_spelled width ++ precision_spelled precision)
    (length_letters h.length) head h.letters in
    let all = bytes_join t start h.between (h.between + 1) _ (conv_letter h.conv ∷ []) letters h.letter in
    let same : width_given width ≡ width = given_is width some in
    record {
      defined = h.defined;
      some = omega (arith, h.modifier, f.from, w.from, p.from);
      modifier = omega (arith, h.modifier, h.stop, h.letters.from);
      within = omega (arith, h.stop, h.letter.within);
      head = ap (λ k. take (k - start) (drop start t)) h.modifier ∙ bytes_between t _ start c head ∙ rw (h.directive, same) refl;
      whole = ap (λ k. take (k - start) (drop start t)) h.stop ∙ bytes_between t _ start (h.between + 1) all ∙ rw (h.directive, same) refl;
    }

-- it is read
pub spelled_reads : (t : Text) (start : ℕ) (found : FoundDirective) → IsSpelledAt t start found
    → IsReadAs (take (found.stop - start) (drop start t)) (Directive found.directive)
spelled_reads t start found h = rw h.whole (spelled_read found.directive h.defined, h.defined)
