-- A normal spelling spells the normal parts.
use Rattle.std.proofs.Common.{◌≡◌, ℕ, false, [], ◌∷◌, ◌++◌, map, refl, sym, ap, ◌∙◌, arith, subst}
use Rattle.std.specs.Prelude.{Option, Some, None, is_some, not, ◌&&◌, ◌||◌, filter}
use Rattle.std.specs.Int.Digits.{digits_of}
use Rattle.pf_values.specs.declared.flags.Flag.TheVariants.{Minus, Alt, Zero}
use Rattle.pf_values.specs.declared.models.Model.{Model}
use Rattle.pf_values.specs.meaning.Flags.{all_flags, flag_byte, has}
use Rattle.pf_values.specs.meaning.Text.{Text}
use Rattle.pf_text.proofs.Complete.{small}
use Rattle.pf_text.proofs.ReadBack.{decimal_is, least_digits_are, precision_read, set_kept}
use Rattle.pf_posix.specs.declared.conversions.WholeConv.{WholeConv}
use Rattle.pf_posix.specs.Defined.{IsWholeDefined, has_any_flag, is_count, takes_precision, takes_zero}
use Rattle.pf_posix.specs.Specifications.{Amount, Given, Fetched, WholeSpecification}
use Rattle.pf_posix.specs.Spelling.{SpellsPosition, SpellsWhole, SpellsWholePrecision, SpellsWholeWidth, SpellsUpToPrecision}
use Rattle.pf_posix.specs.Opaque.{OpaqueErrno, OpaqueItem, OpaqueSpecification, SpellsOpaque, SpellsOpaqueItem}
use Rattle.pf_posix.proofs.SpecificationsOnce.{is_defined, no_reason, HasParts, no_number, parts_of}
use Rattle.pf_whole.specs.Verbatim.{CanBePrecision, CanBeWidth}
use Rattle.pf_whole.specs.meaning.NormalSpellings.{directive_spelling, is_given, is_integer, kept_conversion, kept_flags, kept_modifier, normal_precision, normal_parts, normal_spelling}
use Rattle.pf_whole.specs.meaning.NormalSpellings.{whole_precision_spelled, whole_spelling_of, whole_width_spelled}
use Rattle.pf_whole.proofs.NormalLemmas.{fewer_some, less, modifier_stands, normal_item, opaque_again, precision_same, same_conversion}

none_placed : (number : Option ℕ) → number ≡ None → SpellsPosition [] number
none_placed None e = refl
none_placed (Some n) e = cc

-- what is spelled can be spelled
pub width_few : (t : Text) (width : Option Amount) → SpellsWholeWidth t None width → CanBeWidth width
width_few t None h = tt
width_few t (Some (Given n)) h = (h.some, h.within)
width_few t (Some (Fetched number)) h = no_number number h.numbering

pub few_of : (t : Text) (precision : Option Amount) → SpellsWholePrecision t None precision → CanBePrecision precision
few_of t None h = tt
few_of t (Some (Given n)) h = h.1
few_of t (Some (Fetched number)) h = no_number number h.1.numbering

few_kept : (conversion : WholeConv) (precision : Option Amount) → CanBePrecision precision → CanBePrecision (normal_precision conversion precision)
few_kept conversion precision h = grind arith

-- and is so in the one way
width_here : (width : Option Amount) → CanBeWidth width → SpellsWholeWidth (whole_width_spelled width) None width
width_here None h = refl
width_here (Some (Given n)) h = record {
  some = h.0;
  numeral = (digits_of 10 n, least_digits_are n h.0, decimal_is n h.0 (omega (arith, h.1)));
  within = h.1;
}
width_here (Some (Fetched number)) h = record {
  digits = [];
  digits_are = none_placed number h;
  numbering = ap is_some h;
  whole = refl;
}

precision_here : (precision : Option Amount) → CanBePrecision precision → SpellsWholePrecision (whole_precision_spelled precision) None precision
precision_here None h = refl
precision_here (Some (Given n)) h = (precision_read (Some n) (small n h), h)
precision_here (Some (Fetched number)) h =
    (42 ∷ [], record { digits = []; digits_are = none_placed number h; numbering = ap is_some h; whole = refl }, refl)

-- the one spelling of parts that can be spelled
pub spelled_parts : (s : WholeSpecification) → s.position ≡ None → CanBeWidth s.width → CanBePrecision s.precision → SpellsWhole (whole_spelling_of s) s
spelled_parts s unnumbered width few =
    let flags = filter (has s.flags) all_flags in
    let before = (37 ∷ map flag_byte flags ++ whole_width_spelled s.width) ++ whole_precision_spelled s.precision in
    record {
      before = before;
      before_is = subst (λ p. SpellsUpToPrecision before p s.flags s.width s.precision) (sym unnumbered) (record {
        before = 37 ∷ map flag_byte flags ++ whole_width_spelled s.width;
        text = whole_precision_spelled s.precision;
        before_is = record {
          before = 37 ∷ map flag_byte flags;
          text = whole_width_spelled s.width;
          before_is = record { number = []; flags = flags; number_is = refl; set_is = sym (set_kept s.flags); whole = refl };
          width_is = width_here s.width width;
          whole = refl;
        };
        precision_is = precision_here s.precision few;
        whole = refl;
      });
      whole = refl;
    }

spelled_normally : (model : Model) (t : Text) (s : WholeSpecification) → HasParts t s → SpellsWhole (directive_spelling model s) (normal_parts model s)
spelled_normally model t s h = spelled_parts (normal_parts model s) h.unnumbered (width_few h.width s.width h.width_is)
    (few_kept s.conversion s.precision (few_of h.precision s.precision h.precision_is))

counted : (model : Model) (s : WholeSpecification) → (is_count s.conversion && (has_any_flag s.flags || is_some s.width || is_some s.precision)) ≡ false
    → (is_count s.conversion && (has_any_flag (kept_flags s) || is_some s.width || is_some (normal_precision s.conversion s.precision))) ≡ false
counted model s e = grind (arith, precision_same)

defined_normally : (model : Model) (s : WholeSpecification) → IsWholeDefined s → IsWholeDefined (normal_parts model s)
defined_normally model s h =
    let none = no_reason s.flags (is_some s.width) (is_some s.precision) s.modifier s.conversion h in
    let same = same_conversion s.conversion in
    let precision = precision_same s.conversion s.precision in
    is_defined (kept_flags s) (is_some s.width) (is_some (normal_precision s.conversion s.precision)) (kept_modifier model s.conversion s.modifier)
    (kept_conversion s.conversion) (record {
      alt = ap (λ b. has s.flags Alt && not b) same.alt ∙ none.alt;
      zero_flag = less (has s.flags Zero) (is_some s.width) (not (has s.flags Minus)) (not (is_integer s.conversion && is_given s.precision))
          (takes_zero (kept_conversion s.conversion)) (ap (λ b. has s.flags Zero && not b) same.zero_flag ∙ none.zero_flag);
      group = refl;
      precision_is = fewer_some (is_some s.precision) (is_some (normal_precision s.conversion s.precision))
          (takes_precision (kept_conversion s.conversion)) precision.some (ap (λ b. is_some s.precision && not b) same.precision ∙ none.precision_is);
      modifier_is = modifier_stands model s.conversion s.modifier none.modifier_is;
      count = ap (λ b. b && (has_any_flag (kept_flags s) || is_some s.width || is_some (normal_precision s.conversion s.precision))) same.count
          ∙ counted model s none.count;
    })

pub opaque_normally : (model : Model) (t : Text) (s : WholeSpecification) → SpellsOpaque t s → SpellsOpaque (directive_spelling model s) (normal_parts model s)
opaque_normally model t s h = record {
  spelled = spelled_normally model t s (parts_of t s h.spelled h.unnumbered);
  defined = defined_normally model s h.defined;
  unnumbered = h.unnumbered;
  opaque = opaque_again model s h.opaque;
}

pub item_normally : (model : Model) (t : Text) (other : OpaqueItem) → SpellsOpaqueItem t other
    → SpellsOpaqueItem (normal_spelling model other) (normal_item model other)
item_normally model t (OpaqueSpecification s) h = opaque_normally model t s h
item_normally model t OpaqueErrno h = refl
