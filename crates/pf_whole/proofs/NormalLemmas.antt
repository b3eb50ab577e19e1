-- The parts of a normal spelling are their own normal parts. If a directive is defined and opaque, so
-- are its normal parts, and they take arguments of the same types.
use Rattle.std.proofs.Common.{sym, ◌≡◌, ℕ, Bool, true, false, refl, ap, ◌∙◌, arith}
use Rattle.std.specs.Prelude.{Option, Some, is_some, not, ◌&&◌, if◌then◌else◌}
use Rattle.pf_values.specs.declared.conversions.Kind.{Kind}
use Rattle.pf_values.specs.declared.flags.FlagSet.{FlagSet}
use Rattle.pf_values.specs.declared.flags.Flag.TheVariants.{Minus, Plus, Space, Zero}
use Rattle.pf_values.specs.declared.lengths.Length.{Length}
use Rattle.pf_values.specs.declared.models.Model.{Model}
use Rattle.pf_values.specs.meaning.Conversions.{prints_text}
use Rattle.pf_values.specs.meaning.DataModel.{kept_length}
use Rattle.pf_values.specs.meaning.Flags.{has}
use Rattle.pf_values.proofs.DataModelLemmas.{kept_row}
use Rattle.pf_reduce.proofs.CarriedIntegers.{kept_kind, kept_text}
use Rattle.pf_posix.specs.declared.conversions.WholeConv.{WholeConv}
use Rattle.pf_posix.specs.declared.conversions.WholeLength.{WholeLength}
use Rattle.pf_posix.specs.Defined.{is_count, takes_alt, takes_modifier, takes_precision, takes_zero}
use Rattle.pf_posix.specs.Specifications.{Amount, Given, WholeSpecification}
use Rattle.pf_posix.specs.Types.{conversion_type, counted_type, integer_length, kind_type, star_fetches}
use Rattle.pf_posix.specs.Opaque.{OpaqueErrno, OpaqueItem, OpaqueSpecification, is_opaque, is_outside, is_star}
use Rattle.pf_posix.specs.Stretches.{types_of_opaque}
use Rattle.pf_posix.proofs.SpecificationsOnce.{same_fields}
use Rattle.pf_whole.specs.meaning.NormalSpellings.{normal_spelling, whole_spelling_of, given_precision, integer_modifier, is_general, is_given, is_integer, keeps_sign, kept_conversion, kept_flags}
use Rattle.pf_whole.specs.meaning.NormalSpellings.{kept_modifier, normal_precision, meant_precision, normal_parts}

-- conversions
pub record SameConversion (before after : WholeConv) : Type 0 where
  pub again : kept_conversion after ≡ after
  pub integer : is_integer after ≡ is_integer before
  pub sign : keeps_sign after ≡ keeps_sign before
  pub general : is_general after ≡ is_general before
  pub meant : meant_precision after ≡ meant_precision before
  pub alt : takes_alt after ≡ takes_alt before
  pub zero_flag : takes_zero after ≡ takes_zero before
  pub precision : takes_precision after ≡ takes_precision before
  pub count : is_count after ≡ is_count before

pub same_conversion : (conversion : WholeConv) → SameConversion conversion (kept_conversion conversion)
same_conversion conversion = grind arith

-- modifiers
kept_again : (model : Model) (length : Length) → kept_length model (kept_length model length) ≡ kept_length model length
kept_again model length = ap (λ row. row.kept) (kept_row model length)

integer_again : (model : Model) (modifier : WholeLength) → integer_modifier model (integer_modifier model modifier) ≡ integer_modifier model modifier
integer_again model modifier = grind (arith, kept_again)

modifier_again : (model : Model) (conversion : WholeConv) (modifier : WholeLength)
    → kept_modifier model (kept_conversion conversion) (kept_modifier model conversion modifier) ≡ kept_modifier model conversion modifier
modifier_again model conversion modifier = grind (arith, integer_again, kept_text)

-- types
counted_again : (model : Model) (length : Length) → counted_type model (kept_length model length) ≡ counted_type model length
counted_again model length = grind arith

kind_again : (model : Model) (kind : Kind) (modifier : WholeLength)
    → kind_type model kind (integer_length (if prints_text kind then modifier else integer_modifier model modifier))
    ≡ kind_type model kind (integer_length modifier)
kind_again model kind modifier = grind (arith, kept_row)

type_again : (model : Model) (conversion : WholeConv) (modifier : WholeLength)
    → conversion_type model (kept_modifier model conversion modifier) (kept_conversion conversion) ≡ conversion_type model modifier conversion
type_again model conversion modifier = grind (arith, kind_again, kept_kind, counted_again)

-- precisions
pub record SamePrecision (conversion : WholeConv) (before after : Option Amount) : Type 0 where
  pub again : normal_precision conversion after ≡ after
  pub given : is_given before ≡ false → is_given after ≡ false
  pub star : is_star after ≡ is_star before
  pub some : is_some before ≡ false → is_some after ≡ false
  pub fetched : star_fetches after ≡ star_fetches before

general_means : (conversion : WholeConv) → is_general conversion ≡ true → meant_precision conversion ≡ Some 6
general_means conversion e = grind arith

given_same : (conversion : WholeConv) (n : ℕ) → SamePrecision conversion (Some (Given n)) (given_precision conversion n)
given_same conversion n = grind (arith, general_means)

pub precision_same : (conversion : WholeConv) (precision : Option Amount) → SamePrecision conversion precision (normal_precision conversion precision)
precision_same conversion precision = grind (arith, given_same)

precision_for : (a b : WholeConv) (precision : Option Amount) → meant_precision a ≡ meant_precision b → is_general a ≡ is_general b
    → normal_precision a precision ≡ normal_precision b precision
precision_for a b precision h g = grind arith

-- flags
both_again : (a b : Bool) → ((a && b) && b) ≡ (a && b)
both_again a b = grind arith

space_again : (s p k : Bool) → ((s && not p && k) && not (p && k) && k) ≡ (s && not p && k)
space_again s p k = grind arith

zero_again : (z w m i g h : Bool) → (g ≡ false → h ≡ false)
    → ((z && w && not m && not (i && g)) && w && not (m && w) && not (i && h)) ≡ (z && w && not m && not (i && g))
zero_again z w m i g h e = grind arith

abbrev set_of : Bool → Bool → Bool → Bool → Bool → Bool → FlagSet
set_of a b c d e f = record { minus = a; plus = b; space = c; alt = d; zero = e; group = f }

same_set : (a b c d e f g h i j k l : Bool) → a ≡ g → b ≡ h → c ≡ i → d ≡ j → e ≡ k → f ≡ l → set_of a b c d e f ≡ set_of g h i j k l
same_set a b c d e f g h i j k l p q r s t u = rw (p, q, r, s, t, u) refl

flags_again : (model : Model) (s : WholeSpecification) → kept_flags (normal_parts model s) ≡ kept_flags s
flags_again model s =
    let same = same_conversion s.conversion in
    let precision = precision_same s.conversion s.precision in
    let f = s.flags in
    let w = is_some s.width in
    let k = keeps_sign s.conversion in
    same_set _ _ _ _ _ _ _ _ _ _ _ _
    (both_again (has f Minus) w)
    (ap (λ x. (has f Plus && k) && x) same.sign ∙ both_again (has f Plus) k)
    (ap (λ x. (has f Space && not (has f Plus) && k) && not (has f Plus && k) && x) same.sign ∙ space_again (has f Space) (has f Plus) k)
    refl
    (ap (λ x. (has f Zero && w && not (has f Minus) && not (is_integer s.conversion && is_given s.precision)) && w && not (has f Minus && w) && not
    (x && is_given (normal_precision s.conversion s.precision))) same.integer
    ∙ zero_again (has f Zero) w (has f Minus) (is_integer s.conversion) (is_given s.precision)
    (is_given (normal_precision s.conversion s.precision)) precision.given)
    refl

pub normal_again : (model : Model) (s : WholeSpecification) → normal_parts model (normal_parts model s) ≡ normal_parts model s
normal_again model s =
    let same = same_conversion s.conversion in
    let precision = precision_same s.conversion s.precision in
    same_fields (normal_parts model (normal_parts model s)) (normal_parts model s) refl (flags_again model s) refl
    (precision_for (kept_conversion s.conversion) s.conversion (normal_precision s.conversion s.precision) same.meant same.general ∙ precision.again)
    (modifier_again model s.conversion s.modifier)
    same.again

-- the normal spelling keeps the types of the arguments
pub types_again : (model : Model) (s : WholeSpecification)
    → types_of_opaque model (OpaqueSpecification (normal_parts model s)) ≡ types_of_opaque model (OpaqueSpecification s)
types_again model s =
    let precision = precision_same s.conversion s.precision in
    let type = type_again model s.conversion s.modifier in
    rw (precision.fetched, type) refl

-- opaque
outside_again : (model : Model) (conversion : WholeConv) (modifier : WholeLength) → is_outside conversion modifier ≡ true
    → is_outside (kept_conversion conversion) (kept_modifier model conversion modifier) ≡ true
outside_again model conversion modifier e = grind (arith, kept_text)

pub opaque_again : (model : Model) (s : WholeSpecification) → is_opaque s ≡ true → is_opaque (normal_parts model s) ≡ true
opaque_again model s e = grind (arith, precision_same, outside_again)

pub modifier_stands : (model : Model) (conversion : WholeConv) (modifier : WholeLength) → not (takes_modifier conversion modifier) ≡ false
    → not (takes_modifier (kept_conversion conversion) (kept_modifier model conversion modifier)) ≡ false
modifier_stands model conversion modifier e = grind (arith, kept_text)

pub less : (z w m i t : Bool) → (z && not t) ≡ false → ((z && w && m && i) && not t) ≡ false
less z w m i t e = grind arith

pub fewer_some : (p q t : Bool) → (p ≡ false → q ≡ false) → (p && not t) ≡ false → (q && not t) ≡ false
fewer_some p q t h e = grind arith

-- what the profile lacks, with its normal parts
abbrev pub normal_item : Model → OpaqueItem → OpaqueItem
normal_item model (OpaqueSpecification s) = OpaqueSpecification (normal_parts model s)
normal_item model OpaqueErrno = OpaqueErrno

pub item_types_again : (model : Model) (other : OpaqueItem) → types_of_opaque model (normal_item model other) ≡ types_of_opaque model other
item_types_again model (OpaqueSpecification s) = types_again model s
item_types_again model OpaqueErrno = refl

pub spelling_again : (model : Model) (other : OpaqueItem) → normal_spelling model other ≡ normal_spelling model (normal_item model other)
spelling_again model (OpaqueSpecification s) = ap whole_spelling_of (sym (normal_again model s))
spelling_again model OpaqueErrno = refl
