-- An unnumbered specification that isn't opaque is one of the profile.
use Rattle.std.proofs.Common.{◌≡◌, ◌≢◌, ℕ, Bool, true, false, List, [], ◌∷◌, ◌++◌, map, refl, sym, ap, ◌∙◌, arith}
use Rattle.std.specs.Prelude.{Option, Some, None, is_some, not, ◌&&◌}
use Rattle.std.specs.List.{AllByRecursion}
use Rattle.std.proofs.lemmas.List.{append_assoc}
use Rattle.pf_values.specs.declared.flags.Flag.TheVariants.{Alt, Zero, Group}
use Rattle.pf_values.specs.declared.flags.FlagSet.{FlagSet}
use Rattle.pf_values.specs.meaning.Conversions.{conv_letter, has_alternative_form, is_char, is_decimal, is_text}
use Rattle.pf_values.specs.meaning.Defined.{is_above_limit}
use Rattle.pf_values.specs.meaning.Flags.{flag_byte, has}
use Rattle.pf_values.specs.meaning.Items.{Byte, Directive, IsReadAs, Item}
use Rattle.pf_values.specs.meaning.Lengths.{is_absent, length_letters}
use Rattle.pf_values.specs.meaning.Spelling.{SpellsPrecision, SpellsWidth}
use Rattle.pf_values.specs.meaning.Text.{Text}
use Rattle.pf_text.proofs.Complete.{small}
use Rattle.pf_posix.specs.declared.conversions.WholeConv.{WholeConv}
use Rattle.pf_posix.specs.declared.conversions.WholeConv.TheVariants.{Profile}
use Rattle.pf_posix.specs.declared.conversions.WholeLength.{WholeLength}
use Rattle.pf_posix.specs.declared.conversions.WholeLength.TheVariants.{Integer, LongDouble}
use Rattle.pf_posix.specs.Defined.{IsWholeDefined, undefined_as}
use Rattle.pf_posix.specs.Items.{Byte as WholeByte, Errno as WholeErrno, WholeItem, ReadsWhole, Specification as WholeDirective}
use Rattle.pf_posix.specs.Specifications.{Amount, Given, Fetched, WholeSpecification}
use Rattle.pf_posix.specs.Spelling.{SpellsWhole, SpellsWholePrecision, SpellsWholeWidth}
use Rattle.pf_posix.specs.StretchesInText.{push}
use Rattle.pf_posix.specs.Unnumbered.{IsUnnumbered, IsReadUnnumbered}
use Rattle.pf_posix.specs.Opaque.{is_opaque, is_outside, is_star}
use Rattle.pf_posix.specs.Stretches.{Stretches, Last, Before, ReadsStretches, IsUnnumberedAccepted}
use Rattle.pf_posix.specs.OpaqueParts.{amount_back, narrow}
use Rattle.pf_posix.proofs.ReadOnce.{pushed_or, stretched}
use Rattle.pf_posix.proofs.SpecificationsOnce.{no_reason, made, parts_of, regrouped}

no_width : (t : Text) (width : Option Amount) → is_star width ≡ false → SpellsWholeWidth t None width
    → SpellsWidth t (amount_back width) × (amount_back width ≢ Some 0) × (is_above_limit (amount_back width) ≡ false)
no_width t None e h = (h, λ no. cc, refl)
no_width t (Some (Given n)) e h = ((h.some, h.numeral), λ same. let zero : n ≡ 0 = cc in omega (arith, zero, h.some), small n h.within)
no_width t (Some (Fetched number)) e h = cc

no_precision : (t : Text) (precision : Option Amount) → is_star precision ≡ false → SpellsWholePrecision t None precision
    → SpellsPrecision t (amount_back precision) × (is_above_limit (amount_back precision) ≡ false) × (is_some (amount_back precision) ≡ is_some precision)
no_precision t None e h = (h, refl, refl)
no_precision t (Some (Given n)) e h = (h.0, small n h.1, refl)
no_precision t (Some (Fetched number)) e h = cc

-- its conversion and modifier are of the profile
narrowed_by : (t : Text) (position : Option ℕ) (flags : FlagSet) (width precision : Option Amount) (modifier : WholeLength) (conversion : WholeConv)
    → SpellsWhole t (made position flags width precision modifier conversion)
    → undefined_as flags (is_some width) (is_some precision) modifier conversion ≡ None
    → position ≡ None → is_star width ≡ false → is_star precision ≡ false → is_outside conversion modifier ≡ false
    → IsReadAs t (Directive (narrow (made position flags width precision modifier conversion)))
narrowed_by t position flags width precision (Integer length) (Profile conv) h d u w p wide =
    let s = made position flags width precision (Integer length) (Profile conv) in
    let parts = parts_of t s h u in
    let given = no_width parts.width width w parts.width_is in
    let digits = no_precision parts.precision precision p parts.precision_is in
    let none = no_reason flags (is_some width) (is_some precision) (Integer length) (Profile conv) d in
    let alt : (not (has_alternative_form conv) && has flags Alt) ≡ false = grind (arith, none.alt) in
    let zero_flag : (is_text conv && has flags Zero) ≡ false = grind (arith, none.zero_flag) in
    let group : (not (is_decimal conv) && has flags Group) ≡ false = grind (arith, none.group) in
    let char : (is_char conv && is_some (amount_back precision)) ≡ false = grind (arith, digits.2, none.precision_is) in
    let fits : (is_text conv && not (is_absent length)) ≡ false = grind (arith, none.modifier_is, wide) in (
      record {
        flags = parts.flags;
        width = parts.width;
        precision = parts.precision;
        flags_are = parts.set_is;
        width_is = given.0;
        precision_is = digits.0;
        whole = parts.whole
            ∙ ap (λ l. 37 ∷ l) (sym (regrouped (map flag_byte parts.flags) parts.width parts.precision (length_letters length) (conv_letter conv ∷ [])));
      },
      record { width = given.1; allowed = rw (given.2, digits.1, wide, alt, zero_flag, group, char, fits) refl },
    )
narrowed_by t position flags width precision LongDouble (Profile conv) h d u w p wide =
    let fits = (no_reason flags (is_some width) (is_some precision) LongDouble (Profile conv) d).modifier_is in cc
narrowed_by t position flags width precision modifier _ h d u w p wide = cc

pub narrowed : (t : Text) (s : WholeSpecification) → SpellsWhole t s → IsWholeDefined s → s.position ≡ None → is_opaque s ≡ false
    → IsReadAs t (Directive (narrow s))
narrowed t s h d u e =
    narrowed_by t s.position s.flags s.width s.precision s.modifier s.conversion h d u (grind (arith, e)) (grind (arith, e)) (grind (arith, e))

-- one item more at the front
pushed : (t u : Text) (item : Item) (a : Stretches) → IsReadAs t item → ReadsStretches u a → ReadsStretches (t ++ u) (push item a)
pushed t u item (Last items) h g = (t, u, h, g, refl)
pushed t u item (Before items other rest) h g = (
  t ++ g.0,
  g.1,
  g.2,
  (t, g.0, h, g.3, refl),
  g.4,
  g.5,
  ap (λ l. t ++ l) (g.6 ∙ append_assoc g.0 g.1 g.2) ∙ sym (append_assoc t g.0 (g.1 ++ g.2))
      ∙ sym (append_assoc (t ++ g.0) g.1 g.2),
)

pub reads_stretches : (t : Text) (items : List WholeItem) → ReadsWhole t items → AllByRecursion IsUnnumbered items → ReadsStretches t (stretched items)
reads_stretches t [] h u = h
reads_stretches t (WholeByte byte ∷ items) h u = rw h.4 (pushed h.0 h.1 (Byte byte) (stretched items) h.2 (reads_stretches h.1 items h.3 u.1))
reads_stretches t (WholeErrno ∷ items) h u = ([], h.0, h.1, refl, h.2, reads_stretches h.1 items h.3 u.1, h.4)
reads_stretches t (WholeDirective s ∷ items) h u = go (is_opaque s) refl (reads_stretches h.1 items h.3 u.1) where
  go : (b : Bool) → is_opaque s ≡ b → ReadsStretches h.1 (stretched items) → ReadsStretches t (pushed_or b s (stretched items))
  go true e rest = ([], h.0, h.1, refl, record { spelled = h.2.0; defined = h.2.1; unnumbered = u.0; opaque = e }, rest, h.4)
  go false e rest = rw h.4 (pushed h.0 h.1 (Directive (narrow s)) (stretched items) (narrowed h.0 s h.2.0 h.2.1 u.0 e) rest)

pub accepted_here : (t : Text) → IsReadUnnumbered t → IsUnnumberedAccepted t
accepted_here t h = record { stretches = stretched h.items; reads = reads_stretches t h.items h.reads h.unnumbered; limit = h.limit }
