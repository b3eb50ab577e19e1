-- That parts have no effect is shown by one spelling of a specification, and one of it without them.
use Rattle.std.proofs.Common.{◌≡◌, ◌≢◌, ◌∙◌, ℕ, zero, suc, ap, inl, inr, Bool, true, false, List, [], ◌∷◌, refl, sym, arith, subst}
use Rattle.std.specs.Prelude.{◌↔◌, ◌⊎◌, ◌&&◌, ◌||◌, not, IsTrue, Option, None, Some, is_some, if◌then◌else◌}
use Rattle.std.proofs.lemmas.List.{append-nil}
use Rattle.pf_values.specs.declared.flags.Flag.TheVariants.{Minus, Plus, Space, Alt, Zero, Group}
use Rattle.pf_values.specs.declared.models.Model.{Model}
use Rattle.pf_values.specs.meaning.Text.{Text}
use Rattle.pf_values.specs.Directives.{specification_of, width_given}
use Rattle.pf_values.specs.meaning.Defined.{IsDefined}
use Rattle.pf_values.specs.meaning.Items.{Directive}
use Rattle.pf_values.specs.meaning.Printing.{PrintAlike}
use Rattle.pf_posix.specs.Defined.{IsWholeDefined, has_any_flag, is_count, takes_alt, takes_group, takes_modifier, takes_precision, takes_zero}
use Rattle.pf_posix.specs.Opaque.{OpaqueSpecification, is_opaque, is_outside, is_star}
use Rattle.pf_posix.specs.declared.conversions.WholeConv.{WholeConv}
use Rattle.pf_posix.specs.declared.conversions.WholeLength.{WholeLength as ModifierOf}
use Rattle.pf_posix.specs.declared.conversions.WholeLength.TheVariants.{Integer}
use Rattle.pf_values.specs.declared.flags.FlagSet.{FlagSet}
use Rattle.pf_values.specs.declared.lengths.Length.TheVariants as lengths
use Rattle.pf_posix.specs.Items.{WholeItem, Specification, IsWholeReadAs}
use Rattle.pf_posix.specs.OpaqueParts.{amount_back, amount_of, conv_back, narrow, parts_of_opaque}
use Rattle.pf_posix.specs.Types.{integer_length}
use Rattle.pf_posix.specs.declared.opaque_directives.OpaqueDirective.{OpaqueDirective}
use Rattle.pf_posix.specs.SpecificationSpans.{HasItsParts, alone, without_number}
use Rattle.pf_posix.specs.declared.specification_spans.SpecificationSpan.{SpecificationSpan}
use Rattle.pf_posix.specs.Specifications.{Amount, Fetched, Given, WholeSpecification}
use Rattle.pf_posix.specs.Spelling.{SpellsWhole, SpellsWholePrecision, SpellsWholeWidth}
use Rattle.pf_posix.specs.Stretches.{Stretches, Before, Last, ReadsStretches}
use Rattle.pf_posix.proofs.Narrowed.{narrowed, reads_stretches}
use Rattle.pf_posix.proofs.ReadOnce.{pushed_or, stretched}
use Rattle.pf_posix.proofs.SpecificationsOnce.{HasParts, is_defined, no_reason, parts_of}
use Rattle.pf_whole.specs.declared.needless.NeedlessQuestion.{NeedlessQuestion}
use Rattle.pf_whole.specs.declared.parts.Part.{Part}
use Rattle.pf_whole.specs.declared.parts.Part.TheVariants.{Flag, Width, Precision, Modifier}
use Rattle.pf_whole.specs.declared.parts.PartSet.{PartSet}
use Rattle.pf_whole.specs.declared.needless.NeedlessParts.{NeedlessParts}
use Rattle.pf_whole.specs.Needless.{AreFound, AreGathered, AreNeedless, GathersPart, HaveNoEffect}
use Rattle.pf_whole.specs.Parts.{all_parts, given_parts, has_part, left_out, no_parts, only, with_part, without, without_flags}
use Rattle.pf_whole.specs.meaning.NormalSpellings.{directive_spelling, whole_spelling_of}
use Rattle.pf_whole.specs.meaning.Traces.{AreWholeAlike}
use Rattle.pf_whole.specs.Laws.{Correspond}
use Rattle.pf_whole.proofs.Corresponding.{alike_is_corresponding}
use Rattle.pf_whole.proofs.OneCanonical.{print_refl}
use Rattle.pf_whole.proofs.SpelledNormally.{few_of, spelled_parts, width_few}
use Rattle.pf_whole.specs.Verbatim.{CanBePrecision, CanBeWidth}

-- the items of a text that is a specification alone
abbrev items_alone : WholeSpecification → List WholeItem
items_alone s = Specification s ∷ []

reads_alone : (t : Text) (s : WholeSpecification) → SpellsWhole t s → IsWholeDefined s → s.position ≡ None → ReadsStretches t (stretched (items_alone s))
reads_alone t s h defined unnumbered =
    reads_stretches t (items_alone s) (t, [], (h, defined), refl, sym (append-nil t)) (unnumbered, tt)

-- a part can be spelled where it isn't left out
part_left : (CanBe : Option Amount → Type 0) (out : Bool) (amount : Option Amount) → CanBe None → CanBe amount → CanBe (left_out out amount)
part_left CanBe true amount none h = none
part_left CanBe false amount none h = h

-- a text that is the specification
module _ (model : Model) (s : WholeSpecification) (unnumbered : s.position ≡ None) (text : Text) (h : IsWholeReadAs text (Specification s))
    (set : PartSet) where
  parts : HasParts text s
  parts = parts_of text s h.0 unnumbered

  width : CanBeWidth s.width
  width = width_few parts.width s.width parts.width_is

  few : CanBePrecision s.precision
  few = few_of parts.precision s.precision parts.precision_is

  whole_spelled : SpellsWhole (whole_spelling_of s) s
  whole_spelled = spelled_parts s unnumbered width few

  rest_spelled : SpellsWhole (whole_spelling_of (without s set)) (without s set)
  rest_spelled = spelled_parts (without s set) unnumbered (part_left CanBeWidth set.width s.width tt width)
      (part_left CanBePrecision set.precision s.precision tt few)

-- a defined specification is defined without any of its parts
defined_without : (s : WholeSpecification) (set : PartSet) → IsWholeDefined s → IsWholeDefined (without s set)
defined_without s set h =
    let none = no_reason s.flags (is_some s.width) (is_some s.precision) s.modifier s.conversion h in
    is_defined (without_flags s.flags set.flags) (is_some (left_out set.width s.width)) (is_some (left_out set.precision s.precision))
    (if set.modifier then Integer lengths.None else s.modifier) s.conversion (record {
      alt = fewer s.flags.alt set.flags.alt (takes_alt s.conversion) none.alt;
      zero_flag = fewer s.flags.zero set.flags.zero (takes_zero s.conversion) none.zero_flag;
      group = fewer s.flags.group set.flags.group (takes_group s.conversion) none.group;
      precision_is = fewer_amounts set.precision s.precision (takes_precision s.conversion) none.precision_is;
      modifier_is = no_modifier set.modifier s.conversion s.modifier none.modifier_is;
      count = fewer_parts (is_count s.conversion) s.flags set.flags set.width s.width set.precision s.precision none.count;
    }) where
      fewer : (a b c : Bool) → (a && not c) ≡ false → ((a && not b) && not c) ≡ false
      fewer a b c e = grind arith

      fewer_amounts : (out : Bool) (amount : Option Amount) (c : Bool) → (is_some amount && not c) ≡ false → (is_some (left_out out amount) && not c) ≡ false
      fewer_amounts out amount c e = grind arith

      no_modifier : (out : Bool) (conversion : WholeConv) (modifier : ModifierOf) → not (takes_modifier conversion modifier) ≡ false
          → not (takes_modifier conversion (if out then Integer lengths.None else modifier)) ≡ false
      no_modifier false conversion modifier e = e
      no_modifier true conversion modifier e = grind arith

      fewer_parts : (count : Bool) (flags others : FlagSet) (wide : Bool) (width : Option Amount) (precise : Bool) (precision : Option Amount)
          → (count && (has_any_flag flags || is_some width || is_some precision)) ≡ false
          → (count && (has_any_flag (without_flags flags others) || is_some (left_out wide width) || is_some (left_out precise precision))) ≡ false
      fewer_parts false flags others wide width precise precision e = refl
      fewer_parts true flags others wide width precise precision e = grind arith

-- of one that the profile lacks
abbrev alone_opaque : WholeSpecification → Stretches
alone_opaque s = Before [] (OpaqueSpecification s) (Last [])

module _ (model : Model) (s : WholeSpecification) (unnumbered : s.position ≡ None) (text : Text) (h : IsWholeReadAs text (Specification s)) (set : PartSet)
    (opaque : is_opaque s ≡ true) where
  abbrev rest : WholeSpecification
  rest = without s set

  kept : IsWholeDefined rest
  kept = defined_without s set h.1

  opaque_read : (t : Text) (p : WholeSpecification) → p.position ≡ None → IsWholeDefined p → is_opaque p ≡ true → SpellsWhole t p
      → ReadsStretches t (alone_opaque p)
  opaque_read t p none defined is spelled =
      ([], t, [], refl, record { spelled = spelled; defined = defined; unnumbered = none; opaque = is }, refl, sym (append-nil t))

  -- its normal spelling stays, or it has an effect
  pub called : is_opaque rest ≡ true → (directive_spelling model s ≡ directive_spelling model rest) ↔ HaveNoEffect model s set
  called other = (
    λ same t u x y. (corresponds t u x y).1 (print_refl model [], same, print_refl model []),
    λ none.
        let w = whole_spelled model s unnumbered text h set in
        let v = rest_spelled model s unnumbered text h set in
        ((corresponds (whole_spelling_of s) (whole_spelling_of rest) w v).0 (none (whole_spelling_of s) (whole_spelling_of rest) w v)).1,
  ) where
    corresponds : (t u : Text) → SpellsWhole t s → SpellsWhole u rest
        → (AreWholeAlike model t u ↔ Correspond model (alone_opaque s) (alone_opaque rest))
    corresponds t u x y =
        alike_is_corresponding model t u (alone_opaque s) (alone_opaque rest) (opaque_read t s unnumbered h.1 opaque x)
        (opaque_read u rest unnumbered kept other y)

  -- without it the profile has it
  pub not_called : is_opaque rest ≡ false → ¬ HaveNoEffect model s set
  not_called other none =
      let w = whole_spelled model s unnumbered text h set in
      let v = rest_spelled model s unnumbered text h set in
      let read : ReadsStretches (whole_spelling_of rest) (pushed_or (is_opaque rest) rest (Last [])) = reads_alone
      (whole_spelling_of rest) rest v kept unnumbered in
      let narrow_read : ReadsStretches (whole_spelling_of rest) (pushed_or false rest (Last [])) =
      subst (λ b. ReadsStretches (whole_spelling_of rest) (pushed_or b rest (Last []))) other read in
      (alike_is_corresponding model (whole_spelling_of s) (whole_spelling_of rest) (alone_opaque s) (pushed_or false rest (Last []))
      (opaque_read (whole_spelling_of s) s unnumbered h.1 opaque w) narrow_read).0 (none (whole_spelling_of s) (whole_spelling_of rest) w v)

-- of one that the profile has
not_long : (out : Bool) (conversion : WholeConv) (modifier : ModifierOf) → is_outside conversion modifier ≡ false
    → is_outside conversion (if out then Integer lengths.None else modifier) ≡ false
not_long false conversion modifier e = e
not_long true conversion modifier e = grind (arith, e)

no_star : (out : Bool) (amount : Option Amount) → is_star amount ≡ false → is_star (left_out out amount) ≡ false
no_star true amount e = refl
no_star false amount e = e

narrow_without : (s : WholeSpecification) (set : PartSet) → is_opaque s ≡ false → is_opaque (without s set) ≡ false
narrow_without s set e = rw (
  no_star set.width s.width (grind (arith, e)),
  no_star set.precision s.precision (grind (arith, e)),
  not_long set.modifier s.conversion s.modifier (grind (arith, e)),
) refl

abbrev alone_narrow : WholeSpecification → Stretches
alone_narrow s = Last (Directive (narrow s) ∷ [])

module _ (model : Model) (s : WholeSpecification) (unnumbered : s.position ≡ None) (text : Text) (h : IsWholeReadAs text (Specification s)) (set : PartSet)
    (profile : is_opaque s ≡ false) where
  abbrev less : WholeSpecification
  less = without s set

  pub still_narrow : is_opaque less ≡ false
  still_narrow = narrow_without s set profile

  -- some text is the directive without these parts
  pub spelled_without : (t : Text) × IsWholeReadAs t (Specification less)
  spelled_without = (whole_spelling_of less, (rest_spelled model s unnumbered text h set, defined_without s set h.1))

  narrow_read : (t : Text) (p : WholeSpecification) → p.position ≡ None → IsWholeDefined p → is_opaque p ≡ false → SpellsWhole t p
      → ReadsStretches t (alone_narrow p)
  narrow_read t p none defined is spelled = subst (λ b. ReadsStretches t (pushed_or b p (Last []))) is (reads_alone t p spelled defined none)

  -- it prints the same, or it has an effect
  pub printed : PrintAlike model (Directive (narrow s) ∷ []) (Directive (narrow less) ∷ []) ↔ HaveNoEffect model s set
  printed = (
    λ alike t u x y. (corresponds t u x y).1 alike,
    λ none.
        let w = whole_spelled model s unnumbered text h set in
        let v = rest_spelled model s unnumbered text h set in
        (corresponds (whole_spelling_of s) (whole_spelling_of less) w v).0 (none (whole_spelling_of s) (whole_spelling_of less) w v),
  ) where
    corresponds : (t u : Text) → SpellsWhole t s → SpellsWhole u less
        → (AreWholeAlike model t u ↔ Correspond model (alone_narrow s) (alone_narrow less))
    corresponds t u x y =
        alike_is_corresponding model t u (alone_narrow s) (alone_narrow less) (narrow_read t s unnumbered h.1 profile x)
        (narrow_read u less unnumbered (defined_without s set h.1) still_narrow y)

-- the directive of the profile that a text is, is defined
pub narrow_defined : (d : OpaqueDirective) (t : Text) → IsWholeReadAs t (Specification (parts_of_opaque d)) → is_opaque (parts_of_opaque d) ≡ false
    → IsDefined (narrow (parts_of_opaque d))
narrow_defined d t h e = (narrowed t (parts_of_opaque d) h.0 h.1 refl e).1

some_given : (width : Option ℕ) → width ≢ Some 0 → width_given width ≡ width
some_given None some = refl
some_given (Some zero) some = absurd (some refl)
some_given (Some (suc n)) some = refl

-- it has the width that is given
pub given_narrow : (d : OpaqueDirective) → IsDefined (narrow (parts_of_opaque d))
    → specification_of d.flags (amount_back (amount_of d.width)) (amount_back (amount_of d.precision)) (integer_length d.modifier) (conv_back d.conversion)
    ≡ narrow (parts_of_opaque d)
given_narrow d h = ap (λ width. record (narrow (parts_of_opaque d)) { width = width }) (some_given (amount_back (amount_of d.width)) h.width)

-- a set with one part more
pub with_own : (set : PartSet) (part : Part) → has_part (with_part set part) part ≡ true
with_own set part = grind arith

with_kept : (set : PartSet) (part other : Part) → has_part set other ≡ true → has_part (with_part set part) other ≡ true
with_kept set part other e = grind arith

with_either : (set : PartSet) (part other : Part) → has_part (with_part set part) other ≡ true → (other ≡ part) ⊎ (has_part set other ≡ true)
with_either set part other e = grind arith

-- what is found when one part more is asked of
module _ (question : NeedlessQuestion) (asked each : PartSet) (part : Part) (h : AreFound question asked each) where
  -- a part that isn't there, or has an effect
  pub found_same : (IsTrue (has_part question.given part) → HaveNoEffect question.model (parts_of_opaque question.directive) (only part) → ⊥)
      → AreFound question (with_part asked part) each
  found_same effect other = (
    λ has. let was = (h other).0 has in (with_kept asked part other was.0, was.1, was.2),
    λ all. elim (with_either asked part other all.0) [
      | inl e ↦ absurd (effect (subst (λ p. IsTrue (has_part question.given p)) e all.1)
          (subst (λ p. HaveNoEffect question.model (parts_of_opaque question.directive) (only p)) e all.2))
      | inr was ↦ (h other).1 (was, all.1, all.2)
    ],
  )

  -- one that has none
  pub found_more : IsTrue (has_part question.given part) → HaveNoEffect question.model (parts_of_opaque question.directive) (only part)
      → AreFound question (with_part asked part) (with_part each part)
  found_more given none other = (
    λ has. elim (with_either each part other has) [
      | inl e ↦ (
        subst (λ p. IsTrue (has_part (with_part asked part) p)) (sym e) (with_own asked part),
        subst (λ p. IsTrue (has_part question.given p)) (sym e) given,
        subst (λ p. HaveNoEffect question.model (parts_of_opaque question.directive) (only p)) (sym e) none,
      )
      | inr was ↦ let all = (h other).0 was in (with_kept asked part other all.0, all.1, all.2)
    ],
    λ all. elim (with_either asked part other all.0) [
      | inl e ↦ subst (λ p. IsTrue (has_part (with_part each part) p)) (sym e) (with_own each part)
      | inr was ↦ with_kept each part other ((h other).1 (was, all.1, all.2))
    ],
  )

no_part : (part : Part) → has_part no_parts part ≢ true
no_part part e = grind arith

-- before any is asked of
pub found_none : (question : NeedlessQuestion) → AreFound question no_parts no_parts
found_none question part = (λ has. absurd (no_part part has), λ all. absurd (no_part part all.0))

-- no parts have no effect
pub nothing_left : (model : Model) (s : WholeSpecification) (text : Text) → s.position ≡ None → IsWholeReadAs text (Specification s)
    → HaveNoEffect model s no_parts
nothing_left model s text unnumbered h t u x y = alike_self t u x (subst (SpellsWhole u) (without_none s) y) where
  without_none : (s : WholeSpecification) → without s no_parts ≡ s
  without_none s = grind arith

  alike_self : (t u : Text) → SpellsWhole t s → SpellsWhole u s → AreWholeAlike model t u
  alike_self t u x y =
      let a = stretched (items_alone s) in
      record {
        first = a;
        second = a;
        reads_first = reads_alone t s x h.1 unnumbered;
        reads_second = reads_alone u s y h.1 unnumbered;
        alike = record { same_types = refl; same_calls = refl; same_traces = λ args trace typed. (λ g. g, λ g. g) };
      }

-- of nothing, nothing is gathered
pub none_gathered : (model : Model) (s : WholeSpecification) (parts : List Part) → AreGathered model s no_parts no_parts parts no_parts
none_gathered model s [] = refl
none_gathered model s (part ∷ parts) = (no_parts, inr (λ h. absurd (no_part part h.0), refl), none_gathered model s parts)

-- what is gathered is among the parts, and has no effect
module _ (model : Model) (s : WholeSpecification) (each : PartSet) where
  among_next : (some more : PartSet) (part other : Part) → ((p : Part) → IsTrue (has_part some p) → IsTrue (has_part each p))
      → GathersPart model s each some part more → IsTrue (has_part more other) → IsTrue (has_part each other)
  among_next some more part other among (inl g) has =
      elim (with_either some part other (subst (λ set. IsTrue (has_part set other)) g.2 has)) [
        | inl e ↦ subst (λ p. IsTrue (has_part each p)) (sym e) g.0
        | inr was ↦ among other was
      ]
  among_next some more part other among (inr g) has = among other (subst (λ set. IsTrue (has_part set other)) g.1 has)

  pub gathered_among : (parts : List Part) (some found : PartSet) → ((p : Part) → IsTrue (has_part some p) → IsTrue (has_part each p))
      → AreGathered model s each some parts found → (part : Part) → IsTrue (has_part found part) → IsTrue (has_part each part)
  gathered_among [] some found among g part has = among part (subst (λ set. IsTrue (has_part set part)) g has)
  gathered_among (next ∷ parts) some found among g part has =
      gathered_among parts g.0 found (λ p. among_next some g.0 next p among g.1) g.2 part has

  none_next : (some more : PartSet) (part : Part) → HaveNoEffect model s some → GathersPart model s each some part more → HaveNoEffect model s more
  none_next some more part none (inl g) = subst (HaveNoEffect model s) (sym g.2) g.1
  none_next some more part none (inr g) = subst (HaveNoEffect model s) (sym g.1) none

  pub gathered_none : (parts : List Part) (some found : PartSet) → HaveNoEffect model s some → AreGathered model s each some parts found
      → HaveNoEffect model s found
  gathered_none [] some found none g = subst (HaveNoEffect model s) (sym g) none
  gathered_none (next ∷ parts) some found none g = gathered_none parts g.0 found (none_next some g.0 next none g.1) g.2

-- one set is gathered, and no other
module _ (model : Model) (s : WholeSpecification) (each : PartSet) where
  gathers_once : (some more other : PartSet) (part : Part) → GathersPart model s each some part more → GathersPart model s each some part other
      → more ≡ other
  gathers_once some more other part (inl g) (inl h) = g.2 ∙ sym h.2
  gathers_once some more other part (inl g) (inr h) = absurd (h.0 (g.0, g.1))
  gathers_once some more other part (inr g) (inl h) = absurd (g.0 (h.0, h.1))
  gathers_once some more other part (inr g) (inr h) = g.1 ∙ sym h.1

  pub gathered_once : (parts : List Part) (some found other : PartSet) → AreGathered model s each some parts found
      → AreGathered model s each some parts other → found ≡ other
  gathered_once [] some found other g h = g ∙ sym h
  gathered_once (part ∷ parts) some found other g h =
      let same = gathers_once some h.0 g.0 part h.1 g.1 in
      gathered_once parts g.0 found other g.2 (subst (λ more. AreGathered model s each more parts other) same h.2)

-- what is found of a specification that some text is
pub needless_some : (model : Model) (s : WholeSpecification) (text : Text) → s.position ≡ None → IsWholeReadAs text (Specification s) → (found : NeedlessParts)
    → found.given ≡ given_parts s
    → ((part : Part) → IsTrue (has_part found.each part) ↔ (IsTrue (has_part (given_parts s) part) × HaveNoEffect model s (only part)))
    → AreGathered model s found.each no_parts all_parts found.together → AreNeedless model s found
needless_some model s text unnumbered h found given each gathered = record {
  given = given;
  each = each;
  among = gathered_among model s found.each all_parts no_parts found.together (λ p has. absurd (no_part p has)) gathered;
  together = gathered_none model s found.each all_parts no_parts found.together (nothing_left model s text unnumbered h) gathered;
  gathered = gathered;
}

-- of a specification that has no parts
pub needless_none : (model : Model) (s : WholeSpecification) (text : Text) → s.position ≡ None → IsWholeReadAs text (Specification s) → (given : PartSet)
    → given ≡ given_parts s → given ≡ no_parts → AreNeedless model s (record { given = given; each = given; together = given })
needless_none model s text unnumbered h given is none =
    let empty : given_parts s ≡ no_parts = sym is ∙ none in
    record {
      given = is;
      each = λ part. (
        λ has. absurd (no_part part (subst (λ set. IsTrue (has_part set part)) none has)),
        λ all. absurd (no_part part (subst (λ set. IsTrue (has_part set part)) empty all.0)),
      );
      among = λ part has. has;
      together = subst (HaveNoEffect model s) (sym none) (nothing_left model s text unnumbered h);
      gathered = subst (λ set. AreGathered model s set no_parts all_parts set) (sym none) (none_gathered model s all_parts);
    }

-- after all nine
pub all_asked : (part : Part) → has_part (with_part (with_part (with_part (with_part (with_part (with_part (with_part (with_part (with_part no_parts
    (Flag Minus)) (Flag Plus)) (Flag Space)) (Flag Alt)) (Flag Zero)) (Flag Group)) Width) Precision) Modifier) part ≡ true
all_asked part = grind arith

-- a specification of a text, alone, is one that some text is
module _ (t : Text) (span : SpecificationSpan) (h : HasItsParts t span) where
  own_width : (bytes : Text) (position : Option ℕ) (width : Option Amount) → SpellsWholeWidth bytes position width → CanBeWidth (without_number width)
  own_width bytes position None w = tt
  own_width bytes position (Some (Given n)) w = (w.some, w.within)
  own_width bytes position (Some (Fetched number)) w = refl

  own_few : (bytes : Text) (position : Option ℕ) (precision : Option Amount) → SpellsWholePrecision bytes position precision
      → CanBePrecision (without_number precision)
  own_few bytes position None p = tt
  own_few bytes position (Some (Given n)) p = p.1
  own_few bytes position (Some (Fetched number)) p = refl

  is_some_alone : (amount : Option Amount) → is_some (without_number amount) ≡ is_some amount
  is_some_alone None = refl
  is_some_alone (Some (Given n)) = refl
  is_some_alone (Some (Fetched number)) = refl

  defined_alone : IsWholeDefined (alone h.s)
  defined_alone = rw (is_some_alone h.s.width, is_some_alone h.s.precision) h.defined

  pub some_alone : (own : Text) × IsWholeReadAs own (Specification (parts_of_opaque span.parts))
  some_alone =
      let width = own_width h.places.width.0 h.s.position h.s.width h.places.width.1 in
      let few = own_few h.places.precision.0 h.s.position h.s.precision h.places.precision.1 in
      let own = whole_spelling_of (alone h.s) in
      (own, subst (λ s. IsWholeReadAs own (Specification s)) (sym h.parts_are) (spelled_parts (alone h.s) refl width few, defined_alone))

-- sets with the same parts are one
same_bools : (a b : Bool) → (IsTrue a ↔ IsTrue b) → a ≡ b
same_bools true true h = refl
same_bools true false h = sym (h.0 refl)
same_bools false true h = h.1 refl
same_bools false false h = refl

same_flags : (a b : FlagSet) → a.minus ≡ b.minus → a.plus ≡ b.plus → a.space ≡ b.space → a.alt ≡ b.alt → a.zero ≡ b.zero → a.group ≡ b.group → a ≡ b
same_flags a b e f g h k l i =
    record { minus = e i; plus = f i; space = g i; alt = h i; zero = k i; group = l i }

same_sets : (a b : PartSet) → ((part : Part) → IsTrue (has_part a part) ↔ IsTrue (has_part b part)) → a ≡ b
same_sets a b h =
    let at : (part : Part) → has_part a part ≡ has_part b part = λ part. same_bools (has_part a part) (has_part b part) (h part) in
    let flags = same_flags a.flags b.flags (at (Flag Minus)) (at (Flag Plus)) (at (Flag Space)) (at (Flag Alt)) (at (Flag Zero)) (at (Flag Group)) in
    λ i. record { flags = flags i; width = at Width i; precision = at Precision i; modifier = at Modifier i }

-- a specification has one answer
pub needless_once : (model : Model) (s : WholeSpecification) (found other : NeedlessParts) → AreNeedless model s found → AreNeedless model s other
    → found ≡ other
needless_once model s found other g h =
    let given = g.given ∙ sym h.given in
    let each = same_sets found.each other.each (λ part. (λ has. (h.each part).1 ((g.each part).0 has), λ has. (g.each part).1 ((h.each part).0 has))) in
    let together = gathered_once model s found.each all_parts no_parts found.together other.together g.gathered
    (subst (λ set. AreGathered model s set no_parts all_parts other.together) (sym each) h.gathered) in
    λ i. record { given = given i; each = each i; together = together i }
