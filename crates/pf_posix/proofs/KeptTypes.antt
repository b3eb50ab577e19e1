-- What the profile accepts is accepted here, with the same types; and what is read as stretches is read as items without numbers.
use Rattle.std.proofs.Common.{◌≡◌, ℕ, Bool, false, ◌&&◌, ◌||◌, not, List, [], ◌∷◌, ◌++◌, length, map, refl, sym, ap, ap₂, ◌∙◌, arith, inl}
use Rattle.std.specs.Prelude.{Option, Some, None, is_some}
use Rattle.std.specs.List.{AllByRecursion}
use Rattle.std.proofs.lemmas.Bool.Decides.{nat_tests}
use Rattle.std.proofs.lemmas.List.{append_assoc, map-append}
use Rattle.pf_values.specs.declared.conversions.Kind.{Kind}
use Rattle.pf_values.specs.declared.flags.Flag.TheVariants.{Alt, Zero, Group}
use Rattle.pf_values.specs.declared.lengths.Length.{Length}
use Rattle.pf_values.specs.declared.models.Model.{Model}
use Rattle.pf_values.specs.declared.refusals.RefusalKind.TheVariants as refusals
use Rattle.pf_values.specs.meaning.Conversions.{has_alternative_form, is_char, is_decimal, is_text, kind_of, prints_text}
use Rattle.pf_values.specs.meaning.DataModel.{arg_type, type_of_kind}
use Rattle.pf_values.specs.meaning.Defined.{IsDefined as IsProfileDefined, breaks as profile_breaks, is_above_limit, undefined_kinds}
use Rattle.pf_values.specs.meaning.Flags.{flag_byte, has}
use Rattle.pf_values.specs.meaning.Items.{Byte as ProfileByte, Directive, HasItems, IsAccepted, IsReadAs as IsProfileReadAs, Item, Reads as ProfileReads, types}
use Rattle.pf_values.specs.meaning.Lengths.{is_long, is_absent}
use Rattle.pf_values.specs.meaning.Printing.{AreEquivalent}
use Rattle.pf_values.specs.meaning.Specification.{Specification as ProfileSpecification}
use Rattle.pf_values.specs.meaning.Spelling.{Spells, SpellsPrecision, SpellsWidth as SpellsProfileWidth}
use Rattle.pf_values.specs.meaning.Text.{Text}
use Rattle.pf_values.proofs.DefinedLemmas.{none_broken}
use Rattle.pf_posix.specs.declared.conversions.WholeConv.TheVariants.{Profile}
use Rattle.pf_posix.specs.declared.conversions.WholeLength.TheVariants.{Integer}
use Rattle.pf_posix.specs.declared.types.WholeArgType.{WholeArgType}
use Rattle.pf_posix.specs.Defined.{IsWholeDefined}
use Rattle.pf_posix.specs.Items.{Byte, Errno, HasArguments, IsWholeReadAs, ReadsWhole, Specification, WholeItem, fetched}
use Rattle.pf_posix.specs.Opaque.{OpaqueErrno, OpaqueItem, OpaqueSpecification, SpellsOpaqueItem}
use Rattle.pf_posix.specs.Laws.{ComparesArgumentTypes}
use Rattle.pf_posix.specs.Specifications.{Amount, Given, WholeSpecification}
use Rattle.pf_posix.specs.Spelling.{SpellsWholePrecision, SpellsWhole, SpellsWholeWidth}
use Rattle.pf_posix.specs.Types.{fetch, fetches, kind_type, star_fetches, widened, conversion_type}
use Rattle.pf_posix.specs.Unnumbered.{IsReadUnnumbered, IsUnnumbered, TypesAreKept}
use Rattle.pf_posix.specs.Stretches.{Stretches, Last, Before, IsUnnumberedAccepted, ReadsStretches, types_of_opaque, whole_types}
use Rattle.pf_posix.proofs.Bounds.{all_append, stars_fetch}
use Rattle.pf_posix.proofs.GoodFronts.{fetched_append}
use Rattle.pf_posix.proofs.SpecificationsOnce.{no_number}

abbrev pub given : Option ℕ → Option Amount
given None = None
given (Some n) = Some (Given n)

-- a directive of the profile
abbrev pub whole_of : ProfileSpecification → WholeSpecification
whole_of s = record {
  position = None;
  flags = s.flags;
  width = given s.width;
  precision = given s.precision;
  modifier = Integer s.length;
  conversion = Profile s.conv;
}

abbrev pub item_of : Item → WholeItem
item_of (ProfileByte byte) = Byte byte
item_of (Directive s) = Specification (whole_of s)

turned : (a b : Bool) → (not a && b) ≡ false → (b && not a) ≡ false
turned a b e = grind arith

twice : (a b : Bool) → (a && b) ≡ false → (b && not (not a)) ≡ false
twice a b e = grind arith

length_stands : (t p l : Bool) → (t && l) ≡ false → (t && not p) ≡ false → not (not t || p || l) ≡ false
length_stands t p l e f = grind arith

module _ (s : ProfileSpecification) (h : IsProfileDefined s) where
  all : AllByRecursion (λ k. profile_breaks s k ≡ false) (refusals.WidthTooLarge ∷ refusals.PrecisionTooLarge ∷ undefined_kinds)
  all = none_broken s h.allowed

  some_given : (o : Option ℕ) → is_some (given o) ≡ is_some o
  some_given o = grind arith

  defined_here : IsWholeDefined (whole_of s)
  defined_here =
      let wide = all.1.1.0 in
      let alt = turned (has_alternative_form s.conv) (has s.flags Alt) all.1.1.1.0 in
      let zero_flag = twice (is_text s.conv) (has s.flags Zero) all.1.1.1.1.0 in
      let group = turned (is_decimal s.conv) (has s.flags Group) all.1.1.1.1.1.0 in
      let precision = twice (is_char s.conv) (is_some s.precision) all.1.1.1.1.1.1.0 in
      let modifier = length_stands (is_text s.conv) (is_absent s.length) (is_long s.length) wide all.1.1.1.1.1.1.1.0 in
      let same = some_given s.precision in
      rw same (rw (alt, zero_flag, group, precision, modifier) refl)

width_spelled : (t : Text) (width : Option ℕ) → SpellsProfileWidth t width → is_above_limit width ≡ false → SpellsWholeWidth t None (given width)
width_spelled t None h e = h
width_spelled t (Some n) h e = record { some = h.0; numeral = h.1; within = grind (arith, nat_tests) }

precision_spelled : (t : Text) (precision : Option ℕ) → SpellsPrecision t precision → is_above_limit precision ≡ false
    → SpellsWholePrecision t None (given precision)
precision_spelled t None h e = h
precision_spelled t (Some n) h e = (h, grind (arith, nat_tests))

pub spelled_here : (t : Text) (s : ProfileSpecification) → Spells t s → IsProfileDefined s → SpellsWhole t (whole_of s)
spelled_here t s h d =
    let flags = 37 ∷ map flag_byte h.flags in
    let limits = all s d in
    record {
      before = flags ++ h.width ++ h.precision;
      before_is = record {
        before = flags ++ h.width;
        text = h.precision;
        before_is = record {
          before = flags;
          text = h.width;
          before_is = record { number = []; flags = h.flags; number_is = refl; set_is = h.flags_are; whole = refl };
          width_is = width_spelled h.width s.width h.width_is limits.0;
          whole = refl;
        };
        precision_is = precision_spelled h.precision s.precision h.precision_is limits.1.0;
        whole = refl;
      };
      whole = h.whole;
    }

pub read_here : (t : Text) (item : Item) → IsProfileReadAs t item → IsWholeReadAs t (item_of item)
read_here t (ProfileByte byte) h = h
read_here t (Directive s) h = (spelled_here t s h.0 h.1, defined_here s h.1)

pub reads_here : (t : Text) (items : List Item) → ProfileReads t items → ReadsWhole t (map item_of items)
reads_here t [] h = h
reads_here t (item ∷ items) h = (h.0, h.1, read_here h.0 item h.2, reads_here h.1 items h.3, h.4)

no_stars : (o : Option ℕ) → star_fetches (given o) ≡ []
no_stars o = grind arith

pub type_here : (model : Model) (kind : Kind) (length : Length) → (prints_text kind && is_long length) ≡ false
    → kind_type model kind length ≡ widened (type_of_kind model kind length)
type_here model kind length e = grind arith

pub fetches_here : (model : Model) (s : ProfileSpecification) → IsProfileDefined s → fetches model (whole_of s) ≡ fetch None (widened (arg_type model s)) ∷ []
fetches_here model s d =
    let limits = all s d in
    ap₂ (λ a b. a ++ b ++ fetch None (kind_type model (kind_of s.conv) s.length) ∷ []) (no_stars s.width) (no_stars s.precision)
    ∙ ap (λ w. fetch None w ∷ []) (type_here model (kind_of s.conv) s.length limits.1.1.0)

pub fetched_here : (model : Model) (t : Text) (items : List Item) → ProfileReads t items
    → fetched model (map item_of items) ≡ map (λ w. fetch None (widened w)) (types model items)
fetched_here model t [] h = refl
fetched_here model t (ProfileByte byte ∷ items) h = fetched_here model h.1 items h.3
fetched_here model t (Directive s ∷ items) h = ap₂ (λ a b. a ++ b) (fetches_here model s h.2.1) (fetched_here model h.1 items h.3)

pub wanted_here : {X : Type 0} (f : X → WholeArgType) (xs : List X) → map f xs ≡ map (λ g. g.wanted) (map (λ x. fetch None (f x)) xs)
wanted_here f [] = refl
wanted_here f (x ∷ xs) = ap (λ l. f x ∷ l) (wanted_here f xs)

abbrev pub whole_item : OpaqueItem → WholeItem
whole_item (OpaqueSpecification s) = Specification s
whole_item OpaqueErrno = Errno

pub other_spelled : (t : Text) (other : OpaqueItem) → SpellsOpaqueItem t other → IsWholeReadAs t (whole_item other)
other_spelled t (OpaqueSpecification s) h = (h.spelled, h.defined)
other_spelled t OpaqueErrno h = h

pub other_unnumbered : (t : Text) (other : OpaqueItem) → SpellsOpaqueItem t other → IsUnnumbered (whole_item other)
other_unnumbered t (OpaqueSpecification s) h = h.unnumbered
other_unnumbered t OpaqueErrno h = tt

-- the items of stretches and what is between them, in one list
abbrev pub flat : Stretches → List WholeItem
flat (Last items) = map item_of items
flat (Before items other rest) = map item_of items ++ whole_item other ∷ flat rest

pub whole_append : (t u : Text) (a b : List WholeItem) → ReadsWhole t a → ReadsWhole u b → ReadsWhole (t ++ u) (a ++ b)
whole_append t u [] b h g = rw h g
whole_append t u (item ∷ a) b h g = (h.0, h.1 ++ u, h.2, whole_append h.1 u a b h.3 g, ap (λ l. l ++ u) h.4 ∙ append_assoc h.0 h.1 u)

pub whole_reads : (t : Text) (a : Stretches) → ReadsStretches t a → ReadsWhole t (flat a)
whole_reads t (Last items) h = reads_here t items h
whole_reads t (Before items other rest) h =
    rw (h.6, append_assoc h.0 h.1 h.2) (whole_append h.0 (h.1 ++ h.2) (map item_of items) (whole_item other ∷ flat rest) (reads_here h.0 items h.3)
    (h.1, h.2, other_spelled h.1 other h.4, whole_reads h.2 rest h.5, refl))

pub items_unnumbered : (items : List Item) → AllByRecursion IsUnnumbered (map item_of items)
items_unnumbered [] = tt
items_unnumbered (ProfileByte byte ∷ items) = (tt, items_unnumbered items)
items_unnumbered (Directive s ∷ items) = (refl, items_unnumbered items)

pub unnumbered : (t : Text) (a : Stretches) → ReadsStretches t a → AllByRecursion IsUnnumbered (flat a)
unnumbered t (Last items) h = items_unnumbered items
unnumbered t (Before items other rest) h = all_append IsUnnumbered (map item_of items) (whole_item other ∷ flat rest) (items_unnumbered items)
    (other_unnumbered h.1 other h.4, unnumbered h.2 rest h.5)

pub accepted_there : (t : Text) → IsUnnumberedAccepted t → IsReadUnnumbered t
accepted_there t h = record {
  items = flat h.stretches;
  reads = whole_reads t h.stretches h.reads;
  unnumbered = unnumbered t h.stretches h.reads;
  limit = h.limit;
}

wanted_items : (model : Model) (t : Text) (items : List Item) → ProfileReads t items
    → map (λ f. f.wanted) (fetched model (map item_of items)) ≡ map widened (types model items)
wanted_items model t items h = ap (map (λ f. f.wanted)) (fetched_here model t items h) ∙ sym (wanted_here widened (types model items))

wanted : (model : Model) (t : Text) (a : Stretches) → ReadsStretches t a → map (λ f. f.wanted) (fetched model (flat a)) ≡ whole_types model a
wanted model t (Last items) h = wanted_items model t items h
wanted model t (Before items other rest) h =
    ap (map (λ f. f.wanted)) (fetched_append model (map item_of items) (whole_item other ∷ flat rest))
    ∙ map-append (λ f. f.wanted) (fetched model (map item_of items)) (fetched model (whole_item other ∷ flat rest))
    ∙ ap₂ (λ x y. x ++ y) (wanted_items model h.0 items h.3)
    (of_other other (flat rest) ∙ ap (λ l. types_of_opaque model other ++ l) (wanted model h.2 rest h.5)) where
      of_other : (other : OpaqueItem) (later : List WholeItem)
          → map (λ f. f.wanted) (fetched model (whole_item other ∷ later)) ≡ types_of_opaque model other ++ map (λ f. f.wanted) (fetched model later)
      of_other (OpaqueSpecification s) later = map-append (λ f. f.wanted) (fetches model s) (fetched model later)
      of_other OpaqueErrno later = refl

pub own_unnumbered : (model : Model) (t : Text) (s : WholeSpecification) → SpellsWhole t s → s.position ≡ None
    → AllByRecursion (λ f. f.number ≡ None) (fetches model s)
own_unnumbered model t s h e =
    all_append (λ f. f.number ≡ None) (star_fetches s.width ++ star_fetches s.precision) (fetch s.position (conversion_type model s.modifier s.conversion) ∷ [])
    (stars_fetch (λ f. f.number ≡ None) s.position (λ t number star. no_number number (star.numbering ∙ ap is_some e)) h.before s.flags s.width s.precision
    h.before_is)
    (e, tt)

pub items_free : (model : Model) (t : Text) (items : List WholeItem) → ReadsWhole t items → AllByRecursion IsUnnumbered items
    → AllByRecursion (λ f. f.number ≡ None) (fetched model items)
items_free model t [] h u = tt
items_free model t (Byte byte ∷ items) h u = items_free model h.1 items h.3 u.1
items_free model t (Errno ∷ items) h u = items_free model h.1 items h.3 u.1
items_free model t (Specification s ∷ items) h u =
    all_append (λ f. f.number ≡ None) (fetches model s) (fetched model items) (own_unnumbered model h.0 s h.2.0 u.0) (items_free model h.1 items h.3 u.1)

pub types_are_kept : (model : Model) → TypesAreKept model
types_are_kept model t a h few = record {
  items = flat a;
  reads = whole_reads t a h;
  limit = few;
  types_are = inl (record {
    unnumbered = items_free model t (flat a) (whole_reads t a h) (unnumbered t a h);
    types_are = sym (wanted model t a h);
  });
}

pub profile_types : (model : Model) (t : Text) (items : List Item) → HasItems t items → HasArguments model t (map widened (types model items))
profile_types model t items h = types_are_kept model t (Last items) h.reads h.limit

pub profile_fits : (model : Model) (t u : Text) → IsAccepted t → IsAccepted u → AreEquivalent model t u → ComparesArgumentTypes model t u None
profile_fits model t u a b e =
    record {
      types = map widened (types model e.first);
      others = map widened (types model e.second);
      first_accepted = types_are_kept model t (Last e.first) e.reads_first a.1.limit;
      second_accepted = types_are_kept model u (Last e.second) e.reads_second b.1.limit;
      difference = ap (map widened) e.alike.same_types;
    }
