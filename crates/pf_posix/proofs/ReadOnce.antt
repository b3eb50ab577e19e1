-- A text of the whole language is read in one way at most.
use Rattle.std.proofs.Common.{◌≡◌, Bool, true, false, List, [], ◌∷◌, ◌++◌, map, refl, sym, ap, ◌∙◌, arith}
use Rattle.std.specs.Prelude.{◌&&◌}
use Rattle.std.proofs.lemmas.List.{append-nil}
use Rattle.pf_values.specs.meaning.Conversions.{is_text}
use Rattle.pf_values.specs.meaning.Defined.{IsDefined}
use Rattle.pf_values.specs.meaning.Items.{Byte, Directive, Item, Reads}
use Rattle.pf_values.specs.meaning.Lengths.{is_long}
use Rattle.pf_values.specs.meaning.Specification.{Specification}
use Rattle.pf_values.specs.meaning.Text.{Text}
use Rattle.pf_values.proofs.DefinedLemmas.{none_broken}
use Rattle.pf_posix.specs.Items.{WholeItem, Byte as WholeByte, Errno as WholeErrno, Specification as WholeDirective}
use Rattle.pf_posix.specs.Specifications.{WholeSpecification}
use Rattle.pf_posix.specs.OpaqueParts.{amount_back, narrow}
use Rattle.pf_posix.specs.StretchesInText.{push, push_all}
use Rattle.pf_posix.specs.Opaque.{OpaqueErrno, OpaqueItem, OpaqueSpecification, SpellsOpaqueItem, is_opaque, is_star}
use Rattle.pf_posix.specs.Stretches.{Stretches, Last, Before, ReadsStretches}
use Rattle.pf_posix.proofs.ItemsOnce.{items_once}
use Rattle.pf_posix.proofs.KeptTypes.{flat, whole_item, whole_reads, given, item_of, whole_of}

-- from a list of items and directives to stretches
abbrev pub pushed_or : Bool → WholeSpecification → Stretches → Stretches
pushed_or true s rest = Before [] (OpaqueSpecification s) rest
pushed_or false s rest = push (Directive (narrow s)) rest

abbrev pub stretched_before : WholeItem → Stretches → Stretches
stretched_before (WholeByte byte) later = push (Byte byte) later
stretched_before (WholeDirective s) later = pushed_or (is_opaque s) s later
stretched_before WholeErrno later = Before [] OpaqueErrno later

abbrev pub stretched : List WholeItem → Stretches
stretched [] = Last []
stretched (item ∷ items) = stretched_before item (stretched items)

narrow_is : (s : Specification) → narrow (whole_of s) ≡ s
narrow_is s =
    let width : amount_back (given s.width) ≡ s.width = grind arith in
    let precision : amount_back (given s.precision) ≡ s.precision = grind arith in
    rw (width, precision) refl

-- a directive of the profile is not opaque
pub not_opaque : (s : Specification) → IsDefined s → is_opaque (whole_of s) ≡ false
not_opaque s h =
    let width : is_star (given s.width) ≡ false = grind arith in
    let precision : is_star (given s.precision) ≡ false = grind arith in
    let wide : (is_text s.conv && is_long s.length) ≡ false = (none_broken s h.allowed).1.1.0 in
    rw (width, precision, wide) refl

directive_back : (s : Specification) (rest : Stretches) → IsDefined s → pushed_or (is_opaque (whole_of s)) (whole_of s) rest ≡ push (Directive s) rest
directive_back s rest h = ap (λ b. pushed_or b (whole_of s) rest) (not_opaque s h) ∙ ap (λ s. push (Directive s) rest) (narrow_is s)

pub push_all-last : (items : List Item) → push_all items (Last []) ≡ Last items
push_all-last [] = refl
push_all-last (item ∷ items) = ap (push item) (push_all-last items)

pub push_all-before : (items : List Item) (other : OpaqueItem) (rest : Stretches) → push_all items (Before [] other rest) ≡ Before items other rest
push_all-before [] other rest = refl
push_all-before (item ∷ items) other rest = ap (push item) (push_all-before items other rest)

items_back : (t : Text) (items : List Item) (back : List WholeItem) → Reads t items → stretched (map item_of items ++ back) ≡ push_all items (stretched back)
items_back t [] back h = refl
items_back t (Byte byte ∷ items) back h = ap (push (Byte byte)) (items_back h.1 items back h.3)
items_back t (Directive s ∷ items) back h = directive_back s (stretched (map item_of items ++ back)) h.2.1
    ∙ ap (push (Directive s)) (items_back h.1 items back h.3)

pub stretches_back : (t : Text) (a : Stretches) → ReadsStretches t a → stretched (flat a) ≡ a
stretches_back t (Last items) h = ap stretched (sym (append-nil (map item_of items))) ∙ items_back t items [] h ∙ push_all-last items
stretches_back t (Before items other rest) h =
    items_back h.0 items (whole_item other ∷ flat rest) h.3
    ∙ ap (push_all items) (other_back h.1 other (stretched (flat rest)) h.4)
    ∙ ap (λ r. push_all items (Before [] other r)) (stretches_back h.2 rest h.5)
    ∙ push_all-before items other rest where
      other_back : (middle : Text) (other : OpaqueItem) (later : Stretches) → SpellsOpaqueItem middle other
          → stretched_before (whole_item other) later ≡ Before [] other later
      other_back middle (OpaqueSpecification s) later h = ap (λ b. pushed_or b s later) h.opaque
      other_back middle OpaqueErrno later h = refl

pub read_once : (t : Text) (a b : Stretches) → ReadsStretches t a → ReadsStretches t b → a ≡ b
read_once t a b h g =
    sym (stretches_back t a h)
    ∙ ap stretched (items_once t (flat a) (flat b) (whole_reads t a h) (whole_reads t b g))
    ∙ stretches_back t b g
