-- A directive has one reduction: as items it is a canonical text, and equivalent ones are equal.
use Rattle.std.proofs.Common.{◌≡◌, ◌≢◌, ℕ, zero, suc, List, [], ◌∷◌, ◌++◌, length, map, replicate, refl, sym, ap, ap₂, ◌∙◌, subst, arith, Result}
use Rattle.std.specs.Prelude.{IfOk, flat_map}
use Rattle.std.proofs.lemmas.List.{length-replicate}
use Rattle.std.proofs.lemmas.Result.{IfOk-weaker}
use Rattle.pf_values.specs.declared.models.Model.{Model}
use Rattle.pf_values.specs.meaning.Canonical.{ReadsCanonically, item_spelling}
use Rattle.pf_values.specs.meaning.Defined.{IsDefined}
use Rattle.pf_values.specs.meaning.Items.{Item, Byte, Directive, Reads}
use Rattle.pf_values.specs.meaning.Normal.{IsNormal, silent}
use Rattle.pf_values.specs.meaning.Specification.{Specification}
use Rattle.pf_values.specs.meaning.Spelling.{spelling_of}
use Rattle.pf_values.specs.meaning.Text.{Text, space, zero_digit}
use Rattle.pf_values.proofs.Alike.{alike-equivalent, alike_sym, alike_trans}
use Rattle.pf_text.proofs.ReadBack.{spelled_read}
use Rattle.pf_text.proofs.Texts.{Reads-unique}
use Rattle.pf_reduce.specs.NormalValues.{NormalDirective}
use Rattle.pf_reduce.specs.Reducing.{IsNormalCore, IsReducedTo, core_of}
use Rattle.pf_reduce.specs.declared.results.Core.{Core}
use Rattle.pf_reduce.specs.declared.results.Core.TheVariants.{Normal, Silent}
use Rattle.pf_reduce.specs.declared.results.Reduced.{Reduced}
use Rattle.pf_compare.proofs.ReductionLemmas.{reduced_canonical}
use Rattle.pf_canon.proofs.Printing.{reduced_alike, reduced_items}
use Rattle.pf_probes.proofs.Unique.{equivalent_one}
use Rattle.fmtcanon.specs.Shows.{IsLineOf, Shown, Specified, reduced_line}

silent_defined : IsDefined silent
silent_defined = record { width = λ e. cc; allowed = refl }

silent_not_normal : (model : Model) → IsNormal model silent → ⊥
silent_not_normal model h = h.form.shows_some refl

core_defined : (model : Model) (core : Core) → IsNormalCore model core → IsDefined (core_of core)
core_defined model (Normal n) h = h.1.defined
core_defined model Silent h = silent_defined

spaces_read : (n : ℕ) → Reads (flat_map item_spelling (map Byte (replicate n space))) (map Byte (replicate n space))
spaces_read zero = refl
spaces_read (suc n) = (space ∷ [], flat_map item_spelling (map Byte (replicate n space)), (λ e. cc, refl), spaces_read n, refl)

-- the text of a directive before spaces
core_reads : (model : Model) (core : Core) (trail : ℕ) → IsNormalCore model core
    → Reads (flat_map item_spelling (Directive (core_of core) ∷ map Byte (replicate trail space))) (Directive (core_of core) ∷ map Byte (replicate trail space))
core_reads model core trail h = (
  spelling_of (core_of core),
  flat_map item_spelling (map Byte (replicate trail space)),
  (spelled_read (core_of core) (core_defined model core h), core_defined model core h),
  spaces_read trail,
  refl,
)

zeros_read : (n : ℕ) (items : List Item) → Reads (flat_map item_spelling items) items
    → Reads (flat_map item_spelling (map Byte (replicate n zero_digit) ++ items)) (map Byte (replicate n zero_digit) ++ items)
zeros_read zero items h = h
zeros_read (suc n) items h = (zero_digit ∷ [], flat_map item_spelling (map Byte (replicate n zero_digit) ++ items), (λ e. cc, refl), zeros_read n items h, refl)

padding_reads : (n m : ℕ) (items : List Item) → Reads (flat_map item_spelling items) items
    → Reads (flat_map item_spelling (map Byte (replicate n space ++ replicate m zero_digit) ++ items))
    (map Byte (replicate n space ++ replicate m zero_digit) ++ items)
padding_reads zero m items h = zeros_read m items h
padding_reads (suc n) m items h = (
  space ∷ [],
  flat_map item_spelling (map Byte (replicate n space ++ replicate m zero_digit) ++ items),
  (λ e. cc, refl),
  padding_reads n m items h,
  refl,
)

-- the text of a reduction
abbrev reduction_text : Reduced → Text
reduction_text r = flat_map item_spelling (reduced_items r)

reduction_reads : (model : Model) (s : Specification) (r : Reduced) → IsReducedTo model s r → ReadsCanonically model (reduction_text r) (reduced_items r)
reduction_reads model s r h = record {
  reads = padding_reads r.spaces r.zeros (Directive (core_of r.core) ∷ map Byte (replicate r.trail space)) (core_reads model r.core r.trail h.normal);
  canonical = reduced_canonical model s r h;
  whole = refl;
}

same_items : (model : Model) (s : Specification) (r q : Reduced) → IsReducedTo model s r → IsReducedTo model s q → reduced_items r ≡ reduced_items q
same_items model s r q h g =
    let one = reduction_reads model s r h in
    let two = reduction_reads model s q g in
    let alike = alike_trans model (reduced_items r) (Directive s ∷ []) (reduced_items q)
    (alike_sym model (Directive s ∷ []) (reduced_items r) (reduced_alike model s r h)) (reduced_alike model s q g) in
    let text = equivalent_one model (reduction_text r) (reduction_text q) (reduced_items r, one) (reduced_items q, two)
    (alike-equivalent model _ _ (reduced_items r) (reduced_items q) one.reads two.reads alike) in
    Reads-unique (reduction_text r) (reduced_items r) (reduced_items q) one.reads (subst (λ t. Reads t (reduced_items q)) (sym text) two.reads)

same_bytes : (x y : Text) → map Byte x ≡ map Byte y → x ≡ y
same_bytes [] [] e = refl
same_bytes [] (b ∷ y) e = absurd (cc)
same_bytes (a ∷ x) [] e = absurd (cc)
same_bytes (a ∷ x) (b ∷ y) e =
    let tails : map Byte x ≡ map Byte y = cc in
    let more = same_bytes x y tails in
    let first : a ≡ b = cc in
    cc

-- bytes before and after a directive are not its own
record AreSameParts (x y : Text) (c d : Specification) (u v : Text) : Type 0 where
  pub before : x ≡ y
  pub core : c ≡ d
  pub behind : u ≡ v

split_items : (x y : Text) (c d : Specification) (u v : Text) → map Byte x ++ (Directive c ∷ map Byte u) ≡ map Byte y ++ (Directive d ∷ map Byte v)
    → AreSameParts x y c d u v
split_items [] [] c d u v e = let tails : map Byte u ≡ map Byte v = cc in record { before = refl; core = cc; behind = same_bytes u v tails }
split_items [] (b ∷ y) c d u v e = absurd (cc)
split_items (a ∷ x) [] c d u v e = absurd (cc)
split_items (a ∷ x) (b ∷ y) c d u v e =
    let tails : map Byte x ++ (Directive c ∷ map Byte u) ≡ map Byte y ++ (Directive d ∷ map Byte v) = cc in
    let more = split_items x y c d u v tails in
    let first : a ≡ b = cc in
    let rest : x ≡ y = more.before in
    record { before = cc; core = more.core; behind = more.behind }

same_count : (n m b : ℕ) → replicate n b ≡ replicate m b → n ≡ m
same_count n m b e = sym (length-replicate n b) ∙ ap length e ∙ length-replicate m b

-- runs of two bytes, one after the other
same_runs : (x z : ℕ) → x ≢ z → (a b c d : ℕ) → replicate a x ++ replicate b z ≡ replicate c x ++ replicate d z → (a ≡ c) × (b ≡ d)
same_runs x z n zero b zero d e = (refl, same_count b d z e)
same_runs x z n zero zero (suc c) d e = absurd (cc)
same_runs x z n zero (suc b) (suc c) d e = let first : z ≡ x = cc in absurd (n (sym first))
same_runs x z n (suc a) b zero zero e = absurd (cc)
same_runs x z n (suc a) b zero (suc d) e = let first : x ≡ z = cc in absurd (n first)
same_runs x z n (suc a) b (suc c) d e =
    let tails : replicate a x ++ replicate b z ≡ replicate c x ++ replicate d z = cc in
    let more = same_runs x z n a b c d tails in
    (ap suc more.0, more.1)

other_byte : space ≢ zero_digit
other_byte e = omega (arith, e)

abbrev normal_in : Model → Specification → NormalDirective
normal_in model s = record { model = model; specification = s }

same_normal : (n m : NormalDirective) → n.model ≡ m.model → n.specification ≡ m.specification → n ≡ m
same_normal n m e f =
    let same : normal_in n.model n.specification ≡ normal_in m.model m.specification = ap₂ normal_in e f in
    same

same_core : (model : Model) (c d : Core) → IsNormalCore model c → IsNormalCore model d → core_of c ≡ core_of d → c ≡ d
same_core model c d h g e = grind (arith, same_normal, silent_not_normal)

abbrev whole : ℕ → ℕ → Core → ℕ → Reduced
whole spaces zeros core trail = record { spaces = spaces; zeros = zeros; core = core; trail = trail }

same_reduced : (r q : Reduced) → r.spaces ≡ q.spaces → r.zeros ≡ q.zeros → r.core ≡ q.core → r.trail ≡ q.trail → r ≡ q
same_reduced r q a b c d =
    let same : whole r.spaces r.zeros r.core r.trail ≡ whole q.spaces q.zeros q.core q.trail = cc in
    same

pub one_reduction : (model : Model) (s : Specification) (r q : Reduced) → IsReducedTo model s r → IsReducedTo model s q → r ≡ q
one_reduction model s r q h g =
    let parts = split_items _ _ (core_of r.core) (core_of q.core) _ _ (same_items model s r q h g) in
    let padding = same_runs space zero_digit other_byte r.spaces r.zeros q.spaces q.zeros parts.before in
    same_reduced r q padding.0 padding.1 (same_core model r.core q.core h.normal g.normal parts.core) (same_count r.trail q.trail space parts.behind)

-- the line of a directive whose reduction is known
pub shown_directive : (model : Model) {E : Type 0} (shown : Shown) (s : Specification) (old new : Text) (result : Result (Unit {0}) E) → shown ≡ Specified s
    → IfOk result (λ x. (r : Reduced) × IsReducedTo model s r × (new ≡ old ++ reduced_line model s r))
    → IfOk result (λ x. (part : Text) × IsLineOf model shown part × (new ≡ old ++ part))
shown_directive model shown s old new result e h =
    IfOk-weaker result _ _ (λ x g. (
      reduced_line model s g.0,
      subst (λ y. IsLineOf model y (reduced_line model s g.0)) (sym e)
          (g.0, g.1, λ other is. one_reduction model s other g.0 is g.1, refl),
      g.2,
    )) h
