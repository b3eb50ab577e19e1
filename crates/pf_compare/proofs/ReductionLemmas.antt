-- Two directives by what they are reduced to.
use Rattle.std.proofs.Common.{◌≡◌, ◌≢◌, ℕ, zero, suc, ◌+◌, List, [], ◌∷◌, ◌++◌, length, map, replicate, refl, sym, ap, ◌∙◌, subst, arith, inl, inr, Bool, true}
use Rattle.std.proofs.Common.{false, IsFalse, IsTrue}
use Rattle.std.proofs.lemmas.List.{length-replicate}
use Rattle.pf_values.specs.declared.models.Model.{Model}
use Rattle.pf_values.specs.meaning.Arguments.{HasTypes}
use Rattle.pf_values.specs.meaning.Canonical.{AreCanonical, BeginsWithNoByte}
use Rattle.pf_values.specs.meaning.Items.{Item, Byte, Directive, types}
use Rattle.pf_values.specs.meaning.Printing.{PrintAlike}
use Rattle.pf_values.specs.meaning.Specification.{Specification}
use Rattle.pf_values.specs.meaning.Text.{Text, space, zero_digit}
use Rattle.pf_values.specs.Candidates.{IsProbe}
use Rattle.pf_values.proofs.Alike.{AreAlike, alike-printed, printed-alike, alike_sym, alike_trans}
use Rattle.pf_reduce.specs.Reducing.{IsNormalCore, IsReducedTo, core_of}
use Rattle.pf_reduce.specs.declared.results.Core.{Core}
use Rattle.pf_reduce.specs.declared.results.Core.TheVariants.{Normal, Silent}
use Rattle.pf_reduce.specs.declared.results.Reduced.{Reduced}
use Rattle.pf_canon.proofs.Printing.{reduced_alike, reduced_items}
use Rattle.pf_probes.proofs.Probes.{AgreeOnProbes, probe_typed}
use Rattle.pf_probes.proofs.Tails.{tail_claim}
use Rattle.pf_compare.specs.Reductions.{HaveSameParts}

-- the one directive of a list of items divides it
parted : (u v : Text) (s t : Specification) (p q : List Item) → map Byte u ++ Directive s ∷ p ≡ map Byte v ++ Directive t ∷ q → (u ≡ v) × (s ≡ t) × (p ≡ q)
parted [] [] s t p q e = (refl, cc, cc)
parted [] (b ∷ v) s t p q e = absurd (cc)
parted (a ∷ u) [] s t p q e = absurd (cc)
parted (a ∷ u) (b ∷ v) s t p q e =
    let rest = parted u v s t p q (cc) in
    let same : u ≡ v = rest.0 in
    (cc, rest.1, rest.2)

-- a run of one byte before a run of another
runs_equal : (x y a b c d : ℕ) → x ≢ y → replicate a x ++ replicate b y ≡ replicate c x ++ replicate d y → (a ≡ c) × (b ≡ d)
runs_equal x y zero b zero d differ e = (refl, sym (length-replicate b y) ∙ ap length e ∙ length-replicate d y)
runs_equal x y zero zero (suc c) d differ e = absurd (cc)
runs_equal x y zero (suc b) (suc c) d differ e = let same : y ≡ x = cc in absurd (differ (sym same))
runs_equal x y (suc a) b zero zero differ e = absurd (cc)
runs_equal x y (suc a) b zero (suc d) differ e = let same : x ≡ y = cc in absurd (differ same)
runs_equal x y (suc a) b (suc c) d differ e = let rest = runs_equal x y a b c d differ (cc) in (ap suc rest.0, rest.1)

trails_equal : (a b : ℕ) → map Byte (replicate a space) ≡ map Byte (replicate b space) → a ≡ b
trails_equal zero zero e = refl
trails_equal zero (suc b) e = absurd (cc)
trails_equal (suc a) zero e = absurd (cc)
trails_equal (suc a) (suc b) e = ap suc (trails_equal a b (cc))

-- the items of a reduction have its parts
parts_of_items : (r q : Reduced) → reduced_items r ≡ reduced_items q → HaveSameParts r q
parts_of_items r q e =
    let parts = parted (replicate r.spaces space ++ replicate r.zeros zero_digit) (replicate q.spaces space ++ replicate q.zeros zero_digit) (core_of r.core)
    (core_of q.core) (map Byte (replicate r.trail space)) (map Byte (replicate q.trail space)) e in
    let padding = runs_equal space zero_digit r.spaces r.zeros q.spaces q.zeros (λ same. absurd (omega (arith, same))) parts.0 in
    record { spaces = padding.0; zeros = padding.1; core = parts.1; trail = trails_equal r.trail q.trail parts.2 }

abbrev items_of_parts : ℕ → ℕ → Specification → ℕ → List Item
items_of_parts spaces zeros s trail = map Byte (replicate spaces space ++ replicate zeros zero_digit) ++ (Directive s ∷ map Byte (replicate trail space))

items_of_same_parts : (r q : Reduced) → HaveSameParts r q → reduced_items r ≡ reduced_items q
items_of_same_parts r q h =
    ap (λ n. items_of_parts n r.zeros (core_of r.core) r.trail) h.spaces
    ∙ ap (λ n. items_of_parts q.spaces n (core_of r.core) r.trail) h.zeros
    ∙ ap (λ s. items_of_parts q.spaces q.zeros s r.trail) h.core
    ∙ ap (λ n. items_of_parts q.spaces q.zeros (core_of q.core) n) h.trail

-- they are canonical
pub bytes_canonical : (model : Model) (bytes : Text) → AreCanonical model (map Byte bytes)
bytes_canonical model [] = tt
bytes_canonical model (byte ∷ bytes) = bytes_canonical model bytes

canonical_behind : (model : Model) (bytes : Text) (items : List Item) → AreCanonical model items → AreCanonical model (map Byte bytes ++ items)
canonical_behind model [] items h = h
canonical_behind model (byte ∷ bytes) items h = canonical_behind model bytes items h

core_canonical : (model : Model) (core : Core) (trail : ℕ) → IsNormalCore model core → (core ≡ Silent → trail ≡ 0)
    → AreCanonical model (Directive (core_of core) ∷ map Byte (replicate trail space))
core_canonical model (Normal n) trail h g = (inl h.1, bytes_canonical model (replicate trail space))
core_canonical model Silent trail h g = (
  inr (refl, subst (λ n. BeginsWithNoByte (map Byte (replicate n space))) (sym (g refl)) tt),
  bytes_canonical model (replicate trail space),
)

pub reduced_canonical : (model : Model) (s : Specification) (r : Reduced) → IsReducedTo model s r → AreCanonical model (reduced_items r)
reduced_canonical model s r h =
    canonical_behind model (replicate r.spaces space ++ replicate r.zeros zero_digit) (Directive (core_of r.core) ∷ map Byte (replicate r.trail space))
    (core_canonical model r.core r.trail h.normal (λ e. (h.silent e).2))

module _ (model : Model) (s t : Specification) (r q : Reduced) (first : IsReducedTo model s r) (second : IsReducedTo model t q) where
  first_alike : AreAlike model (Directive s ∷ []) (reduced_items r)
  first_alike = reduced_alike model s r first

  second_alike : AreAlike model (Directive t ∷ []) (reduced_items q)
  second_alike = reduced_alike model t q second

  -- directives that are reduced to the same print the same
  pub same_parts_alike : HaveSameParts r q → PrintAlike model (Directive s ∷ []) (Directive t ∷ [])
  same_parts_alike h = alike-printed model (Directive s ∷ []) (Directive t ∷ [])
      (alike_trans model (Directive s ∷ []) (reduced_items q) (Directive t ∷ [])
      (subst (AreAlike model (Directive s ∷ [])) (items_of_same_parts r q h) first_alike)
      (alike_sym model (Directive t ∷ []) (reduced_items q) second_alike))

  -- and those that print the same are reduced to the same
  pub printed_same_parts : PrintAlike model (Directive s ∷ []) (Directive t ∷ []) → HaveSameParts r q
  printed_same_parts h =
      let alike = printed-alike model (Directive s ∷ []) (Directive t ∷ []) h in
      let types_are : types model (reduced_items r) ≡ types model (reduced_items q) =
      sym first_alike.same_types ∙ alike.same_types ∙ second_alike.same_types in
      parts_of_items r q
      (tail_claim model (length (reduced_items r) + length (reduced_items q)) (reduced_items r) (reduced_items q) [] (omega arith)
      (reduced_canonical model s r first) (reduced_canonical model t q second) types_are (agreed alike) (inl refl)).1
    where
      agreed : AreAlike model (Directive s ∷ []) (Directive t ∷ []) → AgreeOnProbes model (reduced_items r) (reduced_items q) []
      agreed alike p i =
          let probe : IsProbe model (types model (Directive s ∷ [])) p = subst (λ ts. IsProbe model ts p) (sym first_alike.same_types) i in
          let typed : HasTypes model p (types model (Directive s ∷ [])) = probe_typed model (types model (Directive s ∷ [])) p probe in
          let also : HasTypes model p (types model (Directive t ∷ [])) = subst (HasTypes model p) alike.same_types typed in
          sym (first_alike.same_bytes p typed) ∙ alike.same_bytes p typed ∙ second_alike.same_bytes p also

-- what isn't other is so
pub told_parts : {A : Type 0} (told : Bool) → (IsFalse told → ¬ A) → A → IsTrue told
told_parts true other a = refl
told_parts false other a = absurd (other refl a)
