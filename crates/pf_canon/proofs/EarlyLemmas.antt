-- Texts that are known to differ without their canonical texts.
use Rattle.std.proofs.Common.{◌≡◌, ◌≢◌, ℕ, ◌≤◌, ◌<◌, Bool, true, false, not, ◌&&◌, List, [], ◌∷◌, length, get_or, take, refl, sym, ap, ◌∙◌, subst, arith, inl}
use Rattle.std.proofs.lemmas.List.{take_all}
use Rattle.std.specs.Prelude.{IsTrue}
use Rattle.std.specs.Cmp.Lexicographic.{pointwise}
use Rattle.pf_values.specs.declared.limits.TheConstants.{MAX_TEXT_LEN}
use Rattle.pf_values.specs.declared.models.Model.{Model}
use Rattle.pf_values.specs.declared.types.ArgType.{ArgType}
use Rattle.pf_values.specs.meaning.Items.{types}
use Rattle.pf_values.specs.meaning.Text.{Text}
use Rattle.pf_text.specs.History.{IsLiteral}
use Rattle.pf_text.specs.Walks.{AreRead, Either, EndsItems, IsMadeOf, IsWalkOver}
use Rattle.pf_text.specs.declared.walk.Walk.{Walk}
use Rattle.pf_values.specs.meaning.Printing.{AreEquivalent}
use Rattle.pf_text.specs.Signatures.{TakesTypes}
use Rattle.pf_text.proofs.WalkLemmas.{made_of_one}
use Rattle.pf_text.proofs.Texts.{Reads-unique}
use Rattle.pf_canon.specs.ChangedDirectives.{between}
use Rattle.pf_canon.specs.Comparison.{AreTextsSame}
use Rattle.pf_canon.proofs.ItemLemmas.{front_of_walk}
use Rattle.pf_canon.proofs.OneCanonical.{are_same}
use Rattle.pf_canon.proofs.SomeCanonical.{some_canonical}

-- two texts that take arguments of different types
module _ (model : Model) (f g : Text) (ts us : List ArgType) (first : TakesTypes model f ts) (second : TakesTypes model g us) where
  pub other_types : ts ≢ us → AreTextsSame model f g false
  other_types other =
      let unlike : AreEquivalent model f g → ⊥ = λ e.
      let one = Reads-unique f first.items e.first first.accepted.reads e.reads_first in
      let two = Reads-unique g e.second second.items e.reads_second second.accepted.reads in
      other (first.types_are ∙ ap (types model) one ∙ e.alike.same_types ∙ ap (types model) two ∙ sym second.types_are) in
      are_same model f g false (λ is. absurd (cc), λ e. absurd (unlike e)) (first.items, first.accepted) (second.items, second.accepted)
      (some_canonical model f first.items first.accepted.reads) (some_canonical model g second.items second.accepted.reads)

-- a list of types is equal to itself
module _ (eq : ArgType → ArgType → Bool) (reflexive : (a : ArgType) → eq a a ≡ true) where
  equal_itself : (ts : List ArgType) → pointwise eq ts ts ≡ true
  equal_itself [] = refl
  equal_itself (a ∷ ts) = ap (λ b. b && pointwise eq ts ts) (reflexive a) ∙ equal_itself ts

  pub unequal_types : (ts us : List ArgType) (ne : Bool) → ne ≡ not (pointwise eq ts us) → IsTrue ne → ts ≢ us
  unequal_types ts us ne h is e =
      let same : ne ≡ false = h ∙ ap (λ vs. not (pointwise eq ts vs)) (sym e) ∙ ap not (equal_itself ts) in
      absurd (cc)

-- a text of one literal byte
pub literal_made : (passes : Text → Type 0) (t : Text) → 1 ≤ length t → length t < 2 → IsLiteral (get_or t 0 0) → IsMadeOf passes t
literal_made passes [] some few h = absurd (omega arith)
literal_made passes (byte ∷ []) some few h = made_of_one passes (byte ∷ []) (inl (h, tt))
literal_made passes (byte ∷ other ∷ t) some few h = absurd (omega arith)

-- a text up to where its items end
pub front_made : (passes : Text → Type 0) (text : Text) (walk : Walk) (stop : ℕ) → IsWalkOver text walk → walk.at ≡ 0 → EndsItems passes walk stop
    → IsMadeOf (Either AreRead passes) (take stop text) × (stop ≤ length text) × (stop ≤ MAX_TEXT_LEN)
front_made passes text walk stop over at h =
    let (whole, within, limit) = front_of_walk text walk over stop h.within.1 in
    (subst (IsMadeOf (Either AreRead passes)) (ap (λ k. between k stop walk.text.now) at ∙ whole) h.read, within, limit)

-- a text whose items end at its end
pub all_made : (passes : Text → Type 0) (text : Text) (walk : Walk) (stop : ℕ) → IsWalkOver text walk → walk.at ≡ 0 → EndsItems passes walk stop
    → stop ≡ length text → IsMadeOf (Either AreRead passes) text × (length text ≤ MAX_TEXT_LEN)
all_made passes text walk stop over at h e =
    let (made, within, limit) = front_made passes text walk stop over at h in
    (subst (IsMadeOf (Either AreRead passes)) (take_all stop text (omega (arith, e))) made, omega (arith, e, limit))
