-- Directives whose canonical text is nearly their own bytes.
use Rattle.std.proofs.Common.{◌≡◌, ◌≢◌, ℕ, ◌<◌, arith, Bool, true, false, refl, sym, ap, subst}
use Rattle.std.specs.Prelude.{MatchBool}
use Rattle.pf_values.specs.declared.flags.Flag.TheVariants.{Zero}
use Rattle.pf_values.specs.declared.models.Model.{Model}
use Rattle.pf_values.specs.meaning.Flags.{has}
use Rattle.pf_values.specs.meaning.Normal.{IsNormal, silent}
use Rattle.pf_values.specs.meaning.Specification.{Specification, width_of}
use Rattle.pf_values.specs.meaning.Spelling.{spelling_of}
use Rattle.pf_values.specs.meaning.Text.{Text}
use Rattle.pf_text.specs.FoundDirectives.{IsSpelledAt}
use Rattle.pf_text.specs.declared.specification.FoundDirective.{FoundDirective}
use Rattle.pf_text.proofs.FoundLemmas.{spelled_reads}
use Rattle.pf_reduce.specs.Changes.{IsChange, as_precision, kept_letters, of_width, within_spaces}
use Rattle.pf_reduce.specs.Reducing.{IsReduction, core_of, itself}
use Rattle.pf_reduce.specs.declared.changes.Change.{Change}
use Rattle.pf_reduce.specs.declared.changes.Change.TheVariants.{Filled, Letters, Padded}
use Rattle.pf_canon.specs.ChangedDirectives.{IsKnownAt, between}

-- a directive that is reduced to another one isn't normal, nor `%.0s`
reduced_other : (model : Model) (s t : Specification) → IsReduction model s (itself model t) → t ≢ s → (IsNormal model s → ⊥) × (s ≢ silent)
reduced_other model s t h other = (
  λ normal. other (ap (λ r. core_of r.core) (h.kept normal)),
  λ is. absurd (let e = h.silent is in cc),
)

narrowed_other : (model : Model) (s : Specification) (width : ℕ) → width < width_of s → of_width model s width ≢ s
narrowed_other model s width wide e = absurd (let same : width ≡ width_of s = ap width_of e in omega (arith, wide, same))

padded_other : (model : Model) (s : Specification) (width : ℕ) → IsReduction model s (within_spaces model s width) → width < width_of s
    → (IsNormal model s → ⊥) × (s ≢ silent)
padded_other model s width h wide = (
  λ normal. narrowed_other model s width wide (ap (λ r. core_of r.core) (h.kept normal)),
  λ is. absurd (let e = ap (λ r. r.core) (h.silent is) in cc),
)

filled_other : (model : Model) (s : Specification) → has s.flags Zero ≡ true → as_precision model s ≢ s
filled_other model s zeros e = absurd (let same : false ≡ has s.flags Zero = ap (λ d. has d.flags Zero) e in cc)

known : (model : Model) (s : Specification) (change : Change) (is : Bool) (bytes : Text) → IsChange model s change → bytes ≡ spelling_of s
    → MatchBool is ((change ≡ Letters) × (kept_letters model s ≡ s)) (change ≡ Letters → kept_letters model s ≢ s)
    → MatchBool is (IsNormal model s × (spelling_of s ≡ bytes)) ((IsNormal model s → ⊥) × (s ≢ silent))
known model s Letters true bytes h spelled g = (subst (IsNormal model) g.1 h.same.normal.1, sym spelled)
known model s Letters false bytes h spelled g = reduced_other model s (kept_letters model s) h (g refl)
known model s Filled true bytes h spelled g = absurd (let e = g.0 in cc)
known model s Filled false bytes h spelled g = reduced_other model s (as_precision model s) h.3 (filled_other model s (ap (λ f. has f Zero) h.0))
known model s (Padded width) true bytes h spelled g = absurd (let e = g.0 in cc)
known model s (Padded width) false bytes h spelled g = padded_other model s width h.5 h.4

pub changed_known : (model : Model) (text : Text) (at : ℕ) (d : FoundDirective) (change : Change) (is : Bool) → IsSpelledAt text at d
    → IsChange model d.directive change
    → MatchBool is ((change ≡ Letters) × (kept_letters model d.directive ≡ d.directive)) (change ≡ Letters → kept_letters model d.directive ≢ d.directive)
    → IsKnownAt model text at is d.stop
changed_known model text at d change is h g kept = record {
  directive = d.directive;
  some = omega (arith, h.some, h.modifier);
  within = h.within;
  read = spelled_reads text at d h;
  known = known model d.directive change is (between at d.stop text) g h.whole kept;
}
