-- What a defined specification has: none of the kinds of refusal, and numbers within the limit.
use Rattle.std.proofs.Common.{◌≡◌, ℕ, ◌-◌, ◌≤◌, max, Bool, true, false, List, [], ◌∷◌, Option, Some, None, refl, arith}
use Rattle.std.specs.Prelude.{if◌then◌else◌, unwrap_or}
use Rattle.std.specs.List.{AllByRecursion}
use Rattle.std.proofs.lemmas.Bool.Decides.{nat_tests}
use Rattle.pf_values.specs.declared.limits.TheConstants.{MAX_NUMBER}
use Rattle.pf_values.specs.declared.refusals.RefusalKind.{RefusalKind}
use Rattle.pf_values.specs.declared.refusals.RefusalKind.TheVariants.{WidthTooLarge, PrecisionTooLarge}
use Rattle.pf_values.specs.meaning.Defined.{IsDefined, breaks, first_broken, is_above_limit, refused_as, undefined_kinds}
use Rattle.pf_values.specs.meaning.Normal.{precision_of}
use Rattle.pf_values.specs.meaning.Printing.{is_zero_filled}
use Rattle.pf_values.specs.meaning.Refusals.{IsWithinLimits}
use Rattle.pf_values.specs.meaning.Specification.{Specification, width_of}
use Rattle.pf_values.specs.Directives.{effective_precision}

pub none_first : {X : Type 0} (b : Bool) (x : X) (o : Option X) → (if b then Some x else o) ≡ None → (b ≡ false) × (o ≡ None)
none_first true x o e = cc
none_first false x o e = (refl, e)

-- no kind of a list rejects the specification
not_broken : (kinds : List RefusalKind) (s : Specification) → first_broken kinds s ≡ None → AllByRecursion (λ kind. breaks s kind ≡ false) kinds
not_broken [] s e = tt
not_broken (kind ∷ kinds) s e = let here = none_first (breaks s kind) kind (first_broken kinds s) e in (here.0, not_broken kinds s here.1)

pub none_broken : (s : Specification) → refused_as s ≡ None → AllByRecursion (λ kind. breaks s kind ≡ false)
    (WidthTooLarge ∷ PrecisionTooLarge ∷ undefined_kinds)
none_broken s allowed = not_broken (WidthTooLarge ∷ PrecisionTooLarge ∷ undefined_kinds) s allowed

pub within : (s : Specification) → refused_as s ≡ None → IsWithinLimits s
within s allowed = let none = none_broken s allowed in record { width = none.0; precision = none.1.0 }

number_limit : (number : Option ℕ) (least : ℕ) → least ≤ MAX_NUMBER → is_above_limit number ≡ false → unwrap_or number least ≤ MAX_NUMBER
number_limit None least h e = h
number_limit (Some n) least h e = grind (arith, nat_tests)

pub width_limit : (s : Specification) → IsDefined s → width_of s ≤ MAX_NUMBER
width_limit s h = number_limit s.width 0 (omega arith) (within s h.allowed).width

precision_limit : (s : Specification) → IsDefined s → precision_of s ≤ MAX_NUMBER
precision_limit s h = number_limit s.precision 1 (omega arith) (within s h.allowed).precision

effective_at_most : (filled : Bool) (w p front : ℕ) → w ≤ MAX_NUMBER → p ≤ MAX_NUMBER → (if filled then max (w - front) 1 else p) ≤ MAX_NUMBER
effective_at_most true w p front few small = omega (arith, few)
effective_at_most false w p front few small = small

pub effective_limit : (s : Specification) (front : ℕ) → IsDefined s → effective_precision s front ≤ MAX_NUMBER
effective_limit s front h = effective_at_most (is_zero_filled s) (width_of s) (precision_of s) front (width_limit s h) (precision_limit s h)
