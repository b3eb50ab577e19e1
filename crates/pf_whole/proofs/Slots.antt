-- The arguments that are shown, stretch by stretch: which one has an index, and which one is replaced.
use Rattle.std.proofs.Common.{◌≡◌, ℕ, zero, suc, ◌+◌, ◌<◌, List, [], ◌∷◌, ◌++◌, map, length, refl, ap, ◌∙◌, arith}
use Rattle.std.specs.Prelude.{Some, None, slice_get, slice_set}
use Rattle.pf_values.specs.declared.types.ArgType.{ArgType}
use Rattle.pf_values.specs.Candidates.{neutral, neutrals}
use Rattle.pf_values.specs.meaning.Arguments.{Argument}
use Rattle.pf_compare.specs.Answers.{probe_at}
use Rattle.pf_posix.specs.declared.types.WholeArgType.{WholeArgType}
use Rattle.pf_posix.specs.Types.{widened}
use Rattle.pf_whole.specs.meaning.WholeArguments.{narrowed}
use Rattle.pf_whole.proofs.TraceLemmas.{length_map}

-- an element of the first of two lists, and one of the second
pub get_first : {X : Type 0} (xs ys : List X) (i : ℕ) → i < length xs → slice_get (xs ++ ys) i ≡ slice_get xs i
get_first [] ys i h = absurd (omega (arith, h))
get_first (x ∷ xs) ys zero h = refl
get_first (x ∷ xs) ys (suc i) h = get_first xs ys i (omega (arith, h))

pub get_second : {X : Type 0} (xs ys : List X) (i k : ℕ) → k ≡ length xs + i → slice_get (xs ++ ys) k ≡ slice_get ys i
get_second [] ys i k e = let same : k ≡ i = omega (arith, e) in ap (slice_get ys) same
get_second (x ∷ xs) ys i zero e = absurd (omega (arith, e))
get_second (x ∷ xs) ys i (suc k) e = get_second xs ys i k (omega (arith, e))

pub set_first : {X : Type 0} (xs ys : List X) (i : ℕ) (x : X) → i < length xs → slice_set (xs ++ ys) i x ≡ slice_set xs i x ++ ys
set_first [] ys i x h = absurd (omega (arith, h))
set_first (y ∷ xs) ys zero x h = refl
set_first (y ∷ xs) ys (suc i) x h = ap (λ l. y ∷ l) (set_first xs ys i x (omega (arith, h)))

pub set_second : {X : Type 0} (xs ys : List X) (i k : ℕ) (x : X) → k ≡ length xs + i → slice_set (xs ++ ys) k x ≡ xs ++ slice_set ys i x
set_second [] ys i k x e = let same : k ≡ i = omega (arith, e) in ap (λ n. slice_set ys n x) same
set_second (y ∷ xs) ys i zero x e = absurd (omega (arith, e))
set_second (y ∷ xs) ys i (suc k) x e = ap (λ l. y ∷ l) (set_second xs ys i k x (omega (arith, e)))

-- an argument of any value is not shown
pub none_shown : {A X : Type 0} (xs : List A) (i : ℕ) (x : X) → slice_get (map (λ a. None) xs) i ≡ Some (Some x) → ⊥
none_shown [] i x e = cc
none_shown (y ∷ xs) zero x e = cc
none_shown (y ∷ xs) (suc i) x e = none_shown xs i x e

-- the type of a known argument
pub typed_at : (ts : List ArgType) (i : ℕ) (type : ArgType) (wide : WholeArgType) → slice_get (map widened ts) i ≡ Some wide → narrowed wide ≡ Some type
    → slice_get ts i ≡ Some type
typed_at [] i type wide h g = cc
typed_at (t ∷ ts) zero type wide h g =
    let same : widened t ≡ wide = cc in
    ap narrowed same ∙ g
typed_at (t ∷ ts) (suc i) type wide h g = typed_at ts i type wide h g

pub wide_at : (ts : List ArgType) (i : ℕ) (type : ArgType) → slice_get ts i ≡ Some type → slice_get (map widened ts) i ≡ Some (widened type)
wide_at [] i type h = cc
wide_at (t ∷ ts) zero type h = let same : t ≡ type = cc in ap (λ u. Some (widened u)) same
wide_at (t ∷ ts) (suc i) type h = wide_at ts i type h

-- neutral arguments, and those of a probe, that are all shown
pub neutrals_shown : (ts : List ArgType) → map (λ type. Some (neutral type)) ts ≡ map Some (neutrals ts)
neutrals_shown [] = refl
neutrals_shown (t ∷ ts) = ap (λ l. Some (neutral t) ∷ l) (neutrals_shown ts)

pub neutral_at : (ts : List ArgType) (i : ℕ) (type : ArgType) → slice_get ts i ≡ Some type
    → slice_get (map (λ type. Some (neutral type)) ts) i ≡ Some (Some (neutral type))
neutral_at [] i type h = cc
neutral_at (t ∷ ts) zero type h = let same : t ≡ type = cc in ap (λ u. Some (Some (neutral u))) same
neutral_at (t ∷ ts) (suc i) type h = neutral_at ts i type h

pub probe_shown : (ts : List ArgType) (i : ℕ) (argument : Argument)
    → slice_set (map (λ type. Some (neutral type)) ts) i (Some argument) ≡ map Some (probe_at ts i argument)
probe_shown [] i argument = refl
probe_shown (t ∷ ts) zero argument = ap (λ l. Some argument ∷ l) (neutrals_shown ts)
probe_shown (t ∷ ts) (suc i) argument = ap (λ l. Some (neutral t) ∷ l) (probe_shown ts i argument)

pub probe_count : (ts : List ArgType) (i : ℕ) (argument : Argument) → length (probe_at ts i argument) ≡ length ts
probe_count [] i argument = refl
probe_count (t ∷ ts) zero argument = omega (arith, length_map neutral ts)
probe_count (t ∷ ts) (suc i) argument = omega (arith, probe_count ts i argument)
