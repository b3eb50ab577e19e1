-- Two arguments of each type, and lists of arguments that differ at one index.
use Rattle.std.proofs.Common.{◌≡◌, ◌≢◌, ℕ, zero, suc, List, [], ◌∷◌, ◌++◌, map, length, refl, ap, arith}
use Rattle.std.specs.Prelude.{Option, Some, None, pos, negsuc, Contains}
use Rattle.pf_values.specs.declared.models.Model.{Model}
use Rattle.pf_values.specs.declared.types.ArgType.{ArgType}
use Rattle.pf_values.specs.declared.types.ArgType.TheVariants.{Int, UInt, Long, ULong, LongLong, ULongLong, Str}
use Rattle.pf_values.specs.meaning.Arguments.{Argument, Number, String}
use Rattle.pf_values.specs.Candidates.{candidates, neutral}
use Rattle.pf_probes.proofs.Probes.{neutral_in}
use Rattle.pf_probes.proofs.Telling.{candidate_typed}
use Rattle.pf_posix.specs.declared.types.WholeArgType.{WholeArgType}
use Rattle.pf_whole.specs.meaning.WholeArguments.{WholeArgument, Known, Other, HasNarrowedType, HasWholeTypes, narrowed}

-- an argument that is not the neutral one
abbrev another : ArgType → Argument
another Str = String (65 ∷ [])
another _ = Number (pos 1)

another_in : (model : Model) (type : ArgType) → Contains (candidates model type) (another type)
another_in model Int = (1, omega arith, refl)
another_in model UInt = (1, omega arith, refl)
another_in model Long = (1, omega arith, refl)
another_in model ULong = (1, omega arith, refl)
another_in model LongLong = (1, omega arith, refl)
another_in model ULongLong = (1, omega arith, refl)
another_in model Str = (1, omega arith, refl)

abbrev neutral_at : Option ArgType → WholeArgument
neutral_at (Some type) = Known (neutral type)
neutral_at None = Other []

abbrev another_at : Option ArgType → WholeArgument
another_at (Some type) = Known (another type)
another_at None = Other (0 ∷ [])

abbrev pub whole_neutral : WholeArgType → WholeArgument
whole_neutral type = neutral_at (narrowed type)

abbrev pub whole_another : WholeArgType → WholeArgument
whole_another type = another_at (narrowed type)

neutral_typed_at : (model : Model) (o : Option ArgType) → HasNarrowedType model (neutral_at o) o
neutral_typed_at model (Some type) = candidate_typed model type (neutral type) (neutral_in model type)
neutral_typed_at model None = tt

another_typed_at : (model : Model) (o : Option ArgType) → HasNarrowedType model (another_at o) o
another_typed_at model (Some type) = candidate_typed model type (another type) (another_in model type)
another_typed_at model None = tt

-- a number that tells the two apart
abbrev size : WholeArgument → ℕ
size (Known (Number (pos n))) = n
size (Known (Number (negsuc n))) = 0
size (Known (String [])) = 0
size (Known (String (byte ∷ bytes))) = 1
size (Other []) = 0
size (Other (byte ∷ bytes)) = 1

neutral_size : (o : Option ArgType) → size (neutral_at o) ≡ 0
neutral_size (Some Int) = refl
neutral_size (Some _) = refl
neutral_size None = refl

another_size : (o : Option ArgType) → size (another_at o) ≡ 1
another_size (Some Int) = refl
another_size (Some _) = refl
another_size None = refl

two_at : (o : Option ArgType) → another_at o ≡ neutral_at o → ⊥
two_at o e = omega (arith, another_size o, neutral_size o, ap size e)

pub two_values : (type : WholeArgType) → whole_another type ≡ whole_neutral type → ⊥
two_values type e = two_at (narrowed type) e

-- neutral arguments, except the one at an index
abbrev pub whole_neutrals : List WholeArgType → List WholeArgument
whole_neutrals types = map whole_neutral types

abbrev pub one_other : ℕ → List WholeArgType → List WholeArgument
one_other k [] = []
one_other zero (type ∷ types) = whole_another type ∷ whole_neutrals types
one_other (suc k) (type ∷ types) = whole_neutral type ∷ one_other k types

pub whole_neutrals_typed : (model : Model) (types : List WholeArgType) → HasWholeTypes model (whole_neutrals types) types
whole_neutrals_typed model [] = tt
whole_neutrals_typed model (type ∷ types) = (neutral_typed_at model (narrowed type), whole_neutrals_typed model types)

pub one_other_typed : (model : Model) (k : ℕ) (types : List WholeArgType) → HasWholeTypes model (one_other k types) types
one_other_typed model zero [] = tt
one_other_typed model (suc k) [] = tt
one_other_typed model zero (type ∷ types) = (another_typed_at model (narrowed type), whole_neutrals_typed model types)
one_other_typed model (suc k) (type ∷ types) = (neutral_typed_at model (narrowed type), one_other_typed model k types)

-- the element after the first `n`
abbrev pub nth : {A : Type 0} → List A → ℕ → Option A
nth [] n = None
nth (x ∷ xs) zero = Some x
nth (x ∷ xs) (suc n) = nth xs n

abbrev pub count : {A : Type 0} → List A → ℕ
count [] = zero
count (x ∷ xs) = suc (count xs)

pub count_is : {A : Type 0} (xs : List A) → length xs ≡ count xs
count_is [] = refl
count_is (x ∷ xs) = omega (arith, count_is xs)

pub nth_behind : {A : Type 0} (xs ys : List A) → nth (xs ++ ys) (count xs) ≡ nth ys zero
nth_behind [] ys = refl
nth_behind (x ∷ xs) ys = nth_behind xs ys

nth_neutrals : (types : List WholeArgType) (m : ℕ) (type : WholeArgType) → nth types m ≡ Some type → nth (whole_neutrals types) m ≡ Some (whole_neutral type)
nth_neutrals [] m type e = cc
nth_neutrals (t ∷ types) zero type e = let same : t ≡ type = cc in ap (λ t. Some (whole_neutral t)) same
nth_neutrals (t ∷ types) (suc m) type e = nth_neutrals types m type e

pub nth_another : (k : ℕ) (types : List WholeArgType) (type : WholeArgType) → nth types k ≡ Some type → nth (one_other k types) k ≡ Some (whole_another type)
nth_another zero [] type e = cc
nth_another (suc k) [] type e = cc
nth_another zero (t ∷ types) type e = let same : t ≡ type = cc in ap (λ t. Some (whole_another t)) same
nth_another (suc k) (t ∷ types) type e = nth_another k types type e

pub nth_neutral : (k m : ℕ) (types : List WholeArgType) (type : WholeArgType) → k ≢ m → nth types m ≡ Some type
    → nth (one_other k types) m ≡ Some (whole_neutral type)
nth_neutral k m [] type other e = cc
nth_neutral zero zero (t ∷ types) type other e = absurd (other refl)
nth_neutral zero (suc m) (t ∷ types) type other e = nth_neutrals types m type e
nth_neutral (suc k) zero (t ∷ types) type other e = let same : t ≡ type = cc in ap (λ t. Some (whole_neutral t)) same
nth_neutral (suc k) (suc m) (t ∷ types) type other e = nth_neutral k m types type (λ same. other (ap suc same)) e
