-- The types of the arguments that are fetched, and whether one has two.
use Rattle.std.specs.Prelude.{ℕ, zero, suc, ◌+◌, Bool, false, ◌&&◌, ◌||◌, not, ◌==◌, List, [], ◌∷◌, Option, Some, None, if◌then◌else◌, map, max, unwrap_or}
use Rattle.pf_posix.specs.declared.fetches.Fetch.{Fetch}
use Rattle.pf_posix.specs.declared.types.WholeArgType.{WholeArgType}
use Rattle.pf_posix.specs.Types.{int_type}
use Rattle.pf_posix.specs.TypeNumbers.{number_of_type}

-- two fetches give one argument two types
abbrev pub differs_at : Option ℕ → Option ℕ → Fetch → Fetch → Bool
differs_at (Some n) (Some m) f g = n == m && not (number_of_type f.wanted == number_of_type g.wanted)
differs_at _ _ f g = false

abbrev pub differs : Fetch → Fetch → Bool
differs f g = differs_at f.number g.number f g

-- one of some fetches does with a later fetch
abbrev pub conflicts : List Fetch → Fetch → Bool
conflicts [] f = false
conflicts (g ∷ fetched) f = differs g f || conflicts fetched f

-- the types that are fetched, in order
abbrev pub wanted_types : List Fetch → List WholeArgType
wanted_types fetched = map (λ f. f.wanted) fetched

-- there is a number, and it is this one
abbrev pub is_number : Option ℕ → ℕ → Bool
is_number None n = false
is_number (Some m) n = m == n

-- the type of the first fetch of the argument with an index, counted from 0
abbrev pub wanted_at : ℕ → List Fetch → Option WholeArgType
wanted_at index [] = None
wanted_at index (f ∷ fetched) =
    if is_number f.number (index + 1) then Some f.wanted else wanted_at index fetched

-- the highest number of an argument that is fetched
abbrev pub greatest : List Fetch → ℕ
greatest [] = 0
greatest (f ∷ fetched) = max (unwrap_or f.number 0) (greatest fetched)

-- `n` types, from an index on
abbrev pub listed : List Fetch → ℕ → ℕ → List WholeArgType
listed fetched index zero = []
listed fetched index (suc n) =
    unwrap_or (wanted_at index fetched) int_type ∷ listed fetched (index + 1) n
