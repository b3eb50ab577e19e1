-- The types of the arguments that specifications fetch.
use Rattle.std.specs.Prelude.{◌≡◌, ◌<◌, ◌+◌, ℕ, List, [], ◌∷◌, ◌++◌, length, map, slice_get, Option, Some, None, ◌⊎◌, if◌then◌else◌}
use Rattle.std.specs.List.{AllByRecursion}
use Rattle.pf_values.specs.declared.conversions.Kind.{Kind}
use Rattle.pf_values.specs.declared.conversions.Kind.TheVariants as kinds
use Rattle.pf_values.specs.declared.lengths.Length.{Length}
use Rattle.pf_values.specs.declared.lengths.Length.TheVariants as lengths
use Rattle.pf_values.specs.declared.models.Model.{Model}
use Rattle.pf_values.specs.declared.types.ArgType.{ArgType}
use Rattle.pf_values.specs.declared.types.ArgType.TheVariants as profile
use Rattle.pf_values.specs.meaning.Conversions.{kind_of}
use Rattle.pf_values.specs.meaning.DataModel.{signed_type, unsigned_type}
use Rattle.pf_values.specs.meaning.Lengths.{is_long}
use Rattle.pf_posix.specs.declared.conversions.WholeConv.{WholeConv}
use Rattle.pf_posix.specs.declared.conversions.WholeConv.TheVariants as conversions
use Rattle.pf_posix.specs.declared.conversions.WholeLength.{WholeLength}
use Rattle.pf_posix.specs.declared.conversions.WholeLength.TheVariants.{Integer, LongDouble as long_double}
use Rattle.pf_posix.specs.declared.fetches.Fetch.{Fetch}
use Rattle.pf_posix.specs.declared.types.WholeArgType.{WholeArgType}
use Rattle.pf_posix.specs.declared.types.WholeArgType.TheVariants.{Profile, Double, LongDouble, WideChar, WideString, Pointer, PointerToSChar, PointerToShort, PointerToInt, PointerToLong, PointerToLongLong}
use Rattle.pf_posix.specs.Specifications.{Amount, Given, Fetched, WholeSpecification}

-- a type of the profile
abbrev pub widened : ArgType → WholeArgType
widened type = Profile type

abbrev pub int_type : WholeArgType
int_type = Profile profile.Int

-- a pointer to one of the three signed types
abbrev pub pointer_to : ArgType → WholeArgType
pointer_to profile.Long = PointerToLong
pointer_to profile.LongLong = PointerToLongLong
pointer_to _ = PointerToInt

-- what `n` points to (C11 7.21.6.1 p7 and p8)
abbrev pub counted_type : Model → Length → WholeArgType
counted_type model lengths.Hh = PointerToSChar
counted_type model lengths.H = PointerToShort
counted_type model length = pointer_to (signed_type model length)

-- the argument of a conversion of the profile, where `lc` and `ls` are wide (C11 7.21.6.1 p7, p8)
abbrev pub kind_type : Model → Kind → Length → WholeArgType
kind_type model kinds.Signed length = widened (signed_type model length)
kind_type model (kinds.Unsigned base capitals) length = widened (unsigned_type model length)
kind_type model kinds.Char length = if is_long length then WideChar else int_type
kind_type model kinds.String length = if is_long length then WideString else Profile profile.Str

-- the length that a modifier of integers names
abbrev pub integer_length : WholeLength → Length
integer_length (Integer length) = length
integer_length long_double = lengths.None

abbrev pub floating_type : WholeLength → WholeArgType
floating_type (Integer length) = Double
floating_type long_double = LongDouble

-- the type of a conversion's argument (C11 7.21.6.1 p7 and p8; POSIX fprintf on `C` and `S`)
abbrev pub conversion_type : Model → WholeLength → WholeConv → WholeArgType
conversion_type model modifier (conversions.Profile conv) =
    kind_type model (kind_of conv) (integer_length modifier)
conversion_type model modifier (conversions.Float floating) = floating_type modifier
conversion_type model modifier conversions.UpperC = WideChar
conversion_type model modifier conversions.UpperS = WideString
conversion_type model modifier conversions.Pointer = Pointer
conversion_type model modifier conversions.Count = counted_type model (integer_length modifier)

abbrev pub fetch : Option ℕ → WholeArgType → Fetch
fetch number wanted = record { number = number; wanted = wanted }

-- an int for each `*` (C11 7.21.6.1 p5)
abbrev pub star_fetches : Option Amount → List Fetch
star_fetches None = []
star_fetches (Some (Given n)) = []
star_fetches (Some (Fetched number)) = fetch number int_type ∷ []

-- what a specification fetches: the width before the precision, and then the conversion's argument
-- (C11 7.21.6.1 p5)
abbrev pub fetches : Model → WholeSpecification → List Fetch
fetches model s =
    star_fetches s.width ++ star_fetches s.precision
    ++ fetch s.position (conversion_type model s.modifier s.conversion) ∷ []

-- the argument that is fetched has its type in a list
abbrev pub HasTypeIn : List WholeArgType → Fetch → Type 0
HasTypeIn types f =
    (index : ℕ) × (f.number ≡ Some (index + 1)) × (slice_get types index ≡ Some f.wanted)

-- the argument with an index, counted from 0, is fetched
abbrev pub IsFetched : ℕ → List Fetch → Type 0
IsFetched index [] = ⊥
IsFetched index (f ∷ fetched) = (f.number ≡ Some (index + 1)) ⊎ IsFetched index fetched

-- unnumbered specifications fetch the next argument each time (C11 7.21.6.1 p3)
pub record AreInOrder (fetched : List Fetch) (types : List WholeArgType) : Type 0 where
  pub unnumbered : AllByRecursion (λ f. f.number ≡ None) fetched
  pub types_are : types ≡ map (λ f. f.wanted) fetched

-- numbered ones fetch each argument at least once, always with one type (POSIX fprintf on `%n$`)
pub record AreNumbered (fetched : List Fetch) (types : List WholeArgType) : Type 0 where
  pub each : AllByRecursion (HasTypeIn types) fetched
  pub all : (index : ℕ) → index < length types → IsFetched index fetched

-- the types of the arguments that are fetched; a format never has specifications of both kinds
-- (POSIX fprintf)
abbrev pub HaveTypes : List Fetch → List WholeArgType → Type 0
HaveTypes fetched types = AreInOrder fetched types ⊎ AreNumbered fetched types
