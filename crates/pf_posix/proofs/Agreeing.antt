-- Fetches that agree, and one more. They have types, or an argument is missing. The table of types has each value once.
use Rattle.std.proofs.Common.{◌≡◌, ℕ, ◌-◌, false, List, [], ◌∷◌, ◌++◌, refl, sym, ap, ◌∙◌, arith, inl, inr, ◌≢◌, zero, suc, ◌+◌, ◌<◌, ◌≤◌, Bool, true, length, subst}
use Rattle.std.specs.Prelude.{Option, Some, None, ◌&&◌, not, ◌==◌, slice_get, ◌⊎◌, unwrap_or}
use Rattle.std.specs.List.{AllByRecursion}
use Rattle.std.proofs.lemmas.Bool.{or_parts, cases_eq, cases_lt}
use Rattle.std.proofs.lemmas.Bool.Decides.{nat_tests}
use Rattle.std.proofs.lemmas.Option.{slice_get_within}
use Rattle.pf_values.specs.declared.types.ArgType.TheVariants.{Int}
use Rattle.pf_values.specs.Laws.{HasEachOnce}
use Rattle.pf_values.proofs.EachOnce.{once}
use Rattle.pf_posix.specs.declared.fetches.Fetch.{Fetch}
use Rattle.pf_posix.specs.declared.types.WholeArgType.{WholeArgType}
use Rattle.pf_posix.specs.declared.types.WholeArgType.TheVariants.{Profile, Double}
use Rattle.pf_posix.specs.declared.types.TheConstants.WholeArgType.{ALL as all_types}
use Rattle.pf_posix.specs.TypeNumbers.{number_of_type}
use Rattle.pf_posix.specs.Readings.{conflicts, differs, differs_at, greatest, is_number, listed, wanted_types, wanted_at}
use Rattle.pf_posix.specs.Refusals.{AreAgreed, Follows, IsOneType, numbering_by, numbering_of, HasGap}
use Rattle.pf_posix.specs.declared.specifications.Numbering.TheVariants.{Unnumbered, Numbered}
use Rattle.pf_posix.specs.Types.{int_type, AreInOrder, AreNumbered, HaveTypes, IsFetched, HasTypeIn}
use Rattle.pf_posix.proofs.Bounds.{IsWithin}

-- what follows specifications without numbers has none
pub without_number : (o : Option ℕ) → Follows Unnumbered (Some (numbering_by o)) → o ≡ None
without_number o h = grind arith

-- types of equal numbers are equal
number_tells : (type : WholeArgType) → slice_get all_types (number_of_type type - 1) ≡ Some type
number_tells type = grind arith

pub same_type : (a b : WholeArgType) → number_of_type a ≡ number_of_type b → a ≡ b
same_type a b e =
    let same : Some a ≡ Some b = sym (number_tells a) ∙ ap (λ n. slice_get all_types (n - 1)) e ∙ number_tells b in cc

pub all_push : {X : Type 0} (P : X → Type 0) (xs : List X) (x : X) → AllByRecursion P xs → P x → AllByRecursion P (xs ++ x ∷ [])
all_push P [] x h p = (p, tt)
all_push P (y ∷ xs) x h p = (h.0, all_push P xs x h.1 p)

pub all_map : {X : Type 0} (P Q : X → Type 0) (xs : List X) → ((x : X) → P x → Q x) → AllByRecursion P xs → AllByRecursion Q xs
all_map P Q [] f h = tt
all_map P Q (x ∷ xs) f h = (f x h.0, all_map P Q xs f h.1)

pub all_front : {X : Type 0} (P : X → Type 0) (xs ys : List X) → AllByRecursion P (xs ++ ys) → AllByRecursion P xs
all_front P [] ys h = tt
all_front P (x ∷ xs) ys h = (h.0, all_front P xs ys h.1)

pub all_back : {X : Type 0} (P : X → Type 0) (xs ys : List X) → AllByRecursion P (xs ++ ys) → AllByRecursion P ys
all_back P [] ys h = h
all_back P (x ∷ xs) ys h = all_back P xs ys h.1

pub all_zip : {X : Type 0} (P Q : X → Type 0) (xs : List X) → AllByRecursion P xs → AllByRecursion Q xs → AllByRecursion (λ x. P x × Q x) xs
all_zip P Q [] h g = tt
all_zip P Q (x ∷ xs) h g = ((h.0, g.0), all_zip P Q xs h.1 g.1)

-- two fetches that don't differ
differs_no : (f g : Fetch) → differs f g ≡ false → IsOneType f g
differs_no f g e n a b =
    let at : differs_at (Some n) (Some n) f g ≡ false = ap (λ o. differs_at o (Some n) f g) (sym a) ∙ ap (λ o. differs_at f.number o f g) (sym b) ∙ e in
    same_type f.wanted g.wanted (same n (number_of_type f.wanted) (number_of_type g.wanted) at) where
      same : (n a b : ℕ) → (n == n && not (a == b)) ≡ false → a ≡ b
      same n a b e = grind (arith, nat_tests)

differs_not : (f g : Fetch) → IsOneType f g → differs f g ≡ false
differs_not f g h = go f.number g.number refl refl where
  same : (n m a b : ℕ) → (n ≡ m → a ≡ b) → (n == m && not (a == b)) ≡ false
  same n m a b h = grind (arith, nat_tests, h)

  go : (a b : Option ℕ) → f.number ≡ a → g.number ≡ b → differs_at a b f g ≡ false
  go (Some n) (Some m) x y = same n m (number_of_type f.wanted) (number_of_type g.wanted) (λ e. ap number_of_type (h n x (y ∙ ap Some (sym e))))
  go (Some n) None x y = refl
  go None b x y = refl

turned : (f g : Fetch) → IsOneType f g → IsOneType g f
turned f g h n a b = sym (h n b a)

pub conflicts_no : (seen : List Fetch) (f : Fetch) → conflicts seen f ≡ false → AllByRecursion (IsOneType f) seen
conflicts_no [] f e = tt
conflicts_no (g ∷ seen) f e =
    let parts = or_parts (differs g f) (conflicts seen f) e in (turned g f (differs_no g f parts.0), conflicts_no seen f parts.1)

pub conflicts_not : (seen : List Fetch) (f : Fetch) → AllByRecursion (IsOneType f) seen → conflicts seen f ≡ false
conflicts_not [] f h = refl
conflicts_not (g ∷ seen) f h = let one = differs_not g f (turned f g h.0) in rw one (conflicts_not seen f h.1)

-- the numbering of what was fetched stays
pub numbering_push : (seen : List Fetch) (f : Fetch) → Follows (numbering_of seen) (Some (numbering_by f.number))
    → numbering_of (seen ++ f ∷ []) ≡ numbering_by f.number
numbering_push [] f h = refl
numbering_push (g ∷ seen) f h = grind arith

own_type : (f : Fetch) → IsOneType f f
own_type f n a b = refl

pub one_type_push : (seen : List Fetch) (f : Fetch) → AllByRecursion (λ g. AllByRecursion (IsOneType g) seen) seen → AllByRecursion (IsOneType f) seen
    → AllByRecursion (λ g. AllByRecursion (IsOneType g) (seen ++ f ∷ [])) (seen ++ f ∷ [])
one_type_push seen f same clear =
    all_push (λ g. AllByRecursion (IsOneType g) (seen ++ f ∷ [])) seen f
    (all_map (λ g. AllByRecursion (IsOneType g) seen × IsOneType f g) _ seen (λ g p. all_push (IsOneType g) seen f p.0 (turned f g p.1))
    (all_zip _ _ seen same clear))
    (all_push (IsOneType f) seen f clear (own_type f))

pub agreed_push : (seen : List Fetch) (f : Fetch) → AreAgreed seen → Follows (numbering_of seen) (Some (numbering_by f.number)) → conflicts seen f ≡ false
    → AreAgreed (seen ++ f ∷ [])
agreed_push seen f h follows e =
    let clear = conflicts_no seen f e in
    record {
      one_numbering = all_push (λ g. numbering_by g.number ≡ numbering_of (seen ++ f ∷ [])) seen f (numberings seen h.one_numbering follows)
          (sym (numbering_push seen f follows));
      one_type = one_type_push seen f h.one_type clear;
    } where
      numberings : (seen : List Fetch) → AllByRecursion (λ g. numbering_by g.number ≡ numbering_of seen) seen
          → Follows (numbering_of seen) (Some (numbering_by f.number))
          → AllByRecursion (λ g. numbering_by g.number ≡ numbering_of (seen ++ f ∷ [])) seen
      numberings [] h follows = tt
      numberings (g ∷ seen) h follows = h

-- lists that agree after a common front agree without it
one_front : (seen more : List Fetch) → AllByRecursion (λ g. numbering_by g.number ≡ numbering_of (seen ++ more)) (seen ++ more)
    → AllByRecursion (λ g. numbering_by g.number ≡ numbering_of seen) seen
one_front [] more h = tt
one_front (g ∷ seen) more h = all_front _ (g ∷ seen) more h

pub agreed_front : (seen more : List Fetch) → AreAgreed (seen ++ more) → AreAgreed seen
agreed_front seen more h =
    record {
      one_numbering = one_front seen more h.one_numbering;
      one_type = all_map _ _ seen (λ g p. all_front (IsOneType g) seen more p) (all_front _ seen more h.one_type);
    }

pub agreed_follows : (seen more : List Fetch) (f : Fetch) → AreAgreed (seen ++ (f ∷ more)) → Follows (numbering_of seen) (Some (numbering_by f.number))
agreed_follows [] more f h = inl refl
agreed_follows (g ∷ seen) more f h = inr (sym (all_back (λ x. numbering_by x.number ≡ numbering_by g.number) seen (f ∷ more) h.one_numbering.1).0)

pub agreed_clear : (seen more : List Fetch) (f : Fetch) → AreAgreed (seen ++ (f ∷ more)) → conflicts seen f ≡ false
agreed_clear seen more f h = conflicts_not seen f (all_front (IsOneType f) seen (f ∷ more)
    (all_back (λ g. AllByRecursion (IsOneType g) (seen ++ (f ∷ more))) seen (f ∷ more) h.one_type).0)

pub agreed_none : AreAgreed []
agreed_none = record { one_numbering = tt; one_type = tt }

abbrev type_place : WholeArgType → ℕ
type_place type = number_of_type type - 1

pub each_type : HasEachOnce all_types
each_type (Profile Int) = once type_place all_types (Profile Int) refl refl
each_type (Profile type) = once type_place all_types (Profile type) refl refl
each_type Double = once type_place all_types Double refl refl
each_type type = once type_place all_types type refl refl

module _ (place : ℕ) where
  wanted_cases : (f : Fetch) (fs : List Fetch) → ((f.number ≡ Some (place + 1)) × (wanted_at place (f ∷ fs) ≡ Some f.wanted))
      ⊎ ((f.number ≢ Some (place + 1)) × (wanted_at place (f ∷ fs) ≡ wanted_at place fs))
  wanted_cases f fs = go (is_number f.number (place + 1)) refl where
    yes_number : (o : Option ℕ) (n : ℕ) → is_number o n ≡ true → o ≡ Some n
    yes_number o n e = grind (arith, nat_tests)

    no_number : (o : Option ℕ) (n : ℕ) → is_number o n ≡ false → o ≢ Some n
    no_number o n e g = grind (arith, nat_tests)

    go : (b : Bool) → is_number f.number (place + 1) ≡ b → ((f.number ≡ Some (place + 1)) × (wanted_at place (f ∷ fs) ≡ Some f.wanted))
        ⊎ ((f.number ≢ Some (place + 1)) × (wanted_at place (f ∷ fs) ≡ wanted_at place fs))
    go true e = inl (yes_number f.number (place + 1) e, rw e refl)
    go false e = inr (no_number f.number (place + 1) e, rw e refl)

  -- an argument is fetched if and only if it has a first fetch
  pub fetched_some : (fs : List Fetch) (type : WholeArgType) → wanted_at place fs ≡ Some type → IsFetched place fs
  fetched_some [] type e = cc
  fetched_some (f ∷ fs) type e = elim (wanted_cases f fs) [
    | inl here ↦ inl here.0
    | inr later ↦ inr (fetched_some fs type (sym later.1 ∙ e))
  ]

  pub fetched_none : (fs : List Fetch) → wanted_at place fs ≡ None → ¬ IsFetched place fs
  fetched_none [] e h = h
  fetched_none (f ∷ fs) e h = elim (wanted_cases f fs) [
    | inl here ↦ let no : Some f.wanted ≡ None = sym here.1 ∙ e in cc
    | inr later ↦ elim h [ inl one ↦ later.0 one | inr more ↦ fetched_none fs (sym later.1 ∙ e) more ]
  ]

  -- the first fetch has the type of all
  pub wanted_one : (fs : List Fetch) (g : Fetch) → AllByRecursion (IsOneType g) fs → g.number ≡ Some (place + 1) → (type : WholeArgType)
      → wanted_at place fs ≡ Some type → type ≡ g.wanted
  wanted_one [] g h n type e = cc
  wanted_one (f ∷ fs) g h n type e = elim (wanted_cases f fs) [
    | inl here ↦ let same : Some f.wanted ≡ Some type = sym here.1 ∙ e in let wanted : f.wanted ≡ type = cc in sym (h.0 (place + 1) n here.0 ∙ wanted)
    | inr later ↦ wanted_one fs g h.1 n type (sym later.1 ∙ e)
  ]

-- each place below is fetched, or one isn't
pub all_or_gap : (fs : List Fetch) (m : ℕ) → ((p : ℕ) → p < m → IsFetched p fs) ⊎ ((p : ℕ) × (p < m) × ¬ IsFetched p fs)
all_or_gap fs zero = inl (λ p less. absurd (omega arith))
all_or_gap fs (suc m) = go (all_or_gap fs m) (wanted_at m fs) refl where
  last : IsFetched m fs → ((p : ℕ) → p < m → IsFetched p fs) → (p : ℕ) → p < suc m → IsFetched p fs
  last h all p less = elim (cases_eq p m) [
    | inl e ↦ subst (λ k. IsFetched k fs) (sym e) h
    | inr e ↦ all p (omega arith)
  ]

  go : (((p : ℕ) → p < m → IsFetched p fs) ⊎ ((p : ℕ) × (p < m) × ¬ IsFetched p fs)) → (o : Option WholeArgType) → wanted_at m fs ≡ o
      → ((p : ℕ) → p < suc m → IsFetched p fs) ⊎ ((p : ℕ) × (p < suc m) × ¬ IsFetched p fs)
  go (inr gap) o e = inr (gap.0, omega (arith, gap.1), gap.2)
  go (inl all) None e = inr (m, omega arith, fetched_none m fs e)
  go (inl all) (Some type) e = inl (last (fetched_some m fs type e) all)

pub length_listed : (fs : List Fetch) (place n : ℕ) → length (listed fs place n) ≡ n
length_listed fs place zero = refl
length_listed fs place (suc n) = ap suc (length_listed fs (place + 1) n)

pub get_listed : (fs : List Fetch) (place n k : ℕ) → k < n → slice_get (listed fs place n) k ≡ Some (unwrap_or (wanted_at (place + k) fs) int_type)
get_listed fs place zero k less = absurd (omega arith)
get_listed fs place (suc n) zero less = let same : place ≡ place + 0 = omega arith in ap (λ p. Some (unwrap_or (wanted_at p fs) int_type)) same
get_listed fs place (suc n) (suc k) less =
    let same : place + 1 + k ≡ place + suc k = omega arith in
    get_listed fs (place + 1) n k (omega arith) ∙ ap (λ p. Some (unwrap_or (wanted_at p fs) int_type)) same

-- each number is at most the highest, and that is one of them
below_greatest : (fs : List Fetch) (m : ℕ) → greatest fs ≤ m → AllByRecursion (λ f. (n : ℕ) → f.number ≡ Some n → n ≤ m) fs
below_greatest [] m few = tt
below_greatest (f ∷ fs) m few = ((λ n e. own f.number n e (omega arith)), below_greatest fs m (omega arith)) where
  own : (o : Option ℕ) (n : ℕ) → o ≡ Some n → unwrap_or o 0 ≤ m → n ≤ m
  own o n e few = subst (λ p. unwrap_or p 0 ≤ m) e few

greatest_fetched : (fs : List Fetch) (place : ℕ) → greatest fs ≡ place + 1 → IsFetched place fs
greatest_fetched [] place e = absurd (omega arith)
greatest_fetched (f ∷ fs) place e = elim (cases_lt (greatest fs) (unwrap_or f.number 0)) [
  | inl more ↦ inl (own f.number (omega arith))
  | inr less ↦ inr (greatest_fetched fs place (omega arith))
] where
  own : (o : Option ℕ) → unwrap_or o 0 ≡ place + 1 → o ≡ Some (place + 1)
  own o e = grind arith

-- and a gap is below the highest
pub gap_is : (fs : List Fetch) (p : ℕ) → p < greatest fs → ¬ IsFetched p fs → HasGap fs
gap_is fs p less none =
    let last = greatest_fetched fs (greatest fs - 1) (omega (arith, less)) in
    let other : p ≢ greatest fs - 1 = λ e. none (subst (λ k. IsFetched k fs) (sym e) last) in
    (p, greatest fs - 1, omega (arith, less, other), last, none)

module _ (fs : List Fetch) (agreed : AreAgreed fs) (within : AllByRecursion IsWithin fs) where
  -- of numbered arguments
  module _ (numbered : AllByRecursion (λ f. numbering_by f.number ≡ Numbered) fs) (all : (p : ℕ) → p < greatest fs → IsFetched p fs) where
    one : (f : Fetch) → AllByRecursion (IsOneType f) fs → numbering_by f.number ≡ Numbered → IsWithin f → ((n : ℕ) → f.number ≡ Some n → n ≤ greatest fs)
        → HasTypeIn (listed fs 0 (greatest fs)) f
    one f same s w few = go f.number refl s where
      by_wanted : (place : ℕ) (o : Option WholeArgType) → wanted_at place fs ≡ o → f.number ≡ Some (place + 1) → IsFetched place fs
          → unwrap_or o int_type ≡ f.wanted
      by_wanted place None e n h = absurd (fetched_none place fs e h)
      by_wanted place (Some type) e n h = wanted_one place fs f same n type e

      go : (o : Option ℕ) → f.number ≡ o → numbering_by o ≡ Numbered → HasTypeIn (listed fs 0 (greatest fs)) f
      go None e s = cc
      go (Some n) e s =
          let some = (w n e).0 in
          let less = few n e in
          let at : n ≡ n - 1 + 1 = omega (arith, some) in
          let there : n - 1 < greatest fs = omega (arith, some, less) in
          let own = e ∙ ap Some at in
          let zero_plus : 0 + (n - 1) ≡ n - 1 = omega arith in (
            n - 1,
            own,
            get_listed fs 0 (greatest fs) (n - 1) there ∙ ap (λ p. Some (unwrap_or (wanted_at p fs) int_type)) zero_plus
                ∙ ap Some (by_wanted (n - 1) _ refl own (all (n - 1) there)),
          )

    pub numbered_types : AreNumbered fs (listed fs 0 (greatest fs))
    numbered_types =
        record {
          each = all_map _ _ fs (λ f p. one f p.0 p.1.0 p.1.1.0 p.1.1.1)
              (all_zip _ _ fs agreed.one_type (all_zip _ _ fs numbered (all_zip _ _ fs within (below_greatest fs (greatest fs) (omega arith)))));
          all = λ place less. all place (omega (arith, less, length_listed fs 0 (greatest fs)));
        }

  in_order : AllByRecursion (λ f. numbering_by f.number ≡ Unnumbered) fs → AreInOrder fs (wanted_types fs)
  in_order h = record { unnumbered = all_map _ _ fs (λ f e. grind arith) h; types_are = refl }

pub types_or_gap : (fs : List Fetch) → AreAgreed fs → AllByRecursion IsWithin fs → ((types : List WholeArgType) × HaveTypes fs types) ⊎ HasGap fs
types_or_gap [] agreed within = inl ([], inl (record { unnumbered = tt; types_are = refl }))
types_or_gap (f ∷ fs) agreed within = go f.number refl where
  by_number : AllByRecursion (λ g. numbering_by g.number ≡ Numbered) (f ∷ fs) → ((types : List WholeArgType) × HaveTypes (f ∷ fs) types) ⊎ HasGap (f ∷ fs)
  by_number numbered = elim (all_or_gap (f ∷ fs) (greatest (f ∷ fs))) [
    | inl every ↦ inl (listed (f ∷ fs) 0 (greatest (f ∷ fs)), inr (numbered_types (f ∷ fs) agreed within numbered every))
    | inr gap ↦ inr (gap_is (f ∷ fs) gap.0 gap.1 gap.2)
  ]

  go : (o : Option ℕ) → f.number ≡ o → ((types : List WholeArgType) × HaveTypes (f ∷ fs) types) ⊎ HasGap (f ∷ fs)
  go None e = inl (wanted_types (f ∷ fs), inl (in_order (f ∷ fs) agreed within (all_map _ _ (f ∷ fs) (λ g s. s ∙ ap numbering_by e) agreed.one_numbering)))
  go (Some n) e = by_number (all_map _ _ (f ∷ fs) (λ g s. s ∙ ap numbering_by e) agreed.one_numbering)

-- all arguments are fetched, as the types show
pub no_gap : (fs : List Fetch) (types : List WholeArgType) → HaveTypes fs types → ¬ HasGap fs
no_gap fs types (inl h) g = none fs h.unnumbered g.1 g.3 where
  none : (fs : List Fetch) → AllByRecursion (λ f. f.number ≡ None) fs → (place : ℕ) → IsFetched place fs → ⊥
  none [] h place g = g
  none (f ∷ fs) h place (inl e) = let no = h.0 in cc
  none (f ∷ fs) h place (inr e) = none fs h.1 place e
no_gap fs types (inr h) g = g.4 (h.all g.0 (omega (arith, g.2, there fs h.each g.1 g.3))) where
  there : (gs : List Fetch) → AllByRecursion (HasTypeIn types) gs → (place : ℕ) → IsFetched place gs → place < length types
  there [] h place g = absurd g
  there (f ∷ fs) h place (inl e) = let same : Some (h.0.0 + 1) ≡ Some (place + 1) = sym h.0.1
      ∙ e in let at : h.0.0 + 1 ≡ place + 1 = cc in omega (arith, at, slice_get_within types h.0.0 f.wanted h.0.2)
  there (f ∷ fs) h place (inr e) = there fs h.1 place e
