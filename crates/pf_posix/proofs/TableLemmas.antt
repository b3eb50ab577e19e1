-- A table of numbered arguments.
use Rattle.std.proofs.Common.{◌≡◌, ◌≢◌, ℕ, zero, suc, ◌+◌, ◌<◌, max, Bool, true, false, List, [], ◌∷◌, ◌++◌, length, get_or, set, refl, sym, ap, ◌∙◌, arith, inl}
use Rattle.std.proofs.Common.{inr, subst}
use Rattle.std.specs.Prelude.{Option, Some, None, ◌⊎◌, unwrap_or, slice_index_or, if◌then◌else◌, ◌==◌, MatchBool, is_some}
use Rattle.std.specs.List.{AllByRecursion}
use Rattle.std.proofs.lemmas.Bool.{cases_eq, eqb-false, eqb-true, ne_eqb}
use Rattle.std.proofs.lemmas.Bool.Decides.{nat_tests}
use Rattle.std.proofs.lemmas.List.{get_or-set_other, get_or-set_same, length-set}
use Rattle.pf_posix.specs.declared.fetches.Fetch.{Fetch}
use Rattle.pf_posix.specs.declared.numbered.Table.{Table}
use Rattle.pf_posix.specs.declared.numbered.TheConstants.{ROOM}
use Rattle.pf_posix.specs.declared.types.WholeArgType.{WholeArgType}
use Rattle.pf_posix.specs.Types.{int_type, IsFetched, fetch}
use Rattle.pf_posix.specs.TypeNumbers.{number_of_type}
use Rattle.pf_posix.specs.Readings.{conflicts, greatest, is_number, listed, wanted_at}
use Rattle.pf_posix.specs.Refusals.{HasGap, IsOneType}
use Rattle.pf_posix.specs.Tables.{TableHolds}
use Rattle.pf_posix.proofs.Agreeing.{all_map, conflicts_no, conflicts_not, one_type_push, same_type, fetched_none, fetched_some, gap_is, length_listed, wanted_one}

-- the type of the first fetch, or else of one more
abbrev first_of : Option WholeArgType → Option WholeArgType → Option WholeArgType
first_of (Some type) o = Some type
first_of None o = o

wanted_push : (index : ℕ) (seen : List Fetch) (f : Fetch)
    → wanted_at index (seen ++ f ∷ []) ≡ first_of (wanted_at index seen) (if is_number f.number (index + 1) then Some f.wanted else None)
wanted_push index [] f = refl
wanted_push index (g ∷ seen) f = let rest = wanted_push index seen f in grind (arith, rest)

greatest_push : (seen : List Fetch) (f : Fetch) → greatest (seen ++ f ∷ []) ≡ max (greatest seen) (unwrap_or f.number 0)
greatest_push [] f = omega arith
greatest_push (g ∷ seen) f = let rest = greatest_push seen f in omega (arith, rest)

-- what wasn't fetched doesn't conflict
none_same : (index : ℕ) (seen : List Fetch) (f : Fetch) → f.number ≡ Some (index + 1) → ¬ IsFetched index seen → AllByRecursion (IsOneType f) seen
none_same index [] f n none = tt
none_same index (g ∷ seen) f n none = (
  (λ m a b. let same : Some m ≡ Some (index + 1) = sym a ∙ n in absurd (none (inl (b ∙ same)))),
  none_same index seen f n (λ h. none (inr h)),
)

module _ (table : Table) (seen : List Fetch) (h : TableHolds table seen) (index : ℕ) (wanted : WholeArgType) (room : index < ROOM) where
  abbrev f : Fetch
  f = fetch (Some (index + 1)) wanted

  -- the other indices keep their types
  wanted_other : (p : ℕ) → p ≢ index → wanted_at p seen ≡ wanted_at p (seen ++ f ∷ [])
  wanted_other p q =
      let other = ne_eqb (index + 1) (p + 1) (λ same. q (omega (arith, same))) in
      sym (wanted_push p seen f ∙ ap (λ b. first_of (wanted_at p seen) (if b then Some wanted else None)) other ∙ grind arith)

  -- the argument has this type, and no other
  kept : (types : List (Option WholeArgType)) → AllByRecursion (IsOneType f) seen → length types ≡ ROOM
      → ((p : ℕ) → p < ROOM → slice_index_or types p None ≡ wanted_at p (seen ++ f ∷ []))
      → (conflicts seen f ≡ false) × TableHolds (record { types = types; count = max table.count (index + 1) }) (seen ++ f ∷ [])
  kept types clear full each = (
    conflicts_not seen f clear,
    record {
      full = full;
      types = each;
      count = omega (arith, h.count, greatest_push seen f);
      room = omega (arith, h.room, room);
      one_type = one_type_push seen f h.one_type clear;
    },
  )

  kept_again : wanted_at index seen ≡ Some wanted
      → (conflicts seen f ≡ false) × TableHolds (record table { count = max table.count (index + 1) }) (seen ++ f ∷ [])
  kept_again e = kept table.types clear h.full (λ p less. h.types p less ∙ at p (cases_eq p index)) where
    clear : AllByRecursion (IsOneType f) seen
    clear = all_map _ _ seen (λ g one m a b. let same : Some m ≡ Some (index + 1) = sym a in wanted_one index seen g one (b ∙ same) wanted e) h.one_type

    at : (p : ℕ) → ((p ≡ index) ⊎ (p ≢ index)) → wanted_at p seen ≡ wanted_at p (seen ++ f ∷ [])
    at p (inl q) =
        let here : wanted_at p seen ≡ Some wanted = ap (λ k. wanted_at k seen) q ∙ e in
        here ∙ sym (wanted_push p seen f ∙ ap (λ o. first_of o (if is_number f.number (p + 1) then Some wanted else None)) here)
    at p (inr q) = wanted_other p q

  -- it has none yet
  pub kept_new : wanted_at index seen ≡ None
      → (conflicts seen f ≡ false) × TableHolds (record { types = set table.types index (Some wanted); count = max table.count (index + 1) }) (seen ++ f ∷ [])
  kept_new e =
      kept (set table.types index (Some wanted)) (none_same index seen f refl (fetched_none index seen e)) (length-set table.types index (Some wanted) ∙ h.full)
      (λ p less. at p less (cases_eq p index)) where
        at : (p : ℕ) → p < ROOM → ((p ≡ index) ⊎ (p ≢ index)) → get_or (set table.types index (Some wanted)) p None ≡ wanted_at p (seen ++ f ∷ [])
        at p less (inl q) =
            let yes : is_number (Some (index + 1)) (index + 1) ≡ true = grind (arith, nat_tests) in
            ap (λ k. get_or (set table.types index (Some wanted)) k None) q ∙ get_or-set_same table.types index (Some wanted) None (omega (arith, h.full, room))
            ∙ sym (ap (λ k. wanted_at k (seen ++ f ∷ [])) q ∙ wanted_push index seen f ∙ rw (e, yes) refl)
        at p less (inr q) = get_or-set_other table.types index p (Some wanted) None q ∙ h.types p less ∙ wanted_other p q

  -- an argument that is there with a type, which may be another one
  pub told_some : (there : WholeArgType) (a b : ℕ) → get_or table.types index None ≡ Some there → a ≡ number_of_type there → b ≡ number_of_type wanted
      → MatchBool (a == b) ((conflicts seen f ≡ false) × TableHolds (record table { count = max table.count (index + 1) }) (seen ++ f ∷ []))
      (conflicts seen f ≡ true)
  told_some there a b e x y = go (a == b) refl (conflicts seen f) refl where
    here : wanted_at index seen ≡ Some there
    here = sym (h.types index room) ∙ e

    go : (c : Bool) → (a == b) ≡ c → (d : Bool) → conflicts seen f ≡ d → MatchBool c ((conflicts seen f ≡ false)
        × TableHolds (record table { count = max table.count (index + 1) }) (seen ++ f ∷ [])) (conflicts seen f ≡ true)
    go true c d k = kept_again (here ∙ ap Some (same_type there wanted (sym x ∙ eqb-true a b c ∙ y)))
    go false c true k = k
    go false c false k =
        let same : there ≡ wanted = wanted_one index seen f (conflicts_no seen f k) refl there here in
        absurd (eqb-false a b c (x ∙ ap number_of_type same ∙ sym y))

pub listed_push : (seen : List Fetch) (from n : ℕ) → listed seen from (suc n) ≡ listed seen from n ++ unwrap_or (wanted_at (from + n) seen) int_type ∷ []
listed_push seen from zero = let same : from ≡ from + 0 = omega arith in ap (λ k. unwrap_or (wanted_at k seen) int_type ∷ []) same
listed_push seen from (suc n) =
    let same : from + 1 + n ≡ from + suc n = omega arith in
    ap (λ l. unwrap_or (wanted_at from seen) int_type ∷ l) (listed_push seen (from + 1) n
    ∙ ap (λ k. listed seen (from + 1) n ++ unwrap_or (wanted_at k seen) int_type ∷ []) same)

pub listed_more : (table : Table) (seen : List Fetch) (index : ℕ) → TableHolds table seen → index < ROOM
    → listed seen 0 index ++ unwrap_or (get_or table.types index None) int_type ∷ [] ≡ listed seen 0 (index + 1)
listed_more table seen index h less =
    let next : suc index ≡ index + 1 = omega arith in
    let same : 0 + index ≡ index = omega arith in
    ap (λ o. listed seen 0 index ++ unwrap_or o int_type ∷ []) (h.types index less)
    ∙ ap (λ k. listed seen 0 index ++ unwrap_or (wanted_at k seen) int_type ∷ []) (sym same) ∙ sym (listed_push seen 0 index) ∙ ap (listed seen 0) next

pub length_of_listed : (seen : List Fetch) (index : ℕ) → index ≡ length (listed seen 0 index)
length_of_listed seen index = sym (length_listed seen 0 index)

-- an index that is empty, and one that isn't
module _ (table : Table) (seen : List Fetch) (h : TableHolds table seen) (index : ℕ) (room : index < ROOM) where
  at_index : get_or table.types index None ≡ wanted_at index seen
  at_index = h.types index room

  pub none_there : index < table.count → is_some (get_or table.types index None) ≡ false → HasGap seen
  none_there less e = gap_is seen index (omega (arith, less, h.count)) (fetched_none index seen (grind (arith, at_index, e)))

  pub one_more : ((p : ℕ) → p < index → IsFetched p seen) → is_some (get_or table.types index None) ≡ true → (p : ℕ) → p < index + 1 → IsFetched p seen
  one_more all some p less = elim (cases_eq p index) [
    | inl e ↦ subst (λ k. IsFetched k seen) (sym e) (here (wanted_at index seen) refl)
    | inr e ↦ all p (omega arith)
  ] where
    here : (o : Option WholeArgType) → wanted_at index seen ≡ o → IsFetched index seen
    here None e = let no : is_some (get_or table.types index None) ≡ false = ap is_some (at_index ∙ e) in cc
    here (Some type) e = fetched_some index seen type e
