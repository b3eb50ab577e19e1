-- Where two lists of types differ, or one has a type that the other doesn't have. Slices hold their first types, or they are
-- given one after another.
use Rattle.std.proofs.Common.{◌≡◌, ◌≢◌, ℕ, zero, suc, ◌+◌, ◌<◌, ◌≤◌, min, List, [], ◌∷◌, length, get_or, refl, sym, ap, ◌∙◌, arith, subst, inl, inr, ◌++◌, drop}
use Rattle.std.proofs.Common.{length-append, ap₂}
use Rattle.std.specs.Prelude.{Option, Some, None, ◌⊎◌, slice_get}
use Rattle.std.proofs.lemmas.Bool.{cases_eq, cases_lt}
use Rattle.std.proofs.lemmas.List.{nil_from_length, ext_get_or, append_assoc, drop_all, length_push, append-nil, length-append}
use Rattle.std.proofs.lemmas.Option.{slice_get-get_or, slice_get_past}
use Rattle.std.specs.List.{AllByRecursion}
use Rattle.pf_values.specs.declared.models.Model.{Model}
use Rattle.pf_values.specs.meaning.Text.{Text}
use Rattle.pf_posix.specs.declared.numbered.TheConstants.{ROOM}
use Rattle.pf_posix.specs.declared.types.WholeArgType.{WholeArgType}
use Rattle.pf_posix.specs.declared.comparison.TypeComparison.{TypeComparison}
use Rattle.pf_posix.specs.Items.{HasArguments, WholeItem, ReadsWhole, fetched}
use Rattle.pf_posix.specs.Types.{int_type, HaveTypes, IsFetched}
use Rattle.pf_posix.specs.TypeNumbers.{number_of_type}
use Rattle.pf_posix.specs.Laws.{ComparesArgumentTypes, HasCount, IsFirstDifference, filled, ComparesBeginning, IsFirstExcess}
use Rattle.pf_posix.specs.ListComparisons.{AreCounted, AreFew, IsListComparison, HasLeft, ints_up_to}
use Rattle.pf_posix.specs.declared.fetches.Fetch.{Fetch}
use Rattle.pf_posix.specs.declared.types_in_order.TypesInOrder.{TypesInOrder}
use Rattle.pf_posix.specs.Readings.{wanted_types}
use Rattle.pf_posix.proofs.Bounds.{IsWithin, items_within}
use Rattle.pf_posix.proofs.Agreeing.{same_type}
use Rattle.pf_posix.proofs.ListLemmas.{length_filled}
use Rattle.pf_posix.proofs.Unique.{one_list}
use Rattle.pf_posix.proofs.ItemsOnce.{items_once}

abbrev pub SameUpTo : List WholeArgType → List WholeArgType → ℕ → Type 0
SameUpTo a b n = (k : ℕ) → k < n → slice_get a k ≡ slice_get b k

get_filled : (start a : List WholeArgType) (k : ℕ) (d : WholeArgType) → k < length a → k < length start → get_or (filled start a) k d ≡ get_or a k d
get_filled [] a k d less few = absurd (omega arith)
get_filled (o ∷ start) [] k d less few = absurd (omega arith)
get_filled (o ∷ start) (t ∷ a) zero d less few = refl
get_filled (o ∷ start) (t ∷ a) (suc k) d less few = get_filled start a k d (omega (arith, less)) (omega (arith, few))

-- a place of a slice that holds the front of a list
pub at_place : (types start a : List WholeArgType) (k : ℕ) (d : WholeArgType) → types ≡ filled start a → k < length types → k < length a
    → slice_get a k ≡ Some (get_or types k d)
at_place types start a k d e room less =
    slice_get-get_or a k d less ∙ ap Some (sym (ap (λ l. get_or l k d) e
    ∙ get_filled start a k d less (omega (arith, room, ap length e, length_filled start a))))

pub same_more : (a b : List WholeArgType) (n : ℕ) → SameUpTo a b n → slice_get a n ≡ slice_get b n → SameUpTo a b (n + 1)
same_more a b n h e k less = elim (cases_eq k n) [
  | inl same ↦ subst (λ j. slice_get a j ≡ slice_get b j) (sym same) e
  | inr other ↦ h k (omega arith)
]

-- two lists that are the same as far as both go
pub same_lists : (a b : List WholeArgType) (n : ℕ) → SameUpTo a b n → length a ≡ n → length b ≡ n → a ≡ b
same_lists a b n h x y = ext_get_or int_type a b (x ∙ sym y) at where
  at : (i : ℕ) → i < length a → get_or a i int_type ≡ get_or b i int_type
  at i less =
      let both : Some (get_or a i int_type) ≡ Some (get_or b i int_type) = sym (slice_get-get_or a i int_type less) ∙ h i (omega (arith, less, x))
      ∙ slice_get-get_or b i int_type (omega (arith, less, x, y)) in cc

-- one is a front of the other
pub one_longer : (a b : List WholeArgType) (n : ℕ) → SameUpTo a b n → (length a ≢ length b) → n ≤ length a → n ≤ length b → ((length a ≤ n) ⊎ (length b ≤ n))
    → IsFirstDifference a b (Some n)
one_longer a b n h other x y (inl full) = (
  λ e. let no : None ≡ Some (get_or b n int_type) = sym (slice_get_past a n full) ∙ e
      ∙ slice_get-get_or b n int_type (omega (arith, x, y, full, other)) in cc,
  h,
)
one_longer a b n h other x y (inr full) = (
  λ e. let no : Some (get_or a n int_type) ≡ None = sym (slice_get-get_or a n int_type (omega (arith, x, y, full, other))) ∙ e
      ∙ slice_get_past b n full in cc,
  h,
)

-- what follows from the numbers of two types
module _ (types others start from a b : List WholeArgType) (k : ℕ) (c d : WholeArgType) (x y : ℕ) (e : types ≡ filled start a) (f : others ≡ filled from b)
    (room : k < length types) (room2 : k < length others) (less : k < length a) (less2 : k < length b)
    (p : x ≡ number_of_type (get_or types k c)) (q : y ≡ number_of_type (get_or others k d)) where
  at_a : slice_get a k ≡ Some (get_or types k c)
  at_a = at_place types start a k c e room less

  at_b : slice_get b k ≡ Some (get_or others k d)
  at_b = at_place others from b k d f room2 less2

  pub places_same : x ≡ y → slice_get a k ≡ slice_get b k
  places_same s = at_a ∙ ap Some (same_type _ _ (sym p ∙ s ∙ q)) ∙ sym at_b

  pub places_differ : x ≢ y → slice_get a k ≢ slice_get b k
  places_differ n s = let both : Some (get_or types k c) ≡ Some (get_or others k d) = sym at_a ∙ s
      ∙ at_b in let one : get_or types k c ≡ get_or others k d = cc in n (p ∙ ap number_of_type one ∙ sym q)

-- where one list is over
pub full : (room count second_count k m n : ℕ) → count ≡ m → second_count ≡ n → room ≤ k → ((m ≤ room) ⊎ (n ≤ room)) → (count ≤ k) ⊎ (second_count ≤ k)
full room count second_count k m n x y end h = grind arith

pub both_end : (count second_count k : ℕ) → count ≡ second_count → k ≤ count → k ≤ second_count → ((count ≤ k) ⊎ (second_count ≤ k))
    → (count ≡ k) × (second_count ≡ k)
both_end count second_count k e f g h = grind arith

pub over_lists : (count second_count k m n : ℕ) → count ≡ m → second_count ≡ n → ((count ≤ k) ⊎ (second_count ≤ k)) → (m ≤ k) ⊎ (n ≤ k)
over_lists count second_count k m n x y h = grind arith

-- what follows from the slices of two texts
module _ (model : Model) (first second : Text) (old new old2 new2 : List WholeArgType) (count second_count : ℕ) (result : Option ℕ)
    (h : HasCount model first old new count) (k : HasCount model second old2 new2 second_count)
    (f : (a b start from : List WholeArgType) → new ≡ filled start a → new2 ≡ filled from b → count ≡ length a → second_count ≡ length b
    → (length a ≤ length new) ⊎ (length b ≤ length new) → IsFirstDifference a b result) where
  pub compared : length new ≡ ROOM → AreFew model first second → ComparesArgumentTypes model first second result
  compared long few =
      record {
        types = h.types;
        others = k.types;
        first_accepted = h.accepted;
        second_accepted = k.accepted;
        difference = f h.types k.types old old2 h.front k.front h.count_is k.count_is (rw long (few h.types k.types h.accepted k.accepted));
      }

  -- and if one of the lists is short
  pub compared_few : (found : TypeComparison) → found.difference ≡ result → found.second_count ≡ second_count → min count second_count ≤ length new
      → IsListComparison model first second found
  compared_few found e n few =
      record {
        types = h.types;
        others = k.types;
        first_accepted = h.accepted;
        second_accepted = k.accepted;
        difference = rw e (f h.types k.types old old2 h.front k.front h.count_is k.count_is
            (one_short (length h.types) (length k.types) h.count_is k.count_is));
        count_is = n ∙ k.count_is;
      }
    where
      one_short : (m n : ℕ) → count ≡ m → second_count ≡ n → (m ≤ length new) ⊎ (n ≤ length new)
      one_short m n x y = elim (cases_lt (length new) m) [
        | inl long ↦ inr (omega (arith, x, y, long, few))
        | inr short ↦ inl short
      ]

-- one of two numbers of types is small
pub few_of_counts : (model : Model) (first second : Text) (count second_count : ℕ) → AreCounted model first second count second_count
    → min count second_count ≤ ROOM
    → AreFew model first second
few_of_counts model first second count second_count h few types others a b = elim (cases_lt ROOM (length types)) [
  | inl long ↦
      let one = h.count_is ∙ ap length (one_list model first h.types types h.first_accepted a) in
      let other = h.second_count_is ∙ ap length (one_list model second h.others others h.second_accepted b) in
      inr (omega (arith, long, one, other, few))
  | inr short ↦ inl short
]

pub counted : (model : Model) (first second : Text) (found : TypeComparison) (count : ℕ) → AreCounted model first second count found.second_count
    → ((types others : List WholeArgType) → HasArguments model first types → HasArguments model second others → IsFirstDifference types others found.difference)
    → IsListComparison model first second found
counted model first second found count h differ =
    record {
      types = h.types;
      others = h.others;
      first_accepted = h.first_accepted;
      second_accepted = h.second_accepted;
      difference = differ h.types h.others h.first_accepted h.second_accepted;
      count_is = h.second_count_is;
    }

-- or this is known already
pub counted_too : (model : Model) (first second : Text) (found : TypeComparison) (count : ℕ) → AreCounted model first second count found.second_count
    → ComparesArgumentTypes model first second found.difference → IsListComparison model first second found
counted_too model first second found count h k =
    record {
      types = k.types;
      others = k.others;
      first_accepted = k.first_accepted;
      second_accepted = k.second_accepted;
      difference = k.difference;
      count_is = h.second_count_is ∙ ap length (one_list model second h.others k.others h.second_accepted k.second_accepted);
    }

-- numbered arguments are few
fetched_few : (fs : List Fetch) (place : ℕ) → AllByRecursion IsWithin fs → IsFetched place fs → place < ROOM
fetched_few [] place h f = absurd f
fetched_few (g ∷ fs) place h (inl e) = let few = (h.0 (place + 1) e).1 in omega (arith, few)
fetched_few (g ∷ fs) place h (inr e) = fetched_few fs place h.1 e

-- so the types of many are those that are fetched, in order
pub many_left : (model : Model) (order : TypesInOrder) (types : List WholeArgType) → order.at ≡ 0 → order.left ≡ 0 → HasArguments model order.text.now types
    → ROOM < length types → HasLeft model order types
many_left model order types start none h many = go h.types_are where
  t : Text
  t = order.text.now

  go : HaveTypes (fetched model h.items) types → HasLeft model order types
  go (inl k) = record {
    within = omega (arith, start);
    items = h.items;
    reads = subst (λ n. ReadsWhole (drop n order.text.now) h.items) (sym start) h.reads;
    types_are = k.types_are ∙ ap (λ n. ints_up_to n order.last ++ wanted_types (fetched model h.items)) (sym none);
  }
  go (inr k) =
      let last = fetched_few (fetched model h.items) ROOM (items_within model order.text.now h.items h.reads) (k.all ROOM many) in
      absurd (omega (arith, last))

-- at the end there is nothing more
pub left_none : (model : Model) (order : TypesInOrder) (types : List WholeArgType) → HasLeft model order types → order.left ≡ 0
    → length order.text.now ≤ order.at
    → types ≡ []
left_none model order types h none over = go h.items h.reads h.types_are where
  go : (items : List WholeItem) → ReadsWhole (drop order.at order.text.now) items
      → types ≡ ints_up_to order.left order.last ++ wanted_types (fetched model items)
      → types ≡ []
  go [] reads e = e ∙ ap (λ n. ints_up_to n order.last ++ []) none
  go (item ∷ later) reads e = let no : item ∷ later ≡ [] = items_once _ (item ∷ later) [] reads (drop_all order.at order.text.now over) in cc

-- two texts of these types are compared up to an index
pub record AreComparedTo (model : Model) (first second : Text) (count second_count : ℕ) (one other : TypesInOrder) (index : ℕ) : Type 0 where
  pub counted : AreCounted model first second count second_count
  pub done : List WholeArgType
  pub left : List WholeArgType
  pub right : List WholeArgType
  pub first_is : counted.types ≡ done ++ left
  pub second_is : counted.others ≡ done ++ right
  pub first_left : HasLeft model one left
  pub second_left : HasLeft model other right
  pub index_is : index ≡ length done

-- lists that differ after a common front
differ_behind : (xs ys zs : List WholeArgType) → slice_get ys 0 ≢ slice_get zs 0 → IsFirstDifference (xs ++ ys) (xs ++ zs) (Some (length xs))
differ_behind [] ys zs other = (other, λ k less. absurd (omega arith))
differ_behind (x ∷ xs) ys zs other = let rest = differ_behind xs ys zs other in (rest.0, λ k less. at k less rest.1) where
  at : (k : ℕ) → k < suc (length xs) → ((k : ℕ) → k < length xs → slice_get (xs ++ ys) k ≡ slice_get (xs ++ zs) k)
      → slice_get (x ∷ xs ++ ys) k ≡ slice_get (x ∷ xs ++ zs) k
  at zero less rest = refl
  at (suc k) less rest = rest k (omega (arith, less))

module _ (model : Model) (first second : Text) (count second_count : ℕ) where
  pub compared_none : (one other : TypesInOrder) (h : AreCounted model first second count second_count) → HasLeft model one h.types
      → HasLeft model other h.others
      → AreComparedTo model first second count second_count one other 0
  compared_none one other h a b =
      record { counted = h; done = []; left = h.types; right = h.others; first_is = refl; second_is = refl; first_left = a; second_left = b; index_is = refl }

  module _ (one other : TypesInOrder) (index : ℕ) (h : AreComparedTo model first second count second_count one other index) where
    -- each text has one list of types
    told : (result : Option ℕ) → IsFirstDifference h.counted.types h.counted.others result → (types others : List WholeArgType) → HasArguments model first types
        → HasArguments model second others → IsFirstDifference types others result
    told result differ types others a b =
        subst (λ l. IsFirstDifference l others result) (one_list model first h.counted.types types h.counted.first_accepted a)
        (subst (λ l. IsFirstDifference h.counted.types l result) (one_list model second h.counted.others others h.counted.second_accepted b) differ)

    differs : slice_get h.left 0 ≢ slice_get h.right 0 → IsFirstDifference h.counted.types h.counted.others (Some index)
    differs apart =
        subst (λ n. IsFirstDifference h.counted.types h.counted.others (Some n)) (sym h.index_is)
        (subst (λ l. IsFirstDifference l h.counted.others (Some (length h.done))) (sym h.first_is)
        (subst (λ l. IsFirstDifference (h.done ++ h.left) l (Some (length h.done))) (sym h.second_is) (differ_behind h.done h.left h.right apart)))

    sizes : (count ≡ index + length h.left) × (second_count ≡ index + length h.right)
    sizes = (
      omega (arith, h.counted.count_is, ap length h.first_is, length-append h.done h.left, h.index_is),
      omega (arith, h.counted.second_count_is, ap length h.second_is, length-append h.done h.right, h.index_is),
    )

    -- after all types of the shorter list
    module _ (over : min count second_count ≤ index) where
      pub all_same : count ≡ second_count → (types others : List WholeArgType) → HasArguments model first types
          → HasArguments model second others → types ≡ others
      all_same e =
          let a : h.left ≡ [] = nil_from_length h.left (omega (arith, sizes, over, e)) in
          let b : h.right ≡ [] = nil_from_length h.right (omega (arith, sizes, over, e)) in
          told None (h.first_is ∙ ap (λ l. h.done ++ l) (a ∙ sym b) ∙ sym h.second_is)

      pub one_shorter : count ≢ second_count → (types others : List WholeArgType) → HasArguments model first types → HasArguments model second others
          → IsFirstDifference types others (Some index)
      one_shorter e = told (Some index) (differs (go h.left h.right sizes.0 sizes.1)) where
        go : (a b : List WholeArgType) → count ≡ index + length a → second_count ≡ index + length b → slice_get a 0 ≢ slice_get b 0
        go [] [] x y same = e (omega (arith, x, y))
        go [] (b ∷ r) x y same = cc
        go (a ∷ l) [] x y same = cc
        go (a ∷ l) (b ∷ r) x y same = omega (arith, x, y, over)

    -- the next types of both
    module _ (less : index < min count second_count) (next other_next : TypesInOrder) (a b : WholeArgType)
        (takes : (x : WholeArgType) (rest : List WholeArgType) → HasLeft model one (x ∷ rest) → (a ≡ x) × HasLeft model next rest)
        (other_takes : (x : WholeArgType) (rest : List WholeArgType) → HasLeft model other (x ∷ rest) → (b ≡ x) × HasLeft model other_next rest) where
      record Heads : Type 0 where
        rest : List WholeArgType
        other_rest : List WholeArgType
        left_is : h.left ≡ a ∷ rest
        right_is : h.right ≡ b ∷ other_rest
        rest_left : HasLeft model next rest
        other_left : HasLeft model other_next other_rest

      heads : Heads
      heads = go h.left h.right refl refl sizes.0 sizes.1 where
        go : (l r : List WholeArgType) → h.left ≡ l → h.right ≡ r → count ≡ index + length l → second_count ≡ index + length r → Heads
        go [] r e f x y = absurd (omega (arith, x, less))
        go (c ∷ l) [] e f x y = absurd (omega (arith, y, less))
        go (c ∷ l) (d ∷ r) e f x y =
            let p = takes c l (subst (HasLeft model one) e h.first_left) in
            let q = other_takes d r (subst (HasLeft model other) f h.second_left) in
            record {
              rest = l;
              other_rest = r;
              left_is = e ∙ ap (λ t. t ∷ l) (sym p.0);
              right_is = f ∙ ap (λ t. t ∷ r) (sym q.0);
              rest_left = p.1;
              other_left = q.1;
            }

      pub next_differ : number_of_type a ≢ number_of_type b → (types others : List WholeArgType) → HasArguments model first types
          → HasArguments model second others
          → IsFirstDifference types others (Some index)
      next_differ apart =
          let n = heads in
          told (Some index) (differs (λ same.
          let both : Some a ≡ Some b = sym (ap (λ l. slice_get l 0) n.left_is) ∙ same ∙ ap (λ l. slice_get l 0) n.right_is in
          let types_same : a ≡ b = cc in apart (ap number_of_type types_same)))

      pub next_same : number_of_type a ≡ number_of_type b → AreComparedTo model first second count second_count next other_next (index + 1)
      next_same e =
          let n = heads in
          let same = same_type a b e in
          let longer = length_push h.done a in
          record {
            counted = h.counted;
            done = h.done ++ a ∷ [];
            left = n.rest;
            right = n.other_rest;
            first_is = h.first_is ∙ ap (λ l. h.done ++ l) n.left_is ∙ sym (append_assoc h.done (a ∷ []) n.rest);
            second_is = h.second_is ∙ ap (λ l. h.done ++ l) (n.right_is ∙ ap (λ t. t ∷ n.other_rest) (sym same))
                ∙ sym (append_assoc h.done (a ∷ []) n.other_rest);
            first_left = n.rest_left;
            second_left = n.other_left;
            index_is = omega (arith, longer, h.index_is);
          }

-- a list that another has at each of its places is a beginning of that
pub beginning : (a b : List WholeArgType) → ((k : ℕ) → k < length b → slice_get a k ≡ slice_get b k) → (more : List WholeArgType) × (a ≡ b ++ more)
beginning a [] h = (a, refl)
beginning [] (y ∷ b) h = let none = h 0 (omega arith) in cc
beginning (x ∷ a) (y ∷ b) h =
    let rest = beginning a b (λ k less. h (suc k) (omega (arith, less))) in
    let first = h 0 (omega arith) in
    let same : x ≡ y = cc in
    (rest.0, ap₂ (λ z l. z ∷ l) same rest.1)

-- and so is one that ends where they differ first
pub ends_first : (a b : List WholeArgType) (index : ℕ) → IsFirstDifference a b (Some index) → length b ≤ index → IsFirstExcess a b None
ends_first a b index h over = beginning a b (λ k less. h.1 k (omega (arith, less, over)))

pub within_beginning : (a more : List WholeArgType) (k : ℕ) → k < length a → slice_get (a ++ more) k ≡ slice_get a k
within_beginning [] more k less = absurd (omega (arith, less))
within_beginning (x ∷ a) more zero less = refl
within_beginning (x ∷ a) more (suc k) less = within_beginning a more k (omega (arith, less))

-- two lists that are beginnings of each other
pub both_beginnings : (a b : List WholeArgType) → IsFirstExcess a b None → IsFirstExcess b a None → a ≡ b
both_beginnings a b (m, e) (n, f) =
    let none = nil_from_length m (omega (arith, ap length e, ap length f, length-append b m, length-append a n)) in
    e ∙ ap (λ l. b ++ l) none ∙ append-nil b

-- two lists differ first at one index, and nowhere if they are equal
pub one_difference : (a b : List WholeArgType) (index other : Option ℕ) → IsFirstDifference a b index → IsFirstDifference a b other → index ≡ other
one_difference a b None None h k = refl
one_difference a b None (Some j) h k = absurd (k.0 (ap (λ l. slice_get l j) h))
one_difference a b (Some i) None h k = absurd (h.0 (ap (λ l. slice_get l i) k))
one_difference a b (Some i) (Some j) h k = elim (cases_eq i j) [
  | inl same ↦ ap Some same
  | inr other ↦ elim (cases_lt i j) [
    | inl less ↦ absurd (h.0 (k.1 i less))
    | inr more ↦ absurd (k.0 (h.1 j (omega (arith, more, other))))
  ]
]

-- there is one such place
pub one_excess : (a b : List WholeArgType) (index other : Option ℕ) → IsFirstExcess a b index → IsFirstExcess a b other → index ≡ other
one_excess a b None None h k = refl
one_excess a b None (Some j) h k = absurd (k.1.0 (ap (λ l. slice_get l j) h.1 ∙ within_beginning b h.0 j k.0))
one_excess a b (Some i) None h k = absurd (h.1.0 (ap (λ l. slice_get l i) k.1 ∙ within_beginning b k.0 i h.0))
one_excess a b (Some i) (Some j) h k = one_difference a b (Some i) (Some j) h.1 k.1

pub fits_is_fewer : (model : Model) (t u : Text) → ComparesArgumentTypes model t u None → ComparesBeginning model t u None
fits_is_fewer model t u h =
    record {
      types = h.types;
      others = h.others;
      first_accepted = h.first_accepted;
      second_accepted = h.second_accepted;
      excess = ([], h.difference ∙ sym (append-nil h.others));
    }

pub fewer_both_ways : (model : Model) (t u : Text) → ComparesBeginning model t u None → ComparesBeginning model u t None → ComparesArgumentTypes model t u None
fewer_both_ways model t u h k =
    let first = one_list model t k.others h.types k.second_accepted h.first_accepted in
    let second = one_list model u k.types h.others k.first_accepted h.second_accepted in
    record {
      types = h.types;
      others = h.others;
      first_accepted = h.first_accepted;
      second_accepted = h.second_accepted;
      difference = both_beginnings h.types h.others h.excess (k.excess.0, sym second ∙ k.excess.1 ∙ ap (λ l. l ++ k.excess.0) first);
    }

pub fewer_once : (model : Model) (t u : Text) (index other : Option ℕ) → ComparesBeginning model t u index → ComparesBeginning model t u other → index ≡ other
fewer_once model t u index other h k =
    let first = one_list model t k.types h.types k.first_accepted h.first_accepted in
    let second = one_list model u k.others h.others k.second_accepted h.second_accepted in
    one_excess h.types h.others index other h.excess
    (subst (λ l. IsFirstExcess l h.others other) first (subst (λ l. IsFirstExcess k.types l other) second k.excess))

pub compares_once : (model : Model) (t u : Text) (index other : Option ℕ) → ComparesArgumentTypes model t u index → ComparesArgumentTypes model t u other
    → index ≡ other
compares_once model t u index other h k =
    let first = one_list model t k.types h.types k.first_accepted h.first_accepted in
    let second = one_list model u k.others h.others k.second_accepted h.second_accepted in
    one_difference h.types h.others index other h.difference
    (subst (λ l. IsFirstDifference l h.others other) first (subst (λ l. IsFirstDifference k.types l other) second k.difference))
