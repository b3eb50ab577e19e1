-- One pair of numbers of bytes, and what comes one after another.
use Rattle.std.proofs.Common.{◌≡◌, ℕ, ◌+◌, List, [], ◌∷◌, ◌++◌, length, refl, sym, ap, ◌∙◌, arith, subst}
use Rattle.std.specs.Prelude.{Option, Some, None}
use Rattle.std.proofs.lemmas.List.{length-append}
use Rattle.pf_values.specs.declared.models.Model.{Model}
use Rattle.pf_values.specs.meaning.Arguments.{Argument, HasTypes}
use Rattle.pf_values.specs.meaning.Items.{Item, types}
use Rattle.pf_values.specs.meaning.Text.{Text}
use Rattle.pf_values.proofs.ItemTypes.{types-append}
use Rattle.pf_text.proofs.Texts.{Reads-unique}
use Rattle.pf_render.proofs.PrintingLemmas.{HasTypes-split, PrintsAll-append, PrintsAll-split}
use Rattle.pf_bounds.specs.Bounds.{AreBounds, AreBoundsOf, IsGreatest, CanPrintAll, sum_of}

module _ (Printed : Text → Type 0) where
  one_greatest : (greatest more : Option ℕ) → IsGreatest Printed greatest → IsGreatest Printed more → greatest ≡ more
  one_greatest None None h k = refl
  one_greatest None (Some m) h k = let x = h m in absurd (omega (arith, k.0 x.0 x.1, x.2))
  one_greatest (Some n) None h k = let x = k n in absurd (omega (arith, h.0 x.0 x.1, x.2))
  one_greatest (Some n) (Some m) h k =
      let low = h.0 k.1.0 k.1.1 in
      let high = k.0 h.1.0 h.1.1 in
      ap Some (omega (arith, low, high, h.1.2, k.1.2))

  pub one_pair : (least fewer : ℕ) (greatest more : Option ℕ) → AreBoundsOf Printed least greatest → AreBoundsOf Printed fewer more
      → (least ≡ fewer) × (greatest ≡ more)
  one_pair least fewer greatest more h k =
      let low = h.at_least k.reached.0 k.reached.1 in
      let high = k.at_least h.reached.0 h.reached.1 in
      (omega (arith, low, high, h.reached.2, k.reached.2), one_greatest greatest more h.most k.most)

pub bounds_once : (model : Model) (t : Text) (least fewer : ℕ) (greatest more : Option ℕ) → AreBounds model t least greatest
    → AreBounds model t fewer more → (least ≡ fewer) × (greatest ≡ more)
bounds_once model t least fewer greatest more h k =
    let same = Reads-unique t k.items h.items k.accepted.reads h.accepted.reads in
    one_pair (CanPrintAll model h.items) least fewer greatest more h.bounds (subst (λ items. AreBoundsOf (CanPrintAll model items) fewer more) same k.bounds)

-- the same texts have the same numbers
pub of_same : (P Q : Text → Type 0) (least : ℕ) (greatest : Option ℕ) → ((out : Text) → P out → Q out) → ((out : Text) → Q out → P out)
    → AreBoundsOf P least greatest → AreBoundsOf Q least greatest
of_same P Q least greatest to from h =
    record {
      at_least = λ out q. h.at_least out (from out q);
      reached = (h.reached.0, to h.reached.0 h.reached.1, h.reached.2);
      most = go greatest h.most;
    } where
      go : (g : Option ℕ) → IsGreatest P g → IsGreatest Q g
      go None k = λ n. let x = k n in (x.0, to x.0 x.1, x.2)
      go (Some n) k = (λ out q. k.0 out (from out q), (k.1.0, to k.1.0 k.1.1, k.1.2))

-- what is one of some texts and then one of others
pub record IsJoined (P Q : Text → Type 0) (out : Text) : Type 0 where
  pub first : Text
  pub second : Text
  pub is_first : P first
  pub is_second : Q second
  pub whole : out ≡ first ++ second

joined_length : (P Q : Text → Type 0) (out : Text) (h : IsJoined P Q out) → length out ≡ length h.first + length h.second
joined_length P Q out h = ap length h.whole ∙ length-append h.first h.second

join : (P Q : Text → Type 0) (first second : Text) → P first → Q second → IsJoined P Q (first ++ second)
join P Q first second p q = record { first = first; second = second; is_first = p; is_second = q; whole = refl }

pub joined_bounds : (P Q : Text → Type 0) (least fewer : ℕ) (greatest more : Option ℕ) → AreBoundsOf P least greatest → AreBoundsOf Q fewer more
    → AreBoundsOf (IsJoined P Q) (least + fewer) (sum_of greatest more)
joined_bounds P Q least fewer greatest more h k =
    record {
      at_least = λ out j. omega (arith, joined_length P Q out j, h.at_least j.first j.is_first, k.at_least j.second j.is_second);
      reached = (
        h.reached.0 ++ k.reached.0,
        join P Q h.reached.0 k.reached.0 h.reached.1 k.reached.1,
        omega (arith, length-append h.reached.0 k.reached.0, h.reached.2, k.reached.2),
      );
      most = go greatest more h.most k.most;
    } where
      go : (greatest more : Option ℕ) → IsGreatest P greatest → IsGreatest Q more → IsGreatest (IsJoined P Q) (sum_of greatest more)
      go None more f g = λ n. let x = f n in
          (x.0 ++ k.reached.0, join P Q x.0 k.reached.0 x.1 k.reached.1, omega (arith, length-append x.0 k.reached.0, x.2))
      go (Some n) None f g = λ m. let x = g m in
          (h.reached.0 ++ x.0, join P Q h.reached.0 x.0 h.reached.1 x.1, omega (arith, length-append h.reached.0 x.0, x.2))
      go (Some n) (Some m) f g = (
        λ out j. omega (arith, joined_length P Q out j, f.0 j.first j.is_first, g.0 j.second j.is_second),
        (f.1.0 ++ g.1.0, join P Q f.1.0 g.1.0 f.1.1 g.1.1, omega (arith, length-append f.1.0 g.1.0, f.1.2, g.1.2)),
      )

module _ (model : Model) where
  typed_append : (xs ys : List Argument) (a b : List Item) → HasTypes model xs (types model a) → HasTypes model ys (types model b)
      → HasTypes model (xs ++ ys) (types model (a ++ b))
  typed_append xs ys a b h k = subst (HasTypes model (xs ++ ys)) (sym (types-append model a b)) (go xs (types model a) h) where
    go : (xs : List Argument) (ts : List _) → HasTypes model xs ts → HasTypes model (xs ++ ys) (ts ++ types model b)
    go [] [] f = k
    go [] (type ∷ ts) f = absurd f
    go (x ∷ xs) [] f = absurd f
    go (x ∷ xs) (type ∷ ts) f = (f.0, go xs ts f.1)

  to_joined : (a b : List Item) (out : Text) → CanPrintAll model (a ++ b) out → IsJoined (CanPrintAll model a) (CanPrintAll model b) out
  to_joined a b out h =
      let typed = HasTypes-split model (types model a) (types model b) h.args (subst (HasTypes model h.args) (types-append model a b) h.typed) in
      let split = PrintsAll-split model a b h.args out h.prints in
      record {
        first = split.0;
        second = split.1;
        is_first = record { args = _; typed = typed.0; prints = split.2 };
        is_second = record { args = _; typed = typed.1; prints = split.3 };
        whole = split.4;
      }

  from_joined : (a b : List Item) (out : Text) → IsJoined (CanPrintAll model a) (CanPrintAll model b) out → CanPrintAll model (a ++ b) out
  from_joined a b out h =
      let p = h.is_first in
      let q = h.is_second in
      subst (CanPrintAll model (a ++ b)) (sym h.whole) (record {
        args = p.args ++ q.args;
        typed = typed_append p.args q.args a b p.typed q.typed;
        prints = PrintsAll-append model a b p.args q.args h.first h.second p.prints q.prints;
      })

  -- items after others print these numbers of bytes more
  pub items_append : (a b : List Item) (least fewer : ℕ) (greatest more : Option ℕ) → AreBoundsOf (CanPrintAll model a) least greatest
      → AreBoundsOf (CanPrintAll model b) fewer more → AreBoundsOf (CanPrintAll model (a ++ b)) (least + fewer) (sum_of greatest more)
  items_append a b least fewer greatest more h k =
      of_same (IsJoined (CanPrintAll model a) (CanPrintAll model b)) (CanPrintAll model (a ++ b)) _ _ (from_joined a b) (to_joined a b)
      (joined_bounds (CanPrintAll model a) (CanPrintAll model b) least fewer greatest more h k)
