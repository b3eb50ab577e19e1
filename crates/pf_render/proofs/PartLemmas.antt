-- Texts in parts. Some parts went out.
use Rattle.std.proofs.Common.{◌≡◌, ℕ, ◌+◌, ◌<◌, ◌≤◌, List, [], ◌∷◌, ◌++◌, length, take, drop, slice_index_or, sym, ap, ◌∙◌, subst, arith}
use Rattle.std.specs.Borrow.{Bor}
use Rattle.std.proofs.lemmas.Grind.{flat_map-append}
use Rattle.std.proofs.lemmas.List.{append-nil, drop_more, length-append, take-append-drop}
use Rattle.std.proofs.lemmas.List.Folds.{length-flat_map-take}
use Rattle.pf_values.specs.meaning.Text.{Text}
use Rattle.pf_render.specs.Outputs.{IsOutput}
use Rattle.pf_render.specs.Parts.{join}

module _ (parts : List (Bor (List ℕ))) (i : ℕ) (blank : Bor (List ℕ)) (is_one : i < length parts) where
  abbrev before : Text
  before = join (take i parts)

  abbrev part : Text
  part = (slice_index_or parts i blank).now

  abbrev rest : Text
  rest = join (drop (i + 1) parts)

  joined-split : join parts ≡ before ++ (part ++ rest)
  joined-split =
      let one = slice_index_or parts i blank in
      let split : take i parts ++ (one ∷ drop (i + 1) parts) ≡ parts = ap (λ t. take i parts ++ t) (sym (drop_more parts i blank is_one))
      ∙ take-append-drop i parts in
      ap join (sym split) ∙ flat_map-append (λ p. p.now) (take i parts) (one ∷ drop (i + 1) parts)

  -- what went out before a part, with that part or some of it, is no more than the whole
  pub part-within : (written n : ℕ) → written ≡ length before → n ≤ length part → written + n ≤ length (join parts)
  part-within written n e h = omega (arith, length-flat_map-take (λ p. p.now) parts i blank is_one)

  -- the parts before one went out, and then the first bytes of that one
  pub part-stopped : {O : Type 0} {wrote : O → O → Text → Type 0} {stopped : O → O → Text → ℕ → Type 0} (laws : IsOutput wrote stopped)
      (old mid new : O) (written n : ℕ) → written ≡ length before → wrote old mid before → stopped mid new part n → n < length part
      → stopped old new (join parts) (written + n) × (written + n < length (join parts))
  part-stopped laws old mid new written n e h g few = (
    rw (joined-split, e) (laws.stopped_later old mid new before part rest n h few g),
    omega (arith, length-flat_map-take (λ p. p.now) parts i blank is_one),
  )

-- the first bytes of a text were put, whatever was to follow
pub first-stopped : {O : Type 0} {wrote : O → O → Text → Type 0} {stopped : O → O → Text → ℕ → Type 0} (laws : IsOutput wrote stopped)
    (old new : O) (first second : Text) (n : ℕ) → stopped old new first n → n < length first
    → stopped old new (first ++ second) n × (n < length (first ++ second))
first-stopped {stopped = stopped} laws old new first second n g few =
    let zero : 0 + n ≡ n = omega arith in (
      subst (stopped old new (first ++ second)) zero (laws.stopped_later old old new [] first second n (laws.nothing old) few g),
      omega (arith, few, length-append first second),
    )

-- a text went out, and then the first bytes of another one
pub second-stopped : {O : Type 0} {wrote : O → O → Text → Type 0} {stopped : O → O → Text → ℕ → Type 0} (laws : IsOutput wrote stopped)
    (old mid new : O) (first second : Text) (written n : ℕ) → written ≡ length first → wrote old mid first → stopped mid new second n → n < length second
    → stopped old new (first ++ second) (written + n) × (written + n < length (first ++ second))
second-stopped {stopped = stopped} laws old mid new first second written n e h g few =
    let whole : first ++ (second ++ []) ≡ first ++ second = ap (λ t. first ++ t) (append-nil second) in (
      rw e (subst (λ t. stopped old new t (length first + n)) whole (laws.stopped_later old mid new first second [] n h few g)),
      omega (arith, e, few, length-append first second),
    )
