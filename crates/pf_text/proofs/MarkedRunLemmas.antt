-- Runs of literal bytes between marks.
use Rattle.std.proofs.Common.{◌≡◌, ℕ, ◌+◌, ◌-◌, ◌≤◌, length, get_or, take, drop, sym, subst, arith}
use Rattle.std.specs.Int.{bit_at}
use Rattle.std.specs.List.{AllByRecursion}
use Rattle.std.proofs.lemmas.List.{get_or-drop, length-drop}
use Rattle.memchr.specs.Find.{Nowhere, Passes, is_byte2}
use Rattle.pf_values.specs.meaning.Text.{Text}
use Rattle.pf_text.specs.History.{IsLiteral}
use Rattle.pf_text.specs.Marks.{AreMarksOf, HasNoMark}
use Rattle.pf_text.specs.declared.marks.Marks.{Marks}
use Rattle.pf_text.proofs.LiteralLemmas.{goes_on, literal_take}

-- bytes among which a search found none that ends a run are literal
pub literal_between : (text : Text) (at stop : ℕ) → at ≤ stop → stop ≤ length text → Nowhere (Passes (is_byte2 37 0) text) at stop
    → AllByRecursion IsLiteral (take (stop - at) (drop at text))
literal_between text at stop low within none =
    let n = stop - at in
    let place : at + n ≡ stop = omega (arith, low) in
    literal_take (drop at text) n (omega (arith, length-drop at text, low, within)) (λ k less.
    subst IsLiteral (sym (get_or-drop at text k 0)) (goes_on (get_or text (at + k) 0) (none (at + k) (omega arith) (omega (arith, place, less)))))

-- and so are those that no mark is set for
pub no_end_between : (marks : Marks) (text : Text) (at stop : ℕ) → stop ≤ length text → AreMarksOf marks text → HasNoMark marks at stop
    → Nowhere (Passes (is_byte2 37 0) text) at stop
no_end_between marks text at stop within marked none k from below ends =
    not_both (bit_at marks.bits k) (none k from below) (marked.ends k (omega arith) (omega (arith, below, within)) ends)
  where
    not_both : (n : ℕ) → n ≡ 0 → n ≡ 1 → ⊥
    not_both n e f = omega (arith, e, f)
