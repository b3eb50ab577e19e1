-- What a text has from a place on.
use Rattle.std.proofs.Common.{◌≡◌, ℕ, zero, suc, ◌+◌, ◌-◌, ◌*◌, ◌%◌, ◌<◌, ◌≤◌, [], ◌++◌, length, take, drop, replicate, refl, sym, ap, ◌∙◌, subst, arith, inl}
use Rattle.std.proofs.Common.{inr}
use Rattle.std.specs.Prelude.{flat_map}
use Rattle.std.proofs.Math.Nat.{mod-eq_of_lt, mod-eq-sub-mod}
use Rattle.std.proofs.Math.Seq.{drop-append-add}
use Rattle.std.proofs.lemmas.Bool.{cases_lt}
use Rattle.std.proofs.lemmas.List.{append-nil, append_assoc, drop-append-le, length-drop, length-replicate, replicate-append-replicate, take-replicate}
use Rattle.pf_values.specs.meaning.Canonical.{item_spelling}
use Rattle.pf_values.specs.meaning.Text.{Text}
use Rattle.pf_text.specs.CanonicalRuns.{silents}
use Rattle.pf_canon.specs.Output.{IsFrontOf, silent_bytes}
use Rattle.pf_canon.proofs.OutputLemmas.{spelled_silent}

-- all of a text
pub front_all : (t : Text) → IsFrontOf t t
front_all t = record { behind = []; whole = sym (append-nil t); some = λ none. none }

-- a place in the first of two texts
pub front_of_first : (t u f : Text) (n at : ℕ) → length t ≡ n → at < n → IsFrontOf (drop at t) f → IsFrontOf (drop at (t ++ u)) f
front_of_first t u f n at len few h = record {
  behind = h.behind ++ u;
  whole = drop-append-le at t u (omega (arith, len, few)) ∙ ap (λ v. v ++ u) h.whole ∙ append_assoc f h.behind u;
  some = λ none. absurd (omega (arith, len, few, length-drop at t, ap length (h.some none)));
}

-- a place in the second
pub front_of_second : (t u f : Text) (n at : ℕ) → length t ≡ n → n ≤ at → IsFrontOf (drop (at - n) u) f → IsFrontOf (drop at (t ++ u)) f
front_of_second t u f n at len past h =
    let place : at ≡ length t + (at - n) = omega (arith, len, past) in
    subst (λ v. IsFrontOf v f) (sym (ap (λ k. drop k (t ++ u)) place ∙ drop-append-add t u (at - n))) h

-- a part of a block of one byte
pub take_block : (block : Text) (most len byte : ℕ) → block ≡ replicate most byte → len ≤ most → take len block ≡ replicate len byte
take_block block most len byte e few = ap (take len) e ∙ take-replicate len most byte few

-- a block of one byte, or less
pub few_repeated : (block : Text) (most count byte : ℕ) → block ≡ replicate most byte → count < most → IsFrontOf (replicate count byte) (take count block)
few_repeated block most count byte e few = subst (IsFrontOf (replicate count byte)) (sym (take_block block most count byte e (omega (arith, few))))
    (front_all (replicate count byte))

pub many_repeated : (block : Text) (most count byte : ℕ) → 0 < most → block ≡ replicate most byte → most ≤ count → IsFrontOf (replicate count byte) block
many_repeated block most count byte some e many = record {
  behind = replicate (count - most) byte;
  whole = let n : most + (count - most) ≡ count = omega (arith, many) in ap (λ n. replicate n byte) (sym n)
      ∙ sym (replicate-append-replicate most (count - most) byte) ∙ ap (λ t. t ++ replicate (count - most) byte) (sym e);
  some = λ none. absurd (omega (arith, some, ap length e, length-replicate most byte, ap length none));
}

-- a place in one of some silent directives
pub silent_at : (at count : ℕ) → at < 4 * count → IsFrontOf (drop at (flat_map item_spelling (silents count))) (drop (at % 4) silent_bytes)
silent_at at zero few = absurd (omega (arith, few))
silent_at at (suc count) few =
    let rest = flat_map item_spelling (silents count) in
    let whole : flat_map item_spelling (silents (suc count)) ≡ silent_bytes ++ rest = ap (λ t. t ++ rest) spelled_silent in
    subst (λ t. IsFrontOf (drop at t) (drop (at % 4) silent_bytes)) (sym whole) (elim (cases_lt at 4) [
      | inl less ↦ front_of_first silent_bytes rest (drop (at % 4) silent_bytes) 4 at refl less
          (subst (λ k. IsFrontOf (drop at silent_bytes) (drop k silent_bytes)) (sym (mod-eq_of_lt less)) (front_all (drop at silent_bytes)))
      | inr more ↦ front_of_second silent_bytes rest (drop (at % 4) silent_bytes) 4 at refl more
          (subst (λ k. IsFrontOf (drop (at - 4) rest) (drop k silent_bytes)) (sym (mod-eq-sub-mod more)) (silent_at (at - 4) count (omega (arith, few, more))))
    ])
