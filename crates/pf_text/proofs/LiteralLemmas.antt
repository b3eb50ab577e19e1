-- Runs of literal bytes.
use Rattle.std.proofs.Common.{◌≡◌, ℕ, zero, suc, ◌+◌, ◌-◌, ◌%◌, ◌^◌, ◌<◌, ◌≤◌, min, false, true, List, [], ◌∷◌, ◌++◌, length, get_or, map, take, drop}
use Rattle.std.proofs.Common.{refl, sym, subst, arith, inl, inr, drop-cons}
use Rattle.std.specs.Prelude.{◌⊎◌, ◌==◌}
use Rattle.std.specs.List.{AllByRecursion}
use Rattle.std.proofs.Math.ListN.{drop_of_length-le}
use Rattle.std.proofs.lemmas.Bool.{cases_lt}
use Rattle.std.proofs.lemmas.Bool.Decides.{nat_tests}
use Rattle.std.proofs.lemmas.List.{append_assoc, append-nil, length-append, length-take}
use Rattle.memchr.specs.Find.{is_byte2}
use Rattle.pf_values.specs.declared.limits.TheConstants.{MAX_TEXT_LEN}
use Rattle.pf_values.specs.meaning.Items.{Item, Byte, IsReadAs, Reads}
use Rattle.pf_values.specs.meaning.Text.{Text}
use Rattle.pf_text.specs.declared.scanner.Scanner.{Scanner}
use Rattle.pf_text.specs.Stages.{Between, state_of}
use Rattle.pf_text.specs.Fronts.{IsAt}
use Rattle.pf_text.specs.History.{EndsRun, IsAfter, IsLiteral, Passes}
use Rattle.pf_text.proofs.Texts.{Reads-push, begun}
use Rattle.pf_text.proofs.Unique.{same_whole}

-- the first n bytes are literal, and the next is not
pub record IsRun (text : Text) (n : ℕ) : Type 0 where
  pub within : n ≤ length text
  pub literal : (k : ℕ) → k < n → IsLiteral (get_or text k 0)
  pub ends : n < length text → (get_or text n 0 ≡ 37) ⊎ (get_or text n 0 ≡ 0)

pub stops : (b : ℕ) → is_byte2 37 0 b ≡ true → (b ≡ 37) ⊎ (b ≡ 0)
stops b h = grind (arith, nat_tests)

stopped : (b : ℕ) → (b ≡ 37) ⊎ (b ≡ 0) → is_byte2 37 0 b ≡ true
stopped b (inl e) = grind (arith, nat_tests)
stopped b (inr e) = grind (arith, nat_tests)

pub goes_on : (b : ℕ) → (is_byte2 37 0 b ≡ true → ⊥) → IsLiteral b
goes_on b h = (λ e. h (stopped b (inl e)), λ e. h (stopped b (inr e)))

pub literal_take : (text : Text) (n : ℕ) → n ≤ length text → ((k : ℕ) → k < n → IsLiteral (get_or text k 0)) → AllByRecursion IsLiteral (take n text)
literal_take text zero few h = tt
literal_take [] (suc n) few h = tt
literal_take (b ∷ text) (suc n) few h = (h 0 (omega arith), literal_take text n (omega arith) (λ k less. h (suc k) (omega arith)))

pub read_literal : (b : ℕ) → IsLiteral b → IsReadAs (b ∷ []) (Byte b)
read_literal b h = let other : (b == 37) ≡ false = grind (arith, nat_tests, h.0) in rw other (h.1, refl)

pub Reads-literals : (run t : Text) (items : List Item) → Reads t items → AllByRecursion IsLiteral run → Reads (t ++ run) (items ++ map Byte run)
Reads-literals [] t items h all = subst (λ u. Reads u (items ++ [])) (sym (append-nil t)) (subst (λ i. Reads t i) (sym (append-nil items)) h)
Reads-literals (b ∷ run) t items h all =
    let more = Reads-literals run (t ++ b ∷ []) (items ++ Byte b ∷ []) (Reads-push items t (b ∷ []) (Byte b) h (read_literal b all.0)) all.1 in
    subst (λ u. Reads u (items ++ (Byte b ∷ map Byte run))) (append_assoc t (b ∷ []) run)
    (subst (λ i. Reads ((t ++ b ∷ []) ++ run) i) (append_assoc items (Byte b ∷ []) (map Byte run)) more)

-- the run, or what of it the limit leaves
pub literals_taken : (text : Text) (run room : ℕ) → IsRun text run → AllByRecursion IsLiteral (take (min run room) text)
literals_taken text run room h = literal_take text (min run room) (omega (arith, h.within)) (λ k less. h.literal k (omega arith))

pub or_full : (b : ℕ) (P : Type 0) → (b ≡ 37) ⊎ (b ≡ 0) → (b ≡ 37) ⊎ (b ≡ 0) ⊎ P
or_full b P (inl e) = inl e
or_full b P (inr e) = inr (inl e)

pub run_ends : (t text : Text) (run room : ℕ) → IsRun text run → length t + room ≡ MAX_TEXT_LEN
    → EndsRun (t ++ take (min run room) text) (drop (min run room) text)
run_ends t text run room h full =
    let n = min run room in
    let long : length (t ++ take n text) ≡ length t + n = omega (arith, length-append t (take n text), length-take n text, h.within) in
    elim (cases_lt n (length text)) [
      | inl less ↦ subst (EndsRun (t ++ take n text)) (sym (drop-cons text n 0 less)) (elim (cases_lt n run) [
        | inl cut ↦ inr (inr (omega arith))
        | inr whole ↦ let same : n ≡ run = omega arith in or_full (get_or text n 0) _
            (subst (λ k. (get_or text k 0 ≡ 37) ⊎ (get_or text k 0 ≡ 0)) (sym same) (h.ends (omega arith)))
      ])
      | inr le ↦ subst (EndsRun (t ++ take n text)) (sym (drop_of_length-le text le)) tt
    ]

-- a text that is read has no part of an item after its items
pub no_part : (scanner : Scanner) (t : Text) (items : List Item) (h : IsAfter scanner t items) → Reads t items → h.part ≡ []
no_part scanner t items h reads = same_whole items h.good.splits.whole t h.part h.good.splits.reads reads h.good.splits.split

-- such a text was taken with the items after it
pub after_read : (scanner : Scanner) (t run : Text) (items more : List Item) → IsAfter scanner t items → Reads t items
    → Reads (t ++ run) (items ++ more) → length (t ++ run) ≤ MAX_TEXT_LEN
    → IsAfter (record scanner { offset = scanner.offset + length run }) (t ++ run) (items ++ more)
after_read scanner t run items more h reads now few =
    record {
      part = [];
      good = record {
        splits = record { whole = t ++ run; reads = now; split = sym (append-nil (t ++ run)) };
        begun = begun Between [] refl;
      };
      state = subst (IsAt (state_of scanner.automaton)) (no_part scanner t items h reads) h.state;
      offset = omega (arith, h.offset, length-append t run);
      limit = few;
      no_refusal = h.no_refusal;
    }

-- no offset is above the limit
pub room_left : (offset : ℕ) → offset ≤ MAX_TEXT_LEN → (MAX_TEXT_LEN + (2 ^ 64 - offset)) % 2 ^ 64 ≡ MAX_TEXT_LEN - offset
room_left offset few = omega (arith, few)

pub not_wrapped : (offset n : ℕ) → offset + n ≤ MAX_TEXT_LEN → (offset + n) % 2 ^ 64 ≡ offset + n
not_wrapped offset n few = omega (arith, few)

pub passed : (scanner : Scanner) (t text : Text) (items : List Item) (n run room : ℕ) → IsAfter scanner t items → Reads t items → IsRun text run
    → room ≡ MAX_TEXT_LEN - scanner.offset → n ≡ min run room → Passes t items text n (record scanner { offset = scanner.offset + n })
passed scanner t text items n run room h reads found full least =
    let literal = subst (λ k. AllByRecursion IsLiteral (take k text)) (sym least) (literals_taken text run room found) in
    let long : length (take n text) ≡ n = omega (arith, length-take n text, found.within) in
    let few : length (t ++ take n text) ≤ MAX_TEXT_LEN = omega (arith, length-append t (take n text), h.offset, h.limit) in
    let now = Reads-literals (take n text) t items reads literal in
    record {
      after = subst (λ k. IsAfter (record scanner { offset = scanner.offset + k }) (t ++ take n text) (items ++ map Byte (take n text))) long
          (after_read scanner t (take n text) items (map Byte (take n text)) h reads now few);
      reads = now;
      literal = literal;
      longest = subst (λ k. EndsRun (t ++ take k text) (drop k text)) (sym least) (run_ends t text run room found (omega (arith, h.offset, h.limit)));
    }
