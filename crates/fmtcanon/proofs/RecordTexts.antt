-- How a text is cut into records, as more of it comes.
use Rattle.std.proofs.Common.{◌≡◌, ◌∙◌, ℕ, zero, suc, ◌+◌, ◌≢◌, Bool, true, false, List, [], ◌∷◌, ◌++◌, None, Some, add-one, append-nil, append_assoc, ap}
use Rattle.std.proofs.Common.{arith, drop, get_or, length, refl, subst, sym, take, take-append-drop}
use Rattle.std.specs.Prelude.{◌==◌, flat_map}
use Rattle.std.specs.List.{AllByRecursion}
use Rattle.std.proofs.Math.Seq.{take-add, take-suc}
use Rattle.std.proofs.lemmas.Bool.Decides.{nat_tests}
use Rattle.std.proofs.lemmas.List.{flat_map_more}
use Rattle.memchr.specs.Find.{IsFirstByte, Nowhere, Passes, is_byte}
use Rattle.pf_values.specs.meaning.Text.{Text}
use Rattle.fmtcanon.specs.Records.{IsBare, IsRecords}

pub all_more : {X : Type 0} (P : X → Type 0) (xs : List X) (x : X) → AllByRecursion P xs → P x → AllByRecursion P (xs ++ x ∷ [])
all_more P [] x h p = (p, tt)
all_more P (y ∷ ys) x h p = (h.0, all_more P ys x h.1 p)

bare_more : (rest bytes : Text) → IsBare rest → IsBare bytes → IsBare (rest ++ bytes)
bare_more [] bytes h b = b
bare_more (byte ∷ rest) bytes h b = (h.0, bare_more rest bytes h.1 b)

-- bytes came that are not NUL, or a NUL
pub cut_part : (t : Text) (whole : List Text) (rest bytes : Text) → IsBare bytes → IsRecords t whole rest → IsRecords (t ++ bytes) whole (rest ++ bytes)
cut_part t whole rest bytes b h =
    record { bare = (h.bare.0, bare_more rest bytes h.bare.1 b); is = ap (λ u. u ++ bytes) h.is ∙ append_assoc (flat_map (λ r. r ++ 0 ∷ []) whole) rest bytes }

pub cut_end : (t : Text) (whole : List Text) (rest : Text) → IsRecords t whole rest → IsRecords (t ++ 0 ∷ []) (whole ++ rest ∷ []) []
cut_end t whole rest h =
    let ended : Text → Text = λ r. r ++ 0 ∷ [] in
    record {
      bare = (all_more IsBare whole rest h.bare.0 h.bare.1, tt);
      is =
          ap (λ u. u ++ 0 ∷ []) h.is ∙ append_assoc (flat_map ended whole) rest (0 ∷ []) ∙ flat_map_more ended [] whole rest ∙ sym
          (append-nil (flat_map ended (whole ++ rest ∷ [])));
    }

is_zero : (b : ℕ) → (b == 0) ≡ true → b ≡ 0
is_zero b h = grind (arith, nat_tests)

no_zero : (b : ℕ) → (b == 0) ≡ false → b ≢ 0
no_zero b h = λ e. grind (arith, nat_tests)

-- each text is cut, whatever came before
pub cut_more : (more t : Text) (whole : List Text) (rest : Text) → IsRecords t whole rest → (w : List Text) × (r : Text) × IsRecords (t ++ more) (whole ++ w) r
cut_more [] t whole rest h =
    ([], rest, subst (λ u. IsRecords u (whole ++ []) rest) (sym (append-nil t)) (subst (λ w. IsRecords t w rest) (sym (append-nil whole)) h))
cut_more (b ∷ more) t whole rest h = go (b == 0) refl (cut_more more (t ++ b ∷ []) (whole ++ rest ∷ []) []) (cut_more more (t ++ b ∷ []) whole (rest ++ b ∷ []))
  where
    go : (z : Bool) → (b == 0) ≡ z
        → (IsRecords (t ++ b ∷ []) (whole ++ rest ∷ []) [] → (w : List Text) × (r : Text) × IsRecords ((t ++ b ∷ []) ++ more) ((whole ++ rest ∷ []) ++ w) r)
        → (IsRecords (t ++ b ∷ []) whole (rest ++ b ∷ []) → (w : List Text) × (r : Text) × IsRecords ((t ++ b ∷ []) ++ more) (whole ++ w) r)
        → (w : List Text) × (r : Text) × IsRecords (t ++ b ∷ more) (whole ++ w) r
    go true e ended part =
        let next = ended (subst (λ k. IsRecords (t ++ k ∷ []) (whole ++ rest ∷ []) []) (sym (is_zero b e)) (cut_end t whole rest h)) in (
          rest ∷ next.0,
          next.1,
          subst (λ u. IsRecords u (whole ++ rest ∷ next.0) next.1) (append_assoc t (b ∷ []) more)
              (subst (λ w. IsRecords ((t ++ b ∷ []) ++ more) w next.1) (append_assoc whole (rest ∷ []) next.0) next.2),
        )
    go false e ended part =
        let next = part (cut_part t whole rest (b ∷ []) (no_zero b e, tt) h) in
        (next.0, next.1, subst (λ u. IsRecords u (whole ++ next.0) next.1) (append_assoc t (b ∷ []) more) next.2)

-- nothing is cut of no text
pub cut_none : IsRecords [] [] []
cut_none = record { bare = (tt, tt); is = refl }

bare_below : (hay : Text) (k : ℕ) → Nowhere (Passes (is_byte 0) hay) 0 k → IsBare (take k hay)
bare_below hay zero h = tt
bare_below [] (suc k) h = tt
bare_below (b ∷ hay) (suc k) h =
    (no_zero b (not_zero (b == 0) (h 0 (omega arith) (omega arith))), bare_below hay k (λ i low high. h (suc i) (omega arith) (omega arith)))
  where
    not_zero : (z : Bool) → (z ≡ true → ⊥) → z ≡ false
    not_zero true f = absurd (f refl)
    not_zero false f = refl

pub bare_none : (hay : Text) → IsFirstByte (is_byte 0) hay None → IsBare hay
bare_none hay h = subst IsBare (take_whole hay) (bare_below hay (length hay) h)
  where
    take_whole : (t : Text) → take (length t) t ≡ t
    take_whole [] = refl
    take_whole (b ∷ t) = ap (λ u. b ∷ u) (take_whole t)

-- the first NUL of a block from an offset on ends a record
module _ (taken block : Text) (whole : List Text) (rest : Text) (at : ℕ) (h : IsRecords (taken ++ take at block) whole rest) where
  pub cut_found : (len : ℕ) → IsFirstByte (is_byte 0) (drop at block) (Some len)
      → IsRecords (taken ++ take (at + (len + 1)) block) (whole ++ (rest ++ take len (drop at block)) ∷ []) []
  cut_found len found =
      let bytes = take len (drop at block) in
      let zero_here : get_or (drop at block) len 0 ≡ 0 = is_zero (get_or (drop at block) len 0) found.1 in
      let split : take (at + (len + 1)) block ≡ take at block ++ (bytes ++ 0 ∷ []) = take-add at (len + 1) block ∙ ap (λ u. take at block ++ u)
      (ap (λ n. take n (drop at block)) (add-one len) ∙ take-suc (drop at block) len 0 found.0.high ∙ ap (λ z. bytes ++ z ∷ []) zero_here) in
      let same : ((taken ++ take at block) ++ bytes) ++ 0 ∷ [] ≡ taken ++ take (at + (len + 1)) block = append_assoc (taken ++ take at block) bytes
      (0 ∷ []) ∙ append_assoc taken (take at block) (bytes ++ 0 ∷ []) ∙ ap (λ u. taken ++ u) (sym split) in
      subst (λ u. IsRecords u (whole ++ (rest ++ bytes) ∷ []) []) same
      (cut_end _ whole (rest ++ bytes) (cut_part (taken ++ take at block) whole rest bytes (bare_below (drop at block) len found.0.before) h))

  pub cut_last : IsFirstByte (is_byte 0) (drop at block) None → IsRecords (taken ++ block) whole (rest ++ drop at block)
  cut_last none =
      let same : (taken ++ take at block) ++ drop at block ≡ taken ++ block = append_assoc taken (take at block) (drop at block) ∙ ap
      (λ u. taken ++ u) (take-append-drop at block) in
      subst (λ u. IsRecords u whole (rest ++ drop at block)) same
      (cut_part (taken ++ take at block) whole rest (drop at block) (bare_none (drop at block) none) h)

  -- the rest of the block is cut somehow
  pub cut_behind : (w : List Text) × (r : Text) × IsRecords (taken ++ block) (whole ++ w) r
  cut_behind =
      let same : (taken ++ take at block) ++ drop at block ≡ taken ++ block = append_assoc taken (take at block) (drop at block) ∙ ap
      (λ u. taken ++ u) (take-append-drop at block) in
      let all = cut_more (drop at block) (taken ++ take at block) whole rest h in
      (all.0, all.1, subst (λ u. IsRecords u (whole ++ all.0) all.1) same all.2)
