-- Texts that go on with different ordinary characters after equal items.
use Rattle.std.proofs.Common.{◌≡◌, ◌≢◌, ℕ, zero, suc, ◌≤◌, false, List, [], ◌∷◌, ◌++◌, take, drop, length, sym, ap, ◌∙◌, subst, arith, inl, inr}
use Rattle.std.specs.List.{AllByRecursion}
use Rattle.std.specs.Prelude.{flat_map}
use Rattle.std.proofs.lemmas.List.{append_assoc, append-nil, append_cancel_left, length-append, take-append-drop}
use Rattle.pf_values.specs.declared.limits.TheConstants.{MAX_TEXT_LEN}
use Rattle.pf_values.specs.declared.models.Model.{Model}
use Rattle.pf_values.specs.meaning.Canonical.{item_spelling}
use Rattle.pf_values.specs.meaning.Text.{Text, percent}
use Rattle.pf_text.specs.CanonicalRuns.{silents}
use Rattle.pf_text.specs.History.{IsLiteral}
use Rattle.pf_text.specs.Walks.{AreRead, Either, IsMadeOf, IsPiece}
use Rattle.pf_canon.specs.Comparison.{AreCommon, BeginApart}
use Rattle.pf_canon.specs.Languages.{AreSameIn, ComesVerbatim, Front, HasCanonicalIn}
use Rattle.pf_canon.proofs.SettledLemmas.{IsSettledIn, in_byte, in_made, in_whole, settled_in}
use Rattle.pf_canon.proofs.LanguageLemmas.{front_written}

-- a text of pieces begins with an ordinary character, and others follow
first_byte : (passes : Text → Type 0) (x : ℕ) (t : Text) → x ≢ percent → IsMadeOf passes (x ∷ t) → IsLiteral x × IsMadeOf passes t
first_byte passes x t other made = go made.pieces made.each made.whole where
  go : (pieces : List Text) → AllByRecursion (IsPiece passes) pieces → x ∷ t ≡ flat_map (λ piece. piece) pieces → IsLiteral x × IsMadeOf passes t
  go [] each whole = absurd cc
  go ([] ∷ pieces) each whole = go pieces each.1 whole
  go ((y ∷ piece) ∷ pieces) (inl literal, each) whole =
      let same : y ≡ x = cc in
      let rest : t ≡ piece ++ flat_map (λ p. p) pieces = cc in
      (subst IsLiteral same literal.0, record { pieces = piece ∷ pieces; each = (inl literal.1, each); whole = rest })
  go ((y ∷ piece) ∷ pieces) (inr ((rest, begins), p), each) whole = let same : x ≡ percent = cc in absurd (other same)

-- what goes on with an ordinary character differs from what goes on with another one, or with silent directives
apart_bytes : (out : Text) (x y : ℕ) (t u : Text) → x ≢ y → out ++ x ∷ t ≢ out ++ y ∷ u
apart_bytes out x y t u other e = let both : x ∷ t ≡ y ∷ u = append_cancel_left out (x ∷ t) (y ∷ u) e in other cc

apart_end : (out : Text) (x : ℕ) (t : Text) (held : ℕ) → x ≢ percent → out ++ x ∷ t ≢ out ++ flat_map item_spelling (silents held)
apart_end out x t zero other e = let both : x ∷ t ≡ [] = append_cancel_left out (x ∷ t) [] e in cc
apart_end out x t (suc held) other e =
    let rest = flat_map item_spelling (silents (suc held)) in
    let both : x ∷ t ≡ rest = append_cancel_left out (x ∷ t) rest e in
    other cc

module _ (has_front : Front) (model : Model) (passes : Text → Type 0) (comes : ComesVerbatim has_front passes model) where
  -- a text that goes on with an ordinary character
  goes_on_with : (t out : Text) (held x : ℕ) (u : Text) → IsSettledIn has_front model t out held → x ≢ percent → IsMadeOf (Either AreRead passes) (x ∷ u)
      → length (t ++ x ∷ u) ≤ MAX_TEXT_LEN → (more : Text) × HasCanonicalIn has_front model (t ++ x ∷ u) (out ++ x ∷ more)
  goes_on_with t out held x u h other made limit =
      let (literal, rest) = first_byte (Either AreRead passes) x u other made in
      let (more, still, all) = in_made has_front model passes comes (t ++ x ∷ []) (out ++ x ∷ []) held u
      (in_byte has_front model t out held x h literal) rest in
      let last = flat_map item_spelling (silents still) in
      let text : (t ++ x ∷ []) ++ u ≡ t ++ x ∷ u = append_assoc t (x ∷ []) u in
      let put : ((out ++ x ∷ []) ++ more) ++ last ≡ out ++ x ∷ (more ++ last) =
      ap (λ v. v ++ last) (append_assoc out (x ∷ []) more) ∙ append_assoc out (x ∷ more) last in
      let whole = in_whole has_front model ((t ++ x ∷ []) ++ u) ((out ++ x ∷ []) ++ more) still (omega (arith, limit, ap length text)) all in (
        more ++ last,
        subst (HasCanonicalIn has_front model (t ++ x ∷ u)) put (subst (λ v. HasCanonicalIn has_front model v (((out ++ x ∷ []) ++ more) ++ last)) text whole),
      )

  -- two texts after a common front
  go_apart : (front t u out : Text) (held : ℕ) → IsSettledIn has_front model front out held → BeginApart t u → IsMadeOf (Either AreRead passes) t
      → IsMadeOf (Either AreRead passes) u → length (front ++ t) ≤ MAX_TEXT_LEN → length (front ++ u) ≤ MAX_TEXT_LEN
      → AreSameIn has_front model (front ++ t) (front ++ u) false
  go_apart front [] [] out held h apart one other few less = absurd apart
  go_apart front [] (y ∷ u) out held h apart one other few less =
      let (more, second) = goes_on_with front out held y u h apart other less in
      let rest = flat_map item_spelling (silents held) in
      let first = in_whole has_front model front out held (omega (arith, few, length-append front [])) h in
      record {
        first = out ++ rest;
        second = out ++ y ∷ more;
        of_first = subst (λ v. HasCanonicalIn has_front model v (out ++ rest)) (sym (append-nil front)) first;
        of_second = second;
        one = (λ yes. absurd (cc), λ same. absurd (apart_end out y more held apart (sym same)));
      }
  go_apart front (x ∷ t) [] out held h apart one other few less =
      let (more, first) = goes_on_with front out held x t h apart one few in
      let rest = flat_map item_spelling (silents held) in
      let second = in_whole has_front model front out held (omega (arith, less, length-append front [])) h in
      record {
        first = out ++ x ∷ more;
        second = out ++ rest;
        of_first = first;
        of_second = subst (λ v. HasCanonicalIn has_front model v (out ++ rest)) (sym (append-nil front)) second;
        one = (λ yes. absurd (cc), λ same. absurd (apart_end out x more held apart same));
      }
  go_apart front (x ∷ t) (y ∷ u) out held h apart one other few less =
      let (more, first) = goes_on_with front out held x t h apart.1 one few in
      let (next, second) = goes_on_with front out held y u h apart.2 other less in
      record {
        first = out ++ x ∷ more;
        second = out ++ y ∷ next;
        of_first = first;
        of_second = second;
        one = (λ yes. absurd (cc), λ same. absurd (apart_bytes out x y more next apart.0 same));
      }

  -- two texts that are common items up to a byte, and then go on with different ordinary characters
  pub apart_after : has_front model [] [] → (f g : Text) (common : ℕ) → AreCommon f g common → BeginApart (drop common f) (drop common g)
      → length f ≤ MAX_TEXT_LEN → length g ≤ MAX_TEXT_LEN → IsMadeOf (Either AreRead passes) (take common f)
      → IsMadeOf (Either AreRead passes) (drop common f) → IsMadeOf (Either AreRead passes) (drop common g) → AreSameIn has_front model f g false
  apart_after none f g common same apart f_short g_short front one other =
      let of_f : take common f ++ drop common f ≡ f = take-append-drop common f in
      let of_g : take common f ++ drop common g ≡ g = ap (λ t. t ++ drop common g) same.same ∙ take-append-drop common g in
      let start = settled_in has_front model [] [] 0 (front_written has_front model [] [] none (omega arith)) in
      let (out, held, h) = in_made has_front model passes comes [] [] 0 (take common f) start front in
      subst (λ v. AreSameIn has_front model f v false) of_g (subst (λ v. AreSameIn has_front model v (take common f ++ drop common g) false) of_f
      (go_apart (take common f) (drop common f) (drop common g) out held h apart one other (omega (arith, f_short, ap length of_f))
      (omega (arith, g_short, ap length of_g))))
