-- Where no item begins.
use Rattle.std.proofs.Common.{◌≡◌, ◌≢◌, ℕ, ◌+◌, ◌<◌, ◌≤◌, Bool, true, false, [], ◌∷◌, ◌++◌, drop, get_or, length, refl, sym, ap, ◌∙◌, subst, arith, inl, inr}
use Rattle.std.specs.Prelude.{MatchBool, ◌⊎◌, ◌==◌}
use Rattle.std.proofs.lemmas.Bool.{cases_lt}
use Rattle.std.proofs.lemmas.List.{drop_all, drop_more}
use Rattle.memchr.specs.Find.{Passes, is_byte2}
use Rattle.pf_values.specs.meaning.Items.{Byte, Directive}
use Rattle.pf_values.specs.meaning.Text.{Text, percent}
use Rattle.pf_text.specs.FoundDirectives.{BeginsNoDirective, BeginsNoItem}
use Rattle.pf_text.specs.Walks.{BeginsNothing, HasPercent}
use Rattle.pf_text.proofs.FoundLemmas.{none_at_end}
use Rattle.pf_text.proofs.NoDirectiveLemmas.{other_begins}
use Rattle.pf_text.proofs.LiteralLemmas.{stops}

-- no literal byte and no `%%`
byte_first : (t read rest : Text) (byte first : ℕ) (is : Bool) → (byte == percent) ≡ is → first ∷ t ≡ read ++ rest
    → MatchBool is (read ≡ percent ∷ percent ∷ []) ((byte ≢ 0) × (read ≡ byte ∷ []))
    → ((first ≡ percent) × (t ≡ percent ∷ rest)) ⊎ ((first ≢ 0) × (first ≡ byte) × (byte ≢ percent))
byte_first t read rest byte first true e split h =
    let all : first ∷ t ≡ percent ∷ percent ∷ rest = split ∙ ap (λ u. u ++ rest) h in
    inl (cc, cc)
byte_first t read rest byte first false e split h =
    let all : first ∷ t ≡ byte ∷ rest = split ∙ ap (λ u. u ++ rest) h.1 in
    let same : first ≡ byte = cc in
    inr ((λ z. h.0 (sym same ∙ z)), same, λ p. (let no : (percent == percent) ≡ false = subst (λ b. (b == percent) ≡ false) p e in cc))

-- what no directive begins begins no item, if it is neither a literal byte nor `%%`
pub none_of : (t : Text) (byte : ℕ) → BeginsNoDirective (byte ∷ t) → (byte ≡ percent) ⊎ (byte ≡ 0) → ((rest : Text) → byte ≡ percent → t ≢ percent ∷ rest)
    → BeginsNoItem (byte ∷ t)
none_of t byte none end other read rest (Directive s) split h = none read rest s split h
none_of t byte none end other read rest (Byte b) split h = go (byte_first t read rest b byte (b == percent) refl split h) end where
  go : ((byte ≡ percent) × (t ≡ percent ∷ rest)) ⊎ ((byte ≢ 0) × (byte ≡ b) × (b ≢ percent)) → (byte ≡ percent) ⊎ (byte ≡ 0) → ⊥
  go (inl two) e = other rest two.0 two.1
  go (inr one) (inl e) = one.2 (sym one.1 ∙ e)
  go (inr one) (inr e) = one.0 e

-- nothing begins none
pub nothing_begins : BeginsNoItem []
nothing_begins [] rest (Byte b) split h = go (b == percent) h where
  go : (is : Bool) → MatchBool is ([] ≡ percent ∷ percent ∷ []) ((b ≢ 0) × ([] ≡ b ∷ [])) → ⊥
  go true e = cc
  go false e = let no = e.1 in cc
nothing_begins [] rest (Directive s) split h = none_at_end [] 0 (omega arith) [] rest s split h
nothing_begins (x ∷ read) rest item split h = absurd (omega (arith, ap length split))

module _ (t : Text) (at : ℕ) where
  -- the end
  pub none_past : length t ≤ at → BeginsNoItem (drop at t)
  none_past over = subst BeginsNoItem (sym (drop_all at t over)) nothing_begins

  -- a NUL
  pub none_at_nul : at < length t → get_or t at 0 ≡ 0 → BeginsNoItem (drop at t)
  none_at_nul some e =
      subst BeginsNoItem (sym (drop_more t at 0 some))
      (none_of (drop (at + 1) t) (get_or t at 0) (other_begins (get_or t at 0) (drop (at + 1) t)
      (λ p. (let no : 0 ≡ percent = sym e ∙ p in omega (arith, no)))) (inr e)
      (λ rest p. (let no : 0 ≡ percent = sym e ∙ p in absurd (omega (arith, no)))))

  -- a `%` that is the last byte
  pub none_at_last : at < length t → length t ≤ at + 1 → get_or t at 0 ≡ percent → BeginsNoItem (drop at t)
  none_at_last some over e =
      let last : drop (at + 1) t ≡ [] = drop_all (at + 1) t over in
      subst BeginsNoItem (sym (drop_more t at 0 some))
      (none_of (drop (at + 1) t) (get_or t at 0) (subst BeginsNoDirective (drop_more t at 0 some) (none_at_end t at over)) (inl e)
      (λ rest p. λ two. (let no : [] ≡ percent ∷ rest = sym last ∙ two in cc)))

  -- any of these
  pub no_item : BeginsNothing t at → BeginsNoItem (drop at t)
  no_item h = elim (cases_lt at (length t)) [
    | inl some ↦ go some h
    | inr over ↦ none_past over
  ] where
    go : at < length t → BeginsNothing t at → BeginsNoItem (drop at t)
    go some (inl over) = none_past over
    go some (inr (inl e)) = none_at_nul some e
    go some (inr (inr last)) = none_at_last some last.0 last.1

  -- where a run of literal bytes ends, but not at a `%` before another byte
  pub nothing_at_stop : Passes (is_byte2 37 0) t at → (length t ≤ at + 1) ⊎ (get_or t at 0 ≢ percent) → BeginsNothing t at
  nothing_at_stop passes short = go (stops (get_or t at 0) passes) short where
    go : (get_or t at 0 ≡ 37) ⊎ (get_or t at 0 ≡ 0) → (length t ≤ at + 1) ⊎ (get_or t at 0 ≢ percent) → BeginsNothing t at
    go (inr e) short = inr (inl e)
    go (inl e) (inl over) = inr (inr (over, e))
    go (inl e) (inr other) = absurd (other e)

  -- a `%` before another byte, where no directive begins
  pub none_at_percent : HasPercent t at → get_or t (at + 1) 0 ≢ percent → BeginsNoDirective (drop at t) → BeginsNoItem (drop at t)
  none_at_percent h other none =
      let some : at < length t = omega (arith, h.0) in
      subst BeginsNoItem (sym (drop_more t at 0 some))
      (none_of (drop (at + 1) t) (get_or t at 0) (subst BeginsNoDirective (drop_more t at 0 some) none) (inl h.1)
      (λ rest p. λ two. other (let second : get_or t (at + 1) 0 ∷ drop (at + 1 + 1) t ≡ percent ∷ rest = sym (drop_more t (at + 1) 0 h.0) ∙ two in cc)))
