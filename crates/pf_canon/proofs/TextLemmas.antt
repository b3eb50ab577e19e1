-- How many items a text has, how long they are as canonical ones, and what its refusal is.
use Rattle.std.proofs.Common.{◌≡◌, ◌≢◌, ℕ, ◌∷◌, ◌++◌, Bool, true, false, length, drop, sym, ap, ◌∙◌, subst, ◌+◌, ◌≤◌, List, [], arith}
use Rattle.std.specs.Prelude.{MatchBool, ◌==◌}
use Rattle.std.proofs.Math.Seq.{drop-append_seam}
use Rattle.std.proofs.lemmas.List.{length-append}
use Rattle.pf_values.specs.declared.limits.TheConstants.{MAX_TEXT_LEN}
use Rattle.pf_values.specs.declared.refusals.RefusalKind.{RefusalKind}
use Rattle.pf_values.specs.declared.refusals.RefusalKind.TheVariants.{TooLong, Truncated}
use Rattle.pf_values.specs.meaning.Refusals.{HasCause, IsRefusedAt, IsRefusedByte}
use Rattle.pf_values.specs.meaning.Text.{Text, percent}
use Rattle.pf_values.specs.meaning.Items.{Item, Byte, Directive, IsReadAs, Reads}
use Rattle.pf_canon.specs.Answers.{most_len}

no_byte_truncates : (b : Bool) (part : Text) (byte : ℕ) (kind : RefusalKind) → MatchBool b (kind ≡ TooLong) (IsRefusedByte part byte kind) → kind ≢ Truncated
no_byte_truncates true part byte kind h e = let both : TooLong ≡ Truncated = sym h ∙ e in cc
no_byte_truncates false part byte kind h e = let reason = h.reason in rw e at reason

-- its kind isn't that of a text that ends
pub not_truncated : (t : Text) (byte : ℕ) (rest : Text) (kind : RefusalKind) (at : ℕ) → at ≡ length t
    → IsRefusedAt (t ++ byte ∷ rest) kind at → kind ≢ Truncated
not_truncated t byte rest kind at place h =
    let same : h.rest ≡ byte ∷ rest =
    sym (drop-append_seam h.front h.rest) ∙ ap (drop (length h.front)) (sym h.split) ∙ ap (λ n. drop n (t ++ byte ∷ rest)) (sym h.offset ∙ place)
    ∙ drop-append_seam t (byte ∷ rest) in
    no_byte_truncates (at == MAX_TEXT_LEN) h.part byte kind (subst (λ u. HasCause at h.part u kind) same h.cause)

-- an item is read from a byte at least
some_bytes : (t : Text) (item : Item) → IsReadAs t item → 1 ≤ length t
some_bytes t (Byte byte) h = go (byte == percent) h
  where
    go : (b : _) → MatchBool b (t ≡ percent ∷ percent ∷ []) ((byte ≢ 0) × (t ≡ byte ∷ [])) → 1 ≤ length t
    go true e = omega (arith, ap length e)
    go false e = omega (arith, ap length e.1)
some_bytes t (Directive s) h = let spells = h.0 in omega (arith, ap length spells.whole)

pub items_few : (t : Text) (items : List Item) → Reads t items → length items ≤ length t
items_few t [] h = omega arith
items_few t (item ∷ items) h = omega (arith, ap length h.4, length-append h.0 h.1, some_bytes h.0 item h.2, items_few h.1 items h.3)

pub most_len-append : (a b : List Item) → most_len (a ++ b) ≡ most_len a + most_len b
most_len-append [] b = omega arith
most_len-append (Byte byte ∷ a) b = omega (arith, most_len-append a b)
most_len-append (Directive s ∷ a) b = omega (arith, most_len-append a b)
