-- A text is a source of one list of bytes, or has one fault.
use Rattle.std.proofs.Common.{◌≡◌, ℕ, List, [], refl, sym, ap, ◌∙◌, subst, inl, inr}
use Rattle.std.specs.Prelude.{◌⊎◌}
use Rattle.pf_literals.specs.declared.faults.LiteralKind.{LiteralKind}
use Rattle.pf_literals.specs.declared.faults.LiteralKind.TheVariants.{NoLiteral}
use Rattle.pf_literals.specs.Elements.{Bytes}
use Rattle.pf_literals.specs.Sources.{HasOffsets, IsSourceOf, literal_bytes, offsets}
use Rattle.pf_literals.specs.Faults.{IsFaultAt}
use Rattle.pf_literals.specs.Readings.{Fault, SourceReading, Whole, source_reading}
use Rattle.pf_literals.proofs.Complete.{read_from-fault, read_from-source}
use Rattle.pf_literals.proofs.Total.{IsSettled, settled}

bytes_in : SourceReading → Bytes
bytes_in (Whole bytes offsets close) = bytes
bytes_in (Fault kind at) = []

offsets_in : SourceReading → List ℕ
offsets_in (Whole bytes offsets close) = offsets
offsets_in (Fault kind at) = []

close_in : SourceReading → ℕ
close_in (Whole bytes offsets close) = close
close_in (Fault kind at) = 0

kind_in : SourceReading → LiteralKind
kind_in (Whole bytes offsets close) = NoLiteral
kind_in (Fault kind at) = kind

at_in : SourceReading → ℕ
at_in (Whole bytes offsets close) = 0
at_in (Fault kind at) = at

pub one_source : (t bytes others : Bytes) → IsSourceOf t bytes → IsSourceOf t others → bytes ≡ others
unfolding bytes_in
one_source t bytes others (ls, s, e) (ms, r, f) = e ∙ ap bytes_in (sym (read_from-source t ls s) ∙ read_from-source t ms r) ∙ sym f

pub one_fault : (t : Bytes) (kind other : LiteralKind) (p q : ℕ) → IsFaultAt t kind p → IsFaultAt t other q → (kind ≡ other) × (p ≡ q)
unfolding kind_in at_in
one_fault t kind other p q h g = let same = sym (read_from-fault t kind p h) ∙ read_from-fault t other q g in (ap kind_in same, ap at_in same)

whole_no_fault : (bytes found : List ℕ) (close : ℕ) (kind : LiteralKind) (at : ℕ) → Whole bytes found close ≡ Fault kind at → ⊥
whole_no_fault bytes found close kind at e = cc

pub never_both : (t bytes : Bytes) (kind : LiteralKind) (at : ℕ) → IsSourceOf t bytes → IsFaultAt t kind at → ⊥
never_both t bytes kind at (ls, s, e) h = whole_no_fault _ _ _ kind at (sym (read_from-source t ls s) ∙ read_from-fault t kind at h)

pub source_or_fault : (t : Bytes) → ((bytes : Bytes) × IsSourceOf t bytes) ⊎ ((kind : LiteralKind) × (at : ℕ) × IsFaultAt t kind at)
source_or_fault t = go (settled t) where
  go : IsSettled t → ((bytes : Bytes) × IsSourceOf t bytes) ⊎ ((kind : LiteralKind) × (at : ℕ) × IsFaultAt t kind at)
  go (inl (ls, s)) = inl (literal_bytes ls, (ls, s, refl))
  go (inr h) = inr h

-- what is read says which it is
pub read_whole : (t bytes found : Bytes) (close : ℕ) → source_reading t ≡ Whole bytes found close → IsSourceOf t bytes × HasOffsets t found close
unfolding bytes_in offsets_in close_in
read_whole t bytes found close e = go (settled t) where
  go : IsSettled t → IsSourceOf t bytes × HasOffsets t found close
  go (inl (ls, s)) =
      let same = sym e ∙ read_from-source t ls s in
      ((ls, s, ap bytes_in same), record { literals = ls; source = s; offsets_are = ap offsets_in same; close_is = ap close_in same })
  go (inr (kind, at, h)) = absurd (whole_no_fault bytes found close kind at (sym e ∙ read_from-fault t kind at h))

pub read_faulty : (t : Bytes) (kind : LiteralKind) (at : ℕ) → source_reading t ≡ Fault kind at → IsFaultAt t kind at
unfolding kind_in at_in
read_faulty t kind at e = go (settled t) where
  go : IsSettled t → IsFaultAt t kind at
  go (inl (ls, s)) = absurd (whole_no_fault _ _ _ kind at (sym (read_from-source t ls s) ∙ e))
  go (inr (other, q, h)) =
      let same = sym (read_from-fault t other q h) ∙ e in
      subst (λ k. IsFaultAt t k at) (ap kind_in same) (subst (IsFaultAt t other) (ap at_in same) h)
