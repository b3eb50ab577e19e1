-- The answers about canonical texts in a language, of the profile and of the whole language.
use Rattle.std.proofs.Common.{ℕ, List, ℤ, inl, inr}
use Rattle.pf_values.specs.declared.models.Model.{Model}
use Rattle.pf_values.specs.declared.refusals.RefusalKind.{RefusalKind}
use Rattle.pf_values.specs.meaning.Refusals.{IsRefusedAt}
use Rattle.pf_values.specs.meaning.Text.{Text}
use Rattle.pf_text.specs.declared.refusals.TextFault.TheVariants.{Memory}
use Rattle.pf_canon.proofs.LanguageLemmas.{fault_of_profile, no_front, of_profile}
use Rattle.pf_posix.specs.Unnumbered.{IsUnnumberedRefusedAt}
use Rattle.pf_whole.specs.Fronts.{IsWholeFront}
use Rattle.pf_whole.proofs.LanguageLemmas.{fault_of_whole, whole_canonical}
use Rattle.fmtcanon_c.specs.Calls.{PutsCanonical, PutsCanonicalIn, PutsElements, PutsWholeCanonical}
use Rattle.fmtcanon_c.specs.declared.interface.CError.{CError}

-- elements of one kind are put, which are elements of another
puts_as : {X Y : Type 0} (Has HasToo : List X → Type 0) (written : List X → List Y) (Refuses : RefusalKind → ℕ → Type 0) (Needs NeedsToo : Type 0)
    → ((elements : List X) → Has elements → HasToo elements) → (Needs → NeedsToo)
    → (out : List Y) (error : CError) (code : ℤ) (out_now : List Y) (error_now : CError)
    → PutsElements Has written Refuses Needs out error code out_now error_now → PutsElements HasToo written Refuses NeedsToo out error code out_now error_now
puts_as Has HasToo written Refuses Needs NeedsToo f g out error code out_now error_now (inl h) = inl (h.0, f h.0 h.1, h.2, h.3, h.4)
puts_as Has HasToo written Refuses Needs NeedsToo f g out error code out_now error_now (inr (same, inl refused)) = inr (same, inl refused)
puts_as Has HasToo written Refuses Needs NeedsToo f g out error code out_now error_now (inr (same, inr out_of)) = inr
    (same, inr (g out_of.0, out_of.1, out_of.2))

module _ (model : Model) (t : Text) (out : Text) (error : CError) (code : ℤ) (out_now : Text) (error_now : CError) where
  pub puts_profile : PutsCanonicalIn no_front (λ model. IsRefusedAt) model t out error code out_now error_now
      → PutsCanonical model t out error code out_now error_now
  puts_profile = puts_as _ _ _ _ _ _ (of_profile model t) (fault_of_profile model t Memory) out error code out_now error_now

  pub puts_whole : PutsCanonicalIn IsWholeFront IsUnnumberedRefusedAt model t out error code out_now error_now
      → PutsWholeCanonical model t out error code out_now error_now
  puts_whole = puts_as _ _ _ _ _ _ (whole_canonical model t) (fault_of_whole model t Memory) out error code out_now error_now
