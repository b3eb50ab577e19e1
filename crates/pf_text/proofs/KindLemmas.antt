-- The kinds for which the profile rejects a text.
use Rattle.std.proofs.Common.{◌≡◌, ◌≤◌, ◌==◌, ℕ, Bool, true, false, [], ◌∷◌, sym, subst, arith, inl, inr}
use Rattle.std.specs.Prelude.{MatchBool}
use Rattle.std.proofs.lemmas.Bool.{false≢true}
use Rattle.pf_values.specs.declared.limits.TheConstants.{MAX_TEXT_LEN}
use Rattle.pf_values.specs.declared.refusals.RefusalKind.{RefusalKind}
use Rattle.pf_values.specs.declared.refusals.RefusalKind.TheVariants.{NulByte, TooLong, CountUndefined, Mixed, MissingArgument, TwoTypes}
use Rattle.pf_values.specs.RefusalKinds.{number}
use Rattle.pf_values.specs.meaning.Defined.{breaks, undefined_kinds}
use Rattle.pf_values.specs.meaning.Refusals.{HasCause, HasReason, IsRefusedAt, IsRefusedByte}
use Rattle.pf_values.specs.meaning.Text.{Text}
use Rattle.pf_text.proofs.Sound.{find_holds}

-- no reason of a byte is one of the whole language alone
kind_of_reason : (part : Text) (byte : ℕ) (kind : RefusalKind) → HasReason part byte kind → number kind ≤ 18
kind_of_reason part byte CountUndefined (inl h) = absurd (omega (arith, h.1))
kind_of_reason part byte CountUndefined (inr h) = absurd (false≢true (find_holds (breaks h.0) undefined_kinds CountUndefined h.2))
kind_of_reason part byte Mixed (inl h) = absurd (omega (arith, h.1))
kind_of_reason part byte Mixed (inr h) = absurd (false≢true (find_holds (breaks h.0) undefined_kinds Mixed h.2))
kind_of_reason part byte MissingArgument (inl h) = absurd (omega (arith, h.1))
kind_of_reason part byte MissingArgument (inr h) = absurd (false≢true (find_holds (breaks h.0) undefined_kinds MissingArgument h.2))
kind_of_reason part byte TwoTypes (inl h) = absurd (omega (arith, h.1))
kind_of_reason part byte TwoTypes (inr h) = absurd (false≢true (find_holds (breaks h.0) undefined_kinds TwoTypes h.2))
kind_of_reason part byte NulByte h = omega arith
kind_of_reason part byte kind h = omega arith

kind_of_byte : (part : Text) (byte : ℕ) (kind : RefusalKind) (is_past : Bool) → MatchBool is_past (kind ≡ TooLong) (IsRefusedByte part byte kind)
    → number kind ≤ 18
kind_of_byte part byte kind true e = subst (λ k. number k ≤ 18) (sym e) (omega arith)
kind_of_byte part byte kind false e = kind_of_reason part byte kind e.reason

kind_of_cause : (at : ℕ) (part rest : Text) (kind : RefusalKind) → HasCause at part rest kind → number kind ≤ 18
kind_of_cause at part [] kind e = subst (λ k. number k ≤ 18) (sym e) (omega arith)
kind_of_cause at part (byte ∷ rest) kind e = kind_of_byte part byte kind (at == MAX_TEXT_LEN) e

pub kind_of_refusal : (t : Text) (kind : RefusalKind) (at : ℕ) → IsRefusedAt t kind at → number kind ≤ 18
kind_of_refusal t kind at h = kind_of_cause at h.part h.rest kind h.cause
