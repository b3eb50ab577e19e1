-- Verdicts and lengths, as the answers of calls.
use Rattle.std.proofs.Common.{◌≡◌, ℕ, ℤ, inl, inr, length, subst, Result, Ok, Err}
use Rattle.std.specs.Prelude.{MatchResult}
use Rattle.pf_values.specs.declared.refusals.RefusalKind.{RefusalKind}
use Rattle.pf_values.specs.meaning.Text.{Text}
use Rattle.pf_compare.specs.declared.comparisons.CompareFault.{CompareFault}
use Rattle.pf_compare.specs.declared.comparisons.CompareFault.TheVariants.{Memory}
use Rattle.pf_text.specs.declared.refusals.Refusal.{Refusal}
use Rattle.pf_whole.specs.Comparisons.{ShowsArguments}
use Rattle.pf_whole.specs.declared.verdicts.WholeVerdict.{WholeVerdict}
use Rattle.fmtcanon_c.specs.Calls.{AnswersLength, IsLengthAnswer, IsLengthCode}
use Rattle.fmtcanon_c.specs.Comparisons.{AnswersVerdict, PutsComparison}
use Rattle.fmtcanon_c.specs.declared.comparison.CComparison.{CComparison}
use Rattle.fmtcanon_c.specs.declared.interface.CError.{CError}

-- a comparison that was made is answered, unless there is no memory for the words
pub answered : (Is : WholeVerdict → ℕ → Type 0) (IsFault : CompareFault → Type 0) (out : Text) (answer : CComparison) (error : CError) (code : ℤ)
    (out_now : Text) (answer_now : CComparison) (verdict : WholeVerdict) (renderings : ℕ) → Is verdict renderings
    → (ShowsArguments verdict → IsFault Memory) → AnswersVerdict verdict renderings out answer error code out_now answer_now error
    → PutsComparison Is IsFault out answer error code out_now answer_now error
answered Is IsFault out answer error code out_now answer_now verdict renderings is needs (inl puts) = inl (verdict, renderings, is, puts)
answered Is IsFault out answer error code out_now answer_now verdict renderings is needs (inr none) = inr (Memory, needs none.0, none.1)

-- the length of a canonical text
pub length_answered : (IsCanonical : Text → Type 0) (Refuses : RefusalKind → ℕ → Type 0) (found : Result ℕ Refusal) (error : CError)
    (code : ℤ) (error_now : CError)
    → MatchResult found (λ len. (c : Text) × IsCanonical c × (len ≡ length c)) (λ refusal. Refuses refusal.kind refusal.at)
    → IsLengthAnswer found error code error_now → AnswersLength IsCanonical Refuses error code error_now
length_answered IsCanonical Refuses (Ok len) error code error_now h is =
    inl (h.0, h.1, subst (λ n. IsLengthCode n code) h.2 is.0, is.1)
length_answered IsCanonical Refuses (Err refusal) error code error_now h is = inr (record {
  kind = refusal.kind;
  refused = rw is.at_is h;
  code_is = is.code_is;
  kind_is = is.kind_is;
  side_is = is.side_is;
})
