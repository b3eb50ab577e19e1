-- Each table of all values of a type has each value once.
use Rattle.std.proofs.Common.{◌≡◌, ◌++◌, ◌∷◌, ◌+◌, ◌-◌, ℕ, false, List, nat_eq, take, drop, refl, sym, ◌∙◌}
use Rattle.std.specs.Cmp.{IsEquivalence}
use Rattle.std.specs.List.{list_any}
use Rattle.std.proofs.lemmas.Bool.{true≢false}
use Rattle.std.proofs.lemmas.Cmp.{nat_eq_equiv}
use Rattle.std.proofs.lemmas.Map.Views.{list_any-from_Contains}
use Rattle.pf_values.specs.declared.conversions.Conv.{Conv}
use Rattle.pf_values.specs.declared.conversions.Conv.TheVariants as conversions
use Rattle.pf_values.specs.declared.conversions.TheConstants.Conv.{ALL as all_conversions}
use Rattle.pf_values.specs.declared.lengths.Length.{Length}
use Rattle.pf_values.specs.declared.lengths.Length.TheVariants as lengths
use Rattle.pf_values.specs.declared.lengths.TheConstants.Length.{ALL as all_lengths}
use Rattle.pf_values.specs.declared.flags.Flag.{Flag}
use Rattle.pf_values.specs.declared.flags.Flag.TheVariants as flags
use Rattle.pf_values.specs.declared.flags.TheConstants.Flag.{ALL as all_flags}
use Rattle.pf_values.specs.declared.models.Model.{Model}
use Rattle.pf_values.specs.declared.models.Model.TheVariants as models
use Rattle.pf_values.specs.declared.models.TheConstants.Model.{ALL as all_models}
use Rattle.pf_values.specs.declared.refusals.RefusalKind.{RefusalKind}
use Rattle.pf_values.specs.declared.refusals.RefusalKind.TheVariants as refusals
use Rattle.pf_values.specs.declared.refusals.TheConstants.RefusalKind.{ALL as all_refusals}
use Rattle.pf_values.specs.Laws.{HasEachOnce, OccursOnce}
use Rattle.pf_values.specs.RefusalKinds.{number}

-- A value is where its place says, and none of the others has that place.
module _ {A : Type 0} (place : A → ℕ) where
  same_place : IsEquivalence (λ (v w : A). nat_eq (place v) (place w))
  same_place =
      record {
        refl = λ v. nat_eq_equiv.refl (place v);
        symm = λ v w. nat_eq_equiv.symm (place v) (place w);
        congr = λ v w x. nat_eq_equiv.congr (place v) (place w) (place x);
      }

  pub once : (all : List A) (v : A) → all ≡ take (place v) all ++ (v ∷ drop (place v + 1) all)
      → list_any (λ w. nat_eq (place v) (place w)) (take (place v) all ++ drop (place v + 1) all) ≡ false → OccursOnce all v
  once all v there none =
      record {
        before = take (place v) all;
        after = drop (place v + 1) all;
        there = there;
        nowhere_else = λ h. true≢false (sym (list_any-from_Contains same_place v _ h) ∙ none);
      }

abbrev conversion_place : Conv → ℕ
conversion_place conversions.D = 0
conversion_place conversions.I = 1
conversion_place conversions.U = 2
conversion_place conversions.O = 3
conversion_place conversions.X = 4
conversion_place conversions.UpperX = 5
conversion_place conversions.B = 6
conversion_place conversions.C = 7
conversion_place conversions.S = 8

pub each_conversion : HasEachOnce all_conversions
each_conversion conversions.D = once conversion_place all_conversions conversions.D refl refl
each_conversion value = once conversion_place all_conversions value refl refl

abbrev length_place : Length → ℕ
length_place lengths.None = 0
length_place lengths.Hh = 1
length_place lengths.H = 2
length_place lengths.L = 3
length_place lengths.Ll = 4
length_place lengths.J = 5
length_place lengths.Z = 6
length_place lengths.T = 7

pub each_length : HasEachOnce all_lengths
each_length lengths.None = once length_place all_lengths lengths.None refl refl
each_length value = once length_place all_lengths value refl refl

abbrev flag_place : Flag → ℕ
flag_place flags.Minus = 0
flag_place flags.Plus = 1
flag_place flags.Space = 2
flag_place flags.Alt = 3
flag_place flags.Zero = 4
flag_place flags.Group = 5

pub each_flag : HasEachOnce all_flags
each_flag flags.Minus = once flag_place all_flags flags.Minus refl refl
each_flag value = once flag_place all_flags value refl refl

abbrev model_place : Model → ℕ
model_place models.Lp64 = 0
model_place models.Ilp32 = 1
model_place models.Llp64 = 2

pub each_model : HasEachOnce all_models
each_model models.Lp64 = once model_place all_models models.Lp64 refl refl
each_model value = once model_place all_models value refl refl

abbrev refusal_place : RefusalKind → ℕ
refusal_place kind = number kind - 1

pub each_refusal : HasEachOnce all_refusals
each_refusal refusals.NulByte = once refusal_place all_refusals refusals.NulByte refl refl
each_refusal kind = once refusal_place all_refusals kind refl refl
