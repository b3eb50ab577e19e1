-- Examples of verdicts. Each of them computes.
use Rattle.std.proofs.Common.{◌≡◌, ℕ, zero, suc, ◌<◌, List, [], ◌∷◌, ◌++◌, codes, length, refl, sym, ap, ◌∙◌, arith, inl, inr, subst}
use Rattle.std.specs.Prelude.{Option, Some, None, slice_index, slice_get, pos, negsuc}
use Rattle.std.specs.Fmt.{digits}
use Rattle.pf_values.specs.declared.conversions.Conv.{Conv}
use Rattle.pf_values.specs.declared.conversions.Conv.TheVariants as convs
use Rattle.pf_values.specs.declared.flags.Flag.TheVariants.{Zero}
use Rattle.pf_values.specs.declared.lengths.Length.TheVariants as lengths
use Rattle.pf_values.specs.declared.models.Model.TheVariants.{Lp64}
use Rattle.pf_values.specs.meaning.Arguments.{Argument, HasType, Number, String}
use Rattle.pf_values.specs.meaning.Defined.{IsDefined}
use Rattle.pf_values.specs.meaning.Flags.{flag_set, no_flags}
use Rattle.pf_values.specs.meaning.Items.{Directive}
use Rattle.pf_values.specs.meaning.Normal.{silent}
use Rattle.pf_values.specs.meaning.Specification.{Specification}
use Rattle.pf_values.specs.meaning.Spelling.{spelling_of}
use Rattle.pf_values.specs.meaning.Text.{Text}
use Rattle.pf_values.specs.Candidates.{candidates}
use Rattle.pf_values.specs.declared.types.ArgType.TheVariants as profile
use Rattle.pf_values.proofs.Alike.{PrintsAll-unique, all_printed, all_printed-is}
use Rattle.pf_probes.proofs.Telling.{candidate_typed}
use Rattle.pf_compare.specs.Answers.{IsEarlier}
use Rattle.pf_posix.specs.declared.conversions.WholeConv.TheVariants.{Profile, Float, Pointer}
use Rattle.pf_posix.specs.declared.conversions.Floating.{Floating}
use Rattle.pf_posix.specs.declared.conversions.Floating.TheVariants as floats
use Rattle.pf_posix.specs.declared.conversions.WholeLength.TheVariants.{Integer}
use Rattle.pf_posix.specs.Types.{int_type}
use Rattle.pf_posix.specs.Opaque.{OpaqueErrno, OpaqueItem}
use Rattle.pf_posix.specs.Stretches.{Stretches, Last, Before, ReadsStretches}
use Rattle.pf_whole.specs.Answers.{Different, DirectivesDiffer, IsWholeProbe, IsWholeVerdict, StretchesAgree, TellStretches, TracesTogether, TypesDiffer}
use Rattle.pf_whole.specs.meaning.Traces.{PlacedCall}
use Rattle.pf_whole.specs.meaning.WholeArguments.{narrowed}
use Rattle.pf_whole.proofs.Telling.{telling_is_apart}
use Rattle.pf_whole.proofs.Together.{agreeing_is_together}
use Rattle.pf_whole.proofs.ExampleTexts.{no_width, star_width, no_precision, opaque, opaque_parts, silent_defined, read_before}

-- `%*d` and `%d%d` have the same types, and one of them makes a call.
abbrev bare : Conv → Specification
bare conv = record { flags = no_flags; width = None; precision = None; length = lengths.None; conv = conv }

abbrev floating : Floating → OpaqueItem
floating f = opaque_parts [] no_width no_precision (Integer lengths.None) (Float f)

star_and_two : IsWholeVerdict Lp64 (Before [] (opaque_parts [] star_width no_precision (Integer lengths.None) (Profile convs.D)) (Last []))
    (Last (Directive (bare convs.D) ∷ Directive (bare convs.D) ∷ [])) (DirectivesDiffer 0)
star_and_two = (refl, refl)

-- `%d%f` and `%d%e` differ in the call with the argument of index 1
letters_apart : (x y : PlacedCall) → slice_index x.spelling 1 < slice_index y.spelling 1 → y ≡ x → ⊥
letters_apart x y less e = omega (arith, less, ap (λ c. slice_index c.spelling 1) e)

f_and_e : IsWholeVerdict Lp64 (Before (Directive (bare convs.D) ∷ []) (floating floats.F) (Last []))
    (Before (Directive (bare convs.D) ∷ []) (floating floats.E) (Last [])) (DirectivesDiffer 1)
f_and_e = (refl, inr (letters_apart (record { index = 1; spelling = codes "%e" }) (record { index = 1; spelling = codes "%f" }) (omega arith), refl))

-- `%m%m` and `%m` make the same call in other numbers
twice_and_once : IsWholeVerdict Lp64 (Before [] OpaqueErrno (Before [] OpaqueErrno (Last []))) (Before [] OpaqueErrno (Last [])) (DirectivesDiffer 0)
twice_and_once = (refl, inl (refl, refl))

-- `%.0s%m` and `%m%.0s` print the same, and `%m` is in another place
places_apart : (x y : PlacedCall) → x.index < y.index → y ≡ x → ⊥
places_apart x y less e = omega (arith, less, ap (λ c. c.index) e)

behind_and_before : IsWholeVerdict Lp64 (Before (Directive silent ∷ []) OpaqueErrno (Last [])) (Before [] OpaqueErrno (Last (Directive silent ∷ [])))
    (DirectivesDiffer 0)
behind_and_before =
    (refl, inr (places_apart (record { index = 0; spelling = codes "%m" }) (record { index = 1; spelling = codes "%m" }) (omega arith), refl))

-- `%d` and `%f` take other types
int_and_double : IsWholeVerdict Lp64 (Last (Directive (bare convs.D) ∷ [])) (Before [] (floating floats.F) (Last [])) (TypesDiffer 0)
int_and_double = (λ e. cc, λ k less. absurd (omega (arith, less)))

-- `%5.0s%f` and `%.0s%f` differ for the empty string and any double
abbrev wide_silent : Specification
wide_silent = record { flags = no_flags; width = Some 5; precision = Some 0; length = lengths.None; conv = convs.S }

wide_silent_defined : IsDefined wide_silent
wide_silent_defined = record { width = λ e. let width : ℕ = 5 in let same : width ≡ 0 = cc in omega (arith, same); allowed = refl }

five_spaces : TellStretches Lp64 (Directive wide_silent ∷ []) (Directive silent ∷ []) (Some (String []) ∷ [])
five_spaces = record {
  known = String [] ∷ [];
  shown_is = refl;
  typed = (tt, tt);
  unlike = (codes "     ", [], (codes "     ", [], ([], refl, refl), refl, refl), ([], [], ([], refl, refl), refl, refl), λ e. cc);
}

abbrev wide_first : Stretches
wide_first = Before (Directive wide_silent ∷ []) (floating floats.F) (Last [])

abbrev bare_first : Stretches
bare_first = Before (Directive silent ∷ []) (floating floats.F) (Last [])

wide_first_read : ReadsStretches (codes "%5.0s%f") wide_first
unfolding digits opaque
wide_first_read = read_before wide_silent (codes "%5.0s%f") wide_silent_defined
    (opaque Lp64 [] no_width no_precision (Integer lengths.None) (Float floats.F) refl refl) refl

bare_first_read : ReadsStretches (codes "%.0s%f") bare_first
unfolding digits opaque
bare_first_read = read_before silent (codes "%.0s%f") silent_defined
    (opaque Lp64 [] no_width no_precision (Integer lengths.None) (Float floats.F) refl refl) refl

spaces_and_none : IsWholeVerdict Lp64 wide_first bare_first (Different (Some (String []) ∷ None ∷ []))
spaces_and_none = (
  refl,
  refl,
  inl (record {
    shown_is = refl;
    apart = telling_is_apart Lp64 (codes "%5.0s%f") (codes "%.0s%f") wide_first bare_first (Some (String []) ∷ None ∷ []) wide_first_read bare_first_read
        (refl, refl, refl) (Some (String []) ∷ [], None ∷ [], [], refl, refl, refl, inl five_spaces);
  }),
)

-- `%f%05d%p` and `%f%.5d%p` differ for -1, whatever the double and the pointer are, and for no candidate before it
abbrev filled_five : Specification
filled_five = record { flags = flag_set (Zero ∷ []); width = Some 5; precision = None; length = lengths.None; conv = convs.D }

abbrev five_digits : Specification
five_digits = record { flags = no_flags; width = None; precision = Some 5; length = lengths.None; conv = convs.D }

abbrev between : Specification → Stretches
between s = Before [] (floating floats.F) (Before (Directive s ∷ []) (opaque_parts [] no_width no_precision (Integer lengths.None) Pointer) (Last []))

abbrev shown_between : Argument → List (Option Argument)
shown_between argument = None ∷ Some argument ∷ None ∷ []

filled_five_defined : IsDefined filled_five
filled_five_defined = record { width = λ e. let width : ℕ = 5 in let same : width ≡ 0 = cc in omega (arith, same); allowed = refl }

five_digits_defined : IsDefined five_digits
five_digits_defined = record { width = λ e. cc; allowed = refl }

between_read : (s : Specification) (t : Text) → IsDefined s → t ≡ codes "%f" ++ (spelling_of s ++ codes "%p") → ReadsStretches t (between s)
unfolding digits opaque
between_read s t defined e = (
  [],
  codes "%f",
  spelling_of s ++ codes "%p",
  refl,
  (opaque Lp64 [] no_width no_precision (Integer lengths.None) (Float floats.F) refl refl).spelled,
  read_before s (spelling_of s ++ codes "%p") defined (opaque Lp64 [] no_width no_precision (Integer lengths.None) Pointer refl refl) refl,
  e,
)

filled_five_between : ReadsStretches (codes "%f%05d%p") (between filled_five)
unfolding digits
filled_five_between = between_read filled_five (codes "%f%05d%p") filled_five_defined refl

five_digits_between : ReadsStretches (codes "%f%.5d%p") (between five_digits)
unfolding digits
five_digits_between = between_read five_digits (codes "%f%.5d%p") five_digits_defined refl

nothing_agrees : StretchesAgree Lp64 [] [] []
nothing_agrees = record { known = []; shown_is = refl; typed = tt; same = λ x y h g. h ∙ sym g }

together_for : (argument : Argument) → HasType Lp64 argument profile.Int
    → all_printed Lp64 (Directive filled_five ∷ []) (argument ∷ []) ≡ all_printed Lp64 (Directive five_digits ∷ []) (argument ∷ [])
    → TracesTogether Lp64 (between filled_five) (between five_digits) (shown_between argument)
together_for argument typed same = agreeing_is_together Lp64 (codes "%f%05d%p") (codes "%f%.5d%p") (between filled_five) (between five_digits)
    (shown_between argument) filled_five_between five_digits_between (refl, refl, (refl, refl, refl)) (
      [],
      None ∷ [],
      Some argument ∷ None ∷ [],
      refl,
      refl,
      nothing_agrees,
      (
        Some argument ∷ [],
        None ∷ [],
        [],
        refl,
        refl,
        record {
          known = argument ∷ [];
          shown_is = refl;
          typed = (typed, tt);
          same = λ x y h g. PrintsAll-unique Lp64 (Directive filled_five ∷ []) (argument ∷ []) x (typed, tt) h ∙ same
              ∙ sym (PrintsAll-unique Lp64 (Directive five_digits ∷ []) (argument ∷ []) y (typed, tt) g);
        },
        nothing_agrees,
      ),
    )

no_candidate_before : (k : ℕ) (argument : Argument) → k < 6 → slice_get (candidates Lp64 profile.Int) k ≡ Some argument
    → TracesTogether Lp64 (between filled_five) (between five_digits) (shown_between argument)
no_candidate_before k argument less e = go k less e where
  of : (x : Argument) → x ≡ argument → TracesTogether Lp64 (between filled_five) (between five_digits) (shown_between x)
      → TracesTogether Lp64 (between filled_five) (between five_digits) (shown_between argument)
  of x same h = subst (λ x. TracesTogether Lp64 (between filled_five) (between five_digits) (shown_between x)) same h

  go : (k : ℕ) → k < 6 → slice_get (candidates Lp64 profile.Int) k ≡ Some argument
      → TracesTogether Lp64 (between filled_five) (between five_digits) (shown_between argument)
  go zero less e = of (Number (pos 0)) (cc) (together_for _ (candidate_typed Lp64 profile.Int _ (0, omega arith, refl)) refl)
  go (suc zero) less e = of (Number (pos 1)) (cc) (together_for _ (candidate_typed Lp64 profile.Int _ (1, omega arith, refl)) refl)
  go (suc (suc zero)) less e = of (Number (pos 2)) (cc) (together_for _ (candidate_typed Lp64 profile.Int _ (2, omega arith, refl)) refl)
  go (suc (suc (suc zero))) less e = of (Number (pos 257)) (cc) (together_for _ (candidate_typed Lp64 profile.Int _ (3, omega arith, refl)) refl)
  go (suc (suc (suc (suc zero)))) less e = of (Number (pos 129)) (cc) (together_for _ (candidate_typed Lp64 profile.Int _ (4, omega arith, refl)) refl)
  go (suc (suc (suc (suc (suc zero))))) less e = of (Number (pos 32769)) (cc) (together_for _ (candidate_typed Lp64 profile.Int _ (5, omega arith, refl)) refl)
  go (suc (suc (suc (suc (suc (suc k)))))) less e = absurd (omega (arith, less))

no_probe_before : (i k : ℕ) (before : List (Option Argument)) → IsWholeProbe Lp64 (between filled_five) i k before → IsEarlier i k 1 6
    → TracesTogether Lp64 (between filled_five) (between five_digits) before
no_probe_before zero k before p e = let no = p.in_stretch in cc
no_probe_before (suc zero) k before p (inl less) = absurd (omega (arith, less))
no_probe_before (suc zero) k before p (inr (same, less)) =
    let wide : p.wide ≡ int_type = let is = p.wide_is in cc in
    let type : profile.Int ≡ p.type = let is : narrowed int_type ≡ Some p.type = subst (λ w. narrowed w ≡ Some p.type) wide p.type_is in cc in
    let found : slice_get (candidates Lp64 profile.Int) k
    ≡ Some p.argument = subst (λ t. slice_get (candidates Lp64 t) k ≡ Some p.argument) (sym type) p.candidate in
    subst (TracesTogether Lp64 (between filled_five) (between five_digits)) (sym p.shown_is) (no_candidate_before k p.argument less found)
no_probe_before (suc (suc i)) k before p (inl less) = absurd (omega (arith, less))
no_probe_before (suc (suc i)) k before p (inr (same, less)) = absurd (omega (arith, same))

filled_and_digits : IsWholeVerdict Lp64 (between filled_five) (between five_digits) (Different (shown_between (Number (negsuc 0))))
filled_and_digits = (
  refl,
  refl,
  inr (record {
    neutral_same = together_for (Number (pos 0)) (candidate_typed Lp64 profile.Int _ (0, omega arith, refl)) refl;
    index = 1;
    candidate_index = 6;
    probe = record {
      type = profile.Int;
      wide = int_type;
      argument = Number (negsuc 0);
      in_stretch = refl;
      wide_is = refl;
      type_is = refl;
      candidate = refl;
      shown_is = refl;
    };
    apart = telling_is_apart Lp64 (codes "%f%05d%p") (codes "%f%.5d%p") (between filled_five) (between five_digits) (shown_between (Number (negsuc 0)))
        filled_five_between five_digits_between (refl, refl, (refl, refl, refl)) (
          [],
          None ∷ [],
          Some (Number (negsuc 0)) ∷ None ∷ [],
          refl,
          refl,
          refl,
          inr (
            Some (Number (negsuc 0)) ∷ [],
            None ∷ [],
            [],
            refl,
            refl,
            refl,
            inl (record {
              known = Number (negsuc 0) ∷ [];
              shown_is = refl;
              typed = (candidate_typed Lp64 profile.Int _ (6, omega arith, refl), tt);
              unlike = (
                codes "-0001",
                codes "-00001",
                all_printed-is Lp64 (Directive filled_five ∷ []) (Number (negsuc 0) ∷ [])
                    (candidate_typed Lp64 profile.Int _ (6, omega arith, refl), tt),
                all_printed-is Lp64 (Directive five_digits ∷ []) (Number (negsuc 0) ∷ [])
                    (candidate_typed Lp64 profile.Int _ (6, omega arith, refl), tt),
                λ e. omega (arith, ap length e),
              );
            }),
          ),
        );
    earlier = no_probe_before;
  }),
)
