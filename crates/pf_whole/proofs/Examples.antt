-- Examples of canonical texts. Each of them computes. docs/DEFINITIONS.md goes through them.
use Rattle.std.proofs.Common.{◌≡◌, ℕ, List, [], ◌∷◌, ◌++◌, codes, length, refl, ap, arith, inl, inr}
use Rattle.std.specs.Prelude.{Some, None}
use Rattle.std.specs.Fmt.{digits}
use Rattle.pf_values.specs.declared.conversions.Conv.TheVariants as convs
use Rattle.pf_values.specs.declared.flags.Flag.TheVariants.{Minus, Plus, Space, Alt, Zero, Group}
use Rattle.pf_values.specs.declared.lengths.Length.TheVariants as lengths
use Rattle.pf_values.specs.declared.models.Model.TheVariants.{Lp64, Ilp32, Llp64}
use Rattle.pf_values.specs.meaning.Flags.{no_flags}
use Rattle.pf_values.specs.meaning.Items.{Directive, IsReadAs, Item}
use Rattle.pf_values.specs.meaning.Normal.{IsNormal, silent}
use Rattle.pf_values.specs.meaning.Specification.{Specification}
use Rattle.pf_values.specs.meaning.Spelling.{spelling_of}
use Rattle.pf_text.proofs.ReadBack.{spelled_read}
use Rattle.pf_posix.specs.declared.conversions.WholeConv.TheVariants.{Profile, Float, UpperC, UpperS, Pointer, Count}
use Rattle.pf_posix.specs.declared.conversions.Floating.TheVariants as floats
use Rattle.pf_posix.specs.declared.conversions.WholeLength.TheVariants.{Integer, LongDouble}
use Rattle.pf_posix.specs.declared.types.WholeArgType.TheVariants.{Double, WideString, PointerToLong}
use Rattle.pf_posix.specs.Types.{int_type}
use Rattle.pf_posix.specs.Opaque.{OpaqueErrno}
use Rattle.pf_posix.specs.Stretches.{Last, Before, whole_types}
use Rattle.pf_whole.specs.meaning.Traces.{AreWholeAlike, placed_calls}
use Rattle.pf_whole.specs.meaning.WholeCanonical.{IsCanonicalStretch, IsWholeCanonicalOf}
use Rattle.pf_whole.proofs.Completeness.{alike_have_one_canonical}
use Rattle.pf_whole.proofs.OneCanonical.{one_canonical_is_alike}
use Rattle.pf_whole.proofs.ExampleTexts.{
  no_width,
  star_width,
  given_width,
  no_precision,
  star_precision,
  given_precision,
  opaque_parts,
  opaque,
  ends,
  then_on,
  errno_kept,
  silent_defined,
}

-- `C` and `S` are `lc` and `ls`
wide_ones : IsWholeCanonicalOf Llp64 (codes "%lc%C%ls%S") (codes "%lc%lc%ls%ls")
unfolding digits
wide_ones =
    then_on [] refl (opaque Llp64 [] no_width no_precision (Integer lengths.L) (Profile convs.C) refl refl)
    (then_on [] refl (opaque Llp64 [] no_width no_precision (Integer lengths.None) UpperC refl refl)
    (then_on [] refl (opaque Llp64 [] no_width no_precision (Integer lengths.L) (Profile convs.S) refl refl)
    (then_on [] refl (opaque Llp64 [] no_width no_precision (Integer lengths.None) UpperS refl refl)
    (ends [] refl))))

-- `i` becomes `d`; `0` next to a precision, `-` without a width and `+` on `u` are dropped
stars : IsWholeCanonicalOf Lp64 (codes "%-*.3i%0*.3d%-.*u%+*u") (codes "%-*.3d%*.3d%.*u%*u")
unfolding digits
stars =
    then_on [] refl
    (opaque Lp64 (Minus ∷ []) star_width (given_precision (3 ∷ []) (omega arith, tt) (omega arith)) (Integer lengths.None) (Profile convs.I) refl refl)
    (then_on [] refl
    (opaque Lp64 (Zero ∷ []) star_width (given_precision (3 ∷ []) (omega arith, tt) (omega arith)) (Integer lengths.None) (Profile convs.D) refl refl)
    (then_on [] refl (opaque Lp64 (Minus ∷ []) no_width star_precision (Integer lengths.None) (Profile convs.U) refl refl)
    (then_on [] refl (opaque Lp64 (Plus ∷ []) star_width no_precision (Integer lengths.None) (Profile convs.U) refl refl)
    (ends [] refl))))

-- `'` is dropped
grouped : IsWholeCanonicalOf Ilp32 (codes "%'f%'*d") (codes "%f%*d")
unfolding digits
grouped =
    then_on [] refl (opaque Ilp32 (Group ∷ []) no_width no_precision (Integer lengths.None) (Float floats.F) refl refl)
    (then_on [] refl (opaque Ilp32 (Group ∷ []) star_width no_precision (Integer lengths.None) (Profile convs.D) refl refl)
    (ends [] refl))

-- `L` is kept
long_doubles : IsWholeCanonicalOf Llp64 (codes "%Lf%La") (codes "%Lf%La")
unfolding digits
long_doubles =
    then_on [] refl (opaque Llp64 [] no_width no_precision LongDouble (Float floats.F) refl refl)
    (then_on [] refl (opaque Llp64 [] no_width no_precision LongDouble (Float floats.A) refl refl)
    (ends [] refl))

-- the precision 0 of `g` becomes 1
general : IsWholeCanonicalOf Lp64 (codes "a%+.g ") (codes "a%+.1g ")
unfolding digits
general =
    then_on (codes "a") refl (opaque Lp64 (Plus ∷ []) no_width (given_precision [] tt (omega arith)) (Integer lengths.None) (Float floats.G) refl refl)
    (ends (codes " ") refl)

-- a precision 1 of a floating conversion is kept
exponent : IsWholeCanonicalOf Lp64 (codes "% .1E ") (codes "% .1E ")
unfolding digits
exponent =
    then_on [] refl
    (opaque Lp64 (Space ∷ []) no_width (given_precision (1 ∷ []) (omega arith, tt) (omega arith)) (Integer lengths.None) (Float floats.UpperE) refl refl)
    (ends (codes " ") refl)

-- a point alone is the precision 0
point_alone : IsWholeCanonicalOf Lp64 (codes " %16.Lf") (codes " %16.0Lf")
unfolding digits
point_alone =
    then_on (codes " ") refl
    (opaque Lp64 [] (given_width 16 (omega arith) (omega arith)) (given_precision [] tt (omega arith)) LongDouble (Float floats.F) refl refl)
    (ends [] refl)

-- `+` on `b` is dropped, and the precision 0 is kept
base_two : IsWholeCanonicalOf Lp64 (codes "A%-+*.0hb!") (codes "A%-*.0hb!")
unfolding digits
base_two =
    then_on (codes "A") refl
    (opaque Lp64 (Minus ∷ Plus ∷ []) star_width (given_precision (0 ∷ []) (omega arith, tt) (omega arith)) (Integer lengths.H) (Profile convs.B) refl refl)
    (ends (codes "!") refl)

-- a precision `*` isn't a width
precision_star : IsWholeCanonicalOf Ilp32 (codes "%+-.*u!") (codes "%.*u!")
unfolding digits
precision_star =
    then_on [] refl (opaque Ilp32 (Plus ∷ Minus ∷ []) no_width star_precision (Integer lengths.None) (Profile convs.U) refl refl)
    (ends (codes "!") refl)

-- `-` and `0` without a width, and `l` on a floating conversion, are dropped
no_field : IsWholeCanonicalOf Lp64 (codes "%%%-0lf") (codes "%%%f")
unfolding digits
no_field =
    then_on (codes "%") refl (opaque Lp64 (Minus ∷ Zero ∷ []) no_width no_precision (Integer lengths.L) (Float floats.F) refl refl)
    (ends [] refl)

-- `a` has no default precision
hexadecimal : IsWholeCanonicalOf Ilp32 (codes "%.6La!") (codes "%.6La!")
unfolding digits
hexadecimal =
    then_on [] refl (opaque Ilp32 [] no_width (given_precision (6 ∷ []) (omega arith, tt) (omega arith)) LongDouble (Float floats.A) refl refl)
    (ends (codes "!") refl)

-- each flag is written once
flags_once : IsWholeCanonicalOf Llp64 (codes "0%##G") (codes "0%#G")
unfolding digits
flags_once =
    then_on (codes "0") refl (opaque Llp64 (Alt ∷ Alt ∷ []) no_width no_precision (Integer lengths.None) (Float floats.UpperG) refl refl)
    (ends [] refl)

-- `0` on a floating conversion stays next to a precision
filled : IsWholeCanonicalOf Lp64 (codes "x y%.6A0%09.0g") (codes "x y%.6A0%09.1g")
unfolding digits
filled =
    then_on (codes "x y") refl
    (opaque Lp64 [] no_width (given_precision (6 ∷ []) (omega arith, tt) (omega arith)) (Integer lengths.None) (Float floats.UpperA) refl refl)
    (then_on (codes "0") refl
    (opaque Lp64 (Zero ∷ []) (given_width 9 (omega arith) (omega arith)) (given_precision (0 ∷ []) (omega arith, tt) (omega arith)) (Integer lengths.None)
    (Float floats.G) refl refl)
    (ends [] refl))

-- the largest width
widest : IsWholeCanonicalOf Ilp32 (codes "%%%'4095gA%#lf") (codes "%%%4095gA%#f")
unfolding digits
widest =
    then_on (codes "%") refl
    (opaque Ilp32 (Group ∷ []) (given_width 4095 (omega arith) (omega arith)) no_precision (Integer lengths.None) (Float floats.G) refl refl)
    (then_on (codes "A") refl (opaque Ilp32 (Alt ∷ []) no_width no_precision (Integer lengths.L) (Float floats.F) refl refl)
    (ends [] refl))

-- flags in the one order
exponents : IsWholeCanonicalOf Lp64 (codes "%++*.1A!") (codes "%+*.1A!")
unfolding digits
exponents =
    then_on [] refl
    (opaque Lp64 (Plus ∷ Plus ∷ []) star_width (given_precision (1 ∷ []) (omega arith, tt) (omega arith)) (Integer lengths.None)
    (Float floats.UpperA) refl refl)
    (ends (codes "!") refl)

-- on an integer the precision 0 is kept
pairs : IsWholeCanonicalOf Lp64 (codes "%*.lia") (codes "%*.0lda")
unfolding digits
pairs =
    then_on [] refl (opaque Lp64 [] star_width (given_precision [] tt (omega arith)) (Integer lengths.L) (Profile convs.I) refl refl)
    (ends (codes "a") refl)

-- the precision 6 of `f` is dropped
default_of_six : IsWholeCanonicalOf Lp64 (codes "%-08.6lf (") (codes "%-8f (")
unfolding digits
default_of_six =
    then_on [] refl
    (opaque Lp64 (Minus ∷ Zero ∷ []) (given_width 8 (omega arith) (omega arith)) (given_precision (6 ∷ []) (omega arith, tt) (omega arith))
    (Integer lengths.L) (Float floats.F) refl refl)
    (ends (codes " (") refl)

-- the precision 1 of an integer is dropped
default_of_one : IsWholeCanonicalOf Lp64 (codes "%*.1tX!") (codes "%*lX!")
unfolding digits
default_of_one =
    then_on [] refl (opaque Lp64 [] star_width (given_precision (1 ∷ []) (omega arith, tt) (omega arith)) (Integer lengths.T) (Profile convs.UpperX) refl refl)
    (ends (codes "!") refl)

-- `t` in ILP32
sizes_in_ilp32 : IsWholeCanonicalOf Ilp32 (codes "%*.1tX!") (codes "%*X!")
unfolding digits
sizes_in_ilp32 =
    then_on [] refl (opaque Ilp32 [] star_width (given_precision (1 ∷ []) (omega arith, tt) (omega arith)) (Integer lengths.T) (Profile convs.UpperX) refl refl)
    (ends (codes "!") refl)

-- `n` in each data model
counts_in_lp64 : IsWholeCanonicalOf Lp64 (codes "%zn") (codes "%ln")
unfolding digits
counts_in_lp64 =
    then_on [] refl (opaque Lp64 [] no_width no_precision (Integer lengths.Z) Count refl refl)
    (ends [] refl)

counts_in_ilp32 : IsWholeCanonicalOf Ilp32 (codes "%zn") (codes "%n")
unfolding digits
counts_in_ilp32 =
    then_on [] refl (opaque Ilp32 [] no_width no_precision (Integer lengths.Z) Count refl refl)
    (ends [] refl)

counts_in_llp64 : IsWholeCanonicalOf Llp64 (codes "%zn") (codes "%lln")
unfolding digits
counts_in_llp64 =
    then_on [] refl (opaque Llp64 [] no_width no_precision (Integer lengths.Z) Count refl refl)
    (ends [] refl)

-- `j` in LLP64
greatest_in_llp64 : IsWholeCanonicalOf Llp64 (codes "%*jd") (codes "%*lld")
unfolding digits
greatest_in_llp64 =
    then_on [] refl (opaque Llp64 [] star_width no_precision (Integer lengths.J) (Profile convs.D) refl refl)
    (ends [] refl)

-- `0` next to a precision 1 is dropped, although the precision is, too
star_of_j : IsWholeCanonicalOf Lp64 (codes "x%0*.1jo!") (codes "x%*lo!")
unfolding digits
star_of_j =
    then_on (codes "x") refl
    (opaque Lp64 (Zero ∷ []) star_width (given_precision (1 ∷ []) (omega arith, tt) (omega arith)) (Integer lengths.J) (Profile convs.O) refl refl)
    (ends (codes "!") refl)

-- leading zeros of a precision
leading_zero : IsWholeCanonicalOf Lp64 (codes "%5.06E") (codes "%5E")
unfolding digits
leading_zero =
    then_on [] refl
    (opaque Lp64 [] (given_width 5 (omega arith) (omega arith)) (given_precision (0 ∷ 6 ∷ []) (omega arith, (omega arith, tt)) (omega arith))
    (Integer lengths.None) (Float floats.UpperE) refl refl)
    (ends [] refl)

-- `+` stays on `p`, and a space next to it is dropped
pointer : IsWholeCanonicalOf Lp64 (codes "%+ -5p") (codes "%-+5p")
unfolding digits
pointer =
    then_on [] refl (opaque Lp64 (Plus ∷ Space ∷ Minus ∷ []) (given_width 5 (omega arith) (omega arith)) no_precision (Integer lengths.None) Pointer refl refl)
    (ends [] refl)

bare_pointer : IsWholeCanonicalOf Lp64 (codes "% p") (codes "% p")
unfolding digits
bare_pointer =
    then_on [] refl (opaque Lp64 (Space ∷ []) no_width no_precision (Integer lengths.None) Pointer refl refl)
    (ends [] refl)

-- nothing else changes: `%1f` is not `%f`
width_one : IsWholeCanonicalOf Lp64 (codes "%1f") (codes "%1f")
unfolding digits
width_one =
    then_on [] refl (opaque Lp64 [] (given_width 1 (omega arith) (omega arith)) no_precision (Integer lengths.None) (Float floats.F) refl refl)
    (ends [] refl)

no_width_f : IsWholeCanonicalOf Lp64 (codes "%f") (codes "%f")
unfolding digits
no_width_f =
    then_on [] refl (opaque Lp64 [] no_width no_precision (Integer lengths.None) (Float floats.F) refl refl)
    (ends [] refl)

-- nor is `%-*.0s` the same as `%*.0s`
left_nothing : IsWholeCanonicalOf Lp64 (codes "%-*.0s") (codes "%-*.0s")
unfolding digits
left_nothing =
    then_on [] refl
    (opaque Lp64 (Minus ∷ []) star_width (given_precision (0 ∷ []) (omega arith, tt) (omega arith)) (Integer lengths.None) (Profile convs.S) refl refl)
    (ends [] refl)

nothing : IsWholeCanonicalOf Lp64 (codes "%*.0s") (codes "%*.0s")
unfolding digits
nothing =
    then_on [] refl (opaque Lp64 [] star_width (given_precision (0 ∷ []) (omega arith, tt) (omega arith)) (Integer lengths.None) (Profile convs.S) refl refl)
    (ends [] refl)

-- `0` stays next to a precision `*`, which may be negative
zero_kept : IsWholeCanonicalOf Lp64 (codes "%0*.*d") (codes "%0*.*d")
unfolding digits
zero_kept =
    then_on [] refl (opaque Lp64 (Zero ∷ []) star_width star_precision (Integer lengths.None) (Profile convs.D) refl refl)
    (ends [] refl)

-- no `%.0s` passes an opaque directive
abbrev five : Specification
five = record { flags = no_flags; width = Some 5; precision = None; length = lengths.None; conv = convs.D }

five_normal : IsNormal Lp64 five
five_normal = record {
  defined = record { width = λ e. let width : ℕ = 5 in let same : width ≡ 0 = cc in omega (arith, same); allowed = refl };
  no_group = refl;
  length = refl;
  conv = refl;
  no_plus = λ e. absurd (cc);
  no_space = λ e. absurd (cc);
  precision = λ e. absurd (cc);
  form = record {
    one_sign = λ e. absurd (cc);
    least = λ some. omega arith;
    most = omega arith;
    right_space = λ right e. absurd (cc);
    right_bare = λ right none few. absurd (omega (arith, few));
    left = λ e. absurd (cc);
  };
}

silent_read : IsReadAs (spelling_of silent) (Directive silent)
silent_read = (spelled_read silent silent_defined, silent_defined)

abbrev three_items : List Item
three_items = Directive silent ∷ Directive five ∷ Directive silent ∷ []

three_kept : IsCanonicalStretch Lp64 three_items (spelling_of silent ++ (spelling_of five ++ (spelling_of silent ++ [])))
three_kept = record {
  own = three_items;
  canonical = record {
    reads = (
      spelling_of silent,
      spelling_of five ++ (spelling_of silent ++ []),
      silent_read,
      (
        spelling_of five,
        spelling_of silent ++ [],
        (spelled_read five five_normal.defined, five_normal.defined),
        (spelling_of silent, [], silent_read, refl, refl),
        refl,
      ),
      refl,
    );
    canonical = (inr (refl, tt), (inl five_normal, (inr (refl, tt), tt)));
    whole = refl;
  };
  alike = record { same_types = refl; same_bytes = λ args out typed. (λ p. p, λ p. p) };
}

one_kept : IsCanonicalStretch Lp64 (Directive silent ∷ []) (spelling_of silent ++ [])
one_kept = record {
  own = Directive silent ∷ [];
  canonical = record { reads = (spelling_of silent, [], silent_read, refl, refl); canonical = (inr (refl, tt), tt); whole = refl };
  alike = record { same_types = refl; same_bytes = λ args out typed. (λ p. p, λ p. p) };
}

silent_stays : IsWholeCanonicalOf Lp64 (codes "%.0s%5d%.0s%p%.0s") (codes "%.0s%5d%.0s%p%.0s")
unfolding digits opaque one_kept three_kept
silent_stays =
    let pointer = opaque Lp64 [] no_width no_precision (Integer lengths.None) Pointer refl refl in
    record {
      stretches = Before three_items (opaque_parts [] no_width no_precision (Integer lengths.None) Pointer) (Last (Directive silent ∷ []));
      reads = (codes "%.0s%5d%.0s", codes "%p", codes "%.0s", three_kept.canonical.reads, pointer.spelled, one_kept.canonical.reads, refl);
      together = (codes "%.0s%5d%.0s", codes "%.0s", three_kept, one_kept, refl);
    }

-- `%*tX!` and `%*.1tX!` are alike: they have one canonical text
shorter : IsWholeCanonicalOf Lp64 (codes "%*tX!") (codes "%*lX!")
unfolding digits
shorter =
    then_on [] refl (opaque Lp64 [] star_width no_precision (Integer lengths.T) (Profile convs.UpperX) refl refl)
    (ends (codes "!") refl)

same_default : AreWholeAlike Lp64 (codes "%*tX!") (codes "%*.1tX!")
same_default = one_canonical_is_alike Lp64 (codes "%*tX!") (codes "%*.1tX!") (codes "%*lX!") shorter default_of_one

-- `%1f` and `%f` aren't
not_alike : AreWholeAlike Lp64 (codes "%1f") (codes "%f") → ⊥
not_alike h =
    let same : codes "%1f" ≡ codes "%f" = alike_have_one_canonical Lp64 (codes "%1f") (codes "%f") (codes "%1f") (codes "%f") h width_one no_width_f in
    omega (arith, ap length same)

-- the types of `%*.*f`, `%ls` and `%zn`, in order
types_in_order : whole_types Lp64 (Before [] (opaque_parts [] star_width star_precision (Integer lengths.None) (Float floats.F))
    (Before [] (opaque_parts [] no_width no_precision (Integer lengths.L) (Profile convs.S))
    (Before [] (opaque_parts [] no_width no_precision (Integer lengths.Z) Count) (Last [])))) ≡ int_type ∷ int_type ∷ Double ∷ WideString ∷ PointerToLong ∷ []
types_in_order = refl

-- the calls of `%*f%p`: that of `%p` begins with the argument of index 2
calls_in_order : placed_calls Lp64 0 (Before [] (opaque_parts [] star_width no_precision (Integer lengths.None) (Float floats.F))
    (Before [] (opaque_parts [] no_width no_precision (Integer lengths.None) Pointer) (Last [])))
    ≡ record { index = 0; spelling = codes "%*f" } ∷ record { index = 2; spelling = codes "%p" } ∷ []
calls_in_order = refl

-- `%m` stays where it is, and keeps `%.0s` from going to the end: `%d` for `%i`, a colon and `%m`
errno_stays : IsWholeCanonicalOf Lp64 (codes "error: %m!") (codes "error: %m!")
errno_stays = then_on (codes "error: ") refl (errno_kept Lp64) (ends (codes "!") refl)

-- the calls of `%m%p%m`: the last one comes after an argument
calls_of_errno : placed_calls Lp64 0 (Before [] OpaqueErrno (Before [] (opaque_parts [] no_width no_precision (Integer lengths.None) Pointer)
    (Before [] OpaqueErrno (Last []))))
    ≡ record { index = 0; spelling = codes "%m" } ∷ record { index = 0; spelling = codes "%p" } ∷ record { index = 1; spelling = codes "%m" } ∷ []
calls_of_errno = refl
