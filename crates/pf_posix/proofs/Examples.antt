-- Examples of the definitions. Each of them computes. docs/DEFINITIONS.md goes through them.
use Rattle.std.proofs.Common.{◌≡◌, ℕ, Bool, true, false, [], ◌∷◌, codes, refl, sym, ap, ◌∙◌, subst, arith, inl, inr}
use Rattle.std.specs.Prelude.{Option, Some, None, if◌then◌else◌}
use Rattle.pf_values.specs.declared.flags.Flag.TheVariants.{Alt}
use Rattle.pf_values.specs.declared.lengths.Length.TheVariants as lengths
use Rattle.pf_values.specs.declared.models.Model.{Model}
use Rattle.pf_values.specs.declared.models.Model.TheVariants.{Lp64, Llp64}
use Rattle.pf_values.specs.meaning.Flags.{flag_set}
use Rattle.pf_values.specs.meaning.Text.{Text}
use Rattle.pf_posix.specs.declared.conversions.WholeConv.TheVariants.{Count}
use Rattle.pf_posix.specs.declared.conversions.WholeLength.TheVariants.{Integer}
use Rattle.pf_values.specs.declared.refusals.RefusalKind.{RefusalKind}
use Rattle.pf_values.specs.declared.refusals.RefusalKind.TheVariants.{NulByte, Truncated, Unexpected, BadPercent, WidthTooLarge, PrecisionTooLarge, AltUndefined}
use Rattle.pf_values.specs.declared.refusals.RefusalKind.TheVariants.{CountUndefined, Mixed, MissingArgument, TwoTypes, Numbered, LengthUndefined, GroupUndefined}
use Rattle.pf_posix.specs.declared.types.WholeArgType.TheVariants.{Double, PointerToLong, PointerToLongLong}
use Rattle.pf_posix.specs.Types.{int_type, fetch, conversion_type}
use Rattle.pf_posix.specs.Defined.{undefined_as}
use Rattle.pf_posix.specs.Refusals.{HasGap, IsWholeRefusedAt}
use Rattle.pf_posix.specs.Unnumbered.{IsUnnumberedRefusedAt}
use Rattle.pf_posix.proofs.Agreeing.{agreed_none}
use Rattle.pf_posix.proofs.FrontRefusals.{agreed_plain}
use Rattle.pf_posix.proofs.GoodFronts.{front_none}
use Rattle.pf_posix.proofs.Unique.{IsStopped, Stop, halts_in, is_end, refused_there, stop, stop_from, stops}
use Rattle.pf_posix.proofs.UnnumberedVerdicts.{ahead, ends_refused, numbers_at}

-- where a text stops, and where it does if an argument without a number came before
abbrev stopped : Model → Text → Stop
stopped model t = stop_from model t 0 [] None

abbrev plain : Model → Text → Stop
plain model t = stop_from model t 0 ahead None

-- a text is rejected there
refused_with : (model : Model) (t : Text) (kind : RefusalKind) (at : ℕ) → (is_end (Stop.state (stopped model t)) (Stop.rest (stopped model t)) ≡ true
    → HasGap (Stop.fetches (stopped model t))) → halts_in model (stopped model t) ≡ Some kind → Stop.at (stopped model t) ≡ at
    → IsWholeRefusedAt model t kind at
refused_with model t kind at gap k a =
    let s = stops model [] t [] 0 [] None (front_none model [] agreed_none) refl (omega arith) in
    let kinds : Some s.0 ≡ Some kind = sym s.1.halts ∙ k in
    let same : s.0 ≡ kind = cc in
    subst (IsWholeRefusedAt model t kind) a (refused_there model t (stopped model t) kind (subst (IsStopped model [] t (stopped model t)) same s.1) gap)

-- why a text stops, where, and whether that is its end
abbrev Found : Type 0
Found = Option RefusalKind × ℕ × Bool

abbrev found : Model → Text → Found
found model t = (halts_in model (stopped model t), Stop.at (stopped model t), is_end (Stop.state (stopped model t)) (Stop.rest (stopped model t)))

refused : (model : Model) (t : Text) (kind : RefusalKind) (at : ℕ) → found model t ≡ (Some kind, at, false) → IsWholeRefusedAt model t kind at
refused model t kind at e = refused_with model t kind at (λ whole. let no : true ≡ false = sym whole ∙ ap (λ v. v.2) e in cc)
    (ap (λ v. v.0) e) (ap (λ v. v.1) e)

-- `n` points to what its modifier names in the data model
counted_in_lp64 : conversion_type Lp64 (Integer lengths.Z) Count ≡ PointerToLong
counted_in_lp64 = refl

counted_in_llp64 : conversion_type Llp64 (Integer lengths.Z) Count ≡ PointerToLongLong
counted_in_llp64 = refl

-- the width's argument comes before the precision's
stars_first : (model : Model) → stop_from model (codes "%*.*f") 0 [] None ≡ stop 5 (fetch None int_type ∷ fetch None int_type ∷ fetch None Double ∷ []) None []
stars_first model = refl

-- the smaller number of two that hold: `#` before the flags of `n`
alt_before_count : undefined_as (flag_set (Alt ∷ [])) false false (Integer lengths.None) Count ≡ Some AltUndefined
alt_before_count = refl

-- numbered specifications and others mix, at the byte that shows it; so does a `*` with a number, or without one
mixed : (model : Model) → IsWholeRefusedAt model (codes "%1$d%d") Mixed 5 × IsWholeRefusedAt model (codes "%d%1$d") Mixed 4
    × IsWholeRefusedAt model (codes "%*1$d") Mixed 2 × IsWholeRefusedAt model (codes "%1$*d") Mixed 4
mixed model = (refused model _ _ _ refl, refused model _ _ _ refl, refused model _ _ _ refl, refused model _ _ _ refl)

-- a number is rejected at the digit with which it is too large, before a `$` as a width
too_large : (model : Model) → IsWholeRefusedAt model (codes "%4096$d") WidthTooLarge 4 × IsWholeRefusedAt model (codes "%1$.*4096$d") PrecisionTooLarge 8
too_large model = (refused model _ _ _ refl, refused model _ _ _ refl)

-- one argument has one type, and there is no gap between those of a numbered format
two_types : (model : Model) → IsWholeRefusedAt model (codes "%1$d%1$s") TwoTypes 7 × IsWholeRefusedAt model (codes "%1$s%2$*1$d") TwoTypes 9
two_types model = (refused model _ _ _ refl, refused model _ _ _ refl)

gap : (model : Model) → IsWholeRefusedAt model (codes "%2$d") MissingArgument 4
gap model = refused_with model _ MissingArgument 4 (λ whole. (0, 1, omega arith, inl refl, λ h. elim h [ inl e ↦ cc | inr none ↦ none ])) refl refl

-- `n` takes a modifier alone
count_with_a_width : (model : Model) → IsWholeRefusedAt model (codes "%5n") CountUndefined 2
count_with_a_width model = refused model _ _ _ refl

-- bytes that aren't allowed where they are: NUL and `%` have kinds of their own, and so has the end
strays : (model : Model) → IsWholeRefusedAt model (37 ∷ 0 ∷ []) NulByte 1 × IsWholeRefusedAt model (codes "%5%") BadPercent 2
    × IsWholeRefusedAt model (codes "%5-d") Unexpected 2 × IsWholeRefusedAt model (codes "%5") Truncated 2
strays model = (refused model _ _ _ refl, refused model _ _ _ refl, refused model _ _ _ refl, refused model _ _ _ refl)

-- where arguments may have no numbers
abbrev found_plain : Model → Text → Found
found_plain model t =
    let s = plain model t in
    (if numbers_at (Stop.at s) (Stop.state s) (Stop.rest s) then Some Numbered else halts_in model s, Stop.at s, is_end (Stop.state s) (Stop.rest s))

whole_refused : (model : Model) (t : Text) (kind : RefusalKind) (at : ℕ) → found_plain model t ≡ (Some kind, at, false) → IsUnnumberedRefusedAt model t kind at
whole_refused model t kind at e =
    let s = stops model ahead t [] 0 ahead None (front_none model ahead (agreed_plain ahead (refl, tt))) refl (omega arith) in
    subst (IsUnnumberedRefusedAt model t kind) (ap (λ v. v.1) e) (subst (λ n. IsUnnumberedRefusedAt model t n (Stop.at (plain model t)))
    (kind_is _ _ s.0 s.1.halts (ap (λ v. v.0) e)) (ends_refused model t (plain model t) s.0 s.1 (ap (λ v. v.2) e))) where
      kind_is : (b : Bool) (o : Option RefusalKind) (k : RefusalKind) → o ≡ Some k → (if b then Some Numbered else o) ≡ Some kind
          → (if b then Numbered else k) ≡ kind
      kind_is b o k h e = grind arith

-- `l` with `C`, also after directives that are accepted
long_wide : (model : Model) → IsUnnumberedRefusedAt model (codes "%lC") LengthUndefined 2
    × IsUnnumberedRefusedAt model (codes "%-*.3i%0*.3d%+*u%lC") LengthUndefined 18
long_wide model = (whole_refused model (codes "%lC") _ _ refl, whole_refused model (codes "%-*.3i%0*.3d%+*u%lC") _ _ refl)

-- a digit after `*`, a second point, `'` with `e`
digit_after_star : (model : Model) → IsUnnumberedRefusedAt model (codes "%*1$d") Mixed 2
digit_after_star model = whole_refused model (codes "%*1$d") Mixed 2 refl

two_points : (model : Model) → IsUnnumberedRefusedAt model (codes "%b%0*..4095jfx y%c%.*LG") Unexpected 6
two_points model = whole_refused model (codes "%b%0*..4095jfx y%c%.*LG") Unexpected 6 refl

grouped_exponent : (model : Model) → IsUnnumberedRefusedAt model (codes "*x y%'#*.6ze") GroupUndefined 11
grouped_exponent model = whole_refused model (codes "*x y%'#*.6ze") GroupUndefined 11 refl

-- `$` after a number: in a text that is accepted otherwise, in one that ends, after other specifications, after the largest number
numbered : (model : Model) → IsUnnumberedRefusedAt model (codes "%1$d") Numbered 2 × IsUnnumberedRefusedAt model (codes "%1$") Numbered 2
    × IsUnnumberedRefusedAt model (codes "%d%f%12$") Numbered 7 × IsUnnumberedRefusedAt model (codes "%4095$d") Numbered 5
numbered model = (
  whole_refused model (codes "%1$d") Numbered 2 refl,
  whole_refused model (codes "%1$") Numbered 2 refl,
  whole_refused model (codes "%d%f%12$") Numbered 7 refl,
  whole_refused model (codes "%4095$d") Numbered 5 refl,
)
