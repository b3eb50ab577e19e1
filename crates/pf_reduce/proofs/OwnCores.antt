-- A normal directive is its own core: each step of a reduction leaves its parts as they are.
use Rattle.std.proofs.Common.{◌≡◌, ◌≢◌, ℕ, ◌+◌, ◌<◌, ◌≤◌, min, Bool, true, false, Option, Some, None, refl, sym, ap, ◌∙◌, arith, rules, inl}
use Rattle.std.proofs.Common.{inr}
use Rattle.std.specs.Prelude.{if◌then◌else◌, ◌⊎◌, ◌&&◌, ◌||◌, MatchBool, is_none, not, unwrap_or}
use Rattle.pf_values.specs.declared.bases.Alternative.{Alternative}
use Rattle.pf_values.specs.declared.bases.Base.TheVariants.{Octal}
use Rattle.pf_values.specs.declared.conversions.Kind.{Kind}
use Rattle.pf_values.specs.declared.conversions.Kind.TheVariants as kinds
use Rattle.pf_values.specs.declared.flags.Flag.TheVariants.{Alt, Minus, Plus, Space, Zero}
use Rattle.pf_values.specs.declared.flags.FlagSet.{FlagSet}
use Rattle.pf_values.specs.declared.models.Model.{Model}
use Rattle.pf_values.specs.meaning.Conversions.{alternative_under, is_signed, is_text, kind_of, prints_signed, prints_string, prints_text}
use Rattle.pf_values.specs.meaning.Flags.{has, no_flags, with_flag}
use Rattle.pf_values.specs.meaning.Normal.{HasNormalForm, HasPrefixedForm, HasSignedForm, HasUnsignedForm, IsNormal, IsNormalFilled, IsNormalOctal}
use Rattle.pf_values.specs.meaning.Normal.{IsNormalPrefixed, IsNormalSigned, IsNormalUnprefixed, sign_len, precision_of}
use Rattle.pf_values.specs.meaning.Printing.{is_zero_filled}
use Rattle.pf_values.specs.declared.conversions.Conv.{Conv}
use Rattle.pf_values.specs.declared.conversions.Conv.TheVariants.{D, I}
use Rattle.pf_values.specs.meaning.Defined.{refused_as}
use Rattle.pf_values.specs.meaning.Specification.{Specification, width_of}
use Rattle.pf_values.specs.Directives.{effective_precision, width_given}
use Rattle.pf_reduce.specs.declared.padding.Padding.{Padding}
use Rattle.pf_reduce.specs.Cores.{kept_precision, padded_core, with_side}
use Rattle.pf_reduce.specs.Padded.{constants, padding_of}
use Rattle.pf_reduce.specs.declared.signs.Sign.{Sign}
use Rattle.pf_reduce.specs.declared.signs.Sign.TheVariants as signs
use Rattle.pf_reduce.specs.Signs.{sign_flags, sign_length, sign_of, unseen_signed_width, unseen_width}
use Rattle.pf_reduce.specs.Prefixes.{is_prefixed, puts_prefix}
use Rattle.pf_reduce.specs.Reducing.{itself}
use Rattle.pf_reduce.proofs.NormalForms.{unsigned_with_prefix}

-- the parts, written as a core writes them
own_width : (w : Option ℕ) → w ≢ Some 0 → width_given (Some (unwrap_or w 0)) ≡ w
own_width w h = grind arith

own_precision : (p : Option ℕ) → p ≢ Some 1 → kept_precision (unwrap_or p 1) ≡ p
own_precision p h = grind arith

pub own_core : (model : Model) (s : Specification) (q : Padding) (flags : FlagSet) (precision : Option ℕ)
    → IsNormal model s → with_side (has s.flags Minus) flags ≡ s.flags → precision ≡ s.precision
    → constants q ≡ 0 → q.width ≡ width_of s → q.left ≡ has s.flags Minus
    → padded_core model s q flags precision ≡ itself model s
own_core model s q flags precision h flags_are precision_is none width left =
    let spaces : q.spaces ≡ 0 = omega (arith, none) in
    let zeros : q.zeros ≡ 0 = omega (arith, none) in
    let trail : q.trail ≡ 0 = omega (arith, none) in
    rw (spaces, zeros, trail, width, left, flags_are, precision_is, h.length, h.conv, own_width s.width h.defined.width) refl

different : false ≡ true → ⊥
different e = cc

too_narrow : (w sign : ℕ) → (1 ≤ sign) ⊎ (w ≤ 1) → sign ≡ 0 → 2 ≤ w → ⊥
too_narrow w sign h none wide = grind arith

-- a number's
text_no_string : (k : Kind) → prints_text k ≡ false → prints_string k ≡ false
text_no_string k e = grind arith

pub own_number : (model : Model) (s : Specification) (q : Padding) (flags : FlagSet) (p : ℕ)
    → IsNormal model s → is_text s.conv ≡ false → with_side (has s.flags Minus) flags ≡ s.flags
    → p ≡ precision_of s → constants q ≡ 0 → q.width ≡ width_of s → q.left ≡ has s.flags Minus
    → padded_core model s q flags (kept_precision p) ≡ itself model s
own_number model s q flags p h text flags_are p_is none width left =
    let no_one : s.precision ≢ Some 1 = λ e. different (sym (text_no_string (kind_of s.conv) text) ∙ h.precision e) in
    own_core model s q flags (kept_precision p) h flags_are (ap kept_precision p_is ∙ own_precision s.precision no_one) none width left

pub unfilled_precision : (s : Specification) (front : ℕ) → has s.flags Zero ≡ false → effective_precision s front ≡ precision_of s
unfilled_precision s front h = rw h refl

-- the width stays if it is at most this many bytes, and is idle only if it is missing
pub own_field : (w most least a b : ℕ) → a ≡ min w most → w ≤ most → (0 < w → least < w)
    → (a ≤ least → b ≡ 0) → (least < a → b ≡ a) → b ≡ w
own_field w most least a b e few more idle kept = grind arith

-- spaces come before what is right-justified in a field
pub seen_before : (left : Bool) (w : ℕ) → (left ≡ true) ⊎ (w ≡ 0) → left ≡ false → 0 < w → ⊥
seen_before left w h right some = grind arith

-- so does the side, where the width is seen
pub own_side : (before after : Bool) (w most : ℕ) → (after ≡ true → (before ≡ true) × (most < w))
    → (most < w → after ≡ before) → (before ≡ true → most < w) → after ≡ before
own_side before after w most wide right seen = grind arith

-- the flags of a directive, as its side and other flags
abbrev set_of : Bool → Bool → Bool → Bool → Bool → Bool → FlagSet
set_of m p s a z g = record { minus = m; plus = p; space = s; alt = a; zero = z; group = g }

same_set : (a b c d e f g h i j k l : Bool) → a ≡ g → b ≡ h → c ≡ i → d ≡ j → e ≡ k → f ≡ l → set_of a b c d e f ≡ set_of g h i j k l
same_set a b c d e f g h i j k l p q r s t u = rw (p, q, r, s, t, u) refl

pub on_side : (left : Bool) (flags f : FlagSet) → left ≡ f.minus → flags.minus ≡ false → flags.plus ≡ f.plus → flags.space ≡ f.space → flags.alt ≡ f.alt
    → flags.zero ≡ f.zero → flags.group ≡ f.group → with_side left flags ≡ f
on_side true flags f m right p s a z g = same_set _ _ _ _ _ _ _ _ _ _ _ _ m p s a z g
on_side false flags f m right p s a z g = same_set _ _ _ _ _ _ _ _ _ _ _ _ (right ∙ m) p s a z g

false_else : (b : Bool) → (b ≡ true → false ≡ true) → b ≡ false
false_else b h = grind arith

-- those of a number without a sign
module _ (model : Model) (s : Specification) (h : IsNormal model s) (signed : is_signed s.conv ≡ false) where
  no_sign_flags : (flags : FlagSet) → flags.minus ≡ false → flags.plus ≡ false → flags.space ≡ false → flags.alt ≡ has s.flags Alt
      → flags.zero ≡ has s.flags Zero
      → flags.group ≡ false → with_side (has s.flags Minus) flags ≡ s.flags
  no_sign_flags flags right p b a z g = on_side _ flags s.flags refl right (p ∙ sym (false_else s.flags.plus (λ e. sym signed ∙ h.no_plus e)))
      (b ∙ sym (false_else s.flags.space (λ e. sym signed ∙ h.no_space e))) a z (g ∙ sym h.no_group)

  pub bare_flags : has s.flags Alt ≡ false → has s.flags Zero ≡ false → with_side (has s.flags Minus) no_flags ≡ s.flags
  bare_flags alt unfilled = no_sign_flags no_flags refl refl refl (sym alt) (sym unfilled) refl

  pub alt_flags : has s.flags Alt ≡ true → has s.flags Zero ≡ false → with_side (has s.flags Minus) (with_flag no_flags Alt) ≡ s.flags
  alt_flags alt unfilled = no_sign_flags (with_flag no_flags Alt) refl refl refl (sym alt) (sym unfilled) refl

  filled_alt_flags : has s.flags Alt ≡ true → has s.flags Zero ≡ true → with_side (has s.flags Minus) (with_flag (with_flag no_flags Alt) Zero) ≡ s.flags
  filled_alt_flags alt filled = no_sign_flags (with_flag (with_flag no_flags Alt) Zero) refl refl refl (sym alt) (sym filled) refl

-- digits alone
unprefixed_under : (model : Model) (s : Specification) (a : Alternative) → has s.flags Alt ≡ false → HasUnsignedForm model a s → IsNormalUnprefixed model s
unprefixed_under model s a alt h = grind arith

unprefixed_kind : (model : Model) (s : Specification) (k : Kind) → prints_text k ≡ false → prints_signed k ≡ false → has s.flags Alt ≡ false
    → HasNormalForm model k s → IsNormalUnprefixed model s
unprefixed_kind model s k text signed alt h = grind (arith, unprefixed_under)

pub unprefixed_form : (model : Model) (s : Specification) → IsNormal model s → is_text s.conv ≡ false → is_signed s.conv ≡ false → has s.flags Alt ≡ false
    → IsNormalUnprefixed model s
unprefixed_form model s h text signed alt = unprefixed_kind model s (kind_of s.conv) text signed alt h.form

pub beyond : (p w : ℕ) → (0 < w) × (p ≡ 0 → 1 < w) → (0 < w → p < w) → 1 < w
beyond p w h more = grind arith

-- `o` with `#`
pub octal_form : (model : Model) (s : Specification) → IsNormal model s → kind_of s.conv ≡ kinds.Unsigned Octal false → has s.flags Alt ≡ true
    → IsNormalOctal model s
octal_form model s h is alt = grind arith

-- digits after a prefix
prefixed_under : (model : Model) (s : Specification) (a : Alternative) (alt : Bool) → has s.flags Alt ≡ alt → puts_prefix a ≡ true → alt ≡ true
    → HasUnsignedForm model a s → HasPrefixedForm model true (has s.flags Zero) s
prefixed_under model s a alt is e on h = grind arith

prefixed_kind : (model : Model) (s : Specification) (k : Kind) → puts_prefix (alternative_under k) ≡ true → has s.flags Alt ≡ true → HasNormalForm model k s
    → HasPrefixedForm model true (has s.flags Zero) s
prefixed_kind model s k e alt h = grind (arith, prefixed_under)

-- a filled one keeps its zeros
filled : (s : Specification) → IsNormalFilled s → has s.flags Zero ≡ true → is_zero_filled s ≡ true
filled s h zeros = rw (zeros, h.right, h.no_precision) refl

unfilled_from : (model : Model) (s : Specification) (fill : Bool) → has s.flags Zero ≡ fill → (is_zero_filled s ≡ true → (1 ≤ 0) ⊎ (width_of s ≤ 1))
    → HasPrefixedForm model true fill s → IsNormalPrefixed model s × (has s.flags Zero ≡ false)
unfilled_from model s fill is idle h = grind (arith, filled, too_narrow)

pub prefixed_form : (model : Model) (s : Specification) → IsNormal model s → is_prefixed s.conv ≡ true → has s.flags Alt ≡ true
    → (is_zero_filled s ≡ true → (1 ≤ 0) ⊎ (width_of s ≤ 1)) → IsNormalPrefixed model s × (has s.flags Zero ≡ false)
prefixed_form model s h form alt idle = unfilled_from model s (has s.flags Zero) refl idle (prefixed_kind model s (kind_of s.conv) form alt h.form)

pub prefixed_unsigned : (conv : Conv) → is_prefixed conv ≡ true → is_signed conv ≡ false
prefixed_unsigned conv e = (unsigned_with_prefix conv e).sign

pub prefixed_number : (conv : Conv) → is_prefixed conv ≡ true → is_text conv ≡ false
prefixed_number conv e = (unsigned_with_prefix conv e).text

-- what a directive that is filled with zeros has
filled_parts : (zeros minus : Bool) (p : Option ℕ) → (zeros && not minus && is_none p) ≡ true → (zeros ≡ true) × (minus ≡ false) × (p ≡ None)
filled_parts zeros minus p e = grind arith

pub own_filled_prefixed : (model : Model) (s : Specification) → IsNormal model s → is_prefixed s.conv ≡ true → has s.flags Alt ≡ true
    → is_zero_filled s ≡ true → padded_core model s (padding_of s) (with_flag (with_flag no_flags Alt) Zero) None ≡ itself model s
own_filled_prefixed model s h form alt fill =
    let f = s.flags in
    let parts = filled_parts f.zero f.minus s.precision fill in
    let signed = prefixed_unsigned s.conv form in
    own_core model s (padding_of s) (with_flag (with_flag no_flags Alt) Zero) None h (filled_alt_flags model s h signed alt parts.0)
    (sym parts.2) refl refl refl

-- the side is seen
pub seen_from : (p w least : ℕ) → (0 < w) × (p ≡ 0 → least < w) → unseen_width p least < w
seen_from p w least h = grind arith

-- digits after a sign
sign_len_under : (plus space : Bool) → (if plus || space then 1 else 0) ≡ sign_length (if plus then signs.Plus else (if space then signs.Space else signs.None))
sign_len_under plus space = grind arith

pub sign_len_is : (s : Specification) → sign_len s ≡ sign_length (sign_of s.flags)
sign_len_is s = sign_len_under (has s.flags Plus) (has s.flags Space)

space_under : (plus space : Bool) → (if plus then signs.Plus else (if space then signs.Space else signs.None)) ≡ signs.Space → space ≡ true
space_under plus space e = grind arith

pub space_is : (s : Specification) → sign_of s.flags ≡ signs.Space → has s.flags Space ≡ true
space_is s e = space_under (has s.flags Plus) (has s.flags Space) e

no_plus_under : (plus space : Bool) → (if plus then signs.Plus else (if space then signs.Space else signs.None)) ≢ signs.Plus → plus ≡ false
no_plus_under plus space h = grind arith

pub no_plus_is : (s : Specification) → sign_of s.flags ≢ signs.Plus → has s.flags Plus ≡ false
no_plus_is s h = no_plus_under (has s.flags Plus) (has s.flags Space) h

signed_kind : (model : Model) (s : Specification) (k : Kind) → prints_signed k ≡ true → HasNormalForm model k s → HasSignedForm model s
signed_kind model s k e h = grind arith

unfilled_signed : (model : Model) (s : Specification) (fill : Bool) (len : ℕ) → has s.flags Zero ≡ fill → len ≡ sign_len s
    → (is_zero_filled s ≡ true → (1 ≤ len) ⊎ (width_of s ≤ 1)) → MatchBool fill (IsNormalFilled s × (sign_len s ≡ 0)) (IsNormalSigned model s)
    → IsNormalSigned model s × (has s.flags Zero ≡ false)
unfilled_signed model s fill len is len_is idle h = grind (arith, filled, too_narrow)

pub signed_form : (model : Model) (s : Specification) (len : ℕ) → IsNormal model s → is_signed s.conv ≡ true → len ≡ sign_len s
    → (is_zero_filled s ≡ true → (1 ≤ len) ⊎ (width_of s ≤ 1)) → IsNormalSigned model s × (has s.flags Zero ≡ false)
signed_form model s len h signed len_is idle = unfilled_signed model s (has s.flags Zero) len refl len_is idle
    (signed_kind model s (kind_of s.conv) signed h.form)

signed_conv : (conv : Conv) → is_signed conv ≡ true → (conv ≡ D) ⊎ (conv ≡ I)
signed_conv conv e = grind arith

no_alt_with : (s : Specification) → refused_as s ≡ None → (s.conv ≡ D) ⊎ (s.conv ≡ I) → has s.flags Alt ≡ false
no_alt_with s allowed (inl is) = search rules
no_alt_with s allowed (inr is) = search rules

signed_no_alt : (s : Specification) → refused_as s ≡ None → is_signed s.conv ≡ true → has s.flags Alt ≡ false
signed_no_alt s allowed signed = no_alt_with s allowed (signed_conv s.conv signed)

signed_text : (k : Kind) → prints_signed k ≡ true → prints_text k ≡ false
signed_text k e = grind arith

pub signed_number : (conv : Conv) → is_signed conv ≡ true → is_text conv ≡ false
signed_number conv e = signed_text (kind_of conv) e

sign_flags_are : (p s : Bool) → (p ≡ true → s ≡ false)
    → sign_flags (if p then signs.Plus else (if s then signs.Space else signs.None)) ≡ set_of false p s false false false
sign_flags_are p s h = grind arith

pub signed_flags : (model : Model) (s : Specification) → IsNormal model s → is_signed s.conv ≡ true → (has s.flags Plus ≡ true → has s.flags Space ≡ false)
    → has s.flags Zero ≡ false → with_side (has s.flags Minus) (sign_flags (sign_of s.flags)) ≡ s.flags
signed_flags model s h signed one unfilled =
    rw (sign_flags_are s.flags.plus s.flags.space one)
    (on_side _ _ s.flags refl refl refl refl (sym (signed_no_alt s h.defined.allowed signed)) (sym unfilled) (sym h.no_group))

no_sign_under : (plus space : Bool) → sign_length (if plus then signs.Plus else (if space then signs.Space else signs.None)) ≡ 0
    → (plus ≡ false) × (space ≡ false)
no_sign_under plus space e = grind arith

pub own_filled_signed : (model : Model) (s : Specification) → IsNormal model s → is_signed s.conv ≡ true → sign_length (sign_of s.flags) ≡ 0
    → is_zero_filled s ≡ true → padded_core model s (padding_of s) (with_flag no_flags Zero) None ≡ itself model s
own_filled_signed model s h signed none fill =
    let f = s.flags in
    let parts = filled_parts f.zero f.minus s.precision fill in
    let no_sign = no_sign_under f.plus f.space none in
    own_core model s (padding_of s) (with_flag no_flags Zero) None h
    (on_side _ (with_flag no_flags Zero) s.flags refl refl (sym no_sign.0) (sym no_sign.1) (sym (signed_no_alt s h.defined.allowed signed)) (sym parts.0)
    (sym h.no_group)) (sym parts.2) refl refl refl

-- the side of a sign is seen
pub seen_sign : (sign : Sign) (p w : ℕ) → (0 < w) × (sign ≢ signs.Plus → p ≡ 0 → sign_length sign + 1 < w) → unseen_signed_width p sign < w
seen_sign sign p w h = grind arith
