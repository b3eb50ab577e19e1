-- The text of a specification determines its parts, and where it ends; and what a defined one has.
use Rattle.std.proofs.Common.{◌≢◌, ◌≤◌, ◌≡◌, ℕ, Bool, false, List, [], ◌∷◌, ◌++◌, map, refl, sym, ap, ◌∙◌, arith, subst, inl, inr, ◌+◌, ◌-◌, drop, take, drop-drop}
use Rattle.std.specs.Prelude.{Option, Some, None, ◌⊎◌, is_some, not, ◌&&◌, ◌||◌}
use Rattle.std.proofs.lemmas.List.{append_assoc, append-nil, take-append-drop}
use Rattle.pf_values.specs.declared.flags.Flag.{Flag}
use Rattle.pf_values.specs.declared.flags.FlagSet.{FlagSet}
use Rattle.pf_values.specs.meaning.Flags.{flag_byte, flag_set, has}
use Rattle.pf_values.specs.meaning.Text.{Text}
use Rattle.pf_values.specs.declared.flags.Flag.TheVariants.{Alt, Zero, Group}
use Rattle.pf_values.proofs.DefinedLemmas.{none_first}
use Rattle.pf_text.proofs.Unique.{Cuts, Later, Sooner, cuts}
use Rattle.pf_posix.specs.declared.conversions.WholeConv.{WholeConv}
use Rattle.pf_posix.specs.declared.conversions.WholeLength.{WholeLength}
use Rattle.pf_posix.specs.Specifications.{Amount, WholeSpecification, conversion_letter, modifier_letters, Fetched}
use Rattle.pf_posix.specs.Spelling.{SpellsWhole, SpellsWholePrecision, SpellsWholeWidth, SpellsPosition}
use Rattle.pf_posix.specs.declared.opaque_directives.OpaqueAmount.{OpaqueAmount}
use Rattle.pf_posix.specs.declared.opaque_directives.OpaqueAmount.TheVariants as amounts
use Rattle.pf_posix.specs.declared.specifications.Specification.{Specification}
use Rattle.pf_posix.specs.OpaqueParts.{amount_at, amount_of, parts_of_opaque}
use Rattle.pf_posix.specs.PartsInText.{IsSpecificationAt, specification_read}
use Rattle.pf_posix.specs.Defined.{has_any_flag, is_count, takes_alt, takes_group, takes_modifier, takes_precision, takes_zero, undefined_as}
use Rattle.pf_posix.proofs.OneState.{from_end, never_empty, no_longer, one_spelled, some_spelled, ends, shrinks}
use Rattle.pf_posix.proofs.Steps.{IsStateAfter, Sign, State, Strange, finish, sign_of, step}

pub regrouped : (f w p m c : Text) → (((f ++ w) ++ p) ++ m) ++ c ≡ f ++ (w ++ (p ++ (m ++ c)))
regrouped f w p m c = append_assoc ((f ++ w) ++ p) m c ∙ append_assoc (f ++ w) p (m ++ c) ∙ append_assoc f w (p ++ (m ++ c))

-- the parts of an unnumbered specification
pub record HasParts (t : Text) (s : WholeSpecification) : Type 0 where
  pub spelled : SpellsWhole t s
  pub flags : List Flag
  pub width : Text
  pub precision : Text
  pub unnumbered : s.position ≡ None
  pub set_is : s.flags ≡ flag_set flags
  pub width_is : SpellsWholeWidth width None s.width
  pub precision_is : SpellsWholePrecision precision None s.precision
  pub whole : t ≡ 37 ∷ (map flag_byte flags ++ (width ++ (precision ++ (modifier_letters s.modifier ++ conversion_letter s.conversion ∷ []))))

pub parts_of : (t : Text) (s : WholeSpecification) → SpellsWhole t s → s.position ≡ None → HasParts t s
parts_of t s h e =
    let front = h.before_is in
    let first = front.before_is.before_is in
    let m = modifier_letters s.modifier in
    let c = conversion_letter s.conversion ∷ [] in
    let none : first.number ≡ [] = subst (SpellsPosition first.number) e first.number_is in
    record {
      spelled = h;
      flags = first.flags;
      width = front.before_is.text;
      precision = front.text;
      unnumbered = e;
      set_is = first.set_is;
      width_is = subst (λ p. SpellsWholeWidth front.before_is.text p s.width) e front.before_is.width_is;
      precision_is = subst (λ p. SpellsWholePrecision front.text p s.precision) e front.precision_is;
      whole = h.whole
          ∙ ap (λ u. (u ++ m) ++ c) (front.whole ∙ ap (λ u. u ++ front.text) (front.before_is.whole
          ∙ ap (λ u. u ++ front.before_is.text) (first.whole ∙ ap (λ n. 37 ∷ n ++ map flag_byte first.flags) none)))
          ∙ ap (λ u. 37 ∷ u) (regrouped (map flag_byte first.flags) front.before_is.text front.text m c);
    }

pub no_number : (number : Option ℕ) → is_some number ≡ false → number ≡ None
no_number None e = refl
no_number (Some n) e = cc

abbrev pub made : Option ℕ → FlagSet → Option Amount → Option Amount → WholeLength → WholeConv → WholeSpecification
made position flags width precision modifier conversion =
    record { position = position; flags = flags; width = width; precision = precision; modifier = modifier; conversion = conversion }

pub same_fields : (a b : WholeSpecification) → a.position ≡ b.position → a.flags ≡ b.flags → a.width ≡ b.width → a.precision ≡ b.precision
    → a.modifier ≡ b.modifier → a.conversion ≡ b.conversion → a ≡ b
same_fields a b p f w q m c = grind arith

-- a specification and what begins with it
once : (t u x y z : Text) (a b : WholeSpecification) → SpellsWhole t a → SpellsWhole u b → u ≡ t ++ z → x ≡ z ++ y → (a ≡ b) × (x ≡ y)
once t u x y z a b h g e f =
    let none = no_longer t z a b h (subst (λ v. SpellsWhole v b) e g) in
    let same : u ≡ t = e ∙ ap (λ v. t ++ v) none ∙ append-nil t in
    (one_spelled t a b h (subst (λ v. SpellsWhole v b) same g), f ∙ ap (λ v. v ++ y) none)

-- two specifications that begin the same text have the same parts, and end at the same byte
pub specification_once : (t u x y : Text) (a b : WholeSpecification) → SpellsWhole t a → SpellsWhole u b → t ++ x ≡ u ++ y → (a ≡ b) × (x ≡ y)
specification_once t u x y a b h g e = go (cuts t x u y e) where
  go : Cuts t x u y → (a ≡ b) × (x ≡ y)
  go (Later z e f) = once t u x y z a b h g e f
  go (Sooner z e f) = let same = once u t y x z b a g h e f in (sym same.0, sym same.1)

pub one_specification : (t u x y : Text) (a b : WholeSpecification) → HasParts t a → HasParts u b → t ++ x ≡ u ++ y → (a ≡ b) × (x ≡ y)
one_specification t u x y a b h g e = specification_once t u x y a b h.spelled g.spelled e

abbrev HasSecond : Text → Type 0
HasSecond t = (second : ℕ) × (more : Text) × (sign_of second ≢ Strange) × (t ≡ 37 ∷ (second ∷ more))

known_sign : {X : Type 0} (sign : Sign) (on : Sign → Option X) (x : X) → on Strange ≡ None → on sign ≡ Some x → sign ≢ Strange
known_sign sign on x none e strange = let no = sym none ∙ ap on (sym strange) ∙ e in cc

second_pushed : (t : Text) (byte : ℕ) → (t ≡ 37 ∷ []) ⊎ HasSecond t → sign_of byte ≢ Strange → HasSecond (t ++ byte ∷ [])
second_pushed t byte (inl e) n = (byte, [], n, ap (λ u. u ++ byte ∷ []) e)
second_pushed t byte (inr h) n = (h.0, h.1 ++ byte ∷ [], h.2, ap (λ u. u ++ byte ∷ []) h.3)

second_begun : (t : Text) (state : State) → IsStateAfter state t → (t ≡ 37 ∷ []) ⊎ HasSecond t
second_begun = from_end (λ t. (state : State) → IsStateAfter state t → (t ≡ 37 ∷ []) ⊎ HasSecond t) (λ state h. absurd (never_empty state h))
    (λ t byte same state h. elim (shrinks state t byte h) [
      | inl e ↦ inl (ap (λ u. u ++ byte ∷ []) e.0 ∙ ap (λ b. b ∷ []) e.1)
      | inr a ↦ inr (second_pushed t byte (same a.state a.after) (known_sign (sign_of byte) (step a.state) state refl a.goes))
    ])

-- the text of a specification begins with `%`, and its second byte is neither another one nor the letter of `%m`
pub begins_known : (t : Text) (s : WholeSpecification) → SpellsWhole t s
    → (second : ℕ) × (more : Text) × (sign_of second ≢ Strange) × (t ≡ 37 ∷ (second ∷ more))
begins_known t s = from_end (λ t. SpellsWhole t s → HasSecond t) (λ h. absurd (omega (arith, some_spelled [] s h))) (λ t byte same h.
    let a = ends t byte s h in second_pushed t byte (second_begun t a.state a.after) (known_sign (sign_of byte) (finish a.state) s refl a.goes)) t

-- as opaque parts
pub unnumbered_parts : (t : Text) (read : Specification) → SpellsWhole t (specification_read read) → read.position ≡ None
    → parts_of_opaque read.parts ≡ specification_read read
unnumbered_parts t read h e =
    let parts = parts_of t (specification_read read) h e in
    same_fields _ (specification_read read) (sym e) refl (width_is read.parts.width parts.width parts.width_is)
    (precision_is read.parts.precision parts.precision parts.precision_is) refl refl where
      width_is : (amount : Option OpaqueAmount) (text : Text) → SpellsWholeWidth text None (amount_at amount read.stars.width)
          → amount_of amount ≡ amount_at amount read.stars.width
      width_is (Some amounts.Star) text w = ap (λ k. Some (Fetched k)) (sym (no_number read.stars.width w.numbering))
      width_is (Some _) text w = refl
      width_is None text w = refl

      precision_is : (amount : Option OpaqueAmount) (text : Text) → SpellsWholePrecision text None (amount_at amount read.stars.precision)
          → amount_of amount ≡ amount_at amount read.stars.precision
      precision_is (Some amounts.Star) text p = ap (λ k. Some (Fetched k)) (sym (no_number read.stars.precision p.1.numbering))
      precision_is (Some _) text p = refl
      precision_is None text p = refl

-- the text from an offset on, and from a later one
pub parted : (t : Text) (start stop : ℕ) → start ≤ stop → drop start t ≡ take (stop - start) (drop start t) ++ drop stop t
parted t start stop low =
    let place : start + (stop - start) ≡ stop = omega (arith, low) in
    sym (take-append-drop (stop - start) (drop start t))
    ∙ ap (λ u. take (stop - start) (drop start t) ++ u) (drop-drop (stop - start) start t ∙ ap (λ k. drop k t) place)

-- a specification that is spelled where one was read is this one
pub same_there : (t : Text) (start : ℕ) (found : Specification × ℕ) → IsSpecificationAt t start found → (text rest : Text) (s : WholeSpecification)
    → SpellsWhole text s → drop start t ≡ text ++ rest → (specification_read found.0 ≡ s) × (drop found.1 t ≡ rest)
same_there t start found h text rest s spelled e =
    let stop = found.1 in
    let place : start + (stop - start) ≡ stop = omega (arith, h.some) in
    let split : drop start t ≡ take (stop - start) (drop start t) ++ drop stop t =
    sym (take-append-drop (stop - start) (drop start t))
    ∙ ap (λ u. take (stop - start) (drop start t) ++ u) (drop-drop (stop - start) start t ∙ ap (λ k. drop k t) place) in
    let same = specification_once (take (stop - start) (drop start t)) text (drop stop t) rest
    (specification_read found.0) s h.spelled spelled (sym split ∙ e) in
    (same.0, same.1)

-- no reason holds
pub record HasNoReason (set : FlagSet) (width precision : Bool) (modifier : WholeLength) (conversion : WholeConv) : Type 0 where
  pub alt : (has set Alt && not (takes_alt conversion)) ≡ false
  pub zero_flag : (has set Zero && not (takes_zero conversion)) ≡ false
  pub group : (has set Group && not (takes_group conversion)) ≡ false
  pub precision_is : (precision && not (takes_precision conversion)) ≡ false
  pub modifier_is : not (takes_modifier conversion modifier) ≡ false
  pub count : (is_count conversion && (has_any_flag set || width || precision)) ≡ false

pub no_reason : (set : FlagSet) (width precision : Bool) (modifier : WholeLength) (conversion : WholeConv)
    → undefined_as set width precision modifier conversion ≡ None → HasNoReason set width precision modifier conversion
no_reason set width precision modifier conversion e =
    let a = none_first _ _ _ e in
    let b = none_first _ _ _ a.1 in
    let c = none_first _ _ _ b.1 in
    let d = none_first _ _ _ c.1 in
    let f = none_first _ _ _ d.1 in
    let g = none_first _ _ _ f.1 in
    record { alt = a.0; zero_flag = b.0; group = c.0; precision_is = d.0; modifier_is = f.0; count = g.0 }

pub is_defined : (set : FlagSet) (width precision : Bool) (modifier : WholeLength) (conversion : WholeConv)
    → HasNoReason set width precision modifier conversion
    → undefined_as set width precision modifier conversion ≡ None
is_defined set width precision modifier conversion h = rw (h.alt, h.zero_flag, h.group, h.precision_is, h.modifier_is, h.count) refl
