-- Items that are spelled as the canonical text spells them.
use Rattle.std.proofs.Common.{◌≡◌, ◌≢◌, ℕ, zero, suc, ◌≤◌, true, false, Bool, List, [], ◌∷◌, ◌++◌, length, map, take, drop, None}
use Rattle.std.proofs.Common.{refl, sym, ap, ap₂, ◌∙◌, subst, arith, get_or}
use Rattle.std.specs.Prelude.{flat_map, IsFalse, MatchBool, ◌==◌, if◌then◌else◌}
use Rattle.std.specs.List.{AllByRecursion}
use Rattle.std.proofs.lemmas.Bool.Decides.{nat_tests}
use Rattle.std.proofs.lemmas.Grind.{flat_map-append}
use Rattle.std.proofs.lemmas.List.{append_assoc, append-nil}
use Rattle.std.proofs.lemmas.List.{take-append-drop, take-append-le}
use Rattle.pf_values.specs.declared.models.Model.{Model}
use Rattle.pf_values.specs.declared.conversions.Conv.{Conv}
use Rattle.pf_values.specs.declared.conversions.Conv.TheVariants.{D, I, U, O, X, UpperX, B, C, S}
use Rattle.pf_values.specs.declared.lengths.Length.{Length}
use Rattle.pf_values.specs.declared.lengths.Length.TheVariants as lengths
use Rattle.pf_values.specs.meaning.Canonical.{item_spelling}
use Rattle.pf_values.specs.meaning.Conversions.{conv_letter, kept_conv, kind_of}
use Rattle.pf_values.specs.meaning.Bits.{by_bits}
use Rattle.pf_values.specs.meaning.DataModel.{Bits, B8, B16, B32, B64, bits_under, kept_length}
use Rattle.pf_values.specs.meaning.Defined.{IsDefined, refused_as}
use Rattle.pf_values.specs.declared.flags.Flag.TheVariants.{Alt, Group, Plus, Space}
use Rattle.pf_values.specs.meaning.Flags.{has, no_flags, with_flag}
use Rattle.pf_values.specs.meaning.Lengths.{length_letters}
use Rattle.pf_values.specs.meaning.Items.{Item, Byte, Directive, IsReadAs, Reads}
use Rattle.pf_values.specs.meaning.Normal.{HasNormalForm, IsNormal, IsNormalUnprefixed, IsNormalPrefixed, IsNormalSigned, IsNormalString, digits_at_most}
use Rattle.pf_values.specs.meaning.Specification.{Specification}
use Rattle.pf_values.specs.meaning.Spelling.{spelling_of}
use Rattle.pf_values.specs.meaning.Text.{Text, percent}
use Rattle.pf_text.specs.History.{IsLiteral}
use Rattle.pf_text.specs.CanonicalRuns.{IsCanonicalItem, IsCanonicalRun, alternative_bytes, has_canonical_parts}
use Rattle.pf_text.specs.CanonicalRuns.{is_kept_modifier, is_kept_number}
use Rattle.pf_text.proofs.ReadBack.{spelled_read}

-- a byte that is written as it is
pub run_written : (byte : ℕ) → IsLiteral byte → item_spelling (Byte byte) ≡ byte ∷ []
run_written byte h = let other = h.0 in grind (arith, nat_tests)

pub literal_written : (bytes : Text) → AllByRecursion IsLiteral bytes → flat_map item_spelling (map Byte bytes) ≡ bytes
literal_written [] h = refl
literal_written (byte ∷ bytes) h = ap (λ t. t ++ flat_map item_spelling (map Byte bytes)) (run_written byte h.0)
    ∙ ap (λ t. byte ∷ t) (literal_written bytes h.1)

-- a directive of `#` or nothing, a modifier and a conversion
abbrev pub parts : Bool → Length → Conv → Specification
parts alternative modifier conv =
    record { flags = if alternative then with_flag no_flags Alt else no_flags; width = None; precision = None; length = modifier; conv = conv }

-- that of a conversion alone
abbrev pub bare : Conv → Specification
bare conv = parts false lengths.None conv

signed_normal : (model : Model) (modifier : Length) → IsNormalSigned model (parts false modifier D)
signed_normal model modifier = record {
  one_sign = λ e. absurd (cc);
  least = λ some. omega (arith, some);
  most = omega arith;
  right_space = λ right e. absurd (cc);
  right_bare = λ right none few e. omega (arith, few);
  left = λ e. absurd (cc);
}

unprefixed_normal : (model : Model) (modifier : Length) (conv : Conv) → 1 ≤ digits_at_most model (parts false modifier conv)
    → IsNormalUnprefixed model (parts false modifier conv)
unprefixed_normal model modifier conv some = record {
  not_filled = refl;
  precision = some;
  least = λ some. omega (arith, some);
  most = omega arith;
  left = λ e. absurd (cc);
}

prefixed_normal : (model : Model) (modifier : Length) (conv : Conv) → IsNormalPrefixed model (parts true modifier conv)
prefixed_normal model modifier conv = record { least = λ some. omega (arith, some); most = omega arith; left = λ e. absurd (cc) }

string_normal : IsNormalString (bare S)
string_normal = record { shows_some = λ e. cc; width = tt; left = λ e. absurd (cc) }

-- a flag other than `#` isn't there
lacks_flag : (alternative : Bool) (modifier : Length) (conv : Conv)
    → IsFalse (has (parts alternative modifier conv).flags Group) × IsFalse (has (parts alternative modifier conv).flags Plus)
    × IsFalse (has (parts alternative modifier conv).flags Space)
lacks_flag true modifier conv = (refl, refl, refl)
lacks_flag false modifier conv = (refl, refl, refl)

-- where it is defined, has the modifier and the conversion that are kept, and a normal form
parts_normal : (model : Model) (alternative : Bool) (modifier : Length) (conv : Conv) → refused_as (parts alternative modifier conv) ≡ None
    → kept_length model modifier ≡ modifier → kept_conv conv ≡ conv → HasNormalForm model (kind_of conv) (parts alternative modifier conv)
    → IsNormal model (parts alternative modifier conv)
parts_normal model alternative modifier conv allowed length_kept conv_kept form =
    let lacks = lacks_flag alternative modifier conv in
    record {
      defined = record { width = λ e. cc; allowed = allowed };
      no_group = lacks.0;
      length = length_kept;
      conv = conv_kept;
      no_plus = λ e. let none = lacks.1 in absurd (cc);
      no_space = λ e. let none = lacks.2 in absurd (cc);
      precision = λ e. absurd (cc);
      form = form;
    }

conv_allowed : (conv : Conv) → refused_as (bare conv) ≡ None
conv_allowed D = refl
conv_allowed _ = refl

pub conv_defined : (conv : Conv) → IsDefined (bare conv)
conv_defined conv = record { width = λ e. cc; allowed = conv_allowed conv }

conv_form : (model : Model) (conv : Conv) → conv ≢ I → HasNormalForm model (kind_of conv) (bare conv)
conv_form model D other = signed_normal model lengths.None
conv_form model I other = absurd (other refl)
conv_form model C other = (refl, refl, refl)
conv_form model S other = string_normal
conv_form model _ other = unprefixed_normal model lengths.None _ (omega arith)

conv_kept : (conv : Conv) → conv ≢ I → kept_conv conv ≡ conv
conv_kept I other = absurd (other refl)
conv_kept _ other = refl

pub conv_normal : (model : Model) (conv : Conv) → conv ≢ I → IsNormal model (bare conv)
conv_normal model conv other = parts_normal model false lengths.None conv (conv_allowed conv) refl (conv_kept conv other) (conv_form model conv other)

-- a number of any bits has a digit
some_of_bits : (bits : Bits) (a b c d : ℕ) → 1 ≤ a → 1 ≤ b → 1 ≤ c → 1 ≤ d → 1 ≤ by_bits bits a b c d
some_of_bits B8 a b c d p q r s = p
some_of_bits B16 a b c d p q r s = q
some_of_bits B32 a b c d p q r s = r
some_of_bits B64 a b c d p q r s = s

-- what is canonical with a modifier, or with `#`, is defined and has a normal form
module _ (model : Model) (modifier : Length) where
  abbrev bits : Bits
  bits = bits_under model modifier

  number_form : (alternative : Bool) (conv : Conv) → is_kept_number alternative conv ≡ true
      → HasNormalForm model (kind_of conv) (parts alternative modifier conv)
  number_form true X number = prefixed_normal model modifier X
  number_form true UpperX number = prefixed_normal model modifier UpperX
  number_form true B number = prefixed_normal model modifier B
  number_form false D number = signed_normal model modifier
  number_form false U number = unprefixed_normal model modifier U (some_of_bits bits 3 5 10 20 (omega arith) (omega arith) (omega arith) (omega arith))
  number_form false O number = unprefixed_normal model modifier O (some_of_bits bits 3 6 11 22 (omega arith) (omega arith) (omega arith) (omega arith))
  number_form false X number = unprefixed_normal model modifier X (some_of_bits bits 2 4 8 16 (omega arith) (omega arith) (omega arith) (omega arith))
  number_form false UpperX number = unprefixed_normal model modifier UpperX (some_of_bits bits 2 4 8 16 (omega arith) (omega arith) (omega arith) (omega arith))
  number_form false B number = unprefixed_normal model modifier B (some_of_bits bits 8 16 32 64 (omega arith) (omega arith) (omega arith) (omega arith))
  number_form _ _ number = absurd (cc)

  number_allowed : (alternative : Bool) (conv : Conv) → is_kept_number alternative conv ≡ true → refused_as (parts alternative modifier conv) ≡ None
  number_allowed true X number = refl
  number_allowed true UpperX number = refl
  number_allowed true B number = refl
  number_allowed true _ number = absurd (cc)
  number_allowed false I number = absurd (cc)
  number_allowed false C number = absurd (cc)
  number_allowed false S number = absurd (cc)
  number_allowed false _ number = refl

number_kept : (alternative : Bool) (conv : Conv) → is_kept_number alternative conv ≡ true → kept_conv conv ≡ conv
number_kept alternative I number = absurd (cc)
number_kept alternative _ number = refl

modifier_kept : (model : Model) (modifier : Length) → is_kept_modifier modifier ≡ true → kept_length model modifier ≡ modifier
modifier_kept model lengths.J kept = absurd (cc)
modifier_kept model lengths.Z kept = absurd (cc)
modifier_kept model lengths.T kept = absurd (cc)
modifier_kept model _ kept = refl

both_kept : (alternative : Bool) (modifier : Length) (conv : Conv) → has_canonical_parts alternative modifier conv ≡ true
    → (is_kept_modifier modifier ≡ true) × (is_kept_number alternative conv ≡ true)
both_kept alternative modifier conv canonical = go (is_kept_modifier modifier) refl where
  go : (b : Bool) → is_kept_modifier modifier ≡ b → (is_kept_modifier modifier ≡ true) × (is_kept_number alternative conv ≡ true)
  go true e = (e, sym (ap (λ b. if b then is_kept_number alternative conv else false) e) ∙ canonical)
  go false e = let never = sym (ap (λ b. if b then is_kept_number alternative conv else false) e) ∙ canonical in absurd (cc)

-- so it is a canonical item as it is spelled
pub parts_are_canonical : (model : Model) (alternative : Bool) (modifier : Length) (conv : Conv) → has_canonical_parts alternative modifier conv ≡ true
    → IsCanonicalRun model (((percent ∷ []) ++ alternative_bytes alternative ++ length_letters modifier) ++ conv_letter conv ∷ [])
    (Directive (parts alternative modifier conv) ∷ [])
parts_are_canonical model alternative modifier conv canonical = go alternative canonical where
  go : (alternative : Bool) → has_canonical_parts alternative modifier conv ≡ true
      → IsCanonicalRun model (((percent ∷ []) ++ alternative_bytes alternative ++ length_letters modifier) ++ conv_letter conv ∷ [])
      (Directive (parts alternative modifier conv) ∷ [])
  go true canonical =
      let kept = both_kept true modifier conv canonical in
      record {
        canonical = (
          parts_normal model true modifier conv (number_allowed model modifier true conv kept.1) (modifier_kept model modifier kept.0)
              (number_kept true conv kept.1) (number_form model modifier true conv kept.1),
          tt,
        );
        whole = sym (append-nil (spelling_of (parts true modifier conv)));
      }
  go false canonical =
      let kept = both_kept false modifier conv canonical in
      record {
        canonical = (
          parts_normal model false modifier conv (number_allowed model modifier false conv kept.1) (modifier_kept model modifier kept.0)
              (number_kept false conv kept.1) (number_form model modifier false conv kept.1),
          tt,
        );
        whole = sym (append-nil (spelling_of (parts false modifier conv)));
      }

-- the bytes that begin a text, one by one
abbrev pub bytes_of : ℕ → (ℕ → ℕ) → Text
bytes_of zero byte_at = []
bytes_of (suc n) byte_at = byte_at 0 ∷ bytes_of n (λ k. byte_at (suc k))

pub first_bytes : (n : ℕ) (text : Text) → n ≤ length text → take n text ≡ bytes_of n (λ k. get_or text k 0)
first_bytes zero text few = refl
first_bytes (suc n) [] few = absurd (omega (arith, few))
first_bytes (suc n) (byte ∷ text) few = ap (λ t. byte ∷ t) (first_bytes n text (omega (arith, few)))

all_append : (model : Model) (a b : List Item) → AllByRecursion (IsCanonicalItem model) a → AllByRecursion (IsCanonicalItem model) b
    → AllByRecursion (IsCanonicalItem model) (a ++ b)
all_append model [] b h g = g
all_append model (item ∷ a) b h g = (h.0, all_append model a b h.1 g)

pub run_append : (model : Model) (t u : Text) (a b : List Item) → IsCanonicalRun model t a → IsCanonicalRun model u b → IsCanonicalRun model (t ++ u) (a ++ b)
run_append model t u a b h g = record {
  canonical = all_append model a b h.canonical g.canonical;
  whole = ap₂ (λ (x y : Text). x ++ y) h.whole g.whole
      ∙ sym (flat_map-append item_spelling a b);
}

is_read_byte : (byte : ℕ) (b : Bool) → byte ≢ 0 → MatchBool b ((if b then percent ∷ percent ∷ [] else byte ∷ []) ≡ percent ∷ percent ∷ [])
    ((byte ≢ 0) × ((if b then percent ∷ percent ∷ [] else byte ∷ []) ≡ byte ∷ []))
is_read_byte byte true some = refl
is_read_byte byte false some = (some, refl)

pub byte_read : (byte : ℕ) → byte ≢ 0 → IsReadAs (item_spelling (Byte byte)) (Byte byte)
byte_read byte some = is_read_byte byte (byte == percent) some

read_run : (model : Model) (item : Item) → IsCanonicalItem model item → IsReadAs (item_spelling item) item
read_run model (Byte byte) h = byte_read byte h
read_run model (Directive s) h = (spelled_read s h.defined, h.defined)

all_read : (model : Model) (items : List Item) → AllByRecursion (IsCanonicalItem model) items → Reads (flat_map item_spelling items) items
all_read model [] h = refl
all_read model (item ∷ items) h = (item_spelling item, flat_map item_spelling items, read_run model item h.0, all_read model items h.1, refl)

-- a text of items after another
pub Reads-append : (t u : Text) (a b : List Item) → Reads t a → Reads u b → Reads (t ++ u) (a ++ b)
Reads-append t u [] b h g = rw h g
Reads-append t u (item ∷ a) b h g = (h.0, h.1 ++ u, h.2, Reads-append h.1 u a b h.3 g, ap (λ x. x ++ u) h.4 ∙ append_assoc h.0 h.1 u)

pub Reads-canonical : (model : Model) (t u : Text) (items more : List Item) → Reads t items → IsCanonicalRun model u more → Reads (t ++ u) (items ++ more)
Reads-canonical model t u items more h g = Reads-append t u items more h (subst (λ v. Reads v more) (sym g.whole) (all_read model more g.canonical))

pub take_front : (n m : ℕ) (bytes : Text) → n ≤ length (take m bytes) → take n (take m bytes) ≡ take n bytes
take_front n m bytes few = sym (take-append-le n (take m bytes) (drop m bytes) few) ∙ ap (take n) (take-append-drop m bytes)
