-- For each directive and argument of its type there is one text that it prints.
use Rattle.std.proofs.Common.{◌≡◌, [], ◌∷◌, ◌++◌, refl, sym, ap, ◌∙◌, ℤ, pos, false, arith}
use Rattle.std.specs.Prelude.{nat_abs}
use Rattle.std.proofs.lemmas.Int.{ints}
use Rattle.pf_values.specs.declared.conversions.Conv.{Conv}
use Rattle.pf_values.specs.declared.conversions.Kind.{Kind}
use Rattle.pf_values.specs.declared.conversions.Kind.TheVariants as kinds
use Rattle.pf_values.specs.declared.lengths.Length.{Length}
use Rattle.pf_values.specs.declared.models.Model.{Model}
use Rattle.pf_values.specs.meaning.Arguments.{Argument, Number, String, HasType, IsValue}
use Rattle.pf_values.specs.meaning.Conversions.{is_signed, kind_of}
use Rattle.pf_values.specs.meaning.DataModel.{
  B8,
  arg_type,
  bits_under,
  signed_type,
  type_of_kind,
  unsigned_type,
}
use Rattle.pf_values.specs.meaning.Printing.{
  Prints,
  PrintsKind,
  PrintsNumber,
  field,
  printed_front,
  sign_or_prefix,
  zeros,
}
use Rattle.pf_values.specs.Laws.{PrintsOnce, PrintsOnly}
use Rattle.pf_values.specs.meaning.Specification.{Specification}
use Rattle.pf_values.specs.meaning.Text.{Text}
use Rattle.pf_values.proofs.DataModelLemmas.{each_row}
use Rattle.pf_values.proofs.Printed.{printed_digits, printed_precision, plain_digits, padded_digits, AreDigitsOf-exist, AreDigitsOf-unique}
use Rattle.pf_values.proofs.Values.{wrapped, converted_number, converted-is, IsConverted-unique}

-- what is printed of a value, without padding
abbrev pub value_text : Specification → ℤ → Text
value_text s value = sign_or_prefix s value ++ printed_digits s (printed_precision s value) (nat_abs value)

pub PrintsNumber-value : (model : Model) (s : Specification) (n value : ℤ) → IsValue model s n value → PrintsNumber model s n (value_text s value)
PrintsNumber-value model s n value h =
    record {
      value = value;
      digits = plain_digits s (nat_abs value);
      value_is = h;
      digits_are = AreDigitsOf-exist s _;
      whole = sym (padded_digits s value);
    }

pub PrintsNumber-is : (model : Model) (s : Specification) (n : ℤ) (body : Text) (h : PrintsNumber model s n body) → body ≡ value_text s h.value
PrintsNumber-is model s n body h =
    h.whole
    ∙ ap (λ t. sign_or_prefix s h.value ++ zeros s (sign_or_prefix s h.value ++ t) ++ t)
    (AreDigitsOf-unique s (nat_abs h.value) h.digits h.digits_are)
    ∙ padded_digits s h.value

-- the value that a directive makes of a number
abbrev pub value_of : Model → Specification → ℤ → ℤ
value_of model s n = converted_number (is_signed s.conv) (bits_under model s.length) n

-- what is printed of an argument, without padding; an argument of another type has none
abbrev pub body_of_kind : Model → Kind → Specification → Argument → Text
body_of_kind model kinds.Signed s (Number n) = value_text s (value_of model s n)
body_of_kind model kinds.Signed s (String bytes) = []
body_of_kind model (kinds.Unsigned base capitals) s (Number n) = value_text s (value_of model s n)
body_of_kind model (kinds.Unsigned base capitals) s (String bytes) = []
body_of_kind model kinds.Char s (Number n) = wrapped 256 n ∷ []
body_of_kind model kinds.Char s (String bytes) = []
body_of_kind model kinds.String s (Number n) = []
body_of_kind model kinds.String s (String bytes) = printed_front s.precision bytes

abbrev pub body_under : Model → Conv → Specification → Argument → Text
body_under model conv s argument = body_of_kind model (kind_of conv) s argument

-- what a directive prints for an argument
abbrev pub printed_text : Model → Specification → Argument → Text
printed_text model s argument = field s (body_under model s.conv s argument)

-- a body, and no other
abbrev IsOne : Model → Kind → Specification → Argument → Type 0
IsOne model k s argument = PrintsKind model k s argument (body_of_kind model k s argument)
    × ((other : Text) → PrintsKind model k s argument other → other ≡ body_of_kind model k s argument)

abbrev IsOneNumber : Model → Specification → ℤ → Type 0
IsOneNumber model s n = PrintsNumber model s n (value_text s (value_of model s n))
    × ((other : Text) → PrintsNumber model s n other → other ≡ value_text s (value_of model s n))

one_number : (model : Model) (s : Specification) (n : ℤ) → IsOneNumber model s n
one_number model s n = (
  PrintsNumber-value model s n _ (converted-is (bits_under model s.length) (is_signed s.conv) n),
  λ other h. PrintsNumber-is model s n other h ∙ ap (value_text s)
      (IsConverted-unique (bits_under model s.length) (is_signed s.conv) n h.value _ h.value_is
      (converted-is (bits_under model s.length) (is_signed s.conv) n)),
)

one_char : (model : Model) (s : Specification) (n : ℤ) → IsOne model kinds.Char s (Number n)
one_char model s n =
    let byte = converted-is B8 false n in (
      (wrapped 256 n, byte, refl),
      λ other h. h.2 ∙ ap (λ b. b ∷ []) (let same = IsConverted-unique B8 false n (pos h.0) (pos (wrapped 256 n)) h.1 byte in omega (arith, ints)),
    )

no_string : (model : Model) (t : Text) (length : Length) → (HasType model (String t) (signed_type model length) → ⊥)
    × (HasType model (String t) (unsigned_type model length) → ⊥)
no_string model t = each_row model (λ r. (HasType model (String t) r.signed → ⊥) × (HasType model (String t) r.unsigned → ⊥)) (λ h. h, λ h. h) (λ h. h, λ h. h)
    (λ h. h, λ h. h) (λ h. h, λ h. h) (λ h. h, λ h. h)

one_body : (model : Model) (k : Kind) (length : Length) (s : Specification) (argument : Argument)
    → HasType model argument (type_of_kind model k length) → IsOne model k s argument
one_body model kinds.Signed length s (Number n) h = one_number model s n
one_body model kinds.Signed length s (String t) h = absurd ((no_string model t length).0 h)
one_body model (kinds.Unsigned base capitals) length s (Number n) h = one_number model s n
one_body model (kinds.Unsigned base capitals) length s (String t) h = absurd ((no_string model t length).1 h)
one_body model kinds.Char length s (Number n) h = one_char model s n
one_body model kinds.Char length s (String t) h = absurd h
one_body model kinds.String length s (Number n) h = absurd h
one_body model kinds.String length s (String t) h = (refl, λ other same. same)

pub printed-is : (model : Model) (s : Specification) (argument : Argument) → HasType model argument (arg_type model s)
    → Prints model s argument (printed_text model s argument)
printed-is model s argument h = (body_under model s.conv s argument, (one_body model (kind_of s.conv) s.length s argument h).0, refl)

pub Prints-unique : (model : Model) (s : Specification) (argument : Argument) (out : Text) → HasType model argument (arg_type model s)
    → Prints model s argument out → out ≡ printed_text model s argument
Prints-unique model s argument out h g = g.2 ∙ ap (field s) ((one_body model (kind_of s.conv) s.length s argument h).1 g.0 g.1)

pub PrintsOnly-is : (model : Model) (s : Specification) (argument : Argument) (out : Text) → HasType model argument (arg_type model s)
    → Prints model s argument out → PrintsOnly model s argument out
PrintsOnly-is model s argument out h g = (g, λ other f. Prints-unique model s argument other h f ∙ sym (Prints-unique model s argument out h g))

pub prints_once : (model : Model) → PrintsOnce model
prints_once model s argument h = (printed_text model s argument, PrintsOnly-is model s argument _ h (printed-is model s argument h))
