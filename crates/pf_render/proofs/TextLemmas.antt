-- What is written of bytes and strings is what is printed of them.
use Rattle.std.proofs.Common.{◌≡◌, ℕ, false, [], ◌∷◌, refl, subst, sym, ℤ, pos}
use Rattle.pf_values.specs.declared.conversions.Kind.TheVariants as kinds
use Rattle.pf_values.specs.declared.models.Model.{Model}
use Rattle.pf_values.specs.meaning.Arguments.{Number, String, IsConverted}
use Rattle.pf_values.specs.meaning.Conversions.{kind_of}
use Rattle.pf_values.specs.meaning.DataModel.{B8, bit_count}
use Rattle.pf_values.specs.meaning.Printing.{Prints, PrintsKind, field, printed_front}
use Rattle.pf_values.specs.meaning.Specification.{Specification}
use Rattle.pf_values.specs.meaning.Text.{Text}

pub Prints-char : (model : Model) (s : Specification) (n : ℤ) (byte : ℕ) → kind_of s.conv ≡ kinds.Char
    → IsConverted false (bit_count B8) n (pos byte) → Prints model s (Number n) (field s (byte ∷ []))
Prints-char model s n byte e h =
    let prints = subst (λ k. PrintsKind model k s (Number n) (byte ∷ [])) (sym e) (byte, h, refl) in
    (byte ∷ [], prints, refl)

pub Prints-string : (model : Model) (s : Specification) (bytes text : Text) → kind_of s.conv ≡ kinds.String
    → text ≡ printed_front s.precision bytes → Prints model s (String bytes) (field s text)
Prints-string model s bytes text e h =
    (text, subst (λ k. PrintsKind model k s (String bytes) text) (sym e) h, refl)
