-- How many bytes a directive prints of a byte or a string, and items of what they are made of.
use Rattle.std.proofs.Common.{◌≡◌, ℕ, zero, suc, ◌+◌, ◌≤◌, max, false, List, [], ◌∷◌, ◌++◌, length, map, replicate, refl, sym, ap, ◌∙◌, arith, subst, pos}
use Rattle.std.specs.Prelude.{Option, Some, None}
use Rattle.std.proofs.lemmas.Int.{ints}
use Rattle.std.proofs.lemmas.List.{append-nil, length-replicate, length-take}
use Rattle.pf_values.specs.declared.conversions.Kind.TheVariants as kinds
use Rattle.pf_values.specs.declared.models.Model.{Model}
use Rattle.pf_values.specs.meaning.Arguments.{Argument, HasType, HasTypes, IsString, Number, String}
use Rattle.pf_values.specs.meaning.Bits.{B8}
use Rattle.pf_values.specs.meaning.Conversions.{kind_of}
use Rattle.pf_values.specs.meaning.DataModel.{arg_type, type_of_kind}
use Rattle.pf_values.specs.meaning.Items.{Byte, Directive, types}
use Rattle.pf_values.specs.meaning.Printing.{Prints, PrintsAll, PrintsKind, field, printed_front}
use Rattle.pf_values.specs.meaning.Specification.{Specification, width_of}
use Rattle.pf_values.specs.meaning.Text.{Text}
use Rattle.pf_bounds.specs.Bounds.{AreBoundsOf, IsGreatest, CanPrintAll, CanPrint}
use Rattle.pf_bounds.proofs.BoundsLemmas.{of_same}
use Rattle.pf_bounds.proofs.Extremes.{converted_itself}
use Rattle.pf_bounds.proofs.Lengths.{length-field}

one_byte : (model : Model) (s : Specification) (argument : Argument) (body : Text) → PrintsKind model kinds.Char s argument body → length body ≡ 1
one_byte model s (Number n) body h = ap length h.2
one_byte model s (String bytes) body h = absurd h

module _ (model : Model) (s : Specification) (kind : kind_of s.conv ≡ kinds.Char) where
  char_length : (out : Text) → CanPrint model s out → length out ≡ max (width_of s) 1
  char_length out h =
      let p = h.prints in
      let body = one_byte model s h.argument p.0 (subst (λ k. PrintsKind model k s h.argument p.0) kind p.1) in
      ap length p.2 ∙ length-field s p.0 ∙ ap (max (width_of s)) body

  char_printed : CanPrint model s (field s (0 ∷ []))
  char_printed =
      record {
        argument = Number (pos 0);
        typed = subst (λ k. HasType model (Number (pos 0)) (type_of_kind model k s.length)) (sym kind) (omega (arith, ints), omega (arith, ints));
        prints = (
          0 ∷ [],
          subst (λ k. PrintsKind model k s (Number (pos 0)) (0 ∷ [])) (sym kind)
              (0, converted_itself false B8 (pos 0) (omega (arith, ints), omega (arith, ints)), refl),
          refl,
        );
      }

  pub char_bounds : (least len : ℕ) (greatest : Option ℕ) → least ≡ len → greatest ≡ Some len → len ≡ max (width_of s) 1
      → AreBoundsOf (CanPrint model s) least greatest
  char_bounds least len greatest e f g =
      record {
        at_least = λ out h. omega (arith, e, g, char_length out h);
        reached = (field s (0 ∷ []), char_printed, omega (arith, e, g, char_length _ char_printed));
        most = subst (IsGreatest (CanPrint model s)) (sym f) (
          λ out h. omega (arith, g, char_length out h),
          (field s (0 ∷ []), char_printed, omega (arith, g, char_length _ char_printed)),
        );
      }

letters : (n : ℕ) → IsString (replicate n 65)
letters zero = tt
letters (suc n) = ((omega arith, omega arith), letters n)

front_length : (precision : Option ℕ) (n : ℕ) → precision ≡ Some n → (bytes : Text) → length (printed_front precision bytes) ≤ n
front_length precision n e bytes = rw e (omega (arith, length-take n bytes))

whole_front : (precision : Option ℕ) (n : ℕ) → precision ≡ Some n → length (printed_front precision (replicate n 65)) ≡ n
whole_front precision n e = rw e (length-take n (replicate n 65) ∙ omega (arith, length-replicate {A = ℕ} n 65))

no_front : (precision : Option ℕ) → length (printed_front precision []) ≡ 0
no_front None = refl
no_front (Some n) = omega (arith, length-take {A = ℕ} n [])

-- what is printed is the front of a string
abbrev HasString : Specification → Text → Type 0
HasString s body = (bytes : Text) × (body ≡ printed_front s.precision bytes)

string_of_body : (model : Model) (s : Specification) (argument : Argument) (body : Text) → PrintsKind model kinds.String s argument body → HasString s body
string_of_body model s (Number n) body h = absurd h
string_of_body model s (String bytes) body h = (bytes, h)

module _ (model : Model) (s : Specification) (kind : kind_of s.conv ≡ kinds.String) where
  string_length : (out : Text) → CanPrint model s out → (bytes : Text) × (length out ≡ max (width_of s) (length (printed_front s.precision bytes)))
  string_length out h =
      let p = h.prints in
      let b = string_of_body model s h.argument p.0 (subst (λ k. PrintsKind model k s h.argument p.0) kind p.1) in
      (b.0, ap length p.2 ∙ length-field s p.0 ∙ ap (λ t. max (width_of s) (length t)) b.1)

  string_printed : (n : ℕ) → CanPrint model s (field s (printed_front s.precision (replicate n 65)))
  string_printed n =
      record {
        argument = String (replicate n 65);
        typed = subst (λ k. HasType model (String (replicate n 65)) (type_of_kind model k s.length)) (sym kind) (letters n);
        prints = (
          printed_front s.precision (replicate n 65),
          subst (λ k. PrintsKind model k s (String (replicate n 65)) (printed_front s.precision (replicate n 65))) (sym kind) refl,
          refl,
        );
      }

  string_least : (least : ℕ) (greatest : Option ℕ) → least ≡ width_of s → IsGreatest (CanPrint model s) greatest
      → AreBoundsOf (CanPrint model s) least greatest
  string_least least greatest e most =
      record {
        at_least = λ out h. omega (arith, e, (string_length out h).1);
        reached = (
          field s (printed_front s.precision []),
          string_printed 0,
          omega (arith, e, length-field s (printed_front s.precision []), no_front s.precision),
        );
        most = most;
      }

  pub string_limited : (least greatest precision : ℕ) → least ≡ width_of s → s.precision ≡ Some precision → greatest ≡ max precision (width_of s)
      → AreBoundsOf (CanPrint model s) least (Some greatest)
  string_limited least greatest precision e f g =
      string_least least (Some greatest) e (
        λ out h. let b = string_length out h in omega (arith, g, b.1, front_length s.precision precision f b.0),
        (
          field s (printed_front s.precision (replicate precision 65)),
          string_printed precision,
          omega (arith, g, length-field s (printed_front s.precision (replicate precision 65)), whole_front s.precision precision f),
        ),
      )

  pub string_unlimited : (least : ℕ) → least ≡ width_of s → s.precision ≡ None → AreBoundsOf (CanPrint model s) least None
  string_unlimited least e f =
      string_least least None e (λ n. (
        field s (printed_front s.precision (replicate (n + 1) 65)),
        string_printed (n + 1),
        let long : length (printed_front s.precision (replicate (n + 1) 65)) ≡ n + 1 = rw f (length-replicate {A = ℕ} (n + 1) 65) in
            omega (arith, length-field s (printed_front s.precision (replicate (n + 1) 65)), long),
      ))

bytes_only : (model : Model) (bytes : Text) (args : List Argument) (out : Text) → PrintsAll model (map Byte bytes) args out → out ≡ bytes
bytes_only model [] [] out h = h
bytes_only model [] (a ∷ args) out h = absurd h
bytes_only model (byte ∷ bytes) args out h = h.2 ∙ ap (λ t. byte ∷ t) (bytes_only model bytes args h.0 h.1)

bytes_printed : (model : Model) (bytes : Text) → PrintsAll model (map Byte bytes) [] bytes
bytes_printed model [] = refl
bytes_printed model (byte ∷ bytes) = (bytes, bytes_printed model bytes, refl)

bytes_typed : (model : Model) (bytes : Text) → HasTypes model [] (types model (map Byte bytes))
bytes_typed model [] = tt
bytes_typed model (byte ∷ bytes) = bytes_typed model bytes

-- bytes print themselves
pub bytes_bounds : (model : Model) (bytes : Text) (least len : ℕ) (greatest : Option ℕ) → least ≡ len → greatest ≡ Some len → len ≡ length bytes
    → AreBoundsOf (CanPrintAll model (map Byte bytes)) least greatest
bytes_bounds model bytes least len greatest e f g =
    record {
      at_least = λ out h. omega (arith, e, g, ap length (bytes_only model bytes h.args out h.prints));
      reached = (bytes, own, omega (arith, e, g));
      most = subst (IsGreatest (CanPrintAll model (map Byte bytes))) (sym f) (
        λ out h. omega (arith, g, ap length (bytes_only model bytes h.args out h.prints)),
        (bytes, own, sym g),
      );
    } where
      own : CanPrintAll model (map Byte bytes) bytes
      own = record { args = []; typed = bytes_typed model bytes; prints = bytes_printed model bytes }

module _ (model : Model) (s : Specification) where
  to_item : (out : Text) → CanPrint model s out → CanPrintAll model (Directive s ∷ []) out
  to_item out h =
      record {
        args = h.argument ∷ [];
        typed = (h.typed, tt);
        prints = (out, [], h.prints, refl, sym (append-nil out));
      }

  from_item : (out : Text) → CanPrintAll model (Directive s ∷ []) out → CanPrint model s out
  from_item out h = go h.args h.typed h.prints where
    go : (args : List Argument) → HasTypes model args (arg_type model s ∷ []) → PrintsAll model (Directive s ∷ []) args out → CanPrint model s out
    go [] t p = absurd p
    go (a ∷ []) t p =
        let same = p.4 ∙ ap (λ r. p.0 ++ r) p.3 ∙ append-nil p.0 in
        record { argument = a; typed = t.0; prints = subst (λ o. Prints model s a o) (sym same) p.2 }
    go (a ∷ b ∷ args) t p = absurd p.3

  -- an item that is a directive
  pub item_bounds : (least : ℕ) (greatest : Option ℕ) → AreBoundsOf (CanPrint model s) least greatest
      → AreBoundsOf (CanPrintAll model (Directive s ∷ [])) least greatest
  item_bounds least greatest h = of_same (CanPrint model s) (CanPrintAll model (Directive s ∷ [])) least greatest to_item from_item h
