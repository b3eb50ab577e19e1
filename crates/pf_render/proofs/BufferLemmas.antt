-- What is put into a buffer, and how long it is.
use Rattle.std.proofs.Common.{◌≡◌, ℕ, ◌+◌, ◌≤◌, List, ◌++◌, length, take, drop, sym, ap, ◌∙◌, subst, arith, append_assoc}
use Rattle.std.proofs.Math.Seq.{drop-append_seam, take-append_seam}
use Rattle.std.proofs.lemmas.List.{length-append, length-take}
use Rattle.pf_values.specs.declared.models.Model.{Model}
use Rattle.pf_values.specs.declared.types.ArgType.{ArgType}
use Rattle.pf_values.specs.meaning.Arguments.{Argument}
use Rattle.pf_values.specs.meaning.Printing.{PrintsAll}
use Rattle.pf_values.specs.meaning.Text.{Text}
use Rattle.pf_text.proofs.Texts.{Reads-unique}
use Rattle.pf_render.specs.Rendering.{IsPutIfFits, RendersBy}

-- bytes that were put at an offset: what is before their end, and what is after it
module _ (old bytes new : Text) (at : ℕ) (within : at + length bytes ≤ length old) (put : new ≡ take at old ++ (bytes ++ drop (at + length bytes) old)) where
  whole : new ≡ (take at old ++ bytes) ++ drop (at + length bytes) old
  whole = put ∙ sym (append_assoc (take at old) bytes (drop (at + length bytes) old))

  len : length (take at old ++ bytes) ≡ at + length bytes
  len = omega (arith, within, length-append (take at old) bytes, length-take at old)

  pub before_end : take (at + length bytes) new ≡ take at old ++ bytes
  before_end = ap (take (at + length bytes)) whole
      ∙ ap (λ n. take n ((take at old ++ bytes) ++ drop (at + length bytes) old)) (sym len)
      ∙ take-append_seam (take at old ++ bytes) (drop (at + length bytes) old)

  pub after_end : drop (at + length bytes) new ≡ drop (at + length bytes) old
  after_end = ap (drop (at + length bytes)) whole
      ∙ ap (λ n. drop n ((take at old ++ bytes) ++ drop (at + length bytes) old)) (sym len)
      ∙ drop-append_seam (take at old ++ bytes) (drop (at + length bytes) old)

module _ {A : Type 0} {type_of : A → ArgType} {argument_of : A → Argument} {model : Model} {t : Text} {args : List A} where
  -- one text is printed
  pub RendersBy-unique : (x y : Text) → RendersBy type_of argument_of model t args x → RendersBy type_of argument_of model t args y → y ≡ x
  RendersBy-unique x y h g =
      let same = Reads-unique t g.takes.items h.takes.items g.takes.accepted.reads h.takes.accepted.reads in
      h.only y (subst (λ i. PrintsAll model i _ y) same g.prints)

-- bytes for which there is room were put
pub put_fitting : (bytes old new : Text) → length bytes ≤ length old → new ≡ bytes ++ drop (length bytes) old → IsPutIfFits bytes old new
put_fitting bytes old new fits put = record { fits = λ _. put; no_room = λ less. absurd (omega (arith, fits, less)) }
