use Rattle.std.proofs.Common.{◌≡◌, ap, ◌∙◌, refl, replicate, arith, to_z, of_z}
use Rattle.std.specs.Int.{w128}
use Rattle.std.specs.Prelude.{nat_abs}
use Rattle.std.proofs.lemmas.Int.{ints}
use Rattle.pf_values.specs.declared.conversions.Kind.{Kind}
use Rattle.pf_values.specs.meaning.Conversions.{kind_of}
use Rattle.pf_values.specs.meaning.Text.{zero_digit}
use Rattle.pf_render.specs.IntegerParts.{kind_digits}
use Rattle.pf_render.proofs.IntegerLemmas.{Prints-written}
use Rattle.pf_render.proofs.integers.write_integer.Goals as goal

pub returns : goal.returns
returns g c =
    let s = c.args.directive.now in
    let number : to_z w128 (of_z w128 c.args.number) ≡ c.args.number = omega (arith, ints) in
    let value = rw number at c.of-value.ensures in
    let kind = c.kind.ensures ∙ ap kind_of c.conv.ensures.value in
    let digits = c.split_at.ensures.back ∙ c.write_digits_of-start.ensures.digits
    ∙ ap (λ n. kind_digits c.kind.result n) value.parts.magnitude ∙ ap (λ (k : Kind). kind_digits k (nat_abs value.whole)) kind in
    let zeros = c.zeros-zeros.ensures ∙ ap (λ n. replicate n zero_digit) c.from.ensures in (
      _,
      Prints-written c.args.model s c.args.number value.whole _ c.of-parts.result _ c.zeros-zeros.result.now _
          c.requires.integer value.converted (c.of-parts.ensures.parts value.whole value.parts) refl c.text.ensures.value zeros digits,
      c.write_field.ensures,
    )
