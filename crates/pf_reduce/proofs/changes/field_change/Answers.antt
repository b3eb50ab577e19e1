use Rattle.std.proofs.Common.{◌<◌, ◌≤◌, arith, sym}
use Rattle.pf_values.specs.meaning.Specification.{width_of}
use Rattle.pf_reduce.proofs.FieldLemmas.{filled_form}
use Rattle.pf_reduce.proofs.LetterLemmas.{letters_change}
use Rattle.pf_reduce.proofs.PaddedLemmas.{flags_are, padded_change}
use Rattle.pf_reduce.proofs.changes.field_change.Goals as goal

pub returns-then-width-most : goal.returns-then-width-most
returns-then-width-most c =
    let model = c.args.model in
    let s = c.args.directive.now in
    let r = c.requires in
    let most = c.most_printed-most in
    let wide : 1 < width_of s = omega (arith, c.if-width-le1.false, c.width-width.ensures.value) in
    let few : width_of s ≤ most.result = omega (arith, c.if-width-most.true, c.width-width.ensures.value) in
    letters_change model s r.parts (filled_form model s r.parts r.number r.unfilled r.precision most.result most.ensures wide few)

pub returns : goal.returns
returns c =
    let model = c.args.model in
    let s = c.args.directive.now in
    let r = c.requires in
    let most = c.most_printed-most in
    let wide : most.result < width_of s = omega (arith, c.if-width-most.false, c.width-width.ensures.value) in
    let change = padded_change model s r.parts r.number r.unfilled r.precision most.result wide most.ensures in (
      sym (flags_are model s r.parts r.number r.unfilled r.precision most.result wide),
      r.precision,
      change.0,
      omega
          (arith, c.if-most-ge100.false),
      wide,
      change.1,
    )
