use Rattle.std.proofs.Common.{◌≡◌, ◌+◌, ◌-◌, ◌∷◌, ◌++◌, [], decimal, replicate, true, false, sym, ap, ◌∙◌}
use Rattle.pf_values.specs.declared.flags.Flag.TheVariants.{Minus}
use Rattle.pf_values.specs.meaning.Flags.{has}
use Rattle.pf_values.specs.meaning.Specification.{width_of}
use Rattle.pf_values.specs.meaning.Text.{percent, space}
use Rattle.pf_canon.specs.ChangedDirectives.{between, letters_kept}
use Rattle.pf_canon.proofs.PutLemmas.{left_put, right_put}
use Rattle.pf_canon.proofs.items.put_padded.Goals as goal

pub returns-then-has : goal.returns-then-has
returns-then-has g c =
    let model = c.args.model in
    let text = c.args.text.now in
    let at = c.args.at in
    let d = c.args.found.now in
    let both = g.met.S.Sink.laws.both in
    let head = between c.args.from (at + 2) text in
    let core = decimal c.args.width ++ letters_kept model d.directive in
    let beyond = replicate (width_of d.directive - c.args.width) space in
    let left : has d.directive.flags Minus ≡ true = ap (λ f. has f Minus) (sym c.flags.ensures.value) ∙ sym c.has.ensures ∙ c.if-has.true in (
      (head ++ core) ++ beyond,
      both c.args.sink.now c.put_core.new.sink c.put_repeated.new.sink (head ++ core) beyond
          (both c.args.sink.now c.put.new.self c.put_core.new.sink head core c.put.ensures c.put_core.ensures)
          (rw (c.unwrap_or.ensures, c.width.ensures.value) at (c.put_repeated.ensures space c.spaces.ensures)),
      left_put model text at d c.requires.front c.args.width c.requires.change left c.args.from c.requires.within.0,
    )

pub returns : goal.returns
returns g c =
    let model = c.args.model in
    let text = c.args.text.now in
    let at = c.args.at in
    let d = c.args.found.now in
    let both = g.met.S.Sink.laws.both in
    let start = c.args.sink.now in
    let head = between c.args.from at text in
    let core = decimal c.args.width ++ letters_kept model d.directive in
    let beyond = replicate (width_of d.directive - c.args.width) space in
    let right : has d.directive.flags Minus ≡ false = ap (λ f. has f Minus) (sym c.flags.ensures.value) ∙ sym c.has.ensures ∙ c.if-has.false in (
      ((head ++ beyond) ++ percent ∷ []) ++ core,
      both start c.put-3.new.self c.put_core-2.new.sink ((head ++ beyond) ++ percent ∷ []) core
          (both start c.put_repeated-2.new.sink c.put-3.new.self (head ++ beyond) (percent ∷ [])
          (both start c.put-2.new.self c.put_repeated-2.new.sink head beyond c.put-2.ensures
          (rw (c.unwrap_or.ensures, c.width.ensures.value) at (c.put_repeated-2.ensures space c.spaces-2.ensures))) c.put-3.ensures) c.put_core-2.ensures,
      right_put model text at d c.requires.front c.args.width c.requires.change right c.args.from,
    )
