use Rattle.std.proofs.Common.{◌+◌, ◌∷◌, ◌++◌, [], arith}
use Rattle.pf_values.specs.meaning.Text.{point}
use Rattle.pf_canon.specs.ChangedDirectives.{between, letters_kept}
use Rattle.pf_canon.proofs.PutLemmas.{filled_letters_put, filled_put, modifier_is}
use Rattle.pf_canon.proofs.items.put_filled.Goals as goal

pub returns-then-keeps_letters-clause-written : goal.returns-then-keeps_letters-clause-written
returns-then-keeps_letters-clause-written g c =
    let text = c.args.text.now in
    let at = c.args.at in
    let d = c.args.found.now in
    let h = c.requires.change in
    let own = rw c.if-keeps_letters.true at c.keeps_letters.ensures in (
      between c.args.from (at + 1) text ++ point ∷ [],
      g.met.S.Sink.laws.both c.args.sink.now c.put.new.self c.put-2.new.self (between c.args.from (at + 1) text) (point ∷ []) c.put.ensures c.put-2.ensures,
      filled_put c.args.model text at d c.requires.front h.0 h.1 h.2 h.3 c.args.from c.requires.within.0 own,
    )

pub put_letters-requires : goal.put_letters-requires
put_letters-requires g c =
    let text = c.args.text.now in
    let at = c.args.at in
    let d = c.args.found.now in
    let h = c.requires.change in
    let two = modifier_is c.args.model text at d c.requires.front h.0 h.1 h.2 h.3 in
    let modifier = c.requires.front.modifier in
    let few = c.requires.front.within in
    record { within = (two, omega (arith, modifier, few)) }

pub returns-clause-written : goal.returns-clause-written
returns-clause-written g c =
    let text = c.args.text.now in
    let at = c.args.at in
    let d = c.args.found.now in
    let h = c.requires.change in
    let both = g.met.S.Sink.laws.both in
    let head = between c.args.from (at + 1) text in
    let letters = between (at + 2) d.modifier_at text ++ letters_kept c.args.model d.directive in (
      (head ++ point ∷ []) ++ letters,
      both c.args.sink.now c.put-2.new.self c.put_letters.new.sink (head ++ point ∷ []) letters
          (both c.args.sink.now c.put.new.self c.put-2.new.self head (point ∷ []) c.put.ensures c.put-2.ensures) c.put_letters.ensures,
      filled_letters_put c.args.model text at d c.requires.front h.0 h.1 h.2 h.3 c.args.from c.requires.within.0,
    )
