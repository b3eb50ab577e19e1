use Rattle.std.proofs.Common.{◌≡◌, arith, to_z, of_z}
use Rattle.std.specs.Int.{w128}
use Rattle.std.proofs.lemmas.Int.{ints}
use Rattle.pf_render.proofs.TextLemmas.{Prints-char}
use Rattle.pf_render.proofs.texts.write_char.Goals as goal

pub returns : goal.returns
returns g c model =
    let number : to_z w128 (of_z w128 c.args.number) ≡ c.args.number = omega (arith, ints) in
    (_, Prints-char model c.args.directive.now c.args.number c.of.result c.requires.char (rw number at c.of.ensures), c.write_text.ensures)
