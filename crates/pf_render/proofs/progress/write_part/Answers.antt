use Rattle.pf_render.proofs.ProgressLemmas.{bytes_printed, directive_printed}
use Rattle.pf_render.proofs.progress.write_part.Goals as goal

pub returns-in-Some : goal.returns-in-Some
returns-in-Some g c =
    let out = c.write_argument.ensures in (
      out.0,
      directive_printed g.A.FormatArgument.argument_of c.args.model c.args.part.now c.args.own.now c.requires.typed c.in-Some.directive c.index-own-0.result out.0 c.in-Some.is
          c.index-own-0.is out.1.0,
      out.2,
    )

pub returns-in-None : goal.returns-in-None
returns-in-None g c = (_, bytes_printed g.A.FormatArgument.argument_of c.args.model c.args.part.now c.args.own.now c.requires.typed c.in-None.is, c.write_counted.ensures)
