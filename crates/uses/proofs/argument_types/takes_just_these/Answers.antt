use Rattle.std.specs.Prelude.{None}
use Rattle.pf_posix.specs.Laws.{ComparesArgumentTypes}
use Rattle.uses.proofs.argument_types.takes_just_these.Goals as goal

pub returns-in-Ok-None : goal.returns-in-Ok-None
returns-in-Ok-None c these =
    let fitting : ComparesArgumentTypes c.args.model c.args.message.now c.args.translation.now None =
    rw c.in-Ok-None.field-0-is at c.in-Ok-None.ensures in
    c.fits_is_fewer.ensures c.args.model c.args.message.now c.args.translation.now fitting
