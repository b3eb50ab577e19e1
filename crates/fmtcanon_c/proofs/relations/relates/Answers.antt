use Rattle.fmtcanon_c.proofs.RelationLemmas.{fewer_relates, fits_relates, same_relates, whole_relates}
use Rattle.fmtcanon_c.proofs.relations.relates.Goals as goal

pub returns-in-Same : goal.returns-in-Same
returns-in-Same c = rw (c.in-Same.is) (same_relates c.args.model c.args.first.now c.args.second.now _ c.same_text.ensures)

pub returns-in-WholeSame : goal.returns-in-WholeSame
returns-in-WholeSame c =
    rw (c.in-WholeSame.is) (whole_relates c.args.model c.args.first.now c.args.second.now _ c.same_text-in-WholeSame.ensures)

pub returns-in-Fits : goal.returns-in-Fits
returns-in-Fits c =
    rw (c.in-Fits.is, c.is_nowhere.ensures) (fits_relates c.args.model c.args.first.now c.args.second.now _ c.fits.ensures)

pub returns-in-FitsFewer : goal.returns-in-FitsFewer
returns-in-FitsFewer c =
    rw (c.in-FitsFewer.is, c.is_nowhere-in-FitsFewer.ensures) (fewer_relates c.args.model c.args.first.now c.args.second.now _ c.fits_fewer.ensures)
