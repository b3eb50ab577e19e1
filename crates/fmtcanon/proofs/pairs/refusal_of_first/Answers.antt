use Rattle.fmtcanon.proofs.pairs.refusal_of_first.Goals as goal

pub returns-in-Fits : goal.returns-in-Fits
returns-in-Fits c = rw (c.in-Fits.is) c.numbered_refusal.ensures

pub returns-in-FitsFewer : goal.returns-in-FitsFewer
returns-in-FitsFewer c = rw (c.in-FitsFewer.is) c.numbered_refusal-in-FitsFewer.ensures

pub returns-in-Err : goal.returns-in-Err
returns-in-Err c = rw (c.in-Same.is, c.refused.ensures) c.in-Err.ensures

pub returns-in-Ok-check : goal.returns-in-Ok-check
returns-in-Ok-check c = rw (c.in-WholeSame.is) c.in-Ok-check.ensures
