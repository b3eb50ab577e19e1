use Rattle.fmtcanon.proofs.pairs.pair_answer_in.Goals as goal

pub returns-in-Fits : goal.returns-in-Fits
returns-in-Fits c = rw (c.in-Fits.is) c.fit_in.ensures

pub returns-in-FitsFewer : goal.returns-in-FitsFewer
returns-in-FitsFewer c = rw (c.in-FitsFewer.is) c.fewer_in.ensures

pub returns-in-Same : goal.returns-in-Same
returns-in-Same c = rw (c.in-Same.is) c.comparison_in.ensures

pub returns-in-WholeSame : goal.returns-in-WholeSame
returns-in-WholeSame c = rw (c.in-WholeSame.is) c.alike_in.ensures
