use Rattle.std.proofs.Common.{◌≡◌, ◌∙◌, Bool, ap, false, not, refl, sym, true}
use Rattle.std.specs.Prelude.{is_some}
use Rattle.pf_posix.specs.Stretches.{Last}
use Rattle.uses.proofs.tests.posix.stretches.is_one_stretch.Goals as goal

told_none : (is : Bool) → false ≡ not is → is ≡ true
told_none true e = refl
told_none false e = cc

pub returns-in-Some : goal.returns-in-Some
returns-in-Some c items h =
    let head = c.in-Some.ensures.head (Last items) h in
    told_none c.is_none.result (sym (ap is_some head.0) ∙ c.is_none.ensures)

pub returns-in-None : goal.returns-in-None
returns-in-None c items h = absurd (c.in-None.ensures.head (Last items) h)
