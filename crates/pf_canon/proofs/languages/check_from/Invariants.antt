use Rattle.std.proofs.Common.{◌-◌, ◌≤◌, ◌++◌, drop, length, take}
use Rattle.pf_values.specs.meaning.Text.{Text}
use Rattle.pf_text.specs.FoundDirectives.{BeginsNoItem}
use Rattle.pf_canon.specs.Languages.{GoesOnIn, HasCanonicalIn}
use Rattle.pf_canon.proofs.languages.check_from.Given as goal

abbrev pub invariant-loop-other : goal.invariant-loop-other
invariant-loop-other g l = record {
  within : l.at ≤ length l.fn.walk.text.now;
  none : BeginsNoItem (drop l.at l.fn.walk.text.now);
  read : (out : Text) → GoesOnIn g.L.Language.has_front g.L.Passed.passes l.fn.model (take l.fn.walk.at l.text) out
      → (more : Text) × HasCanonicalIn g.L.Language.has_front l.fn.model (take l.at l.text) (out ++ more);
}

abbrev pub decreases-loop-other : goal.decreases-loop-other
decreases-loop-other g l = length l.text - l.at
