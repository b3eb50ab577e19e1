use Rattle.std.proofs.Common.{◌-◌, ◌≤◌, length}
use Rattle.pf_values.specs.declared.limits.TheConstants.{MAX_NUMBER}
use Rattle.pf_values.specs.meaning.Text.{Text}
use Rattle.pf_text.specs.Offsets.{ContinuesNumber, HasBytes}
use Rattle.pf_text.proofs.specification.digits_at.Given as goal

abbrev pub invariant-loop-at : goal.invariant-loop-at
invariant-loop-at l = record {
  small : l.number ≤ MAX_NUMBER;
  digits : (bytes : Text) × ContinuesNumber l.first bytes l.number × HasBytes l.text l.start l.at bytes;
}

abbrev pub decreases-loop-at : goal.decreases-loop-at
decreases-loop-at l = length l.text - l.at
