use Rattle.std.proofs.Common.{◌-◌, ◌≤◌, ◌++◌, drop, length, take}
use Rattle.pf_values.specs.meaning.Text.{Text}
use Rattle.pf_text.specs.FoundDirectives.{BeginsNoItem}
use Rattle.pf_canon.specs.Languages.{HasCanonicalIn}
use Rattle.pf_canon.proofs.languages.put_others.Given as goal

abbrev pub invariant-loop-other : goal.invariant-loop-other
invariant-loop-other g l = record {
  within : l.at ≤ length l.fn.walk.text.now;
  none : BeginsNoItem (drop l.at l.fn.walk.text.now);
  put : (c : Text) → HasCanonicalIn g.L.Language.has_front l.fn.model (take l.fn.first l.text) c → (more : Text) × g.S.Sink.given l.fn.sink l.sink more
      × HasCanonicalIn g.L.Language.has_front l.fn.model (take l.at l.text) (c ++ more);
}

abbrev pub decreases-loop-other : goal.decreases-loop-other
decreases-loop-other g l = length l.text - l.at
