use Rattle.std.proofs.Common.{◌≡◌, false}
use Rattle.pf_values.specs.declared.models.Model.{Model}
use Rattle.pf_values.specs.Counting.{Known}
use Rattle.pf_values.specs.meaning.Text.{Text}
use Rattle.pf_canon.specs.CanonicalBytes.{History, units}
use Rattle.pf_canon.proofs.ByteTransducerSteps.{DrainsOn}
use Rattle.pf_canon.proofs.canonical_bytes.ByteTransducer.drain.Given as goal

abbrev pub invariant-loop-self : goal.invariant-loop-self
invariant-loop-self g l = record {
  drains : ((model : Model) (start : Known) (taken given : Text) → History model l.fn.self start (g.B.ByteSource.left l.fn.bytes) taken given
      → DrainsOn model l.fn.self l.self start (g.B.ByteSource.left l.bytes) given);
  closed : (l.fn.self.is_open ≡ false → l.self.is_open ≡ false);
  kept : g.B.ByteSource.kept l.fn.bytes l.bytes;
}

abbrev pub decreases-loop-self : goal.decreases-loop-self
decreases-loop-self g l = units l.self
