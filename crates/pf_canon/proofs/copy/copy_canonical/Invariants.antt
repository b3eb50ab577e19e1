use Rattle.std.proofs.Common.{◌≡◌, ◌-◌}
use Rattle.std.specs.Io.KnownBytes.{Consumes}
use Rattle.pf_values.specs.declared.limits.TheConstants.{MAX_TEXT_LEN}
use Rattle.pf_values.specs.Counting.{device_of, failures_of}
use Rattle.pf_values.specs.meaning.Text.{Text}
use Rattle.pf_text.specs.History.{offset_of}
use Rattle.pf_canon.specs.Copy.{IsWritten}
use Rattle.pf_canon.specs.Transducer.{scanner_of}
use Rattle.pf_canon.proofs.copy.copy_canonical.Given as goal

abbrev pub invariant-loop-transducer : goal.invariant-loop-transducer
invariant-loop-transducer g l = record {
  reads : failures_of l.r ≡ failures_of l.fn.r;
  writes : failures_of l.w ≡ failures_of l.fn.w;
  copied : ((taken : Text) × Consumes (g.R.Read.remaining (device_of l.fn.r)) (g.R.Read.remaining (device_of l.r)) taken
      × IsWritten l.fn.model l.transducer taken (g.W.Write.contents (device_of l.fn.w)) (g.W.Write.contents (device_of l.w)) l.written);
}

abbrev pub decreases-loop-transducer : goal.decreases-loop-transducer
decreases-loop-transducer g l = MAX_TEXT_LEN - offset_of (scanner_of l.transducer)
