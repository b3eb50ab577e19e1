-- What a run leaves that copies the canonical text of its reader. This project's own.
use Rattle.std.specs.Prelude.{◌≡◌, ℕ, Bool, None, true, ◌⊎◌}
use Rattle.pf_values.specs.declared.counted.Counted.{Counted}
use Rattle.pf_values.specs.declared.models.Model.{Model}
use Rattle.pf_values.specs.Counting.{HasFailed, Known, device_of, failures_after, failures_of, is_flushed}
use Rattle.pf_canon.specs.Copy.{CopiesAll, CopyStops}
use Rattle.pf_canon.specs.declared.faults.CopyFault.{CopyFault}
use Rattle.pf_canon.specs.declared.faults.CopyFault.TheVariants as faults
use Rattle.fmtcanon.specs.declared.outcome.Outcome.{Outcome}
use Rattle.fmtcanon.specs.declared.outcome.Outcome.TheVariants.{Done, Refused, Read, Write}

module _ (model : Model) {R W : Type 0} (remaining : R → Known) (contents : W → Known)
    (reader left : Counted R) (old new : Counted W) where
  -- the whole canonical text of what was taken up to the end went out
  abbrev pub AllCopied : ℕ → Type 0
  AllCopied count = CopiesAll model
      (remaining (device_of reader)) (remaining (device_of left))
      (contents (device_of old)) (contents (device_of new)) count

  -- this much of it went out before a fault
  abbrev pub CopyStopped : CopyFault → Type 0
  CopyStopped fault = CopyStops model
      (remaining (device_of reader)) (remaining (device_of left))
      (contents (device_of old)) (contents (device_of new)) fault

  -- the reader did not fail
  abbrev pub ReadWell : Type 0
  ReadWell = failures_of left ≡ failures_of reader

  -- The writer's last call was a flush, and at most one of its calls failed. A body that goes on
  -- after a failed write can't promise that, since this flush may fail, too.
  abbrev pub FlushedAtLast : Type 0
  FlushedAtLast =
      ((failed : Bool) × (failures_of new ≡ failures_after (failures_of old) failed))
      × (is_flushed new ≡ true)

  -- At Write the bytes are fewer than all, except where the flush failed after all went out.
  abbrev pub CopyEnds : Outcome → Type 0
  CopyEnds Done =
      ((count : ℕ) × AllCopied count) × ReadWell × (failures_of new ≡ failures_of old)
      × (is_flushed new ≡ true)
  CopyEnds (Refused None refusal) =
      CopyStopped (faults.Refused refusal) × ReadWell × FlushedAtLast
  CopyEnds Read =
      CopyStopped faults.Read × HasFailed reader left × FlushedAtLast
  CopyEnds (Write count) =
      (CopyStopped (faults.Write count) ⊎ AllCopied count) × ReadWell × HasFailed old new
  CopyEnds _ = ⊥
