-- What a copy that met a refusal has left, where the writer was flushed after it.
use Rattle.std.proofs.Common.{◌≡◌, ◌∙◌, ℕ, Bool, Err, ap, inl, inr, subst}
use Rattle.std.specs.Io.KnownBytes.{Keeps}
use Rattle.std.proofs.KnownBytes.{Appends-kept}
use Rattle.pf_values.specs.declared.counted.Counted.{Counted}
use Rattle.pf_values.specs.declared.models.Model.{Model}
use Rattle.pf_values.specs.Counting.{Known, failures_after, failures_of}
use Rattle.pf_values.specs.meaning.Text.{Text}
use Rattle.pf_text.specs.declared.refusals.Refusal.{Refusal}
use Rattle.pf_canon.specs.Copy.{CopyStops, ReadCounts, SettledOut, WriteCounts}
use Rattle.pf_canon.specs.declared.faults.CopyFault.{CopyFault}
use Rattle.pf_canon.specs.declared.faults.CopyFault.TheVariants as faults

settled_kept : (model : Model) (front : Text) (w x y : Known) → Keeps x y → SettledOut model front w x → SettledOut model front w y
settled_kept model front w x y kept h = record { given = h.given; settles = h.settles; writer = Appends-kept w x y h.given h.writer kept }

refused_kept : (model : Model) (start left w x y : Known) (refusal : Refusal) → Keeps x y → CopyStops model start left w x (faults.Refused refusal)
    → CopyStops model start left w y (faults.Refused refusal)
refused_kept model start left w x y refusal kept (inl h) =
    let ends = h.1 in
    inl (
      h.0,
      record {
        reader = ends.reader;
        end = ends.end;
        offset = ends.offset;
        kind = ends.kind;
        refused = ends.refused;
        out = settled_kept model h.0 w x y kept ends.out;
      },
    )
refused_kept model start left w x y refusal kept (inr h) =
    let stops = h.3.stops in
    inr (
      h.0,
      h.1,
      h.2,
      record {
        reader = h.3.reader;
        few = h.3.few;
        stops = record { offset = stops.offset; kind = stops.kind; refused = stops.refused; out = settled_kept model h.0 w x y kept stops.out };
      },
    )

pub stop_kept : (model : Model) (start left w x y : Known) (fault : CopyFault) (refusal : Refusal) → fault ≡ faults.Refused refusal → Keeps x y
    → CopyStops model start left w x fault → CopyStops model start left w y (faults.Refused refusal)
stop_kept model start left w x y fault refusal e kept h = refused_kept model start left w x y refusal kept (subst (λ f. CopyStops model start left w x f) e h)

pub read_well : {R : Type 0} (old new : Counted R) (fault : CopyFault) (refusal : Refusal) → fault ≡ faults.Refused refusal
    → ReadCounts {E = ℕ} old new (Err fault) → failures_of new ≡ failures_of old
read_well old new fault refusal e h = subst (λ f. ReadCounts {E = ℕ} old new (Err f)) e h

-- the flush after a refusal is the one call of the writer that may have failed
pub one_flush : {W : Type 0} (old mid new : Counted W) (fault : CopyFault) (refusal : Refusal) (failed : Bool) → fault ≡ faults.Refused refusal
    → WriteCounts {E = ℕ} old mid (Err fault) → failures_of new ≡ failures_after (failures_of mid) failed
    → (b : Bool) × (failures_of new ≡ failures_after (failures_of old) b)
one_flush old mid new fault refusal failed e h flush = (
  failed,
  flush
      ∙ ap (λ n. failures_after n failed) (subst (λ f. WriteCounts {E = ℕ} old mid (Err f)) e h),
)
