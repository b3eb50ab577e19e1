-- That what is put adds up, in a counted writer and in memory.
use Rattle.std.proofs.Common.{◌++◌, length, drop, refl, sym, ap, ◌∙◌, arith}
use Rattle.std.proofs.KnownBytes.{Appends-nil, Appends-trans}
use Rattle.std.proofs.lemmas.List.{append-nil, append_assoc, drop-drop, length-append, length-drop}
use Rattle.pf_values.specs.declared.counted.Counted.{Counted}
use Rattle.pf_values.specs.Counting.{Known, WritesAll, WritesFirst, device_of}
use Rattle.pf_values.specs.meaning.Text.{Text}
use Rattle.pf_values.proofs.WriteLemmas.{WritesFirst-more}
use Rattle.pf_render.specs.declared.filling.Filling.{Filling}
use Rattle.pf_render.specs.Buffers.{HasNoRoom, HasFilled, IsMeasured, IsTooLong, filled_of, unfilled_of}
use Rattle.pf_render.specs.Gathering.{IsKept, IsKeptInPart, gathered_bytes}
use Rattle.pf_render.specs.Outputs.{IsOutput}

-- one text went out, and then another one
writes_joined : {W : Type 0} (contents : W → Known) (old mid new : Counted W) (first second : Text)
    → WritesAll contents old mid first → WritesAll contents mid new second
    → WritesAll contents old new (first ++ second)
writes_joined contents old mid new first second h g =
    record {
      appended = Appends-trans _ (contents (device_of mid)) _ first second h.appended g.appended;
      none_failed = g.none_failed ∙ h.none_failed;
    }

-- a counted writer
pub counted_writes : {W : Type 0} (contents : W → Known)
    → IsOutput (WritesAll contents) (WritesFirst contents)
counted_writes contents = record {
  nothing = λ o. record { appended = Appends-nil (contents (device_of o)); none_failed = refl };
  joined = writes_joined contents;
  stopped_later = λ old mid new before next rest written h less g.
      WritesFirst-more contents old mid new before next rest written h g;
}

-- the text that is gathered in memory
pub keeps : IsOutput IsKept IsKeptInPart
keeps = record {
  nothing = λ o. sym (append-nil (gathered_bytes o));
  joined = λ old mid new first second h g.
      g ∙ ap (λ t. t ++ second) h ∙ append_assoc (gathered_bytes old) first second;
  stopped_later = λ old mid new before next rest written h less g. tt;
}

-- the length of a text
pub measures : IsOutput IsMeasured IsTooLong
measures = record {
  nothing = λ o. omega arith;
  joined = λ old mid new first second h g. omega (arith, h, g, length-append first second);
  stopped_later = λ old mid new before next rest written h less g.
      omega (arith, h, g, length-append before (next ++ rest), length-append next rest);
}

-- the front of a buffer
fills_joined : (old mid new : Filling) (first second : Text) → HasFilled old mid first
    → HasFilled mid new second → HasFilled old new (first ++ second)
fills_joined old mid new first second h g =
    record {
      filled = g.filled ∙ ap (λ t. t ++ second) h.filled
          ∙ append_assoc (filled_of old) first second;
      unfilled = g.unfilled ∙ ap (drop (length second)) h.unfilled
          ∙ drop-drop (length second) (length first) (unfilled_of old)
          ∙ ap (λ n. drop n (unfilled_of old)) (sym (length-append first second));
      same = g.same ∙ h.same;
    }

pub fills : IsOutput HasFilled HasNoRoom
fills = record {
  nothing = λ o. record { filled = sym (append-nil (filled_of o)); unfilled = refl; same = refl };
  joined = fills_joined;
  stopped_later = λ old mid new before next rest written h less g.
      omega (
        arith,
        ap length h.unfilled,
        length-drop (length before) (unfilled_of old),
        g,
        length-append before (next ++ rest),
        length-append next rest,
      );
}
