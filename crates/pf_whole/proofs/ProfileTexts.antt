-- Texts of the profile, as texts of the whole language.
use Rattle.std.proofs.Common.{◌≡◌, List, map, refl, sym, ap}
use Rattle.std.specs.Prelude.{◌↔◌}
use Rattle.pf_values.specs.declared.models.Model.{Model}
use Rattle.pf_values.specs.meaning.Items.{Item, types}
use Rattle.pf_values.specs.meaning.Printing.{PrintAlike}
use Rattle.pf_values.specs.meaning.Text.{Text}
use Rattle.pf_text.proofs.Texts.{Reads-unique}
use Rattle.pf_posix.specs.Types.{widened}
use Rattle.pf_posix.specs.Stretches.{Last}
use Rattle.pf_posix.proofs.ReadOnce.{read_once}
use Rattle.pf_whole.specs.Laws.{HaveSameTraces, ProfileCoincides}
use Rattle.pf_whole.specs.meaning.Traces.{Ends, Calls, HasTrace, PrintsKnown, Trace, TraceAlike}
use Rattle.pf_whole.specs.meaning.WholeArguments.{WholeArgument, Known, HasWholeTypes}
use Rattle.pf_whole.specs.meaning.WholeCanonical.{IsPutTogether}
use Rattle.pf_whole.proofs.KnownArguments.{known_once, known_typed, typed_known, widened_once}

-- items that print alike print alike for known arguments
pub known_alike : (model : Model) (a b : List Item) (args : List WholeArgument) (out : Text) → PrintAlike model a b
    → HasWholeTypes model args (map widened (types model a)) → PrintsKnown model a args out → PrintsKnown model b args out
known_alike model a b args out h typed g =
    let same = g.1 in
    let own : HasWholeTypes model (map Known g.0) (map widened (types model a)) = rw same at typed in
    (g.0, g.1, (h.same_bytes g.0 out (typed_known model g.0 (types model a) own)).0 g.2)

pub turned : (model : Model) (a b : List Item) → PrintAlike model a b → PrintAlike model b a
turned model a b h = record {
  same_types = sym h.same_types;
  same_bytes = λ args out typed. let both = h.same_bytes args out (rw h.same_types typed) in (both.1, both.0);
}

pub last_alike : (model : Model) (a b : List Item) → PrintAlike model a b → TraceAlike model (Last a) (Last b)
last_alike model a b h = record { same_types = ap (map widened) h.same_types; same_calls = refl; same_traces = go } where
  go : (args : List WholeArgument) (trace : Trace) → HasWholeTypes model args (map widened (types model a))
      → (HasTrace model (Last a) args trace ↔ HasTrace model (Last b) args trace)
  go args (Ends text) typed = (
    λ g. known_alike model a b args text h typed g,
    λ g. known_alike model b a args text (turned model a b h) (rw (← h.same_types) typed) g,
  )
  go args (Calls text call rest) typed = (λ g. g, λ g. g)

pub traced_last : (model : Model) (a b : List Item) → HaveSameTraces model (Last a) (Last b) → PrintAlike model a b
traced_last model a b h = record {
  same_types = widened_once (types model a) (types model b) h.same_types;
  same_bytes = λ args out typed.
      let both = h.same_traces (map Known args) (Ends out) (known_typed model args (types model a) typed) in (
        λ g. let k = both.0 (args, refl, g) in let same = known_once args k.0 k.1 in rw same k.2,
        λ g. let k = both.1 (args, refl, g) in let same = known_once args k.0 k.1 in rw same k.2,
      );
}

pub alike_last : (model : Model) (a b : List Item) → TraceAlike model (Last a) (Last b) → PrintAlike model a b
alike_last model a b h = traced_last model a b (record { same_types = h.same_types; same_traces = h.same_traces })

pub profile_coincides : (model : Model) → ProfileCoincides model
profile_coincides model t u first second =
    let a = first.0 in
    let b = second.0 in
    record {
      alike = (
        λ h.
            let x : h.first ≡ Last a = read_once t h.first (Last a) h.reads_first first.1.reads in
            let y : h.second ≡ Last b = read_once u h.second (Last b) h.reads_second second.1.reads in
            record { first = a; second = b; reads_first = first.1.reads; reads_second = second.1.reads; alike = alike_last model a b (rw (x, y) at h.alike) },
        λ h. record {
          first = Last h.first;
          second = Last h.second;
          reads_first = h.reads_first;
          reads_second = h.reads_second;
          alike = last_alike model h.first
              h.second h.alike;
        },
      );
      canonical = λ c. (
        λ h.
            let x : h.stretches ≡ Last a = read_once t h.stretches (Last a) h.reads first.1.reads in
            let whole : IsPutTogether model (Last a) c = rw x at h.together in
            record {
              canonical = (whole.own, whole.canonical);
              equivalent = record { first = a; second = whole.own; reads_first = first.1.reads; reads_second = whole.canonical.reads; alike = whole.alike };
            },
        λ h.
            let same : h.canonical.0 ≡ h.equivalent.second = Reads-unique c h.canonical.0 h.equivalent.second h.canonical.1.reads h.equivalent.reads_second in
            record {
              stretches = Last h.equivalent.first;
              reads = h.equivalent.reads_first;
              together = record { own = h.canonical.0; canonical = h.canonical.1; alike = rw same h.equivalent.alike };
            },
      );
    }
