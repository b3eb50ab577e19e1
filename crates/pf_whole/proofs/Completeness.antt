-- Canonical texts of alike texts are equal.
use Rattle.std.proofs.Common.{◌≡◌, List, ◌++◌, sym, ap₂, ◌∙◌}
use Rattle.pf_values.specs.declared.models.Model.{Model}
use Rattle.pf_values.specs.meaning.Canonical.{IsCanonicalOf}
use Rattle.pf_values.specs.meaning.Items.{Item, Reads}
use Rattle.pf_values.specs.meaning.Printing.{PrintAlike}
use Rattle.pf_values.specs.meaning.Text.{Text}
use Rattle.pf_probes.proofs.Unique.{equivalent_formats_one}
use Rattle.pf_posix.specs.Opaque.{OpaqueItem}
use Rattle.pf_posix.specs.Stretches.{Stretches, Last, Before, ReadsStretches}
use Rattle.pf_posix.proofs.ReadOnce.{read_once}
use Rattle.pf_whole.specs.Laws.{AlikeHaveOneCanonical}
use Rattle.pf_whole.specs.meaning.Traces.{TraceAlike}
use Rattle.pf_whole.specs.meaning.WholeCanonical.{IsCanonicalStretch, IsPutTogether}
use Rattle.pf_whole.proofs.Apart.{firsts_alike, one_spelling, rests_alike}
use Rattle.pf_whole.proofs.ProfileTexts.{alike_last}
use Rattle.pf_whole.proofs.TraceLemmas.{trace_sym}

-- a canonical stretch is the canonical text of each text that is read as its items
canonical_of : (model : Model) (t c : Text) (items : List Item) → Reads t items → IsCanonicalStretch model items c → IsCanonicalOf model t c
canonical_of model t c items reads h = record {
  canonical = (h.own, h.canonical);
  equivalent = record { first = items; second = h.own; reads_first = reads; reads_second = h.canonical.reads; alike = h.alike };
}

one_stretch : (model : Model) (t u c d : Text) (a b : List Item) → Reads t a → Reads u b → PrintAlike model a b → IsCanonicalStretch model a c
    → IsCanonicalStretch model b d → c ≡ d
one_stretch model t u c d a b h g alike x y =
    equivalent_formats_one model t u c d
    (record { first = a; second = b; reads_first = h; reads_second = g; alike = alike })
    (canonical_of model t c a h x) (canonical_of model u d b g y)

-- of alike lists of stretches, both make a call or neither does
pub no_call : (model : Model) (items own : List Item) (p : OpaqueItem) (more : Stretches) → TraceAlike model (Last items) (Before own p more) → ⊥
no_call model items own p more h = let none = h.same_calls in cc

complete : (model : Model) (t u c d : Text) (a b : Stretches) → ReadsStretches t a → ReadsStretches u b → TraceAlike model a b → IsPutTogether model a c
    → IsPutTogether model b d → c ≡ d
complete model t u c d (Last items) (Last own) h g alike x y = one_stretch model t u c d items own h g (alike_last model items own alike) x y
complete model t u c d (Last items) (Before own p more) h g alike x y = absurd (no_call model items own p more alike)
complete model t u c d (Before items s rest) (Last own) h g alike x y = absurd
    (no_call model own items s rest (trace_sym model (Before items s rest) (Last own) alike))
complete model t u c d (Before items s rest) (Before own p more) h g alike x y =
    let first = one_stretch model h.0 g.0 x.0 y.0 items own h.3 g.3 (firsts_alike model h.1 g.1 items own s p rest more h.4 g.4 alike) x.2 y.2 in
    let spelling = one_spelling model h.1 g.1 items own s p rest more h.4 g.4 alike in
    let back = complete model h.2 g.2 x.1 y.1 rest more h.5 g.5 (rests_alike model h.1 g.1 items own s p rest more h.4 g.4 alike) x.3 y.3 in
    x.4 ∙ ap₂ (λ l r. l ++ r) (ap₂ (λ l r. l ++ r) first spelling) back ∙ sym y.4

pub alike_have_one_canonical : (model : Model) → AlikeHaveOneCanonical model
alike_have_one_canonical model t u c d h x y =
    let first : x.stretches ≡ h.first = read_once t x.stretches h.first x.reads h.reads_first in
    let second : y.stretches ≡ h.second = read_once u y.stretches h.second y.reads h.reads_second in
    complete model t u c d h.first h.second h.reads_first h.reads_second h.alike (rw first at x.together) (rw second at y.together)
