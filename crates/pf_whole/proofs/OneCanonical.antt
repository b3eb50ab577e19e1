-- A canonical text of a text is alike to it, and is its own canonical text.
use Rattle.std.proofs.Common.{◌≡◌, List, ◌++◌, refl, sym, ap, ◌∙◌}
use Rattle.pf_values.specs.declared.models.Model.{Model}
use Rattle.pf_values.specs.meaning.Items.{Item}
use Rattle.pf_values.specs.meaning.Printing.{PrintAlike}
use Rattle.pf_values.specs.meaning.Text.{Text}
use Rattle.pf_posix.specs.Stretches.{Stretches, Last, Before, ReadsStretches}
use Rattle.pf_posix.proofs.ReadOnce.{read_once}
use Rattle.pf_whole.specs.Laws.{OneCanonicalIsAlike}
use Rattle.pf_whole.specs.meaning.NormalSpellings.{normal_spelling}
use Rattle.pf_whole.specs.meaning.Traces.{AreWholeAlike, TraceAlike}
use Rattle.pf_whole.specs.meaning.WholeCanonical.{IsPutTogether, IsWholeCanonicalOf}
use Rattle.pf_whole.proofs.NormalLemmas.{item_types_again, normal_item, spelling_again}
use Rattle.pf_whole.proofs.ProfileTexts.{last_alike}
use Rattle.pf_whole.proofs.SpelledNormally.{item_normally}
use Rattle.pf_whole.proofs.TraceLemmas.{before_alike, trace_sym, trace_trans}

-- the stretches that a canonical text is read as
pub record IsReadBack (model : Model) (a : Stretches) (c : Text) : Type 0 where
  pub own : Stretches
  pub reads : ReadsStretches c own
  pub alike : TraceAlike model a own
  pub together : IsPutTogether model own c

pub print_refl : (model : Model) (items : List Item) → PrintAlike model items items
print_refl model items = record { same_types = refl; same_bytes = λ args out typed. (λ g. g, λ g. g) }

pub read_back : (model : Model) (t c : Text) (a : Stretches) → ReadsStretches t a → IsPutTogether model a c → IsReadBack model a c
read_back model t c (Last items) reads h = record {
  own = Last h.own;
  reads = h.canonical.reads;
  alike = last_alike model items h.own h.alike;
  together = record { own = h.own; canonical = h.canonical; alike = print_refl model h.own };
}
read_back model t c (Before items s rest) reads h =
    let back = read_back model reads.2 h.1 rest reads.5 h.3 in
    let spelling = spelling_again model s in
    record {
      own = Before h.2.own (normal_item model s) back.own;
      reads = (h.0, normal_spelling model s, h.1, h.2.canonical.reads, item_normally model reads.1 s reads.4, back.reads, h.4);
      alike = before_alike model items h.2.own s (normal_item model s) rest back.own h.2.alike spelling (sym (item_types_again model s)) back.alike;
      together = (
        h.0,
        h.1,
        record { own = h.2.own; canonical = h.2.canonical; alike = print_refl model h.2.own },
        back.together,
        h.4
            ∙ ap (λ u. (h.0 ++ u) ++ h.1) spelling,
      );
    }

pub one_canonical_is_alike : (model : Model) → OneCanonicalIsAlike model
one_canonical_is_alike model t u c h g =
    let first = read_back model t c h.stretches h.reads h.together in
    let second = read_back model u c g.stretches g.reads g.together in
    let same : second.own ≡ first.own = read_once c second.own first.own second.reads first.reads in
    let back : TraceAlike model g.stretches first.own = rw same at second.alike in
    record {
      first = h.stretches;
      second = g.stretches;
      reads_first = h.reads;
      reads_second = g.reads;
      alike = trace_trans model h.stretches first.own g.stretches first.alike (trace_sym model g.stretches first.own back);
    }

pub alike_to_it : (model : Model) (t c : Text) → IsWholeCanonicalOf model t c → AreWholeAlike model t c
alike_to_it model t c h =
    let back = read_back model t c h.stretches h.reads h.together in
    record { first = h.stretches; second = back.own; reads_first = h.reads; reads_second = back.reads; alike = back.alike }

pub its_own : (model : Model) (t c : Text) → IsWholeCanonicalOf model t c → IsWholeCanonicalOf model c c
its_own model t c h =
    let back = read_back model t c h.stretches h.reads h.together in
    record { stretches = back.own; reads = back.reads; together = back.together }
