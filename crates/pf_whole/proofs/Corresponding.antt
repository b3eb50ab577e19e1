-- Two texts are alike if and only if their stretches correspond.
use Rattle.std.proofs.Common.{◌≡◌}
use Rattle.pf_values.specs.declared.models.Model.{Model}
use Rattle.pf_values.specs.meaning.Text.{Text}
use Rattle.pf_posix.specs.Stretches.{Stretches, Last, Before, ReadsStretches}
use Rattle.pf_posix.proofs.ReadOnce.{read_once}
use Rattle.pf_whole.specs.Laws.{AlikeCallTheSame, AlikeIsCorresponding, Correspond}
use Rattle.pf_whole.specs.meaning.Traces.{AreWholeAlike, TraceAlike}
use Rattle.pf_whole.proofs.Apart.{firsts_alike, one_spelling, rests_alike, spelling_types}
use Rattle.pf_whole.proofs.Completeness.{no_call}
use Rattle.pf_whole.proofs.ProfileTexts.{alike_last, last_alike}
use Rattle.pf_whole.proofs.TraceLemmas.{before_alike, trace_sym}

pub corresponding : (model : Model) (t u : Text) (a b : Stretches) → ReadsStretches t a → ReadsStretches u b → TraceAlike model a b → Correspond model a b
corresponding model t u (Last items) (Last own) h g alike = alike_last model items own alike
corresponding model t u (Last items) (Before own p more) h g alike = no_call model items own p more alike
corresponding model t u (Before items s rest) (Last own) h g alike = no_call model own items s rest (trace_sym model (Before items s rest) (Last own) alike)
corresponding model t u (Before items s rest) (Before own p more) h g alike = (
  firsts_alike model h.1 g.1 items own s p rest more h.4 g.4 alike,
  one_spelling model h.1 g.1 items own s p rest more h.4 g.4 alike,
  corresponding model h.2 g.2 rest more h.5 g.5 (rests_alike model h.1 g.1 items own s p rest more h.4 g.4 alike),
)

alike_if : (model : Model) (t u : Text) (a b : Stretches) → ReadsStretches t a → ReadsStretches u b → Correspond model a b → TraceAlike model a b
alike_if model t u (Last items) (Last own) h g same = last_alike model items own same
alike_if model t u (Last items) (Before own p more) h g same = absurd same
alike_if model t u (Before items s rest) (Last own) h g same = absurd same
alike_if model t u (Before items s rest) (Before own p more) h g same =
    before_alike model items own s p rest more same.0 same.1 (spelling_types model h.1 g.1 s p h.4 g.4 same.1) (alike_if model h.2 g.2 rest more h.5 g.5 same.2)

traces_of : (model : Model) (t u : Text) (a b : Stretches) → ReadsStretches t a → ReadsStretches u b → AreWholeAlike model t u → TraceAlike model a b
traces_of model t u a b h g alike =
    let x : alike.first ≡ a = read_once t alike.first a alike.reads_first h in
    let y : alike.second ≡ b = read_once u alike.second b alike.reads_second g in
    rw (x, y) at alike.alike

pub alike_is_corresponding : (model : Model) → AlikeIsCorresponding model
alike_is_corresponding model t u a b h g = (
  λ alike. corresponding model t u a b h g (traces_of model t u a b h g alike),
  λ same. record { first = a; second = b; reads_first = h; reads_second = g; alike = alike_if model t u a b h g same },
)

pub alike_call_the_same : (model : Model) → AlikeCallTheSame model
alike_call_the_same model t u a b h g alike = (traces_of model t u a b h g alike).same_calls
