-- Each list of stretches has exactly one trace for arguments of its types.
use Rattle.std.proofs.Common.{◌≡◌, List, ◌++◌, map, sym, ap, ap₂, ◌∙◌, subst}
use Rattle.std.proofs.lemmas.List.{append_assoc}
use Rattle.pf_values.specs.declared.models.Model.{Model}
use Rattle.pf_values.specs.meaning.Arguments.{HasTypes}
use Rattle.pf_values.specs.meaning.Items.{Item, types}
use Rattle.pf_values.specs.meaning.Text.{Text}
use Rattle.pf_values.proofs.Alike.{PrintsAll-unique}
use Rattle.pf_posix.specs.Opaque.{OpaqueItem}
use Rattle.pf_posix.specs.Types.{widened}
use Rattle.pf_posix.specs.Stretches.{Stretches, Last, Before, types_of_opaque, whole_types}
use Rattle.pf_whole.specs.Laws.{TracesOnce}
use Rattle.pf_whole.specs.meaning.Traces.{Call, Calls, Ends, HasTrace, IsCallOf, PrintsKnown, Trace}
use Rattle.pf_whole.specs.meaning.WholeArguments.{WholeArgument, Known, HasWholeType, HasWholeTypes}
use Rattle.pf_whole.proofs.Apart.{same_parts}
use Rattle.pf_whole.proofs.KnownArguments.{known_once, typed_known}
use Rattle.pf_whole.proofs.SomeTrace.{some_trace}
use Rattle.pf_whole.proofs.TraceLemmas.{known_count}
use Rattle.pf_whole.proofs.ZipLemmas.{zip_parts}

known_text : (model : Model) (items : List Item) (args : List WholeArgument) (x y : Text) → HasWholeTypes model args (map widened (types model items))
    → PrintsKnown model items args x → PrintsKnown model items args y → x ≡ y
known_text model items args x y typed h g =
    let same : g.0 ≡ h.0 = known_once g.0 h.0 (sym g.1 ∙ h.1) in
    let own : HasWholeTypes model (map Known h.0) (map widened (types model items)) = rw h.1 at typed in
    let fits : HasTypes model h.0 (types model items) = typed_known model h.0 (types model items) own in
    PrintsAll-unique model items h.0 x fits h.2 ∙ sym (PrintsAll-unique model items h.0 y fits (rw same at g.2))

same_call : (model : Model) (s : OpaqueItem) (args own : List WholeArgument) (c d : Call) → args ≡ own → IsCallOf model s args c
    → IsCallOf model s own d
    → c ≡ d
same_call model s args own c d e h g =
    ap₂ (λ spelling args. record { spelling = spelling; args = args }) (h.spelling ∙ sym g.spelling) (h.args_are ∙ e ∙ sym g.args_are)

one_trace : (model : Model) (a : Stretches) (args : List WholeArgument) (x y : Trace) → HasWholeTypes model args (whole_types model a) → HasTrace model a args x
    → HasTrace model a args y → x ≡ y
one_trace model (Last items) args (Ends x) (Ends y) typed p q = ap Ends (known_text model items args x y typed p q)
one_trace model (Last items) args (Ends x) (Calls y d z) typed p q = absurd q
one_trace model (Last items) args (Calls x c w) y typed p q = absurd p
one_trace model (Before items s rest) args (Ends x) y typed p q = absurd p
one_trace model (Before items s rest) args (Calls x c w) (Ends y) typed p q = absurd q
one_trace model (Before items s rest) args (Calls x c w) (Calls y d z) typed p q =
    let here = p.3 ∙ append_assoc p.0 p.1 p.2 in
    let there = q.3 ∙ append_assoc q.0 q.1 q.2 in
    let front = known_count model items p.0 x p.4 in
    let split = same_parts p.0 (p.1 ++ p.2) q.0 (q.1 ++ q.2) (front ∙ sym (known_count model items q.0 y q.4)) (sym here ∙ there) in
    let back = same_parts p.1 p.2 q.1 q.2 (p.5.as_many ∙ sym q.5.as_many) split.1 in
    let types_here = zip_parts (HasWholeType model) p.0 (p.1 ++ p.2) (map widened (types model items)) (types_of_opaque model s ++ whole_types model rest) front
    (rw here at typed) in
    let types_back = zip_parts (HasWholeType model) p.1 p.2 (types_of_opaque model s) (whole_types model rest) p.5.as_many types_here.1 in
    let text : x ≡ y = known_text model items p.0 x y types_here.0 p.4 (subst (λ l. PrintsKnown model items l y) (sym split.0) q.4) in
    let call : c ≡ d = same_call model s p.1 q.1 c d back.0 p.5 q.5 in
    let trace : w ≡ z = one_trace model rest p.2 w z types_back.1 p.6 (subst (λ l. HasTrace model rest l z) (sym back.1) q.6) in
    ap₂ (λ text call. Calls text call w) text call ∙ ap (Calls y d) trace

pub traces_once : (model : Model) → TracesOnce model
traces_once model a args typed =
    let some = some_trace model a args typed in
    record { trace = some.0; has = some.1; only = λ other h. one_trace model a args other some.0 typed h some.1 }
