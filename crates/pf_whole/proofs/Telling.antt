-- Arguments for which one stretch prints other bytes tell the traces of whole texts apart.
use Rattle.std.proofs.Common.{◌≡◌, ◌≢◌, ℕ, ◌+◌, List, [], ◌∷◌, ◌++◌, map, length, refl, sym, ap, ap₂, ◌∙◌, subst, inl, inr}
use Rattle.std.specs.Prelude.{Option, Some}
use Rattle.std.specs.List.{AllZip}
use Rattle.std.proofs.lemmas.List.{append_assoc}
use Rattle.pf_values.specs.declared.models.Model.{Model}
use Rattle.pf_values.specs.meaning.Arguments.{Argument, HasTypes}
use Rattle.pf_values.specs.meaning.Items.{Item, types}
use Rattle.pf_values.specs.meaning.Printing.{PrintsAll}
use Rattle.pf_values.specs.meaning.Text.{Text}
use Rattle.pf_values.proofs.Alike.{all_printed, PrintsAll-unique}
use Rattle.pf_posix.specs.Types.{widened}
use Rattle.pf_posix.specs.Stretches.{Stretches, Last, Before, ReadsStretches, types_of_opaque, whole_types}
use Rattle.pf_whole.specs.Answers.{Agrees, CallsGiveShape, HaveOneShape, TellSomewhere, TellStretches, TellingIsApart}
use Rattle.pf_whole.specs.meaning.Traces.{Ends, Calls, HasTrace, PrintsKnown, Trace, placed_calls}
use Rattle.pf_whole.specs.meaning.WholeArguments.{WholeArgument, Known, Other, HasWholeType, HasWholeTypes}
use Rattle.pf_whole.proofs.Apart.{first_calls, same_parts, spelling_types}
use Rattle.pf_whole.proofs.KnownArguments.{known_once, widened_once}
use Rattle.pf_whole.proofs.TraceLemmas.{known_count, length_map}
use Rattle.pf_whole.proofs.ZipLemmas.{zip_parts}

shape : (model : Model) (index : ℕ) (t u : Text) (a b : Stretches) → ReadsStretches t a → ReadsStretches u b → whole_types model a ≡ whole_types model b
    → placed_calls model index a ≡ placed_calls model index b → HaveOneShape model a b
shape model index t u (Last items) (Last own) h g e c = widened_once (types model items) (types model own) e
shape model index t u (Last items) (Before own p more) h g e c = cc
shape model index t u (Before items s rest) (Last own) h g e c = cc
shape model index t u (Before items s rest) (Before own p more) h g e c =
    let calls = first_calls model index items own s p rest more c in
    let mine = spelling_types model h.1 g.1 s p h.4 g.4 calls.spelling in
    let many : length (map widened (types model items)) ≡ length (map widened (types model own)) =
    length_map widened (types model items) ∙ calls.many ∙ sym (length_map widened (types model own)) in
    let outer = same_parts (map widened (types model items)) (types_of_opaque model s ++ whole_types model rest) (map widened (types model own))
    (types_of_opaque model p ++ whole_types model more) many e in
    let inner = same_parts (types_of_opaque model s) (whole_types model rest) (types_of_opaque model p) (whole_types model more) (ap length mine) outer.1 in
    let next : index + length (types model items) + length (types_of_opaque model s)
    ≡ index + length (types model own) + length (types_of_opaque model p) = ap₂ (λ m n. index + m + n) calls.many (ap length mine) in (
      widened_once (types model items) (types model own) outer.0,
      calls.spelling,
      shape model (index + length (types model items) + length (types_of_opaque model s)) h.2 g.2 rest more h.5 g.5 inner.1
          (calls.later ∙ ap (λ k. placed_calls model k more) (sym next)),
    )

pub calls_give_shape : (model : Model) → CallsGiveShape model
calls_give_shape model t u a b h g e c = shape model 0 t u a b h g e c

-- arguments that agree with known ones are the known ones
pub agreed : (known : List Argument) (args : List WholeArgument) → AllZip Agrees (map Some known) args → args ≡ map Known known
agreed [] [] h = refl
agreed [] (x ∷ args) h = absurd h
agreed (k ∷ known) [] h = absurd h
agreed (k ∷ known) (Known x ∷ args) h = ap₂ (λ y l. Known y ∷ l) h.0 (agreed known args h.1)
agreed (k ∷ known) (Other x ∷ args) h = absurd h.0

-- what is printed for known arguments
pub printed_for : (model : Model) (items : List Item) (known : List Argument) (args : List WholeArgument) (text : Text) → args ≡ map Known known
    → HasTypes model known (types model items) → PrintsKnown model items args text → text ≡ all_printed model items known
printed_for model items known args text e typed h =
    let same : h.0 ≡ known = known_once h.0 known (sym h.1 ∙ e) in
    PrintsAll-unique model items known text typed (subst (λ l. PrintsAll model items l text) same h.2)

stretch_apart : (model : Model) (a b : List Item) (shown : List (Option Argument)) (args : List WholeArgument) (x y : Text) → types model a ≡ types model b
    → TellStretches model a b shown → AllZip Agrees shown args → PrintsKnown model a args x → PrintsKnown model b args y → x ≢ y
stretch_apart model a b shown args x y e h agree p q same =
    let is : args ≡ map Known h.known = agreed h.known args (subst (λ l. AllZip Agrees l args) h.shown_is agree) in
    let also : HasTypes model h.known (types model b) = rw (← e) h.typed in
    let first : h.unlike.0 ≡ x = PrintsAll-unique model a h.known h.unlike.0 h.typed h.unlike.2 ∙ sym (printed_for model a h.known args x is h.typed p) in
    let second : h.unlike.1 ≡ y = PrintsAll-unique model b h.known h.unlike.1 also h.unlike.3 ∙ sym (printed_for model b h.known args y is also q) in
    h.unlike.4 (first ∙ same ∙ sym second)

apart : (model : Model) (t u : Text) (a b : Stretches) (shown : List (Option Argument)) → ReadsStretches t a → ReadsStretches u b → HaveOneShape model a b
    → TellSomewhere model a b shown → (args : List WholeArgument) (x y : Trace) → HasWholeTypes model args (whole_types model a) → AllZip Agrees shown args
    → HasTrace model a args x → HasTrace model b args y → x ≢ y
apart model t u (Last a) (Last b) shown h g one tell args (Ends x) (Ends y) typed agree p q e = stretch_apart model a b shown args x y one tell agree p q (cc)
apart model t u (Last a) (Last b) shown h g one tell args (Ends x) (Calls y d z) typed agree p q e = q
apart model t u (Last a) (Last b) shown h g one tell args (Calls x c w) y typed agree p q e = p
apart model t u (Last a) (Before b k more) shown h g one tell args x y typed agree p q e = one
apart model t u (Before a s rest) (Last b) shown h g one tell args x y typed agree p q e = one
apart model t u (Before a s rest) (Before b k more) shown h g one tell args (Ends x) y typed agree p q e = p
apart model t u (Before a s rest) (Before b k more) shown h g one tell args (Calls x c w) (Ends y) typed agree p q e = q
apart model t u (Before a s rest) (Before b k more) shown h g one tell args (Calls x c w) (Calls y d z) typed agree p q e =
    let text : x ≡ y = cc in
    let trace : w ≡ z = cc in
    let here = p.3 ∙ append_assoc p.0 p.1 p.2 in
    let there = q.3 ∙ append_assoc q.0 q.1 q.2 in
    let mine = spelling_types model h.1 g.1 s k h.4 g.4 one.1 in
    let front = known_count model a p.0 x p.4 in
    let front_too : length p.0 ≡ length q.0 = front ∙ ap (λ ts. length (map widened ts)) one.0 ∙ sym (known_count model b q.0 y q.4) in
    let split = same_parts p.0 (p.1 ++ p.2) q.0 (q.1 ++ q.2) front_too (sym here ∙ there) in
    let behind = same_parts p.1 p.2 q.1 q.2 (p.5.as_many ∙ ap length mine ∙ sym q.5.as_many) split.1 in
    let types_here = zip_parts (HasWholeType model) p.0 (p.1 ++ p.2) (map widened (types model a)) (types_of_opaque model s ++ whole_types model rest) front
    (rw here at typed) in
    let types_behind = zip_parts (HasWholeType model) p.1 p.2 (types_of_opaque model s) (whole_types model rest) p.5.as_many types_here.1 in
    let agree_all : AllZip Agrees (tell.0 ++ (tell.1 ++ tell.2)) (p.0 ++ (p.1 ++ p.2)) = subst (λ l. AllZip Agrees l (p.0 ++ (p.1 ++ p.2))) tell.3
    (subst (λ l. AllZip Agrees shown l) here agree) in
    let agree_here = zip_parts Agrees tell.0 (tell.1 ++ tell.2) p.0 (p.1 ++ p.2) (tell.4 ∙ sym (length_map widened (types model a)) ∙ sym front) agree_all in
    let agree_behind = zip_parts Agrees tell.1 tell.2 p.1 p.2 (tell.5 ∙ sym p.5.as_many) agree_here.1 in
    let later : TellSomewhere model rest more tell.2
    → ⊥ = λ somewhere. apart model h.2 g.2 rest more tell.2 h.5 g.5 one.2 somewhere p.2 w z types_behind.1 agree_behind.1 p.6
    (subst (λ l. HasTrace model more l z) (sym behind.1) q.6) trace in
    elim tell.6 [
      | inl first ↦ stretch_apart model a b tell.0 p.0 x y one.0 first agree_here.0 p.4 (subst (λ l. PrintsKnown model b l y) (sym split.0) q.4) text
      | inr somewhere ↦ later somewhere
    ]

pub telling_is_apart : (model : Model) → TellingIsApart model
telling_is_apart model t u a b shown h g one tell = apart model t u a b shown h g one tell
