-- If each stretch prints the same bytes for the arguments shown, the traces of the whole are equal.
use Rattle.std.proofs.Common.{◌≡◌, List, ◌++◌, map, length, refl, sym, ap, ◌∙◌, subst}
use Rattle.std.specs.Prelude.{Option, Some}
use Rattle.std.specs.List.{AllZip}
use Rattle.std.proofs.lemmas.List.{append_assoc}
use Rattle.std.proofs.lemmas.Slice.Zip.{AllZip-long}
use Rattle.pf_values.specs.declared.models.Model.{Model}
use Rattle.pf_values.specs.meaning.Arguments.{Argument, HasType}
use Rattle.pf_values.specs.meaning.Items.{Item, types}
use Rattle.pf_values.specs.meaning.Printing.{PrintsAll}
use Rattle.pf_values.specs.meaning.Text.{Text}
use Rattle.pf_values.proofs.Alike.{all_printed, all_printed-is}
use Rattle.pf_posix.specs.Types.{widened}
use Rattle.pf_posix.specs.Stretches.{Stretches, Last, Before, ReadsStretches, types_of_opaque, whole_types}
use Rattle.pf_whole.specs.Answers.{AgreeEverywhere, AgreeingIsTogether, Agrees, HaveOneShape, StretchesAgree}
use Rattle.pf_whole.specs.meaning.Traces.{Ends, Calls, HasTrace, PrintsKnown, Trace}
use Rattle.pf_whole.specs.meaning.WholeArguments.{WholeArgument, Known, HasWholeType, HasWholeTypes}
use Rattle.pf_whole.proofs.Apart.{spelling_types}
use Rattle.pf_whole.proofs.KnownArguments.{known_once}
use Rattle.pf_whole.proofs.Telling.{agreed}
use Rattle.pf_whole.proofs.TraceLemmas.{known_count, length_map}
use Rattle.pf_whole.proofs.ZipLemmas.{zip_parts}

stretch_goes : (model : Model) (a b : List Item) (shown : List (Option Argument)) (args : List WholeArgument) (x : Text) → types model a ≡ types model b
    → StretchesAgree model a b shown → AllZip Agrees shown args → PrintsKnown model a args x → PrintsKnown model b args x
stretch_goes model a b shown args x e h agree p =
    let is : args ≡ map Known h.known = agreed h.known args (subst (λ l. AllZip Agrees l args) h.shown_is agree) in
    let same : p.0 ≡ h.known = known_once p.0 h.known (sym p.1 ∙ is) in
    let here : PrintsAll model a h.known x = subst (λ l. PrintsAll model a l x) same p.2 in
    let there = all_printed-is model b h.known (rw (← e) h.typed) in
    (h.known, is, subst (λ t. PrintsAll model b h.known t) (sym (h.same x (all_printed model b h.known) here there)) there)

stretch_back : (model : Model) (a b : List Item) (shown : List (Option Argument)) → types model a ≡ types model b → StretchesAgree model a b shown
    → StretchesAgree model b a shown
stretch_back model a b shown e h = record { known = h.known; shown_is = h.shown_is; typed = rw (← e) h.typed; same = λ x y p q. sym (h.same y x q p) }

shape_back : (model : Model) (a b : Stretches) → HaveOneShape model a b → HaveOneShape model b a
shape_back model (Last a) (Last b) h = sym h
shape_back model (Last a) (Before b k more) h = h
shape_back model (Before a s rest) (Last b) h = h
shape_back model (Before a s rest) (Before b k more) h = (sym h.0, sym h.1, shape_back model rest more h.2)

agree_back : (model : Model) (t u : Text) (a b : Stretches) (shown : List (Option Argument)) → ReadsStretches t a → ReadsStretches u b → HaveOneShape model a b
    → AgreeEverywhere model a b shown → AgreeEverywhere model b a shown
agree_back model t u (Last a) (Last b) shown h g one all = stretch_back model a b shown one all
agree_back model t u (Last a) (Before b k more) shown h g one all = all
agree_back model t u (Before a s rest) (Last b) shown h g one all = all
agree_back model t u (Before a s rest) (Before b k more) shown h g one all = (
  all.0,
  all.1,
  all.2,
  all.3,
  all.4 ∙ ap length (spelling_types model h.1 g.1 s k h.4 g.4 one.1),
  stretch_back model a b all.0 one.0 all.5,
  agree_back model h.2 g.2 rest more all.2 h.5 g.5 one.2 all.6,
)

types_same : (model : Model) (t u : Text) (a b : Stretches) → ReadsStretches t a → ReadsStretches u b → HaveOneShape model a b
    → whole_types model a ≡ whole_types model b
types_same model t u (Last a) (Last b) h g one = ap (map widened) one
types_same model t u (Last a) (Before b k more) h g one = absurd one
types_same model t u (Before a s rest) (Last b) h g one = absurd one
types_same model t u (Before a s rest) (Before b k more) h g one =
    let mine = spelling_types model h.1 g.1 s k h.4 g.4 one.1 in
    let back = types_same model h.2 g.2 rest more h.5 g.5 one.2 in
    rw (one.0, mine, back) refl

goes : (model : Model) (t u : Text) (a b : Stretches) (shown : List (Option Argument)) → ReadsStretches t a → ReadsStretches u b → HaveOneShape model a b
    → AgreeEverywhere model a b shown → (args : List WholeArgument) (trace : Trace) → HasWholeTypes model args (whole_types model a) → AllZip Agrees shown args
    → HasTrace model a args trace → HasTrace model b args trace
goes model t u (Last a) (Last b) shown h g one all args (Ends x) typed agree p = stretch_goes model a b shown args x one all agree p
goes model t u (Last a) (Last b) shown h g one all args (Calls x c w) typed agree p = p
goes model t u (Last a) (Before b k more) shown h g one all args trace typed agree p = absurd one
goes model t u (Before a s rest) (Last b) shown h g one all args trace typed agree p = absurd one
goes model t u (Before a s rest) (Before b k more) shown h g one all args (Ends x) typed agree p = p
goes model t u (Before a s rest) (Before b k more) shown h g one all args (Calls x c w) typed agree p =
    let here = p.3 ∙ append_assoc p.0 p.1 p.2 in
    let mine = spelling_types model h.1 g.1 s k h.4 g.4 one.1 in
    let front = known_count model a p.0 x p.4 in
    let types_here = zip_parts (HasWholeType model) p.0 (p.1 ++ p.2) (map widened (types model a)) (types_of_opaque model s ++ whole_types model rest) front
    (rw here at typed) in
    let types_behind = zip_parts (HasWholeType model) p.1 p.2 (types_of_opaque model s) (whole_types model rest) p.5.as_many types_here.1 in
    let agree_all : AllZip Agrees (all.0 ++ (all.1 ++ all.2)) (p.0 ++ (p.1 ++ p.2)) = subst (λ l. AllZip Agrees l (p.0 ++ (p.1 ++ p.2))) all.3
    (subst (λ l. AllZip Agrees shown l) here agree) in
    let many : length all.0 ≡ length p.0 = ap length all.5.shown_is ∙ length_map Some all.5.known
    ∙ sym (AllZip-long (HasType model) all.5.known (types model a) all.5.typed)
    ∙ sym (length_map widened (types model a)) ∙ sym front in
    let agree_here = zip_parts Agrees all.0 (all.1 ++ all.2) p.0 (p.1 ++ p.2) many agree_all in
    let agree_behind = zip_parts Agrees all.1 all.2 p.1 p.2 (all.4 ∙ sym p.5.as_many) agree_here.1 in (
      p.0,
      p.1,
      p.2,
      p.3,
      stretch_goes model a b all.0 p.0 x one.0 all.5 agree_here.0 p.4,
      record { spelling = p.5.spelling ∙ one.1; args_are = p.5.args_are; as_many = p.5.as_many ∙ ap length mine },
      goes model h.2 g.2 rest more all.2 h.5 g.5 one.2 all.6 p.2 w types_behind.1 agree_behind.1 p.6,
    )

pub agreeing_is_together : (model : Model) → AgreeingIsTogether model
agreeing_is_together model t u a b shown h g one all args trace typed agree = (
  λ p. goes model t u a b shown h g one all args trace typed agree p,
  λ p. goes model u t b a shown g h (shape_back model a b one) (agree_back model t u a b shown h g one all) args trace
      (rw (← types_same model t u a b h g one) typed) agree p,
)
