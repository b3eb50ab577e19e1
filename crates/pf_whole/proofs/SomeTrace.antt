-- Each list of stretches has a trace for arguments of its types.
use Rattle.std.proofs.Common.{◌≡◌, List, [], ◌∷◌, ◌++◌, map, refl, sym, ap, ◌∙◌, subst}
use Rattle.std.proofs.lemmas.List.{append_assoc}
use Rattle.std.proofs.lemmas.Slice.Zip.{AllZip-long}
use Rattle.pf_values.specs.declared.models.Model.{Model}
use Rattle.pf_values.specs.declared.types.ArgType.{ArgType}
use Rattle.pf_values.specs.meaning.Arguments.{Argument, HasTypes}
use Rattle.pf_values.specs.meaning.Items.{Item, types}
use Rattle.pf_values.specs.meaning.Text.{Text}
use Rattle.pf_values.proofs.Alike.{all_printed, all_printed-is}
use Rattle.pf_posix.specs.declared.types.WholeArgType.{WholeArgType}
use Rattle.pf_posix.specs.Opaque.{OpaqueItem}
use Rattle.pf_posix.specs.Types.{widened}
use Rattle.pf_posix.specs.Stretches.{Stretches, Last, Before, types_of_opaque, whole_types}
use Rattle.pf_whole.specs.meaning.NormalSpellings.{normal_spelling}
use Rattle.pf_whole.specs.meaning.Traces.{Ends, Calls, HasTrace, PrintsKnown, Trace, Call}
use Rattle.pf_whole.specs.meaning.WholeArguments.{WholeArgument, Known, Other, HasWholeType, HasWholeTypes}

-- arguments of types of the profile are known
pub record AreKnown (model : Model) (args : List WholeArgument) (ts : List ArgType) : Type 0 where
  pub known : List Argument
  pub same : args ≡ map Known known
  pub typed : HasTypes model known ts

pub are_known : (model : Model) (args : List WholeArgument) (ts : List ArgType) → HasWholeTypes model args (map widened ts) → AreKnown model args ts
are_known model [] [] h = record { known = []; same = refl; typed = tt }
are_known model [] (t ∷ ts) h = absurd h
are_known model (x ∷ args) [] h = absurd h
are_known model (Known x ∷ args) (t ∷ ts) h =
    let rest = are_known model args ts h.1 in
    record { known = x ∷ rest.known; same = ap (λ l. Known x ∷ l) rest.same; typed = (h.0, rest.typed) }
are_known model (Other x ∷ args) (t ∷ ts) h = absurd h.0

-- arguments of two lists of types, one after another
pub record AreSplit (model : Model) (args : List WholeArgument) (a b : List WholeArgType) : Type 0 where
  pub first : List WholeArgument
  pub second : List WholeArgument
  pub whole : args ≡ first ++ second
  pub typed_first : HasWholeTypes model first a
  pub typed_second : HasWholeTypes model second b

pub are_split : (model : Model) (args : List WholeArgument) (a b : List WholeArgType) → HasWholeTypes model args (a ++ b) → AreSplit model args a b
are_split model args [] b h = record { first = []; second = args; whole = refl; typed_first = tt; typed_second = h }
are_split model [] (t ∷ a) b h = absurd h
are_split model (x ∷ args) (t ∷ a) b h =
    let rest = are_split model args a b h.1 in
    record {
      first = x ∷ rest.first;
      second = rest.second;
      whole = ap (λ l. x ∷ l) rest.whole;
      typed_first = (h.0, rest.typed_first);
      typed_second = rest.typed_second;
    }

pub known_printed : (model : Model) (items : List Item) (args : List WholeArgument) → HasWholeTypes model args (map widened (types model items))
    → (text : Text) × PrintsKnown model items args text
known_printed model items args h =
    let known = are_known model args (types model items) h in
    (all_printed model items known.known, (known.known, known.same, all_printed-is model items known.known known.typed))

abbrev pub call_of : Model → OpaqueItem → List WholeArgument → Call
call_of model s args = record { spelling = normal_spelling model s; args = args }

-- the trace of the rest, after a stretch and a call
pub trace_before : (model : Model) (items : List Item) (s : OpaqueItem) (rest : Stretches) (first own back : List WholeArgument) (text : Text)
    (trace : Trace) → PrintsKnown model items first text → HasWholeTypes model own (types_of_opaque model s) → HasTrace model rest back trace
    → HasTrace model (Before items s rest) ((first ++ own) ++ back) (Calls text (call_of model s own) trace)
trace_before model items s rest first own back text trace printed typed h = (
  first,
  own,
  back,
  refl,
  printed,
  record {
    spelling = refl;
    args_are = refl;
    as_many = sym (AllZip-long (HasWholeType model) own (types_of_opaque model s) typed);
  },
  h,
)

pub some_trace : (model : Model) (a : Stretches) (args : List WholeArgument) → HasWholeTypes model args (whole_types model a)
    → (trace : Trace) × HasTrace model a args trace
some_trace model (Last items) args h = let printed = known_printed model items args h in (Ends printed.0, printed.1)
some_trace model (Before items s rest) args h =
    let outer = are_split model args (map widened (types model items)) (types_of_opaque model s ++ whole_types model rest) h in
    let inner = are_split model outer.second (types_of_opaque model s) (whole_types model rest) outer.typed_second in
    let printed = known_printed model items outer.first outer.typed_first in
    let back = some_trace model rest inner.second inner.typed_second in
    let whole : args ≡ (outer.first ++ inner.first) ++ inner.second = outer.whole ∙ ap (λ l. outer.first ++ l) inner.whole
    ∙ sym (append_assoc outer.first inner.first inner.second) in
    let same = trace_before model items s rest outer.first inner.first inner.second printed.0 back.0 printed.1 inner.typed_first back.1 in (
      Calls printed.0 (call_of model s inner.first) back.0,
      subst
          (λ l. HasTrace model (Before items s rest) l (Calls printed.0 (call_of model s inner.first) back.0)) (sym whole) same,
    )
