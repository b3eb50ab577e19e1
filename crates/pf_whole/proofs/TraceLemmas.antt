-- Lists of stretches with the same types and traces.
use Rattle.std.proofs.Common.{◌≡◌, ℕ, ◌+◌, List, [], ◌∷◌, ◌++◌, map, length, refl, sym, ap, ap₂, ◌∙◌, arith}
use Rattle.std.proofs.lemmas.List.{append_assoc}
use Rattle.pf_values.specs.declared.models.Model.{Model}
use Rattle.pf_values.specs.meaning.Arguments.{Argument}
use Rattle.pf_values.specs.meaning.Items.{Item, Byte, Directive, types}
use Rattle.pf_values.specs.meaning.Printing.{PrintAlike, PrintsAll}
use Rattle.pf_values.specs.meaning.Text.{Text}
use Rattle.pf_posix.specs.Opaque.{OpaqueItem}
use Rattle.pf_posix.specs.Types.{widened}
use Rattle.pf_posix.specs.Stretches.{Stretches, Last, Before, types_of_opaque, whole_types}
use Rattle.pf_whole.specs.Laws.{HaveSameTraces}
use Rattle.pf_whole.specs.meaning.NormalSpellings.{normal_spelling}
use Rattle.pf_whole.specs.meaning.Traces.{Ends, Calls, HasTrace, PlacedCall, PrintsKnown, Trace, TraceAlike, placed_calls}
use Rattle.pf_whole.specs.meaning.WholeArguments.{WholeArgument, Known, HasWholeType, HasWholeTypes}
use Rattle.pf_whole.proofs.ProfileTexts.{known_alike, turned}
use Rattle.pf_whole.proofs.ZipLemmas.{zip_parts}

pub traces_of_alike : (model : Model) (a b : Stretches) → TraceAlike model a b → HaveSameTraces model a b
traces_of_alike model a b h = record { same_types = h.same_types; same_traces = h.same_traces }

pub traces_sym : (model : Model) (a b : Stretches) → HaveSameTraces model a b → HaveSameTraces model b a
traces_sym model a b h = record {
  same_types = sym h.same_types;
  same_traces = λ args trace typed. let both = h.same_traces args trace (rw h.same_types typed) in (both.1, both.0);
}

pub trace_sym : (model : Model) (a b : Stretches) → TraceAlike model a b → TraceAlike model b a
trace_sym model a b h = record {
  same_types = sym h.same_types;
  same_calls = sym h.same_calls;
  same_traces = λ args trace typed. let both = h.same_traces args trace (rw h.same_types typed) in (both.1, both.0);
}

pub trace_trans : (model : Model) (a b c : Stretches) → TraceAlike model a b → TraceAlike model b c → TraceAlike model a c
trace_trans model a b c h g = record {
  same_types = h.same_types ∙ g.same_types;
  same_calls = h.same_calls ∙ g.same_calls;
  same_traces = λ args trace typed.
      let first = h.same_traces args trace typed in
      let second = g.same_traces args trace (rw (← h.same_types) typed) in
      (λ k. second.0 (first.0 k), λ k. first.1 (second.1 k));
}

-- if items print for some arguments, there is one argument for each type
pub printed_count : (model : Model) (items : List Item) (args : List Argument) (out : Text) → PrintsAll model items args out
    → length args ≡ length (types model items)
printed_count model [] [] out h = refl
printed_count model [] (argument ∷ args) out h = absurd h
printed_count model (Byte byte ∷ items) [] out h = printed_count model items [] h.0 h.1
printed_count model (Byte byte ∷ items) (argument ∷ args) out h = printed_count model items (argument ∷ args) h.0 h.1
printed_count model (Directive s ∷ items) [] out h = absurd h
printed_count model (Directive s ∷ items) (argument ∷ args) out h = omega (arith, printed_count model items args h.1 h.3)

pub length_map : {A B : Type 0} (f : A → B) (xs : List A) → length (map f xs) ≡ length xs
length_map f [] = refl
length_map f (x ∷ xs) = omega (arith, length_map f xs)

pub known_count : (model : Model) (items : List Item) (args : List WholeArgument) (text : Text) → PrintsKnown model items args text
    → length args ≡ length (map widened (types model items))
known_count model items args text h = ap length h.1 ∙ length_map Known h.0 ∙ printed_count model items h.0 text h.2
    ∙ sym (length_map widened (types model items))

-- calls that come later by a number of arguments
abbrev moved : ℕ → PlacedCall → PlacedCall
moved k call = record { index = k + call.index; spelling = call.spelling }

calls_moved : (model : Model) (k n : ℕ) (a : Stretches) → placed_calls model (k + n) a ≡ map (moved k) (placed_calls model n a)
calls_moved model k n (Last items) = refl
calls_moved model k n (Before items s rest) =
    let m = length (types model items) in
    let o = length (types_of_opaque model s) in
    let first : k + n + m ≡ k + (n + m) = omega arith in
    let next : k + n + m + o ≡ k + (n + m + o) = omega arith in
    ap₂ (λ (c : PlacedCall) l. c ∷ l) (ap (λ i. record { index = i; spelling = normal_spelling model s }) first)
    (ap (λ i. placed_calls model i rest) next ∙ calls_moved model k (n + m + o) rest)

moved_once : (k : ℕ) (c d : PlacedCall) → moved k c ≡ moved k d → c ≡ d
moved_once k c d e =
    let index : c.index ≡ d.index = omega (arith, ap (λ c. c.index) e) in
    ap₂ (λ i s. record { index = i; spelling = s }) index (ap (λ c. c.spelling) e)

all_moved_once : (k : ℕ) (cs ds : List PlacedCall) → map (moved k) cs ≡ map (moved k) ds → cs ≡ ds
all_moved_once k [] [] e = refl
all_moved_once k [] (d ∷ ds) e = cc
all_moved_once k (c ∷ cs) [] e = cc
all_moved_once k (c ∷ cs) (d ∷ ds) e =
    let first : moved k c ≡ moved k d = cc in
    let later : map (moved k) cs ≡ map (moved k) ds = cc in
    ap₂ (λ x l. x ∷ l) (moved_once k c d first) (all_moved_once k cs ds later)

calls_from_zero : (model : Model) (k : ℕ) (a : Stretches) → placed_calls model k a ≡ map (moved k) (placed_calls model 0 a)
calls_from_zero model k a = let same : k ≡ k + 0 = omega arith in ap (λ n. placed_calls model n a) same ∙ calls_moved model k 0 a

-- equal calls are equal from any index on
pub calls_back : (model : Model) (k : ℕ) (a b : Stretches) → placed_calls model k a ≡ placed_calls model k b → placed_calls model 0 a ≡ placed_calls model 0 b
calls_back model k a b e =
    all_moved_once k (placed_calls model 0 a) (placed_calls model 0 b) (sym (calls_from_zero model k a) ∙ e ∙ calls_from_zero model k b)

calls_forth : (model : Model) (k : ℕ) (a b : Stretches) → placed_calls model 0 a ≡ placed_calls model 0 b → placed_calls model k a ≡ placed_calls model k b
calls_forth model k a b e = calls_from_zero model k a ∙ ap (map (moved k)) e ∙ sym (calls_from_zero model k b)

-- one stretch and one call, before stretches that have the same traces
before_goes : (model : Model) (items own : List Item) (s p : OpaqueItem) (rest more : Stretches) → PrintAlike model items own
    → normal_spelling model s ≡ normal_spelling model p → types_of_opaque model s ≡ types_of_opaque model p → TraceAlike model rest more
    → (args : List WholeArgument) (trace : Trace) → HasWholeTypes model args (whole_types model (Before items s rest))
    → HasTrace model (Before items s rest) args trace → HasTrace model (Before own p more) args trace
before_goes model items own s p rest more print spelling same_types rests args (Ends text) typed h = h
before_goes model items own s p rest more print spelling same_types rests args (Calls text call trace) typed h =
    let whole = h.3 ∙ append_assoc h.0 h.1 h.2 in
    let first = zip_parts (HasWholeType model) h.0 (h.1 ++ h.2) (map widened (types model items)) (types_of_opaque model s ++ whole_types model rest)
    (known_count model items h.0 text h.4) (rw whole at typed) in
    let second = zip_parts (HasWholeType model) h.1 h.2 (types_of_opaque model s) (whole_types model rest) h.5.as_many first.1 in (
      h.0,
      h.1,
      h.2,
      h.3,
      known_alike model items own h.0 text print first.0 h.4,
      record { spelling = h.5.spelling ∙ spelling; args_are = h.5.args_are; as_many = h.5.as_many ∙ ap length same_types },
      (rests.same_traces h.2 trace second.1).0 h.6,
    )

pub before_alike : (model : Model) (items own : List Item) (s p : OpaqueItem) (rest more : Stretches) → PrintAlike model items own
    → normal_spelling model s ≡ normal_spelling model p → types_of_opaque model s ≡ types_of_opaque model p → TraceAlike model rest more
    → TraceAlike model (Before items s rest) (Before own p more)
before_alike model items own s p rest more print spelling same_types rests =
    let whole : whole_types model (Before items s rest) ≡ whole_types model (Before own p more) =
    ap₂ (λ a b. a ++ b) (ap (map widened) print.same_types) (ap₂ (λ a b. a ++ b) same_types rests.same_types) in
    let first : 0 + length (types model items) ≡ 0 + length (types model own) = ap (λ ts. 0 + length ts) print.same_types in
    let next = ap₂ (λ m n. m + n) first (ap length same_types) in
    record {
      same_types = whole;
      same_calls = ap₂ (λ c l. c ∷ l) (ap₂ (λ i s. record { index = i; spelling = s }) first spelling)
          (calls_forth model _ rest more rests.same_calls ∙ ap (λ k. placed_calls model k more) next);
      same_traces = λ args trace typed. (
        λ g. before_goes model items own s p rest more print spelling same_types rests args trace typed g,
        λ g. before_goes model own items p s more rest (turned model items own print) (sym spelling) (sym same_types)
            (trace_sym model rest more rests) args trace (rw (← whole) typed) g,
      );
    }
