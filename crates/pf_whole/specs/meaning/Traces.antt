-- The bytes that a text of the whole language prints, and the calls that it makes. Traces are this
-- project's own: the standard defines what each directive prints, and here an opaque one makes a
-- call instead.
use Rattle.std.specs.Prelude.{◌≡◌, ℕ, ◌+◌, List, [], ◌∷◌, ◌++◌, length, map, ◌↔◌}
use Rattle.pf_values.specs.declared.models.Model.{Model}
use Rattle.pf_values.specs.meaning.Arguments.{Argument}
use Rattle.pf_values.specs.meaning.Items.{Item, types}
use Rattle.pf_values.specs.meaning.Printing.{PrintsAll}
use Rattle.pf_values.specs.meaning.Text.{Text}
use Rattle.pf_posix.specs.Opaque.{OpaqueItem}
use Rattle.pf_posix.specs.Stretches.{Stretches, Last, Before, ReadsStretches, types_of_opaque, whole_types}
use Rattle.pf_whole.specs.meaning.NormalSpellings.{normal_spelling}
use Rattle.pf_whole.specs.meaning.WholeArguments.{WholeArgument, Known, HasWholeTypes}

-- What an opaque directive or `%m` asks of the C library: its normal spelling and its arguments.
pub record Call : Type 0 where
  pub spelling : Text
  pub args : List WholeArgument

-- The bytes printed before the first call, that call, and the trace after it; or, if no call is
-- left, the bytes printed. So bytes that no call separates are one text.
pub data Trace : Type 0 where
  Ends : (text : Text) → Trace
  Calls : (text : Text) (call : Call) (rest : Trace) → Trace

-- A stretch prints these bytes. All its arguments are known (C11 7.21.6.1 p3).
abbrev pub PrintsKnown : Model → List Item → List WholeArgument → Text → Type 0
PrintsKnown model items args text =
    (known : List Argument) × (args ≡ map Known known) × PrintsAll model items known text

-- An opaque directive makes this call, with the arguments that it fetches (C11 7.21.6.1 p3, p5).
-- `%m` fetches none.
pub record IsCallOf (model : Model) (other : OpaqueItem) (args : List WholeArgument)
    (call : Call) : Type 0 where
  pub spelling : call.spelling ≡ normal_spelling model other
  pub args_are : call.args ≡ args
  pub as_many : length args ≡ length (types_of_opaque model other)

-- Each stretch and each opaque directive takes the next arguments (C11 7.21.6.1 p2, p3).
abbrev pub HasTrace : Model → Stretches → List WholeArgument → Trace → Type 0
HasTrace model (Last items) args (Ends text) = PrintsKnown model items args text
HasTrace model (Last items) args (Calls text call rest) = ⊥
HasTrace model (Before items other stretches) args (Ends text) = ⊥
HasTrace model (Before items other stretches) args (Calls text call rest) =
    (first own back : List WholeArgument) × (args ≡ first ++ own ++ back)
    × PrintsKnown model items first text × IsCallOf model other own call
    × HasTrace model stretches back rest

-- The normal spelling of a call and its place: the index of its first argument, which is the number of
-- arguments that are fetched before it.
pub record PlacedCall : Type 0 where
  pub index : ℕ
  pub spelling : Text

-- The calls of stretches, in order; the index is that of the first argument of the stretches.
abbrev pub placed_calls : Model → ℕ → Stretches → List PlacedCall
placed_calls model index (Last items) = []
placed_calls model index (Before items other rest) =
    record { index = index + length (types model items); spelling = normal_spelling model other }
    ∷ placed_calls model (index + length (types model items) + length (types_of_opaque model other)) rest

-- Two lists of stretches take arguments of the same types, make the same calls in the same places, and
-- have the same traces for all such arguments. Without `%m`, the second follows from the others. With it,
-- `%.0s%m` and `%m%.0s` have the same traces, and different canonical texts.
pub record TraceAlike (model : Model) (a b : Stretches) : Type 0 where
  pub same_types : whole_types model a ≡ whole_types model b
  pub same_calls : placed_calls model 0 a ≡ placed_calls model 0 b
  pub same_traces : (args : List WholeArgument) (trace : Trace)
      → HasWholeTypes model args (whole_types model a)
      → (HasTrace model a args trace ↔ HasTrace model b args trace)

-- Two texts are alike: their stretches have the same types, calls and traces.
pub record AreWholeAlike (model : Model) (t u : Text) : Type 0 where
  pub first : Stretches
  pub second : Stretches
  pub reads_first : ReadsStretches t first
  pub reads_second : ReadsStretches u second
  pub alike : TraceAlike model first second
