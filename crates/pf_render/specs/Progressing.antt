-- What a call leaves that writes one more part of a format. This project's own.
use Rattle.std.specs.Prelude.{◌≡◌, ℕ, ◌+◌, ◌^◌, ◌<◌, List, length, map, take, drop, Result, Ok, Err}
use Rattle.pf_values.specs.declared.models.Model.{Model}
use Rattle.pf_values.specs.meaning.Arguments.{Argument}
use Rattle.pf_values.specs.meaning.Items.{types}
use Rattle.pf_values.specs.meaning.Printing.{PrintsAll}
use Rattle.pf_values.specs.meaning.Text.{Text}
use Rattle.pf_render.specs.declared.faults.WriteFault.{WriteFault}
use Rattle.pf_render.specs.declared.format_parts.FormatPart.{FormatPart}
use Rattle.pf_render.specs.declared.progress.Progress.{Progress}
use Rattle.pf_render.specs.FormatParts.{items_of_part}

-- how many arguments a part takes
abbrev pub arity : Model → FormatPart → ℕ
arity model part = length (types model (items_of_part part))

-- the arguments that a part takes, after those that were taken before
abbrev pub next_arguments : {A : Type 0} → (A → Argument) → Model → Progress → FormatPart → List A
    → List Argument
next_arguments argument_of model progress part args =
    map argument_of (take (arity model part) (drop progress.taken args))

module _ {O : Type 0} (wrote : O → O → Text → Type 0) (stopped : O → O → Text → ℕ → Type 0)
    (old new : O) (before after : Progress) where
  -- all of it was put
  pub record WritesOn (out : Text) (count : ℕ) : Type 0 where
    pub put : wrote old new out
    pub small : length out < 2 ^ 64
    pub written : after.written ≡ before.written + length out
    pub taken : after.taken ≡ before.taken + count

  -- only its first bytes were put, and the fault has their number, with those before
  pub record WritesPart (out : Text) (fault : WriteFault) : Type 0 where
    pub count : ℕ
    pub put : stopped old new out count
    pub less : count < length out
    pub written : fault.written ≡ before.written + count

  -- the one or the other, by the result
  abbrev pub WritesOnOrPart : Text → ℕ → Result (Unit {0}) WriteFault → Type 0
  WritesOnOrPart out count (Ok done) = WritesOn out count
  WritesOnOrPart out count (Err fault) = WritesPart out fault

  -- what the part prints is put, all of it or its first bytes
  abbrev pub WritesNext : {A : Type 0} → (A → Argument) → Model → FormatPart → List A
      → Result (Unit {0}) WriteFault → Type 0
  WritesNext argument_of model part args result =
      (out : Text)
      × PrintsAll model (items_of_part part) (next_arguments argument_of model before part args) out
      × WritesOnOrPart out (arity model part) result
