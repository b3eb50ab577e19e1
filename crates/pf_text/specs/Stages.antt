-- How much of an item has been read. The parts come in the order of C11 7.21.6.1 p4; the states are
-- this project's own.
use Rattle.std.specs.Prelude.{ℕ, Option}
use Rattle.pf_values.specs.declared.flags.FlagSet.{FlagSet}
use Rattle.pf_values.specs.declared.lengths.Length.{Length}
use Rattle.pf_text.specs.declared.state.Automaton.{Automaton}
use Rattle.pf_text.specs.declared.state.Phase.{Phase}
use Rattle.pf_text.specs.declared.state.Phase.TheVariants as phases

-- what has been read of an item, with the values of its parts
pub data State : Type 0 where
  -- nothing
  Between : State
  -- the opening `%`
  Opened : State
  -- `%` and at least one flag
  Flags : FlagSet → State
  -- `%`, flags and digits of a width
  Width : FlagSet → ℕ → State
  -- all up to the `.` of a precision
  Point : FlagSet → Option ℕ → State
  -- all up to digits of a precision
  Precision : FlagSet → Option ℕ → ℕ → State
  -- all up to letters of a modifier
  Modifier : FlagSet → Option ℕ → Option ℕ → Length → State

-- the state of an automaton in this phase
abbrev pub state_in_phase : Phase → Automaton → State
state_in_phase phases.Between a = Between
state_in_phase phases.Opened a = Opened
state_in_phase phases.Flags a = Flags a.flags
state_in_phase phases.Width a = Width a.flags a.number
state_in_phase phases.Point a = Point a.flags a.width
state_in_phase phases.Precision a = Precision a.flags a.width a.number
state_in_phase phases.Modifier a = Modifier a.flags a.width a.precision a.modifier

-- the state of an automaton with these fields; in each phase only some of them count
abbrev pub state_of : Automaton → State
state_of a = state_in_phase a.phase a
