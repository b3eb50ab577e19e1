-- What the automaton answers for a byte. This project's own.
use Rattle.std.specs.Prelude.{ℕ, Result, Ok, Err}
use Rattle.pf_values.specs.declared.refusals.RefusalKind.{RefusalKind}
use Rattle.pf_text.specs.declared.scanner.Step.TheVariants as steps
use Rattle.pf_text.specs.declared.state.Automaton.{Automaton}
use Rattle.pf_text.specs.declared.state.Move.{Move}
use Rattle.pf_text.specs.declared.state.Move.TheVariants as moves
use Rattle.pf_text.specs.Stages.{state_of}
use Rattle.pf_text.specs.States.{Next, inside, judged_as}

-- the directive of the parts that have been read
abbrev pub judged_parts : Automaton → Next
judged_parts a = judged_as a.flags a.width a.precision a.modifier a.conv

-- the state and the step that an answer and the automaton after it make together
abbrev pub next_by : Result Move RefusalKind → ℕ → Automaton → Next
next_by (Ok moves.More) byte a = inside (state_of a)
next_by (Ok moves.Byte) byte a = Ok (state_of a, steps.Byte byte)
next_by (Ok moves.Percent) byte a = Ok (state_of a, steps.Percent)
next_by (Ok moves.Ended) byte a = judged_parts a
next_by (Err kind) byte a = Err kind
