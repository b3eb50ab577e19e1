-- What one more byte adds to what has been read of an item. The parts come in the order of
-- C11 7.21.6.1 p4; the automaton is this project's own.
use Rattle.std.specs.Prelude.{ℕ, ◌+◌, ◌-◌, ◌*◌, Bool, ◌&&◌, nat_lt, nat_le, ◌==◌, Option, Some, None, Result, Ok, Err, if◌then◌else◌}
use Rattle.pf_values.specs.declared.conversions.Conv.{Conv}
use Rattle.pf_values.specs.declared.flags.Flag.{Flag}
use Rattle.pf_values.specs.declared.flags.FlagSet.{FlagSet}
use Rattle.pf_values.specs.declared.lengths.Length.{Length}
use Rattle.pf_values.specs.declared.lengths.Length.TheVariants as lengths
use Rattle.pf_values.specs.declared.limits.TheConstants.{MAX_NUMBER}
use Rattle.pf_values.specs.declared.refusals.RefusalKind.{RefusalKind}
use Rattle.pf_values.specs.declared.refusals.RefusalKind.TheVariants.{NulByte, Float, Star, Numbered, WidthTooLarge, PrecisionTooLarge}
use Rattle.pf_values.specs.meaning.Defined.{refused_as}
use Rattle.pf_values.specs.meaning.Flags.{with_flag, no_flags}
use Rattle.pf_values.specs.meaning.Specification.{Specification}
use Rattle.pf_values.specs.Directives.{specification_of}
use Rattle.pf_values.specs.meaning.Text.{dollar, percent, point, star, zero_digit}
use Rattle.pf_text.specs.declared.scanner.Step.{Step}
use Rattle.pf_text.specs.declared.scanner.Step.TheVariants.{More, Byte, Percent, Directive}
use Rattle.pf_text.specs.Stages.{State}
use Rattle.pf_text.specs.Stages.{Between, Opened, Flags, Width, Point, Precision, Modifier}
use Rattle.pf_text.specs.Letters.{flag_of, modifier_of, conv_of, refused_letter}

-- the state after the byte and the step, or why the byte is rejected
abbrev pub Next : Type 0
Next = Result (State × Step) RefusalKind

-- the item goes on
abbrev pub inside : State → Next
inside state = Ok (state, More)

-- `0` to `9`
abbrev pub is_digit : ℕ → Bool
is_digit byte = nat_le zero_digit byte && nat_le byte 57

-- a whole specification is a directive, unless it is rejected
abbrev pub judgement_of : Specification → Option RefusalKind → Next
judgement_of s None = Ok (Between, Directive s)
judgement_of s (Some kind) = Err kind

-- the judgement of the specification that has these parts
abbrev pub judged_as : FlagSet → Option ℕ → Option ℕ → Length → Conv → Next
judged_as flags width precision length conv = judgement_of
    (specification_of flags width precision length conv)
    (refused_as (specification_of flags width precision length conv))

-- only the conversion can follow (C11 7.21.6.1 p8)
abbrev pub end_by : FlagSet → Option ℕ → Option ℕ → Length → ℕ → Option Conv → Next
end_by flags width precision length byte None = Err (refused_letter byte)
end_by flags width precision length byte (Some conv) = judged_as flags width precision length conv

-- a byte can only be the conversion
abbrev pub end_at : FlagSet → Option ℕ → Option ℕ → Length → ℕ → Next
end_at flags width precision length byte = end_by flags width precision length byte (conv_of byte)

-- a modifier begins (C11 7.21.6.1 p7), or the conversion comes
abbrev pub modifier_or_end : FlagSet → Option ℕ → Option ℕ → ℕ → Option Length → Next
modifier_or_end flags width precision byte (Some length) =
    inside (Modifier flags width precision length)
modifier_or_end flags width precision byte None =
    if byte == 76 then Err Float else end_at flags width precision lengths.None byte

-- a byte after a number begins a modifier, or is the conversion
abbrev pub after_number : FlagSet → Option ℕ → Option ℕ → ℕ → Next
after_number flags width precision byte =
    modifier_or_end flags width precision byte (modifier_of byte)

-- one more digit of a width (C11 7.21.6.1 p4)
abbrev pub width_with : FlagSet → ℕ → ℕ → Next
width_with flags width digit =
    if nat_lt MAX_NUMBER (10 * width + digit) then Err WidthTooLarge else
    inside (Width flags (10 * width + digit))

-- one more digit of a precision (C11 7.21.6.1 p4)
abbrev pub precision_with : FlagSet → Option ℕ → ℕ → ℕ → Next
precision_with flags width precision digit =
    if nat_lt MAX_NUMBER (10 * precision + digit) then Err PrecisionTooLarge else
    inside (Precision flags width (10 * precision + digit))

-- one more flag (C11 7.21.6.1 p6), or what may follow flags
abbrev pub flag_or_after : FlagSet → ℕ → Option Flag → Next
flag_or_after flags byte (Some flag) = inside (Flags (with_flag flags flag))
flag_or_after flags byte None =
    if is_digit byte then inside (Width flags (byte - zero_digit)) else
    if byte == point then inside (Point flags None) else
    if byte == star then Err Star else
    after_number flags None None byte

-- a byte after flags is one more flag, or what may follow them
abbrev pub after_flags : FlagSet → ℕ → Next
after_flags flags byte = flag_or_after flags byte (flag_of byte)

-- the second letter of `hh` and `ll` (C11 7.21.6.1 p7), or the conversion
abbrev pub after_modifier : FlagSet → Option ℕ → Option ℕ → Length → ℕ → Next
after_modifier flags width precision lengths.H byte =
    if byte == 104 then inside (Modifier flags width precision lengths.Hh) else
    end_at flags width precision lengths.H byte
after_modifier flags width precision lengths.L byte =
    if byte == 108 then inside (Modifier flags width precision lengths.Ll) else
    end_at flags width precision lengths.L byte
after_modifier flags width precision length byte = end_at flags width precision length byte

-- the state after one more byte, and the step
abbrev pub next : State → ℕ → Next
next Between byte =
    if byte == 0 then Err NulByte else
    if byte == percent then inside Opened else
    Ok (Between, Byte byte)
next Opened byte = if byte == percent then Ok (Between, Percent) else after_flags no_flags byte
next (Flags flags) byte = after_flags flags byte
next (Width flags width) byte =
    if is_digit byte then width_with flags width (byte - zero_digit) else
    if byte == point then inside (Point flags (Some width)) else
    if byte == dollar then Err Numbered else
    after_number flags (Some width) None byte
next (Point flags width) byte =
    if is_digit byte then precision_with flags width 0 (byte - zero_digit) else
    if byte == star then Err Star else
    after_number flags width (Some 0) byte
next (Precision flags width precision) byte =
    if is_digit byte then precision_with flags width precision (byte - zero_digit) else
    after_number flags width (Some precision) byte
next (Modifier flags width precision length) byte = after_modifier flags width precision length byte
