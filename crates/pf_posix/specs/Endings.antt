-- Refusals of a text at its end, of one that is too long, and of one in which no argument may have a number, as the
-- code has them. No public contract names these.
use Rattle.std.specs.Prelude.{ℕ, ◌&&◌, ◌==◌, get_or, length, nat_le, nat_lt, if◌then◌else◌}
use Rattle.pf_values.specs.declared.limits.TheConstants.{MAX_TEXT_LEN}
use Rattle.pf_values.specs.meaning.Text.{Text, dollar}
use Rattle.pf_text.specs.declared.refusals.Refusal.{Refusal}
use Rattle.pf_values.specs.declared.refusals.RefusalKind.{RefusalKind}
use Rattle.pf_values.specs.declared.refusals.RefusalKind.TheVariants.{Mixed, NulByte, Numbered, TooLong, Truncated}

-- the kind of a refusal in such a trace: a `$` that is rejected as Mixed numbers an argument
abbrev pub numbered_instead : Text → RefusalKind → ℕ → RefusalKind
numbered_instead t Mixed at = if get_or t at 0 == dollar then Numbered else Mixed
numbered_instead t kind at = kind

-- the refusal of a text where nothing begins, before its end: at a NUL, or after a `%` that is the last byte
abbrev pub end_refusal : Text → ℕ → Refusal
end_refusal t at = if get_or t at 0 == 0 then record { kind = NulByte; at = at }
    else record { kind = Truncated; at = length t }

-- the refusal of a text whose front up to the limit is rejected so
abbrev pub refusal_of_long : Text → Refusal → Refusal
refusal_of_long t refusal = if nat_lt MAX_TEXT_LEN (length t) && nat_le MAX_TEXT_LEN refusal.at
    then record { kind = TooLong; at = MAX_TEXT_LEN } else refusal
