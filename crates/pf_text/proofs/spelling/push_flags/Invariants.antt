use Rattle.std.proofs.Common.{◌≡◌, ◌++◌, take}
use Rattle.pf_text.specs.Letters.{flags_kept}
use Rattle.pf_text.proofs.spelling.push_flags.Given as goal

abbrev pub invariant-loop-flag : goal.invariant-loop-flag
invariant-loop-flag g l = l.out.items ≡ l.initial.out.items ++ flags_kept l.flags (take l.flag-index l.flag-items)
