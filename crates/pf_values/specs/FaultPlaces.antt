-- Where a reader is to fail: after how many bytes, or nowhere. This project's own.
use Rattle.std.specs.Prelude.{ℕ, ◌-◌, ◌==◌, Bool, false, min, Option, None, Some, Result, Ok, Err}
use Rattle.std.specs.Option.{option_map}

-- whether the next call is to fail
abbrev pub is_due : Option ℕ → Bool
is_due None = false
is_due (Some before) = before == 0

-- `count` bytes, and none past the fault
abbrev pub up_to_fault : Option ℕ → ℕ → ℕ
up_to_fault None count = count
up_to_fault (Some before) count = min before count

-- where the reader is to fail, counted from `count` bytes further on
abbrev pub fault_after_bytes : Option ℕ → ℕ → Option ℕ
fault_after_bytes fault count = option_map (λ before. before - count) fault

-- where it is to fail after a call: one call fails, and no other
abbrev pub fault_after_call : {E : Type 0} → Option ℕ → Result ℕ E → Option ℕ
fault_after_call fault (Ok count) = fault_after_bytes fault count
fault_after_call fault (Err e) = None
