-- Which conversions have a prefix under `#`.
use Rattle.std.specs.Prelude.{Bool, true, false}
use Rattle.pf_values.specs.declared.bases.Alternative.{Alternative}
use Rattle.pf_values.specs.declared.bases.Alternative.TheVariants.{Undefined, Raised, Prefixed}
use Rattle.pf_values.specs.declared.conversions.Conv.{Conv}
use Rattle.pf_values.specs.meaning.Conversions.{alternative_under, kind_of}

-- `#` puts two letters before a number (C11 7.21.6.1 p6)
abbrev pub puts_prefix : Alternative → Bool
puts_prefix Undefined = false
puts_prefix Raised = false
puts_prefix Prefixed = true

-- it does so with this conversion
abbrev pub is_prefixed : Conv → Bool
is_prefixed conv = puts_prefix (alternative_under (kind_of conv))
