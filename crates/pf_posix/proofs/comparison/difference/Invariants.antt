use Rattle.std.proofs.Common.{◌≡◌, ◌≤◌, ◌-◌, List, length}
use Rattle.pf_posix.specs.declared.types.WholeArgType.{WholeArgType}
use Rattle.pf_posix.specs.Laws.{filled}
use Rattle.pf_posix.proofs.DifferenceLemmas.{SameUpTo}
use Rattle.pf_posix.proofs.comparison.difference.Given as goal

abbrev pub invariant-loop-index : goal.invariant-loop-index
invariant-loop-index l = record {
  few : l.index ≤ length l.types;
  first : l.index ≤ l.count;
  second : l.index ≤ l.second_count;
  same : (a b start from : List WholeArgType) → l.types ≡ filled start a → l.others ≡ filled from b → l.count ≡ length a → l.second_count ≡ length b
      → SameUpTo a b l.index;
}

abbrev pub decreases-loop-index : goal.decreases-loop-index
decreases-loop-index l = length l.types - l.index
