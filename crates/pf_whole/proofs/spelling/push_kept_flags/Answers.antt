use Rattle.std.proofs.Common.{◌≡◌, ◌≤◌, false, arith, ap, length, take}
use Rattle.std.specs.List.{count_by, filter}
use Rattle.std.proofs.lemmas.List.{length-append, length-map}
use Rattle.std.proofs.lemmas.List.Sums.{count_by-le-length, count_by_more_no, length-filter}
use Rattle.pf_values.specs.declared.flags.Flag.TheVariants.{Group}
use Rattle.pf_values.specs.declared.flags.FlagSet.{FlagSet}
use Rattle.pf_values.specs.meaning.Flags.{all_flags, flag_byte, has}
use Rattle.pf_values.specs.meaning.Spelling.{flags_spelled}
use Rattle.pf_whole.proofs.spelling.push_kept_flags.Goals as goal

-- five flags besides `'`
five : (flags : FlagSet) → has flags Group ≡ false → length (flags_spelled flags) ≤ 5
five flags none =
    let kept : count_by (has flags) all_flags ≡ count_by (has flags) (take 5 all_flags) =
    count_by_more_no (has flags) all_flags 5 Group (omega arith) none in
    omega (
      arith,
      length-map (filter (has flags) all_flags) flag_byte,
      length-filter (has flags) all_flags,
      kept,
      count_by-le-length (has flags) (take 5 all_flags),
    )

pub returns-clause-len : goal.returns-clause-len
returns-clause-len c =
    omega (
      arith,
      ap length c.push_flags.ensures.bytes,
      length-append c.args.out.now.items (flags_spelled c.args.flags),
      five c.args.flags c.requires.group,
    )
