use Rattle.std.proofs.Common.{arith, ap, sym, ◌∙◌, ◌++◌, length-take, take}
use Rattle.pf_values.specs.declared.flags.Flag.TheVariants.{Minus}
use Rattle.pf_values.specs.meaning.Flags.{all_flags}
use Rattle.pf_text.specs.Letters.{flags_kept}
use Rattle.pf_text.proofs.SpellingLemmas.{appended_both, flags_kept-le, flags_kept-more, length-appended}
use Rattle.pf_text.proofs.spelling.push_flags.Goals as goal

pub push_flag-requires : goal.push_flag-requires
push_flag-requires g c =
    let before = take c.loop-flag.flag-index all_flags in
    omega (
      arith,
      length-appended c.args.out.now.items c.loop-flag.out.items (flags_kept c.args.flags before) c.loop-flag.invariant,
      flags_kept-le c.args.flags before,
      length-take c.loop-flag.flag-index all_flags,
    )

pub loop-flag-preserved : goal.loop-flag-preserved
loop-flag-preserved g c =
    appended_both _ _ _ _ _ c.loop-flag.invariant c.push_flag.ensures
    ∙ ap (λ t. c.args.out.now.items ++ t) (sym (flags_kept-more c.args.flags all_flags c.loop-flag.flag-index Minus (omega arith)))
