use Rattle.std.proofs.Common.{◌∙◌, subst, sym}
use Rattle.pf_values.specs.meaning.Defined.{IsDefined}
use Rattle.pf_whole.proofs.NeedlessLemmas.{given_narrow, narrow_defined}
use Rattle.pf_whole.proofs.needless.narrow.Goals as goal

pub of_defined-requires : goal.of_defined-requires
of_defined-requires c =
    let d = narrow_defined c.args.directive c.requires.spelled.0 c.requires.spelled.1 c.requires.narrow in
    rw (c.number_of.ensures, c.number_of-2.ensures, c.integer_length.ensures, c.conv_of.ensures)
    (subst IsDefined (sym (given_narrow c.args.directive d)) d)

pub returns : goal.returns
returns c =
    let d = narrow_defined c.args.directive c.requires.spelled.0 c.requires.spelled.1 c.requires.narrow in
    c.of_defined.ensures ∙ rw (c.number_of.ensures, c.number_of-2.ensures, c.integer_length.ensures, c.conv_of.ensures) (given_narrow c.args.directive d)
