use Rattle.pf_whole.proofs.VerbatimLemmas.{bare_verbatim}
use Rattle.pf_whole.proofs.verbatim_directives.bare_len.Goals as goal

pub returns-then-is_verbatim_alone-clause-verbatim : goal.returns-then-is_verbatim_alone-clause-verbatim
returns-then-is_verbatim_alone-clause-verbatim c some =
    bare_verbatim c.args.text.now c.args.at c.in-Ok.conversion c.requires c.in-Ok.ensures.letter (c.is_verbatim_alone.ensures c.if-is_verbatim_alone.true)
