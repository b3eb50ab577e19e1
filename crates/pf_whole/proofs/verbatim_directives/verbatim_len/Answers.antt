use Rattle.pf_whole.proofs.VerbatimLemmas.{plain_verbatim}
use Rattle.pf_whole.proofs.verbatim_directives.verbatim_len.Goals as goal

pub returns-then-is_verbatim-clause-verbatim : goal.returns-then-is_verbatim-clause-verbatim
returns-then-is_verbatim-clause-verbatim c some =
    plain_verbatim c.args.text.now c.args.at c.in-Some.directive c.in-Some.stop c.in-Some.ensures (c.is_verbatim.ensures c.if-is_verbatim.true)
