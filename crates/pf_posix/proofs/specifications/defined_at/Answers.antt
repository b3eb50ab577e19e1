use Rattle.std.proofs.Common.{◌∙◌, sym}
use Rattle.pf_posix.proofs.ReadLemmas.{refused_undefined}
use Rattle.pf_posix.proofs.specifications.defined_at.Goals as goal

pub returns-in-Some : goal.returns-in-Some
returns-in-Some c =
    let read = c.in-Ok in
    let refusal = c.refusal.ensures in
    refused_undefined c.args.text.now c.args.start c.args.numbering read.read read.stop c.in-Some.kind read.ensures (sym c.undefined_as.ensures ∙ c.in-Some.is)
    c.refused.result (rw refusal at c.refused.ensures)
