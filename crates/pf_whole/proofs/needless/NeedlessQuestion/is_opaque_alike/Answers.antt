use Rattle.std.proofs.Common.{◌∙◌, ap, refl, sym}
use Rattle.pf_posix.specs.Opaque.{is_opaque}
use Rattle.pf_whole.specs.meaning.NormalSpellings.{directive_spelling}
use Rattle.pf_whole.proofs.NeedlessLemmas.{called, not_called}
use Rattle.pf_whole.proofs.needless.NeedlessQuestion.is_opaque_alike.Goals as goal

pub returns-then-not-is_opaque : goal.returns-then-not-is_opaque
returns-then-not-is_opaque c =
    let q = c.requires.question in
    let other = sym (ap is_opaque c.requires.shorter) ∙ sym c.is_opaque.ensures ∙ c.if-not-is_opaque.true in (
      λ no. cc,
      λ none. absurd (not_called c.args.self.now.model _ refl q.text q.spelled c.args.set c.requires.opaque other none),
    )

pub returns : goal.returns
returns c =
    let q = c.requires.question in
    let other = sym (ap is_opaque c.requires.shorter) ∙ sym c.is_opaque.ensures ∙ c.if-not-is_opaque.false in
    let both = called c.args.self.now.model _ refl q.text q.spelled c.args.set c.requires.opaque other in
    let spelling = ap (directive_spelling c.args.self.now.model) c.requires.shorter in (
      λ is. both.0 (c.make_one_call.ensures.0 is ∙ spelling),
      λ none. c.make_one_call.ensures.1 (both.1 none ∙ sym spelling),
    )
