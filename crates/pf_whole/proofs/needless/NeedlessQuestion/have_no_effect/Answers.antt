use Rattle.std.proofs.Common.{◌∙◌, ap, refl, subst, sym}
use Rattle.pf_values.specs.meaning.Text.{Text}
use Rattle.pf_posix.specs.Items.{Specification, IsWholeReadAs}
use Rattle.pf_posix.specs.Opaque.{is_opaque}
use Rattle.pf_posix.specs.OpaqueParts.{narrow}
use Rattle.pf_whole.proofs.NeedlessLemmas.{printed, spelled_without, still_narrow}
use Rattle.pf_whole.proofs.needless.NeedlessQuestion.have_no_effect.Goals as goal

pub narrow-requires-2-clause-spelled : goal.narrow-requires-2-clause-spelled
narrow-requires-2-clause-spelled c =
    let q = c.requires in
    let profile = sym c.is_opaque.ensures ∙ c.if-is_opaque.false in
    subst (λ s. (t : Text) × IsWholeReadAs t (Specification s)) (sym c.without-shorter.ensures)
    (spelled_without c.args.self.now.model _ refl q.text q.spelled c.args.set profile)

pub narrow-requires-2-clause-narrow : goal.narrow-requires-2-clause-narrow
narrow-requires-2-clause-narrow c =
    let q = c.requires in
    let profile = sym c.is_opaque.ensures ∙ c.if-is_opaque.false in
    ap is_opaque c.without-shorter.ensures ∙ still_narrow c.args.self.now.model _ refl q.text q.spelled c.args.set profile

pub returns : goal.returns
returns c =
    let q = c.requires in
    let profile = sym c.is_opaque.ensures ∙ c.if-is_opaque.false in
    let both = printed c.args.self.now.model _ refl q.text q.spelled c.args.set profile in
    let second = c.narrow-2.ensures ∙ ap narrow c.without-shorter.ensures in
    let told = rw (c.narrow.ensures, second) at c.print_alike.ensures in
    (λ yes. both.0 (told.0 yes), λ none. told.1 (both.1 none))
