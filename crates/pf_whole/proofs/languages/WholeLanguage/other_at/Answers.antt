use Rattle.std.proofs.Common.{take}
use Rattle.pf_whole.proofs.LanguageLemmas.{opaque_past, whole_accepted}
use Rattle.pf_whole.proofs.languages.WholeLanguage.other_at.Goals as goal

pub opaque_at-requires-clause-front : goal.opaque_at-requires-clause-front
opaque_at-requires-clause-front c =
    let (canonical, h) = c.requires.front in
    whole_accepted c.args.model (take c.args.at c.args.text.now) canonical h

pub returns-clause-next : goal.returns-clause-next
returns-clause-next c front h =
    let there = rw c.in-Some.is at c.in_ok-opaque.ensures in
    opaque_past c.args.model c.args.text.now c.args.at front (c.in-Some.opaque, c.in-Some.stop) c.normal_spelling.result.items h there
    c.normal_spelling.ensures.bytes
