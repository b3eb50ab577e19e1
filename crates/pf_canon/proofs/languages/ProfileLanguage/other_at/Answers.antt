use Rattle.pf_canon.proofs.LanguageLemmas.{ends_items}
use Rattle.pf_canon.proofs.languages.ProfileLanguage.other_at.Goals as goal

pub returns-in-Some-clause-next : goal.returns-in-Some-clause-next
returns-in-Some-clause-next c front h =
    let text = c.args.text.now in
    let end = ends_items c.args.arg1 text c.args.at front c.requires.within c.requires.none h in
    (c.in-Some.ensures end.items end end.reads).refused

pub returns-in-None-clause-next : goal.returns-in-None-clause-next
returns-in-None-clause-next c front h =
    let text = c.args.text.now in
    let end = ends_items c.args.arg1 text c.args.at front c.requires.within c.requires.none h in
    c.in-None.ensures end.items end end.reads
