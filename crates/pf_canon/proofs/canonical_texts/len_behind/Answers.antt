use Rattle.std.proofs.Common.{refl}
use Rattle.pf_canon.specs.Languages.{HasCanonicalIn}
use Rattle.pf_canon.proofs.LanguageLemmas.{canonical_counts}
use Rattle.pf_canon.proofs.SinkLemmas.{counted_in_room}
use Rattle.pf_canon.proofs.canonical_texts.len_behind.Goals as goal

pub returns-in-Ok : goal.returns-in-Ok
returns-in-Ok g c =
    let h = c.in-Ok.ensures in
    counted_in_room (HasCanonicalIn g.L.Language.has_front c.args.front.now.model c.args.text.now) h.0 0 _ c.put.new.sink.len h.2
    (canonical_counts g.L.Language.has_front c.args.front.now.model c.args.text.now h.0 h.2) refl h.1 (λ few. refl)
