use Rattle.std.proofs.Common.{subst, sym}
use Rattle.pf_canon.specs.Languages.{HasCanonicalIn}
use Rattle.pf_canon.proofs.LanguageLemmas.{canonical_counts}
use Rattle.pf_canon.proofs.SinkLemmas.{built_whole, counted_in_room}
use Rattle.pf_canon.proofs.short_texts.ShortText.put.Goals as goal

pub returns-then-self-ne0 : goal.returns-then-self-ne0
returns-then-self-ne0 g c =
    let put = c.in_ok-put.ensures in
    counted_in_room (HasCanonicalIn g.L.Language.has_front c.args.front.now.model c.args.text.now) put.0 _ _ c.len.result put.2
    (canonical_counts g.L.Language.has_front c.args.front.now.model c.args.text.now put.0 put.2) c.requires.unused put.1.count c.len.ensures

pub returns : goal.returns
returns g c =
    let put = c.in_ok-put.ensures in
    let all = built_whole (λ v. v.items) c.args.self.now.builder c.put.new.sink put.0 put.1 c.requires.unused c.if-self-ne0.false in
    subst (HasCanonicalIn g.L.Language.has_front c.args.front.now.model c.args.text.now) (sym all) put.2
