use Rattle.std.proofs.Common.{subst}
use Rattle.std.specs.Prelude.{MatchResult}
use Rattle.pf_canon.specs.Languages.{FaultIn, HasCanonicalIn}
use Rattle.fmtcanon_c.proofs.canonical_texts.put_counted_canonical.Goals as goal

pub put_made-requires : goal.put_made-requires
put_made-requires g c =
    let l = g.L.Language in
    subst (λ model. MatchResult c.canonical_of_len.result (λ made. HasCanonicalIn l.has_front model c.args.text.now made.items)
    (FaultIn l.has_front l.refuses model c.args.text.now)) c.requires.model c.canonical_of_len.ensures
