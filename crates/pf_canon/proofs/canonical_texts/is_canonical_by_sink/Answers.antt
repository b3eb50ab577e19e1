use Rattle.std.proofs.Common.{subst}
use Rattle.pf_canon.specs.Languages.{HasCanonicalIn}
use Rattle.pf_canon.proofs.SinkLemmas.{stripped_to_end}
use Rattle.pf_canon.proofs.canonical_texts.is_canonical_by_sink.Goals as goal

pub returns-in-Ok : goal.returns-in-Ok
returns-in-Ok g c =
    let h = c.in-Ok.ensures in (
      h.0,
      subst (λ model. HasCanonicalIn g.L.Language.has_front model c.args.text.now h.0) c.of.ensures.model h.2,
      stripped_to_end c.args.text.now h.0 c.new-rest.result.left c.put.new.sink.left c.is_used_up.result c.new-rest.ensures h.1 c.is_used_up.ensures,
    )

pub returns-in-Err : goal.returns-in-Err
returns-in-Err g c = rw c.of.ensures.model at c.in-Err.ensures
