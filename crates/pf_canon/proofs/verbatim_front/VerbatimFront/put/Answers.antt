use Rattle.std.proofs.Common.{arith}
use Rattle.pf_canon.specs.Languages.{HasCanonicalIn}
use Rattle.pf_canon.proofs.LanguageLemmas.{of_nothing, within_limit}
use Rattle.pf_canon.proofs.ItemLemmas.{all_of_walk, front_of_walk}
use Rattle.pf_canon.proofs.SinkLemmas.{front_put}
use Rattle.pf_canon.proofs.verbatim_front.VerbatimFront.put.Goals as goal

pub put_stretch-stop-requires-clause-within : goal.put_stretch-stop-requires-clause-within
put_stretch-stop-requires-clause-within g c = (omega arith, c.requires.within)

pub returns-then-stop-text : goal.returns-then-stop-text
returns-then-stop-text g c =
    let front = c.args.self.now in
    let text = c.args.text.now in
    let stretch = c.put_stretch-stop in
    let (own, given, completes) = stretch.ensures.put in
    let all = all_of_walk text front.walk c.requires.over stretch.result stretch.ensures.within.1 (omega (arith, c.if-stop-text.true)) in
    (own, given, of_nothing g.L.Language.has_front front.model (g.met.L.Language.has_none front.model) _ text own all.0 all.1 completes)

pub put_others-requires-clause-front : goal.put_others-requires-clause-front
put_others-requires-clause-front g c =
    let front = c.args.self.now in
    let text = c.args.text.now in
    let stretch = c.put_stretch-stop in
    let (own, given, completes) = stretch.ensures.put in
    let place = front_of_walk text front.walk c.requires.over stretch.result stretch.ensures.within.1 in (
      own,
      of_nothing g.L.Language.has_front front.model (g.met.L.Language.has_none front.model) _ _ own place.0
          (within_limit text stretch.result place.2) completes,
    )

pub returns : goal.returns
returns g c =
    let front = c.args.self.now in
    let text = c.args.text.now in
    let stretch = c.put_stretch-stop in
    let (own, given, completes) = stretch.ensures.put in
    let place = front_of_walk text front.walk c.requires.over stretch.result stretch.ensures.within.1 in
    front_put g.met.S.Sink.laws (HasCanonicalIn g.L.Language.has_front front.model text)
    (λ refusal. g.L.Language.refuses front.model text refusal.kind refusal.at) own c.args.sink.now stretch.new.sink c.put_others.new.sink c.put_others.result given
    (c.put_others.ensures own
    (of_nothing g.L.Language.has_front front.model (g.met.L.Language.has_none front.model) _ _ own place.0
    (within_limit text stretch.result place.2) completes))
