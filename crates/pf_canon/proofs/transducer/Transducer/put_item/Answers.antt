use Rattle.std.proofs.Common.{◌≡◌, ◌∷◌, ◌++◌, ◌+◌, ◌-◌, [], ap, arith, drop, get_or, subst, sym, take}
use Rattle.std.proofs.lemmas.List.{append-nil, drop_more}
use Rattle.pf_canon.specs.Output.{output_text}
use Rattle.pf_canon.specs.Transducer.{IsThrough, byte_output_text}
use Rattle.pf_canon.proofs.BlockLemmas.{byte_inside, byte_taken, refused_byte}
use Rattle.pf_canon.proofs.transducer.Transducer.put_item.Goals as goal

pub returns-in-Err-clause-put : goal.returns-in-Err-clause-put
returns-in-Err-clause-put g c = (
  [],
  subst (λ s. g.S.Sink.given c.args.sink.now s []) (sym c.loop-at.invariant.sink) (g.met.S.Sink.laws.none c.args.sink.now),
  λ model t out items h.
      let text = c.args.text.now in
      let at = c.loop-at.at in
      let now = c.loop-at.invariant.through model t out items h in
      let fed = rw c.in-Err.is at c.feed.ensures.fed model (t ++ take at text) out now.0 now.1 in
      refused_byte model c.loop-at.self t out text at c.loop-at-test.true now.0 now.1 c.in-Err.refusal fed,
)

pub loop-at-preserved : goal.loop-at-preserved
loop-at-preserved g c = record {
  within = omega (arith, c.loop-at-test.true);
  sink = c.loop-at.invariant.sink;
  through = λ model t out items h.
      let text = c.args.text.now in
      let at = c.loop-at.at in
      let now = c.loop-at.invariant.through model t out items h in
      let fed = rw c.in-Ok.is at c.feed.ensures.fed model (t ++ take at text) out now.0 now.1 in
      byte_inside model c.feed.new.self t out text at c.loop-at-test.true now.0 c.in-Ok.output fed c.in-Nothing.is;
}

pub returns-in-Literal-clause-put : goal.returns-in-Literal-clause-put
returns-in-Literal-clause-put g c =
    let text = c.args.text.now in
    let at = c.loop-at.at in
    let place : at + 1 - 1 ≡ at = omega arith in
    let long : at + 1 - at ≡ 1 = omega arith in
    let one : take 1 (drop at text) ≡ get_or text at 0 ∷ [] = ap (take 1) (drop_more text at 0 c.loop-at-test.true) in (
      get_or text at 0 ∷ [],
      subst (λ s. g.S.Sink.given s c.put.new.self (get_or text at 0 ∷ [])) c.loop-at.invariant.sink (rw (place, long, one) at c.put.ensures),
      λ model t out items h.
          let now = c.loop-at.invariant.through model t out items h in
          let fed = rw c.in-Ok.is at c.feed.ensures.fed model (t ++ take at text) out now.0 now.1 in (
            now.0 ++ fed.more,
            subst (λ o. IsThrough model c.feed.new.self (t ++ take (at + 1) text) (now.0 ++ fed.more)
                (out ++ byte_output_text o (get_or text at 0))) c.in-Literal.is
                (byte_taken model c.feed.new.self t out text at c.loop-at-test.true now.0 c.in-Ok.output fed),
          ),
    )

pub returns-in-Output-clause-put : goal.returns-in-Output-clause-put
returns-in-Output-clause-put g c =
    let text = c.args.text.now in
    let at = c.loop-at.at in (
      output_text c.in-Output.output,
      subst (λ s. g.S.Sink.given s c.put-in-Output.new.sink (output_text c.in-Output.output)) c.loop-at.invariant.sink c.put-in-Output.ensures,
      λ model t out items h.
          let now = c.loop-at.invariant.through model t out items h in
          let fed = rw c.in-Ok.is at c.feed.ensures.fed model (t ++ take at text) out now.0 now.1 in (
            now.0 ++ fed.more,
            subst (λ o. IsThrough model c.feed.new.self (t ++ take (at + 1) text) (now.0 ++ fed.more)
                (out ++ byte_output_text o (get_or text at 0))) c.in-Output.is
                (byte_taken model c.feed.new.self t out text at c.loop-at-test.true now.0 c.in-Ok.output fed),
          ),
    )

pub returns-clause-put : goal.returns-clause-put
returns-clause-put g c = (
  [],
  subst (λ s. g.S.Sink.given c.args.sink.now s []) (sym c.loop-at.invariant.sink) (g.met.S.Sink.laws.none c.args.sink.now),
  λ model t out items h.
      let now = c.loop-at.invariant.through model t out items h in
      (now.0, subst (IsThrough model c.loop-at.self (t ++ take c.loop-at.at c.args.text.now) now.0) (sym (append-nil out)) now.1),
)
