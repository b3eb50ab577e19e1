use Rattle.std.proofs.Common.{◌≡◌, ◌<◌, ◌-◌, ◌*◌, ◌++◌, arith, ap, sym, replicate, drop, length, subst}
use Rattle.std.specs.Prelude.{flat_map}
use Rattle.std.proofs.lemmas.List.{drop-replicate, take_rest}
use Rattle.pf_values.specs.meaning.Canonical.{item_spelling}
use Rattle.pf_values.specs.meaning.Text.{space}
use Rattle.pf_text.specs.CanonicalRuns.{silents}
use Rattle.pf_canon.specs.Output.{IsFrontOf}
use Rattle.pf_canon.proofs.OutputLemmas.{length-silents}
use Rattle.pf_canon.proofs.OffsetLemmas.{front_all, front_of_first, front_of_second}
use Rattle.pf_canon.proofs.output.SettledText.front_after_zeros.Goals as goal

pub returns-then-at-silents : goal.returns-then-at-silents
returns-then-at-silents c =
    let p = c.args.self.now in
    let few : c.args.at < 4 * p.silents = omega (arith, c.if-at-silents.true, c.from-silents.ensures) in
    front_of_first (flat_map item_spelling (silents p.silents)) (p.spelling.items ++ replicate p.trail space) _ (4 * p.silents) c.args.at
    (length-silents p.silents) few (c.silent_front.ensures p.silents few)

pub returns-then-behind-spelled : goal.returns-then-behind-spelled
returns-then-behind-spelled c =
    let p = c.args.self.now in
    let n = 4 * c.from-silents.result in
    let at = c.args.at - n in
    let spelled : c.as_slice-spelling.result.now ≡ p.spelling.items = c.as_slice-spelling.ensures.value in
    rw take_rest (front_of_second (flat_map item_spelling (silents p.silents)) (p.spelling.items ++ replicate p.trail space) _ n c.args.at
    (omega (arith, length-silents p.silents, c.from-silents.ensures)) c.if-at-silents.false
    (front_of_first p.spelling.items (replicate p.trail space) _ _ at (ap length (sym spelled)) c.if-behind-spelled.true
    (subst (λ t. IsFrontOf (drop at p.spelling.items) (drop at t)) (sym spelled) (front_all (drop at p.spelling.items)))))

pub returns : goal.returns
returns c =
    let p = c.args.self.now in
    let n = 4 * c.from-silents.result in
    let at = c.args.at - n in
    let spelled : c.as_slice-spelling.result.now ≡ p.spelling.items = c.as_slice-spelling.ensures.value in
    let m = length c.as_slice-spelling.result.now in
    let left : c.saturating_sub.result ≡ p.trail - (at - m) = omega (arith, c.saturating_sub.ensures, c.from.ensures) in
    front_of_second (flat_map item_spelling (silents p.silents)) (p.spelling.items ++ replicate p.trail space) _ n c.args.at
    (omega (arith, length-silents p.silents, c.from-silents.ensures)) c.if-at-silents.false
    (front_of_second p.spelling.items (replicate p.trail space) _ m at (ap length (sym spelled)) c.if-behind-spelled.false
    (rw drop-replicate (subst (λ n. IsFrontOf (replicate n space) c.repeated.result.now) left (c.repeated.ensures space c.spaces.ensures))))
