use Rattle.std.proofs.Common.{◌≡◌, ◌-◌, ◌++◌, sym, replicate, ◌∙◌}
use Rattle.std.proofs.lemmas.List.{drop-replicate, length-replicate}
use Rattle.pf_values.specs.meaning.Text.{space, zero_digit}
use Rattle.pf_canon.specs.Output.{text_after_zeros}
use Rattle.pf_canon.proofs.OffsetLemmas.{front_of_first, front_of_second}
use Rattle.pf_canon.proofs.output.SettledText.front.Goals as goal

pub returns-then-at-spaces : goal.returns-then-at-spaces
returns-then-at-spaces c =
    let p = c.args.self.now in
    let n = c.from-spaces.result in
    let same : n ≡ p.spaces = c.from-spaces.ensures in
    front_of_first (replicate p.spaces space) (replicate p.zeros zero_digit ++ text_after_zeros p) _ n c.args.at
    (length-replicate p.spaces space ∙ sym same) c.if-at-spaces.true
    (rw (drop-replicate c.args.at p.spaces space, ← same) (c.repeated.ensures space c.spaces.ensures))

pub returns-then-behind-zeros : goal.returns-then-behind-zeros
returns-then-behind-zeros c =
    let p = c.args.self.now in
    let n = c.from-spaces.result in
    let m = c.from-zeros.result in
    let same : n ≡ p.spaces = c.from-spaces.ensures in
    let zeros : m ≡ p.zeros = c.from-zeros.ensures in
    front_of_second (replicate p.spaces space) (replicate p.zeros zero_digit ++ text_after_zeros p) _ n c.args.at
    (length-replicate p.spaces space ∙ sym same) c.if-at-spaces.false
    (front_of_first (replicate p.zeros zero_digit) (text_after_zeros p) _ m (c.args.at - n)
    (length-replicate p.zeros zero_digit ∙ sym zeros) c.if-behind-zeros.true
    (rw (drop-replicate (c.args.at - n) p.zeros zero_digit, ← zeros) (c.repeated-then-behind-zeros.ensures zero_digit c.zeros.ensures)))

pub returns : goal.returns
returns c =
    let p = c.args.self.now in
    let n = c.from-spaces.result in
    let m = c.from-zeros.result in
    let same : n ≡ p.spaces = c.from-spaces.ensures in
    let zeros : m ≡ p.zeros = c.from-zeros.ensures in
    front_of_second (replicate p.spaces space) (replicate p.zeros zero_digit ++ text_after_zeros p) _ n c.args.at
    (length-replicate p.spaces space ∙ sym same) c.if-at-spaces.false
    (front_of_second (replicate p.zeros zero_digit) (text_after_zeros p) _ m (c.args.at - n)
    (length-replicate p.zeros zero_digit ∙ sym zeros) c.if-behind-zeros.false c.front_after_zeros.ensures)
