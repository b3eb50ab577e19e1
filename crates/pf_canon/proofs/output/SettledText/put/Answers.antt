use Rattle.std.proofs.Common.{◌++◌, replicate}
use Rattle.std.specs.Prelude.{flat_map}
use Rattle.pf_values.specs.meaning.Canonical.{item_spelling}
use Rattle.pf_values.specs.meaning.Text.{space, zero_digit}
use Rattle.pf_text.specs.CanonicalRuns.{silents}
use Rattle.pf_canon.specs.Output.{text_after_zeros}
use Rattle.pf_canon.proofs.output.SettledText.put.Goals as goal

pub returns : goal.returns
returns g c =
    let p = c.args.self.now in
    let both = g.met.S.Sink.laws.both in
    let last = c.put_repeated-3.new.sink in
    both c.args.sink.now c.put_repeated.new.sink last (replicate p.spaces space) (replicate p.zeros zero_digit ++ text_after_zeros p)
    (c.put_repeated.ensures space c.spaces.ensures)
    (both c.put_repeated.new.sink c.put_repeated-2.new.sink last (replicate p.zeros zero_digit) (text_after_zeros p)
    (c.put_repeated-2.ensures zero_digit c.zeros.ensures)
    (both c.put_repeated-2.new.sink c.put_silents.new.sink last (flat_map item_spelling (silents p.silents))
    (p.spelling.items ++ replicate p.trail space) c.put_silents.ensures
    (both c.put_silents.new.sink c.put.new.self last p.spelling.items (replicate p.trail space) (rw c.deref.ensures.0 at c.put.ensures)
    (c.put_repeated-3.ensures space c.spaces-2.ensures))))
