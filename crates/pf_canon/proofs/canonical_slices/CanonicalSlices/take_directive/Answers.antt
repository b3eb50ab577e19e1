use Rattle.std.proofs.Common.{◌++◌, ap, arith, length, subst, sym}
use Rattle.pf_canon.specs.CanonicalSlices.{IsMidway}
use Rattle.pf_canon.specs.Output.{output_text}
use Rattle.pf_canon.proofs.SliceLemmas.{alone, directive_taken, midway_of, midway_within}
use Rattle.pf_canon.proofs.canonical_slices.CanonicalSlices.take_directive.Goals as goal

pub returns-clause-given : goal.returns-clause-given
returns-clause-given g c model text given h =
    let w = c.args.self.now in
    let found = c.args.found.now in
    let has_front = g.L.Language.has_front in
    let output = c.settle-output in
    let settled = output_text output.result in
    let m = midway_of has_front g.L.Language.refuses model w text given c.requires.open c.requires.none h in
    let now = directive_taken has_front model text w.walk w.held given m found output.new.held settled c.requires.found output.ensures.one output.ensures.few
    (rw h.model_is at output.ensures.settles) in
    record {
      model_is = h.model_is;
      text_is = h.text_is;
      by = rw c.requires.open (subst (λ u. IsMidway has_front model (record w.walk { at = found.stop }) output.new.held text (given ++ u))
          (sym (alone w c.of-self.result settled c.requires.none c.of-self.ensures)) now);
    }

pub returns-clause-less : goal.returns-clause-less
returns-clause-less g c =
    let w = c.args.self.now in
    let there = c.requires.found in
    let stop = c.args.found.now.stop in
    let (given, h) = c.requires.slices in
    let m = midway_of g.L.Language.has_front g.L.Language.refuses w.model w w.text.now given c.requires.open c.requires.none h in
    let within = midway_within g.L.Language.has_front w.model w.text.now w.walk w.held given m stop there.within in
    omega (arith, there.some, within.0)

pub returns-clause-fewer : goal.returns-clause-fewer
returns-clause-fewer g c =
    let w = c.args.self.now in
    let there = c.requires.found in
    let stop = c.args.found.now.stop in
    let (given, h) = c.requires.slices in
    let m = midway_of g.L.Language.has_front g.L.Language.refuses w.model w w.text.now given c.requires.open c.requires.none h in
    let within = midway_within g.L.Language.has_front w.model w.text.now w.walk w.held given m stop there.within in
    rw c.requires.open (omega (
      arith,
      there.some,
      within.0,
      c.settle-output.ensures.few,
      ap length (alone w c.of-self.result (output_text c.settle-output.result) c.requires.none c.of-self.ensures),
    ))
