use Rattle.std.proofs.Common.{◌++◌, ◌-◌, ap, arith, drop, length, refl, subst, sym, ◌∙◌}
use Rattle.std.proofs.lemmas.List.{append-nil, length-append, length-take}
use Rattle.pf_canon.specs.CanonicalSlices.{IsMidway}
use Rattle.pf_canon.specs.ChangedDirectives.{between}
use Rattle.pf_canon.specs.Making.{IsBetweenRuns}
use Rattle.pf_canon.specs.Output.{pending_text}
use Rattle.pf_canon.proofs.SliceLemmas.{midway_of, midway_within, none_both, verbatim_taken}
use Rattle.pf_canon.proofs.canonical_slices.CanonicalSlices.take_verbatim.Goals as goal

pub returns-then-stop-from-clause-taken : goal.returns-then-stop-from-clause-taken
returns-then-stop-from-clause-taken g c =
    let w = c.args.self.now in
    (refl, subst (IsBetweenRuns w.walk.text.now) c.if-stop-from.true c.verbatim_end-stop.ensures.next)

pub returns-clause-given : goal.returns-clause-given
returns-clause-given g c model text given h =
    let w = c.args.self.now in
    let has_front = g.L.Language.has_front in
    let stop = c.verbatim_end-stop.result in
    let end = c.verbatim_end-stop.ensures in
    let m = midway_of has_front g.L.Language.refuses model w text given c.requires.open c.requires.none h in
    let bytes = between w.walk.at stop w.walk.text.now in
    let none = (none_both w.bytes.now (pending_text w.output) c.requires.none).1 in
    let now = verbatim_taken has_front model text w.walk w.held given m stop end.within.0 end.within.1 (rw h.model_is at end.written) in
    record {
      model_is = h.model_is;
      text_is = h.text_is;
      by = rw (c.requires.open, c.text-text.ensures) (subst (λ u. IsMidway has_front model (record w.walk { at = stop }) w.held text (given ++ u))
          (sym (ap (λ u. bytes ++ u) none ∙ append-nil bytes)) now);
    }

pub returns-clause-taken : goal.returns-clause-taken
returns-clause-taken g c =
    let w = c.args.self.now in
    let stop = c.verbatim_end-stop.result in
    let end = c.verbatim_end-stop.ensures in
    let (given, h) = c.requires.slices in
    let m = midway_of g.L.Language.has_front g.L.Language.refuses w.model w w.text.now given c.requires.open c.requires.none h in
    let within = midway_within g.L.Language.has_front w.model w.text.now w.walk w.held given m stop end.within.1 in
    omega (arith, c.if-stop-from.false, end.within.0, within.0)

pub returns-clause-fewer : goal.returns-clause-fewer
returns-clause-fewer g c =
    let w = c.args.self.now in
    let stop = c.verbatim_end-stop.result in
    let end = c.verbatim_end-stop.ensures in
    let (given, h) = c.requires.slices in
    let m = midway_of g.L.Language.has_front g.L.Language.refuses w.model w w.text.now given c.requires.open c.requires.none h in
    let within = midway_within g.L.Language.has_front w.model w.text.now w.walk w.held given m stop end.within.1 in
    let bytes = between w.walk.at stop w.walk.text.now in
    let none = (none_both w.bytes.now (pending_text w.output) c.requires.none).1 in
    rw (c.requires.open, c.text-text.ensures) (omega (
      arith,
      end.within.0,
      within.0,
      length-take (stop - w.walk.at) (drop w.walk.at w.walk.text.now),
      length-append bytes (pending_text w.output),
      ap length none,
    ))
