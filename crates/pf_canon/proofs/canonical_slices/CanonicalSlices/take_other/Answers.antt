use Rattle.std.proofs.Common.{◌++◌, ap, arith, drop, length, subst, sym, ◌∙◌}
use Rattle.std.specs.Prelude.{flat_map}
use Rattle.std.proofs.lemmas.List.{length-append}
use Rattle.pf_values.specs.meaning.Canonical.{item_spelling}
use Rattle.pf_text.specs.CanonicalRuns.{silents}
use Rattle.pf_text.specs.FoundDirectives.{BeginsNoItem}
use Rattle.pf_canon.specs.CanonicalSlices.{IsMidway}
use Rattle.pf_canon.specs.Languages.{HasCanonicalIn}
use Rattle.pf_canon.proofs.OutputLemmas.{length-silents, silents_alone}
use Rattle.pf_canon.proofs.SliceLemmas.{alone, at_end, here, midway_of, midway_within, other_taken}
use Rattle.pf_canon.proofs.canonical_slices.CanonicalSlices.take_other.Goals as goal

pub other_at-requires-clause-within : goal.other_at-requires-clause-within
other_at-requires-clause-within g c =
    let w = c.args.self.now in
    let (given, h) = c.requires.slices in
    let m = midway_of g.L.Language.has_front g.L.Language.refuses w.model w w.text.now given c.requires.open c.requires.none h in
    (midway_within g.L.Language.has_front w.model w.text.now w.walk w.held given m w.walk.at m.within).0

pub other_at-requires-clause-front : goal.other_at-requires-clause-front
other_at-requires-clause-front g c =
    let w = c.args.self.now in
    let (given, h) = c.requires.slices in
    let m = midway_of g.L.Language.has_front g.L.Language.refuses w.model w w.text.now given c.requires.open c.requires.none h in
    (_, here g.L.Language.has_front w.model w.text.now w.walk w.held given m)

pub other_at-requires-clause-none : goal.other_at-requires-clause-none
other_at-requires-clause-none g c =
    let w = c.args.self.now in
    let (given, h) = c.requires.slices in
    let m = midway_of g.L.Language.has_front g.L.Language.refuses w.model w w.text.now given c.requires.open c.requires.none h in
    subst (λ t. BeginsNoItem (drop w.walk.at t)) m.over.text_is c.requires.stops

pub returns-in-Ok-Some-clause-given : goal.returns-in-Ok-Some-clause-given
returns-in-Ok-Some-clause-given g c model text given h =
    let w = c.args.self.now in
    let has_front = g.L.Language.has_front in
    let m = midway_of has_front g.L.Language.refuses model w text given c.requires.open c.requires.none h in
    let other = c.in-Ok-Some.other in
    let held = flat_map item_spelling (silents w.held) in
    let next = rw (h.model_is, h.text_is, c.in-Ok-Some.field-0-is) at c.in-Ok-Some.ensures.next in
    let placed = rw (h.text_is, c.in-Ok-Some.field-0-is) at c.in-Ok-Some.ensures.placed in
    let now = other_taken has_front model text w.walk w.held given m other.stop other.spelling.items
    (next (given ++ held) (here has_front model text w.walk w.held given m))
    placed.0 placed.1 placed.2 placed.3 in
    record {
      model_is = h.model_is;
      text_is = h.text_is;
      by = rw c.requires.open (subst (λ u. IsMidway has_front model (record w.walk { at = other.stop }) 0 text (given ++ u))
          (sym (alone w c.of-self.result (held ++ other.spelling.items) c.requires.none (c.of-self.ensures ∙ c.spelled.ensures))) now);
    }

pub returns-in-Ok-Some-clause-fewer : goal.returns-in-Ok-Some-clause-fewer
returns-in-Ok-Some-clause-fewer g c =
    let w = c.args.self.now in
    let other = c.in-Ok-Some.other in
    let held = flat_map item_spelling (silents w.held) in
    let placed = rw c.in-Ok-Some.field-0-is at c.in-Ok-Some.ensures.placed in
    rw c.requires.open (omega (
      arith,
      placed.0,
      placed.1,
      placed.3,
      length-append held other.spelling.items,
      length-silents w.held,
      ap length (alone w c.of-self.result (held ++ other.spelling.items) c.requires.none (c.of-self.ensures ∙ c.spelled.ensures)),
    ))

pub returns-in-Ok-None-clause-given : goal.returns-in-Ok-None-clause-given
returns-in-Ok-None-clause-given g c model text given h =
    let w = c.args.self.now in
    let has_front = g.L.Language.has_front in
    let m = midway_of has_front g.L.Language.refuses model w text given c.requires.open c.requires.none h in
    let held = flat_map item_spelling (silents w.held) in
    let next = rw (h.model_is, h.text_is, c.in-Ok-None.field-0-is) at c.in-Ok-None.ensures.next in
    let end = next (given ++ held) (here has_front model text w.walk w.held given m) in
    let is = silents_alone w.held c.new.result.items (c.of-self-in-Ok-None.ensures ∙ c.spelled-in-Ok-None.ensures) c.new.ensures in
    record {
      model_is = h.model_is;
      text_is = h.text_is;
      by = subst (λ u. HasCanonicalIn has_front model text (given ++ u)) (sym (alone w c.of-self-in-Ok-None.result held c.requires.none is))
          (at_end has_front model text w.walk w.held given m end);
    }

pub returns-in-Ok-None-clause-fewer : goal.returns-in-Ok-None-clause-fewer
returns-in-Ok-None-clause-fewer g c =
    let w = c.args.self.now in
    let held = flat_map item_spelling (silents w.held) in
    let is = silents_alone w.held c.new.result.items (c.of-self-in-Ok-None.ensures ∙ c.spelled-in-Ok-None.ensures) c.new.ensures in
    rw c.requires.open (omega (arith, length-silents w.held, ap length (alone w c.of-self-in-Ok-None.result held c.requires.none is)))

pub returns-in-Err-clause-given : goal.returns-in-Err-clause-given
returns-in-Err-clause-given g c model text given h =
    let w = c.args.self.now in
    let has_front = g.L.Language.has_front in
    let m = midway_of has_front g.L.Language.refuses model w text given c.requires.open c.requires.none h in
    let next = rw (h.model_is, h.text_is) at c.in-Err.ensures.next in
    record { model_is = h.model_is; text_is = h.text_is; by = next _ (here has_front model text w.walk w.held given m) }
