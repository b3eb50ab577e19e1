use Rattle.std.proofs.Common.{refl}
use Rattle.std.proofs.lemmas.List.{append-nil}
use Rattle.pf_canon.proofs.SliceLemmas.{midway_at}
use Rattle.pf_canon.proofs.canonical_slices.CanonicalSlices.new.Goals as goal

pub returns : goal.returns
returns g c given h = record {
  model_is = refl;
  text_is = refl;
  by = rw (append-nil given) (midway_at g.L.Language.has_front c.args.model c.args.text.now c.new-walk.result c.args.place given c.new-walk.ensures.over h);
}
