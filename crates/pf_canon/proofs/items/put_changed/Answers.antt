use Rattle.std.proofs.Common.{[]}
use Rattle.pf_canon.proofs.PutLemmas.{kept_put, letters_put}
use Rattle.pf_canon.proofs.items.put_changed.Goals as goal

pub returns-then-is_kept-clause-written : goal.returns-then-is_kept-clause-written
returns-then-is_kept-clause-written g c =
    let d = c.args.directive.now in
    let own = rw c.if-is_kept.true at c.is_kept.ensures in (
      [],
      g.met.S.Sink.laws.none c.args.sink.now,
      kept_put c.args.model c.args.text.now c.args.at d.found c.requires.front.0 c.args.from c.requires.within.0
          (rw own.0 at c.requires.front.1) own.1,
    )

pub returns-in-Letters-clause-written : goal.returns-in-Letters-clause-written
returns-in-Letters-clause-written g c = (
  _,
  c.put_letters.ensures,
  letters_put c.args.model c.args.text.now c.args.at c.args.directive.now.found c.requires.front.0 c.args.from c.requires.within.0
      (rw c.in-Letters.is at c.requires.front.1),
)
