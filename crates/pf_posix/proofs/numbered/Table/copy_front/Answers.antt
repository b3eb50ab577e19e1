use Rattle.std.proofs.Common.{◌<◌, ◌++◌, ◌∷◌, [], ◌∙◌, arith, ap, refl, sym}
use Rattle.pf_posix.specs.declared.numbered.TheConstants.{ROOM}
use Rattle.pf_posix.specs.Laws.{filled}
use Rattle.pf_posix.specs.Readings.{listed}
use Rattle.pf_posix.proofs.ListLemmas.{filled_none}
use Rattle.pf_posix.proofs.TableLemmas.{length_of_listed, listed_more}
use Rattle.pf_posix.proofs.numbered.Table.copy_front.Goals as goal

pub loop-index-init : goal.loop-index-init
loop-index-init c = record { types = λ seen h. sym (filled_none c.args.out.now); length = refl; few = omega arith }

pub loop-index-preserved : goal.loop-index-preserved
loop-index-preserved c =
    let i = c.loop-index.invariant in
    let index = c.loop-index.index in
    let room : index < ROOM = omega (arith, c.loop-index-test.true, c.requires.room) in
    record {
      types = λ seen h. c.put.ensures.filled c.args.out.now (listed seen 0 index) (i.types seen h) (length_of_listed seen index)
          ∙ ap (filled c.args.out.now) (ap (λ w. listed seen 0 index ++ w ∷ []) c.unwrap_or.ensures ∙ listed_more c.args.self.now seen index h room);
      length = c.put.ensures.length ∙ i.length;
      few = omega (arith, c.loop-index-test.true);
    }
