use Rattle.fmtcanon_c.proofs.EndedLemmas.{word_fits, word_put}
use Rattle.fmtcanon_c.proofs.words.put_each_word.Goals as goal

pub put_word-at-requires : goal.put_word-at-requires
put_word-at-requires c =
    let l = c.loop-argument in
    word_fits c.args.shown.now l.argument-index l.at _ _ c.argument-item.is c.loop-argument-test.true c.args.out.now l.out l.invariant.0 l.invariant.1
    c.requires

pub loop-argument-preserved : goal.loop-argument-preserved
loop-argument-preserved c =
    let l = c.loop-argument in
    word_put c.args.shown.now l.argument-index l.at _ _ c.argument-item.is c.loop-argument-test.true c.args.out.now l.out l.invariant.0 l.invariant.1
    c.requires _ _ c.put_word-at.ensures.end c.put_word-at.ensures.put
