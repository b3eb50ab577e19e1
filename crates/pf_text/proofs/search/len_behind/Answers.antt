use Rattle.memchr.specs.Find.{is_byte2}
use Rattle.pf_text.proofs.SearchLemmas.{found_behind, none_behind}
use Rattle.pf_text.proofs.search.len_behind.Goals as goal

pub returns-in-Some-clause-none : goal.returns-in-Some-clause-none
returns-in-Some-clause-none c = (found_behind (is_byte2 37 0) c.args.text.now c.args.seen c.requires.within c.requires.none c.in-Some.more
    c.in-Some.ensures).0.before

pub returns-in-None-clause-none : goal.returns-in-None-clause-none
returns-in-None-clause-none c = none_behind (is_byte2 37 0) c.args.text.now c.args.seen c.requires.within c.requires.none c.in-None.ensures
