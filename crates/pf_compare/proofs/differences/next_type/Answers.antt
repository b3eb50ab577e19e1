use Rattle.pf_compare.proofs.TypeListLemmas.{not_refused, taken_all, taken_more, taken_same}
use Rattle.pf_compare.proofs.differences.next_type.Goals as goal

pub returns-in-Some-arg_type : goal.returns-in-Some-arg_type
returns-in-Some-arg_type c = λ t done accepted h.
    taken_more c.args.model c.loop-piece.pieces c.next.new.self t done
    (c.loop-piece.invariant t done accepted h) c.in-Some.piece c.in-Some.ensures.steps c.in-Ok.piece _ c.in-Ok.is c.in-Some-arg_type.ensures

pub loop-piece-preserved-in_default-arg_type : goal.loop-piece-preserved-in_default-arg_type
loop-piece-preserved-in_default-arg_type c = λ t done accepted h.
    taken_same c.args.model c.loop-piece.pieces c.next.new.self t done
    (c.loop-piece.invariant t done accepted h) c.in-Some.piece c.in-Some.ensures.steps c.in-Ok.piece c.in-Ok.is c.in_default-arg_type.ensures

pub loop-piece-preserved : goal.loop-piece-preserved
loop-piece-preserved c = λ t done accepted h.
    absurd (not_refused c.args.model c.loop-piece.pieces c.next.new.self t done
    (c.loop-piece.invariant t done accepted h) c.in-Some.piece c.in-Some.ensures.steps accepted c.in_default-piece.field-0 c.in_default-piece.is)

pub returns : goal.returns
returns c = λ t done accepted h. taken_all c.args.model c.loop-piece.pieces c.next.new.self t done
    (c.loop-piece.invariant t done accepted h) c.in_default.ensures.steps
