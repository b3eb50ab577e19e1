use Rattle.std.proofs.Common.{refl, arith, rules, subst, sym, []}
use Rattle.pf_text.specs.declared.pieces.Pieces.{Pieces}
use Rattle.pf_compare.specs.TypeLists.{HasGivenTypes}
use Rattle.pf_compare.proofs.TypeListLemmas.{differ_after, differ_here, not_refused, same_lists_of, stepped, taken_all, taken_more, taken_same}
use Rattle.pf_compare.proofs.differences.first_type_difference.Goals as goal

pub loop-piece-init : goal.loop-piece-init
loop-piece-init c = record {
  can = tt;
  finite = tt;
  bound = omega arith;
  steps = record {
    done = [];
    first_taken = subst (λ (pieces : Pieces). HasGivenTypes c.args.model pieces c.args.first.now []) (sym c.into_iter-piece-iterator.ensures.into_iter_gives)
        (record { read = []; items = []; given = c.new-piece-items.ensures; types_are = refl });
    second_taken = record { read = []; items = []; given = c.new-second_pieces.ensures; types_are = refl };
    count = refl;
  };
}

pub returns-then-not-is_type : goal.returns-then-not-is_type
returns-then-not-is_type c =
    let s = c.loop-piece.invariant.steps in
    λ xs ys a b.
    differ_here c.args.model c.next.new.self c.next_type.new.pieces c.args.first.now c.args.second.now s.done c.loop-piece.index c.in-Some-arg_type.wanted
    c.next_type.result xs ys s.count
    (taken_more c.args.model c.loop-piece.piece-iterator c.next.new.self c.args.first.now s.done s.first_taken c.in-Some.piece c.in-Some.ensures.steps
    c.in-Ok.piece _ c.in-Ok.is c.in-Some-arg_type.ensures)
    (c.next_type.ensures c.args.second.now s.done c.requires.second s.second_taken) (c.is_type.ensures.other (rw c.if-not-is_type.true (search rules))) a b

pub loop-piece-preserved-in-Some-arg_type : goal.loop-piece-preserved-in-Some-arg_type
loop-piece-preserved-in-Some-arg_type c =
    let s = c.loop-piece.invariant.steps in
    let less = (c.in-Some.ensures.goes.on c.loop-piece.iterator.1).2 in
    record {
      can = tt;
      finite = tt;
      bound = omega (arith, c.loop-piece.invariant.bound, less);
      steps = stepped c.args.model c.next.new.self c.next_type.new.pieces c.args.first.now c.args.second.now s.done c.loop-piece.index c.in-Some-arg_type.wanted
          c.next_type.result s.count
          (taken_more c.args.model c.loop-piece.piece-iterator c.next.new.self c.args.first.now s.done s.first_taken c.in-Some.piece c.in-Some.ensures.steps
          c.in-Ok.piece _ c.in-Ok.is c.in-Some-arg_type.ensures)
          (c.next_type.ensures c.args.second.now s.done c.requires.second s.second_taken) (c.is_type.ensures.yes (rw c.if-not-is_type.false (search rules)));
    }

pub loop-piece-preserved : goal.loop-piece-preserved
loop-piece-preserved c =
    let s = c.loop-piece.invariant.steps in
    let less = (c.in-Some.ensures.goes.on c.loop-piece.iterator.1).2 in
    record {
      can = tt;
      finite = tt;
      bound = omega (arith, c.loop-piece.invariant.bound, less);
      steps = record {
        done = s.done;
        first_taken = taken_same c.args.model c.loop-piece.piece-iterator c.next.new.self c.args.first.now s.done s.first_taken c.in-Some.piece
            c.in-Some.ensures.steps c.in-Ok.piece c.in-Ok.is c.in_default.ensures;
        second_taken = s.second_taken;
        count = s.count;
      };
    }

pub unreachable-requires : goal.unreachable-requires
unreachable-requires c =
    let s = c.loop-piece.invariant.steps in
    not_refused c.args.model c.loop-piece.piece-iterator c.next.new.self c.args.first.now s.done s.first_taken c.in-Some.piece c.in-Some.ensures.steps
    c.requires.first c.in-Err.field-0 c.in-Err.is

pub returns-in-Some-next_type : goal.returns-in-Some-next_type
returns-in-Some-next_type c =
    let s = c.loop-piece.invariant.steps in
    λ xs ys a b.
    differ_after c.args.model c.next_type-2.new.pieces c.args.first.now c.args.second.now s.done c.loop-piece.index c.in-Some-next_type.field-0 xs ys s.count
    (taken_all c.args.model c.loop-piece.piece-iterator c.next.new.self c.args.first.now s.done s.first_taken c.in-None.ensures.steps)
    (c.in-Some-next_type.ensures c.args.second.now s.done c.requires.second s.second_taken) a b

pub returns-in-None-next_type : goal.returns-in-None-next_type
returns-in-None-next_type c =
    let s = c.loop-piece.invariant.steps in
    λ xs ys a b.
    same_lists_of c.args.model c.args.first.now c.args.second.now s.done xs ys
    (taken_all c.args.model c.loop-piece.piece-iterator c.next.new.self c.args.first.now s.done s.first_taken c.in-None.ensures.steps)
    (c.in-None-next_type.ensures c.args.second.now s.done c.requires.second s.second_taken) a b
