use Rattle.std.proofs.Common.{◌≤◌, ◌+◌, [], ◌∷◌, arith, inl, inr, length}
use Rattle.std.proofs.lemmas.Bool.{cases_lt}
use Rattle.pf_text.proofs.SignatureLemmas.{all_found, found_same, more_found, no_success, pushed, refused, too_many}
use Rattle.pf_text.proofs.argument_types.push_types.Goals as goal

pub returns-in-Err : goal.returns-in-Err
returns-in-Err g c = (refused c.args.model c.loop-piece.piece-iterator c.next.new.self c.args.text.now c.loop-piece.found.items c.loop-piece.invariant.found
    c.in-Some.piece c.in-Some.ensures.steps c.in-Err.refusal c.in-Err.is).refused

pub returns-then-is_err : goal.returns-then-is_err
returns-then-is_err g c =
    let found = c.loop-piece.found in
    let full : 8 ≤ length found.items = elim (cases_lt found.capacity (length found.items + 1)) [
      | inl less ↦ omega (arith, c.loop-piece.invariant.room)
      | inr room ↦ absurd (no_success c.push.result c.if-is_err.ensures.value (c.push.ensures.succeeds room))
    ] in
    too_many c.args.model c.loop-piece.piece-iterator c.next.new.self c.args.text.now found.items c.loop-piece.invariant.found c.in-Some.piece
    c.in-Some.ensures.steps c.in-Ok.piece c.in-Some-arg_type.arg_type c.in-Ok.is c.in-Some-arg_type.ensures full

pub loop-piece-preserved-else-is_err : goal.loop-piece-preserved-else-is_err
loop-piece-preserved-else-is_err g c =
    let more = more_found c.args.model c.loop-piece.piece-iterator c.next.new.self c.args.text.now c.loop-piece.found.items c.loop-piece.invariant.found
    c.in-Some.piece c.in-Some.ensures.steps c.in-Ok.piece (c.in-Some-arg_type.arg_type ∷ []) c.in-Ok.is c.in-Some-arg_type.ensures in
    record {
      can = tt;
      finite = tt;
      found = pushed c.args.model c.next.new.self c.args.text.now c.loop-piece.found.items
          (c.in-Some-arg_type.arg_type ∷ []) c.push.new.self.items c.push.result c.if-is_err.ensures.value c.push.ensures.ok more;
      room = omega (arith, c.loop-piece.invariant.room, c.push.ensures.capacity);
    }

pub loop-piece-preserved : goal.loop-piece-preserved
loop-piece-preserved g c =
    let more = more_found c.args.model c.loop-piece.piece-iterator c.next.new.self c.args.text.now c.loop-piece.found.items c.loop-piece.invariant.found
    c.in-Some.piece c.in-Some.ensures.steps c.in-Ok.piece [] c.in-Ok.is c.in_default.ensures in
    record {
      can = tt;
      finite = tt;
      found = found_same c.args.model c.next.new.self c.args.text.now c.loop-piece.found.items more;
      room = c.loop-piece.invariant.room;
    }

pub returns : goal.returns
returns g c = all_found c.args.model c.loop-piece.piece-iterator c.next.new.self c.args.text.now c.loop-piece.found.items c.loop-piece.invariant.found
    c.in-None.ensures.steps
