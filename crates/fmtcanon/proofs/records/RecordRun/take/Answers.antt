use Rattle.std.proofs.Common.{◌≡◌, ◌∙◌, ◌+◌, ◌-◌, ◌++◌, None, Some, ap, arith, drop, length-drop, subst, take}
use Rattle.std.proofs.lemmas.List.{take_rest}
use Rattle.memchr.specs.Find.{IsFirstByte, is_byte}
use Rattle.fmtcanon.proofs.RecordSteps.{part_refused, part_taken, record_stopped, record_taken}
use Rattle.fmtcanon.proofs.records.RecordRun.take.Goals as goal

pub returns-in-Err : goal.returns-in-Err
returns-in-Err g c =
    let block = c.args.block.now in
    let at = c.loop-len.at in
    let found = subst (λ t. IsFirstByte (is_byte 0) t (Some c.in-Some.len)) (take_rest block at) c.in-Some.ensures in
    let bytes_are : take ((at + c.in-Some.len) - at) (drop at block) ≡ take c.in-Some.len (drop at block) =
    ap (λ n. take n (drop at block)) (omega arith) in
    λ asked start taken h.
    record_stopped asked g.W.Write.contents c.loop-len.self start c.loop-len.writer taken block at
    (c.loop-len.invariant.at asked start taken h) c.in-Some.len found _ bytes_are c.take_record.new.self c.take_record.new.writer
    c.in-Err.fault (λ whole rest is. c.in-Err.ensures asked start whole rest is)

pub loop-len-preserved : goal.loop-len-preserved
loop-len-preserved g c =
    let block = c.args.block.now in
    let at = c.loop-len.at in
    let found = subst (λ t. IsFirstByte (is_byte 0) t (Some c.in-Some.len)) (take_rest block at) c.in-Some.ensures in
    let high = found.0.high in
    let bytes_are : take ((at + c.in-Some.len) - at) (drop at block) ≡ take c.in-Some.len (drop at block) =
    ap (λ n. take n (drop at block)) (omega arith) in
    record {
      within = omega (arith, high, length-drop at block);
      at = λ asked start taken h.
          record_taken asked g.W.Write.contents c.loop-len.self start c.loop-len.writer taken block at
          (c.loop-len.invariant.at asked start taken h) c.in-Some.len found _ bytes_are c.take_record.new.self c.take_record.new.writer
          (λ whole rest is. c.in_default-take_record.ensures asked start whole rest is);
    }

pub returns-in-Ok : goal.returns-in-Ok
returns-in-Ok g c =
    let block = c.args.block.now in
    let at = c.loop-len.at in
    let run = c.loop-len.self in
    let none = subst (λ t. IsFirstByte (is_byte 0) t None) (take_rest block at) c.in_default.ensures in
    let part = c.in-Ok.ensures.part ∙ ap (λ t. run.part.items ++ t) (take_rest block at) in
    λ asked start taken h.
    part_taken asked g.W.Write.contents run start c.loop-len.writer taken block at (c.loop-len.invariant.at asked start taken h) none
    c.extend.new.self c.in-Ok.ensures.answers part

pub returns-in-Err-extend : goal.returns-in-Err-extend
returns-in-Err-extend g c =
    let block = c.args.block.now in
    let at = c.loop-len.at in
    let none = subst (λ t. IsFirstByte (is_byte 0) t None) (take_rest block at) c.in_default.ensures in
    λ asked start taken h.
    part_refused asked g.W.Write.contents c.loop-len.self start c.loop-len.writer taken block at
    (c.loop-len.invariant.at asked start taken h) none c.extend.new.self c.in-Err-extend.ensures.answers
