use Rattle.std.proofs.Common.{refl, sym}
use Rattle.pf_posix.proofs.HaltLemmas.{star_missing, star_mixed, star_open, star_over}
use Rattle.pf_posix.proofs.PartLemmas.{known_number, position_read}
use Rattle.pf_posix.proofs.SpecificationsOnce.{no_number}
use Rattle.pf_posix.proofs.specifications.star_number_at.Goals as goal

pub returns-then-has_digit-clause-halt : goal.returns-then-has_digit-clause-halt
returns-then-has_digit-clause-halt c = λ begin numbering before own h takes follows.
    let digit = c.if-has_digit.ensures in
    star_mixed c.args.text.now c.args.start begin numbering c.args.position c.args.too_large before own h takes follows c.refusal.result c.refusal.ensures
    (digit.within refl) (sym digit.same) (no_number c.args.position c.if-is_none.ensures)

pub returns-in_default-clause-halt : goal.returns-in_default-clause-halt
returns-in_default-clause-halt c = λ begin numbering before own h takes follows.
    let number = c.number_at-number in
    let k = known_number c.args.position c.if-is_none.ensures in
    star_missing c.args.text.now c.args.start begin numbering c.args.position c.args.too_large before own h takes follows k.0 k.1 number.result.1
    c.stray_at.result (rw c.in_default.is at number.ensures.bytes) (rw c.in_default.is at number.ensures.ended) c.stray_at.ensures

pub returns-then-has_digit-2-clause-halt : goal.returns-then-has_digit-2-clause-halt
returns-then-has_digit-2-clause-halt c = λ begin numbering before own h takes follows.
    let number = c.number_at-number in
    let digit = c.if-has_digit-2.ensures in
    let k = known_number c.args.position c.if-is_none.ensures in
    star_over c.args.text.now c.args.start begin numbering c.args.position c.args.too_large before own h takes follows k.0 k.1 c.in-Some.number number.result.1
    (rw c.in-Some.is at number.ensures.bytes) (rw c.in-Some.is at number.ensures.some) (rw c.in-Some.is at number.ensures.small)
    (rw c.in-Some.is at number.ensures.ended) c.refusal-then-has_digit-2.result c.refusal-then-has_digit-2.ensures (digit.within refl) (sym digit.same)

pub returns-then-not-has_byte-clause-halt : goal.returns-then-not-has_byte-clause-halt
returns-then-not-has_byte-clause-halt c = λ begin numbering before own h takes follows.
    let number = c.number_at-number in
    let k = known_number c.args.position c.if-is_none.ensures in
    star_open c.args.text.now c.args.start begin numbering c.args.position c.args.too_large before own h takes follows k.0 k.1 c.in-Some.number number.result.1
    (rw c.in-Some.is at number.ensures.bytes) (rw c.in-Some.is at number.ensures.some) (rw c.in-Some.is at number.ensures.small)
    (rw c.in-Some.is at number.ensures.ended) c.stray_at-then-not-has_byte.result c.stray_at-then-not-has_byte.ensures (sym c.if-has_digit-2.ensures.same)
    (sym c.if-not-has_byte.ensures.same)

pub returns-clause-bytes : goal.returns-clause-bytes
returns-clause-bytes c =
    let number = c.number_at-number in
    let dollar = c.if-not-has_byte.ensures in
    let read = position_read c.args.text.now c.args.start c.in-Some.number number.result.1 (rw c.in-Some.is at number.ensures.bytes)
    (rw c.in-Some.is at number.ensures.some) (rw c.in-Some.is at number.ensures.small) (rw c.in-Some.is at number.ensures.ended) (dollar.within refl)
    (sym dollar.same) in
    (read.0, read.1, sym c.if-is_none.ensures, read.2)
