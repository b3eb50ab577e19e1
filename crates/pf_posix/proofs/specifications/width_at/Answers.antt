use Rattle.std.proofs.Common.{[], ◌+◌, Some, ◌∷◌, refl, sym}
use Rattle.pf_values.specs.meaning.Spelling.{width_spelled}
use Rattle.pf_text.proofs.SpecificationLemmas.{bytes_join, bytes_one}
use Rattle.pf_posix.proofs.HaltLemmas.{width_halts}
use Rattle.pf_posix.proofs.PartLemmas.{byte_is, numeral_read}
use Rattle.pf_posix.proofs.specifications.width_at.Goals as goal

pub returns-in-Err-clause-halt : goal.returns-in-Err-clause-halt
returns-in-Err-clause-halt c = λ begin numbering before set h spelled follows.
    let t = c.args.text.now in
    let start = c.args.start in
    let star = c.if-has_byte.ensures in
    c.in-Err.ensures.halt begin numbering before []
    (bytes_join t begin start (start + 1) before (42 ∷ []) h (bytes_one t start 42 (star.within refl) (byte_is t start 42 (sym star.same))))
    (set, spelled, refl)
    follows

pub returns-clause-bytes : goal.returns-clause-bytes
returns-clause-bytes c =
    let number = c.number_at-number in
    let bytes = rw c.in-Some.is at number.ensures.bytes in (
      width_spelled (Some c.in-Some.number),
      numeral_read c.args.text.now c.args.start c.in-Some.number number.result.1 bytes
          (rw c.in-Some.is at number.ensures.some) (rw c.in-Some.is at number.ensures.small) (rw c.in-Some.is at number.ensures.ended),
      bytes,
    )

pub returns-then-has_digit-clause-halt : goal.returns-then-has_digit-clause-halt
returns-then-has_digit-clause-halt c = λ begin numbering before set h spelled follows.
    let number = c.number_at-number in
    let digit = c.if-has_digit.ensures in
    width_halts c.args.text.now c.args.start begin numbering c.args.position before set h spelled follows c.in-Some.number number.result.1
    (rw c.in-Some.is at number.ensures.bytes)
    (rw c.in-Some.is at number.ensures.some) (rw c.in-Some.is at number.ensures.small) (rw c.in-Some.is at number.ensures.ended) c.refusal.result
    c.refusal.ensures (digit.within refl) (sym digit.same)
