use Rattle.std.proofs.Common.{◌+◌, refl, sym, ◌++◌, ◌∷◌, []}
use Rattle.pf_posix.specs.Types.{star_fetches}
use Rattle.pf_text.proofs.SpecificationLemmas.{bytes_join, bytes_one}
use Rattle.pf_posix.proofs.HaltLemmas.{point_halts}
use Rattle.pf_posix.proofs.PartLemmas.{byte_is, point_bytes}
use Rattle.pf_posix.proofs.specifications.after_point.Goals as goal

pub returns-in-Err-clause-halt : goal.returns-in-Err-clause-halt
returns-in-Err-clause-halt c = λ begin numbering before set width h spelled follows.
    let t = c.args.text.now in
    let start = c.args.start in
    let star = c.if-has_byte.ensures in
    c.in-Err.ensures.halt begin numbering (before ++ 46 ∷ []) (star_fetches width)
    (bytes_join t begin start (start + 1) (before ++ 46 ∷ []) (42 ∷ []) h (bytes_one t start 42 (star.within refl) (byte_is t start 42 (sym star.same))))
    (before, set, width, spelled, refl, refl) follows

pub returns-clause-bytes : goal.returns-clause-bytes
returns-clause-bytes c =
    let number = c.digits_at-number in
    point_bytes c.args.text.now c.args.start c.args.position number.result.0 number.result.1 number.ensures.small number.ensures.digits

pub returns-then-has_digit-clause-halt : goal.returns-then-has_digit-clause-halt
returns-then-has_digit-clause-halt c = λ begin numbering before set width h spelled follows.
    let number = c.digits_at-number in
    let digit = c.if-has_digit.ensures in
    point_halts c.args.text.now c.args.start begin numbering c.args.position before set width h spelled follows number.result.0 number.result.1
    number.ensures.small number.ensures.digits number.ensures.ended c.refusal.result c.refusal.ensures (digit.within refl) (sym digit.same)
