use Rattle.std.proofs.Common.{◌+◌, ◌∷◌, [], refl, sym}
use Rattle.pf_text.proofs.SpecificationLemmas.{bytes_join, bytes_one}
use Rattle.pf_posix.proofs.PartLemmas.{byte_is}
use Rattle.pf_posix.proofs.specifications.precision_at.Goals as goal

pub returns-in-Err-clause-halt : goal.returns-in-Err-clause-halt
returns-in-Err-clause-halt c = λ begin numbering before set width h spelled follows.
    let t = c.args.text.now in
    let start = c.args.start in
    let point = c.if-not-has_byte.ensures in
    c.in-Err.ensures.halt begin numbering before set width
    (bytes_join t begin start (start + 1) before (46 ∷ []) h (bytes_one t start 46 (point.within refl) (byte_is t start 46 (sym point.same)))) spelled follows
