use Rattle.std.proofs.Common.{◌≡◌, ◌+◌, [], arith, length, refl, subst}
use Rattle.pf_text.specs.History.{IsAfter}
use Rattle.pf_text.proofs.LiteralLemmas.{after_read}
use Rattle.pf_text.proofs.scanner.Scanner.after_items.Goals as goal

pub returns : goal.returns
returns c t items reads len few =
    let new = c.new-scanner in
    let offset : new.result.offset + length t ≡ c.args.len = omega (arith, new.ensures.offset, len) in
    subst (λ n. IsAfter (record new.result { offset = n }) t items) offset
    (after_read new.result [] t [] items new.ensures refl reads (omega (arith, len, few)))
