use Rattle.std.proofs.Common.{◌+◌, ◌++◌, arith, subst, sym}
use Rattle.std.proofs.lemmas.List.{length-append}
use Rattle.pf_text.specs.History.{IsAfter}
use Rattle.pf_text.proofs.CanonicalRunLemmas.{Reads-append}
use Rattle.pf_text.proofs.LiteralLemmas.{after_read, not_wrapped}
use Rattle.pf_text.proofs.scanner.Scanner.pass_items.Goals as goal

pub returns : goal.returns
returns c t text items more h reads now long room =
    let scanner = c.args.self.now in
    subst (λ o. IsAfter (record scanner { offset = o }) (t ++ text) (items ++ more)) (sym (not_wrapped scanner.offset c.args.len room))
    (subst (λ n. IsAfter (record scanner { offset = scanner.offset + n }) (t ++ text) (items ++ more)) long
    (after_read scanner t text items more h reads (Reads-append t text items more reads now) (omega (arith, h.offset, long, room, length-append t text))))
