use Rattle.std.proofs.Common.{◌++◌, ap, sym, take, ◌∙◌}
use Rattle.std.proofs.lemmas.List.{take-append-drop}
use Rattle.pf_canon.specs.CanonicalBytes.{pending_in}
use Rattle.pf_canon.specs.Output.{pending_text}
use Rattle.pf_canon.proofs.ByteTransducerLemmas.{given_more}
use Rattle.pf_canon.proofs.canonical_bytes.ByteTransducer.skip.Goals as goal

pub returns-clause-given : goal.returns-clause-given
returns-clause-given c model start left taken given h =
    let w = pending_in c.args.self.now in
    let more = take c.args.count w in
    given_more model c.args.self.now.is_open c.args.self.now.transducer w more (pending_text c.skip.new.self) start left taken given
    (sym (take-append-drop c.args.count w) ∙ ap (λ t. more ++ t) (sym c.skip.ensures)) h
