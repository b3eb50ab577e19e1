use Rattle.std.proofs.Common.{[], ◌∷◌, ◌++◌, ap}
use Rattle.pf_values.specs.meaning.Items.{Directive}
use Rattle.pf_canon.proofs.MakingLemmas.{made_more}
use Rattle.pf_canon.proofs.PieceLemmas.{percent_made}
use Rattle.pf_canon.proofs.TransducerLemmas.{byte_settled}
use Rattle.pf_canon.proofs.transducer.Transducer.settle.Goals as goal

pub returns-in-Byte-clause-settles : goal.returns-in-Byte-clause-settles
returns-in-Byte-clause-settles c = rw c.in-Byte.is (λ byte out items step room h. byte_settled c.args.self.now.model c.in-Byte.field-0 byte
    c.args.self.now.silents out items step.0 step.1 h)

pub returns-in-Percent-clause-settles : goal.returns-in-Percent-clause-settles
returns-in-Percent-clause-settles c = rw c.in-Percent.is (λ byte out items step room h.
    percent_made c.args.self.now.model out _ c.args.self.now.silents items (ap (λ t. out ++ t) c.percents.ensures) h)

pub returns-in-Directive-clause-settles : goal.returns-in-Directive-clause-settles
returns-in-Directive-clause-settles c = rw c.in-Directive.is (λ byte out items step room h.
    c.settle_directive.ensures.settles out (items ++ Directive c.in-Directive.directive ∷ []) [] room
    (made_more c.args.self.now.model out c.args.self.now.silents items [] (Directive c.in-Directive.directive ∷ []) h))
