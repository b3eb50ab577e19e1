use Rattle.std.proofs.Common.{◌∷◌, ◌-◌, [], drop, take}
use Rattle.pf_values.specs.meaning.Items.{Directive}
use Rattle.pf_text.proofs.ItemLemmas.{one_read}
use Rattle.pf_text.proofs.checking.directive_end.Goals as goal

pub returns-in-Some-clause-read : goal.returns-in-Some-clause-read
returns-in-Some-clause-read c =
    let found = c.in-Some.found in
    let directive = Directive found.directive in
    (directive ∷ [], one_read (take (found.stop - c.args.at) (drop c.args.at c.args.text.now)) directive c.in-Some.ensures.read)
