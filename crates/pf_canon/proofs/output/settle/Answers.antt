use Rattle.std.proofs.Common.{arith}
use Rattle.pf_values.specs.meaning.Normal.{IsNormal}
use Rattle.pf_values.specs.meaning.Spelling.{spelling_of}
use Rattle.pf_text.proofs.SpellingLemmas.{length-spelled}
use Rattle.pf_canon.proofs.DirectiveLemmas.{kept_items}
use Rattle.pf_canon.proofs.OutputLemmas.{length-whole}
use Rattle.pf_canon.proofs.TransducerLemmas.{normal_settled, silent_settled}
use Rattle.pf_canon.proofs.output.settle.Goals as goal

pub returns-in-Silent-clause-settles : goal.returns-in-Silent-clause-settles
returns-in-Silent-clause-settles c out items rest room h =
    let r = c.reduce-spaces in
    let s = c.args.directive.now in
    rw c.new.ensures (silent_settled c.args.model s r.result out c.args.held.now c.saturating_add.result items rest c.in-Silent.is
    (omega (arith, c.saturating_add.ensures)) r.ensures.same (kept_items c.args.model s r.result r.ensures.kept r.ensures.silent) h)

pub returns-in-Normal-clause-settles : goal.returns-in-Normal-clause-settles
returns-in-Normal-clause-settles c out items rest room h =
    let r = c.reduce-spaces in
    let s = c.args.directive.now in
    rw (c.spell.ensures.bytes, c.directive.ensures.value) (normal_settled c.args.model s c.in-Normal.normal r.result out c.args.held.now items
    rest c.in-Normal.is r.ensures.same (kept_items c.args.model s r.result r.ensures.kept r.ensures.silent) h)

pub returns-in-Normal-clause-few : goal.returns-in-Normal-clause-few
returns-in-Normal-clause-few c =
    let r = c.reduce-spaces.result in
    let same = c.reduce-spaces.ensures.same in
    let few = same.few in
    let normal : IsNormal c.in-Normal.normal.model c.directive.result = rw c.directive.ensures.value c.directive.ensures.normal in
    let short = length-spelled c.directive.result normal.defined in
    rw c.spell.ensures.bytes (omega (arith, few, short, length-whole r.spaces r.zeros c.args.held.now (spelling_of c.directive.result) r.trail))
