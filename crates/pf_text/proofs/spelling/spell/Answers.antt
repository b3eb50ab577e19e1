use Rattle.std.proofs.Common.{◌≡◌, ap, arith, length, rules}
use Rattle.pf_values.specs.meaning.Spelling.{spelling_of}
use Rattle.pf_text.proofs.SpellingLemmas.{length-spelled}
use Rattle.pf_text.proofs.spelling.spell.Goals as goal

pub returns-clause-short : goal.returns-clause-short
returns-clause-short c =
    let bytes : c.push-2.new.self.items ≡ spelling_of c.args.directive.now = search rules in
    omega (arith, ap length bytes, length-spelled c.args.directive.now c.conv.ensures.defined)
