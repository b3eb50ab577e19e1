use Rattle.std.proofs.Common.{[], arith}
use Rattle.pf_canon.proofs.ComparisonLemmas.{told_itself}
use Rattle.pf_canon.proofs.EarlyLemmas.{all_made}
use Rattle.pf_canon.proofs.LanguageLemmas.{front_written}
use Rattle.pf_canon.proofs.SettledLemmas.{goes_on}
use Rattle.pf_canon.proofs.comparison.same_itself.Goals as goal

pub returns-then-items_end_from-text : goal.returns-then-items_end_from-text
returns-then-items_end_from-text g c =
    let text = c.args.text.now in
    let has_front = g.L.Language.has_front in
    let model = c.args.model in
    let (made, limit) = all_made g.L.Passed.passes text c.new.result c.items_end_from.result c.new.ensures.over c.new.ensures.at c.items_end_from.ensures
    c.if-items_end_from-text.true in
    let (canonical, h) = goes_on has_front model g.L.Passed.passes (g.met.L.Language.has_passed model) [] [] 0
    (front_written has_front model [] [] (g.met.L.Language.has_none model) (omega arith)) text made limit in
    told_itself has_front model text canonical h
