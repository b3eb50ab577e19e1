use Rattle.std.proofs.Common.{◌++◌, ◌∙◌, ap}
use Rattle.std.specs.Prelude.{decimal}
use Rattle.std.proofs.lemmas.Result.{IfOk-weaker}
use Rattle.fmtcanon.proofs.ShowLemmas.{joined}
use Rattle.fmtcanon.proofs.show_lines.push_reduced.Goals as goal

pub returns : goal.returns
returns c =
    let core = joined _ _ _ _ _ c.in_ok-push_core.ensures c.in_ok-push_padding.ensures in
    let space = joined _ _ _ _ _ c.in_ok-push.ensures.items core in
    IfOk-weaker c.push_decimal.result _ _ (λ x h. joined _ _ _ _ _ (h ∙ ap (λ n. c.push.new.self.items ++ decimal n) c.from.ensures) space)
    c.push_decimal.ensures
