use Rattle.std.proofs.Common.{◌++◌, ◌∙◌, ap, codes, sym}
use Rattle.std.proofs.lemmas.Result.{IfOk-weaker}
use Rattle.pf_reduce.specs.Reducing.{core_of}
use Rattle.pf_values.specs.meaning.Spelling.{spelling_of}
use Rattle.fmtcanon.proofs.ShowLemmas.{if_written, silent_spelled}
use Rattle.fmtcanon.proofs.show_lines.push_core.Goals as goal

pub returns-in-Silent : goal.returns-in-Silent
returns-in-Silent c =
    let same = silent_spelled ∙ ap (λ k. spelling_of (core_of k)) (sym c.in-Silent.is) in
    IfOk-weaker c.extend_from_slice-in-Silent.result _ _ (λ x h. h ∙ ap (λ u. c.args.out.now.items ++ u) same)
    (if_written c.extend_from_slice-in-Silent.result c.args.out.now.items c.extend_from_slice-in-Silent.new.self.items
    (codes "%.0s") c.extend_from_slice-in-Silent.ensures.items)
