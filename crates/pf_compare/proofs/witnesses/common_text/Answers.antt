use Rattle.std.proofs.Common.{◌∙◌, List, subst, sym}
use Rattle.pf_values.specs.Candidates.{neutrals}
use Rattle.pf_values.specs.declared.types.ArgType.{ArgType}
use Rattle.pf_values.specs.meaning.Printing.{PrintsAll}
use Rattle.pf_compare.proofs.ProbeLemmas.{told_unlike}
use Rattle.pf_compare.proofs.VerdictLemmas.{types_alike}
use Rattle.pf_compare.proofs.witnesses.common_text.Goals as goal

pub returns-then-are_unlike : goal.returns-then-are_unlike
returns-then-are_unlike c = λ xs ys a b.
    let same = types_alike c.args.model c.args.first.now c.args.second.now xs ys c.requires a b in (
      c.in_ok-whole.whole.items,
      c.in_ok-other.other.items,
      c.in_ok-whole.ensures xs a,
      subst (λ (ts : List ArgType). PrintsAll c.args.model ys (neutrals ts) c.in_ok-other.other.items) (sym same) (c.in_ok-other.ensures ys b),
      λ e. told_unlike _ _ c.are_unlike.result c.if-are_unlike.true c.are_unlike.ensures (c.deref.ensures.value ∙ e ∙ sym c.deref-2.ensures.value),
    )
