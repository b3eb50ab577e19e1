use Rattle.std.proofs.Common.{◌%◌, drop, subst, sym}
use Rattle.std.specs.Prelude.{flat_map}
use Rattle.std.proofs.lemmas.List.{take_rest}
use Rattle.pf_values.specs.meaning.Canonical.{item_spelling}
use Rattle.pf_text.specs.CanonicalRuns.{silents}
use Rattle.pf_canon.specs.Output.{IsFrontOf}
use Rattle.pf_canon.proofs.OffsetLemmas.{silent_at}
use Rattle.pf_canon.proofs.output.silent_front.Goals as goal

pub returns : goal.returns
returns c count few =
    let at = c.args.at in
    rw take_rest (subst (λ t. IsFrontOf (drop at (flat_map item_spelling (silents count))) (drop (at % 4) t)) (sym c.requires) (silent_at at count few))
