-- Alike texts print the same, whatever the calls print.
use Rattle.std.proofs.Common.{◌≡◌}
use Rattle.pf_values.specs.declared.models.Model.{Model}
use Rattle.pf_posix.specs.Stretches.{whole_types}
use Rattle.pf_posix.proofs.ReadOnce.{read_once}
use Rattle.pf_whole.specs.Laws.{AlikePrintAlike}
use Rattle.pf_whole.specs.meaning.WholeArguments.{HasWholeTypes}

pub alike_prints : (model : Model) → AlikePrintAlike model
alike_prints model t u h respond a args out reads typed =
    let same : a ≡ h.first = read_once t a h.first reads h.reads_first in
    let fits : HasWholeTypes model args (whole_types model h.first) = rw (← same) typed in (
      λ g.
          let own : g.0 ≡ h.first = read_once t g.0 h.first g.1 h.reads_first in
          let trace = rw own at g.2.1 in
          (h.second, h.reads_second, (g.2.0, (h.alike.same_traces args g.2.0 fits).0 trace, g.2.2)),
      λ g.
          let own : g.0 ≡ h.second = read_once u g.0 h.second g.1 h.reads_second in
          let trace = rw own at g.2.1 in
          (h.first, h.reads_first, (g.2.0, (h.alike.same_traces args g.2.0 fits).1 trace, g.2.2)),
    )
