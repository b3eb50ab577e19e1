use Rattle.std.proofs.Common.{◌++◌}
use Rattle.std.specs.Prelude.{flat_map}
use Rattle.pf_values.specs.meaning.Canonical.{item_spelling}
use Rattle.pf_text.specs.CanonicalRuns.{silents}
use Rattle.pf_canon.specs.ChangedDirectives.{between}
use Rattle.pf_canon.proofs.LanguageLemmas.{completed}
use Rattle.pf_canon.proofs.items.put_stretch.Goals as goal

pub returns-clause-put : goal.returns-clause-put
returns-clause-put g c =
    let items = c.put_items-stop in
    let (out, given, written) = items.ensures.put in
    let last = flat_map item_spelling (silents items.result.1) in (
      out ++ last,
      g.met.S.Sink.laws.both c.args.sink.now items.new.sink c.put_silents.new.sink out last given c.put_silents.ensures,
      completed g.L.Language.has_front c.args.model (between c.args.from items.result.0 c.args.walk.text.now) out items.result.1 written,
    )
