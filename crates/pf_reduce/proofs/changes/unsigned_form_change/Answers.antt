use Rattle.std.proofs.Common.{refl}
use Rattle.pf_values.specs.meaning.Conversions.{kind_of}
use Rattle.pf_reduce.proofs.FieldLemmas.{unsigned_form}
use Rattle.pf_reduce.proofs.LetterLemmas.{letters_change}
use Rattle.pf_reduce.proofs.changes.unsigned_form_change.Goals as goal

pub returns-then-is_normal_unprefixed : goal.returns-then-is_normal_unprefixed
returns-then-is_normal_unprefixed c =
    let s = c.args.directive.now in
    let r = c.requires in
    letters_change c.args.model s r.parts (unsigned_form c.args.model s (kind_of s.conv) r.number r.unsigned r.parts.no_alt
    (c.if-is_normal_unprefixed.ensures.0 refl))
