use Rattle.std.proofs.Common.{arith, inl, subst, sym, refl}
use Rattle.std.proofs.lemmas.Int.{ints}
use Rattle.pf_canon.specs.Languages.{HasCanonicalIn}
use Rattle.pf_canon.specs.ShortTexts.{HasRoom, short_text}
use Rattle.pf_canon.specs.VerbatimFronts.{front_model}
use Rattle.fmtcanon_c.proofs.canonical_texts.put_other_canonical.Goals as goal

pub returns-in-Ok-Enough : goal.returns-in-Ok-Enough
returns-in-Ok-Enough g c =
    let text = c.args.text.now in
    let has_front = g.L.Language.has_front in
    let canonical = c.as_slice-canonical in
    let made = subst (λ model. HasCanonicalIn has_front model text (short_text c.put.new.self)) c.requires.model (subst (HasRoom (HasCanonicalIn has_front (front_model c.args.front.now) text) text c.put.new.self) c.in-Ok-Enough.field-0-is c.in-Ok-Enough.ensures) in
    inl (canonical.result.now, subst (HasCanonicalIn has_front c.args.model text) (sym canonical.ensures) made, omega (arith, ints), c.put_string.ensures, refl)
