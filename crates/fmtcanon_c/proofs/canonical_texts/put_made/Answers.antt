use Rattle.std.proofs.Common.{ap, arith, inl, refl, ◌∙◌}
use Rattle.std.proofs.lemmas.Int.{ints}
use Rattle.fmtcanon_c.specs.Buffers.{put}
use Rattle.fmtcanon_c.specs.Calls.{with_nul}
use Rattle.fmtcanon_c.proofs.canonical_texts.put_made.Goals as goal

pub returns-in-Ok : goal.returns-in-Ok
returns-in-Ok g c = inl (
  c.in-Ok.canonical.items,
  rw c.in-Ok.is at c.requires,
  omega (arith, ints, c.len.ensures),
  c.put_string.ensures ∙ ap (λ bytes. put (with_nul bytes) c.args.out.now) c.deref.ensures.value,
  refl,
)
