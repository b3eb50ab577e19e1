use Rattle.std.proofs.Common.{◌≡◌, ◌∙◌, ap, arith, inl, length, map, of_z, pos, refl, take, to_z}
use Rattle.std.specs.Int.{w64}
use Rattle.std.proofs.lemmas.Int.{ints}
use Rattle.fmtcanon_c.specs.Buffers.{put}
use Rattle.fmtcanon_c.specs.Directives.{record_of}
use Rattle.fmtcanon_c.proofs.ModelAnswers.{in_model}
use Rattle.fmtcanon_c.proofs.RelationLemmas.{taken_directives}
use Rattle.fmtcanon_c.proofs.directives.fmtcanon_directives.Goals as goal

pub returns-then-count : goal.returns-then-count
returns-then-count c =
    let code : to_z w64 (of_z w64 c.put_many_directives.result) ≡ c.put_many_directives.result = omega (arith, ints) in
    rw code (in_model c.args.model _ _ _ c.in-Some.model c.ranges.model c.in-Some.ensures c.put_many_directives.ensures)

pub returns-else-count : goal.returns-else-count
returns-else-count c =
    let h = c.in-Ok.ensures.directives in
    let code : to_z w64 (of_z w64 c.put_codes.result) ≡ c.put_codes.result = omega (arith, ints) in
    let listed : take c.in-Ok.count c.directives.new.out ≡ h.directives =
    taken_directives c.in-Some.model c.args.text.now _ c.directives.new.out c.in-Ok.count h (omega (arith, h.count_is, c.if-count.false)) in
    rw code (in_model c.args.model _ _ _ c.in-Some.model c.ranges.model c.in-Some.ensures (inl (
      h.directives,
      h.listed,
      c.put_codes.ensures.count ∙ ap (λ found. pos (length found)) listed,
      c.put_codes.ensures.put ∙ ap (λ found. put (map record_of found) c.args.out.now) listed,
      refl,
    )))
