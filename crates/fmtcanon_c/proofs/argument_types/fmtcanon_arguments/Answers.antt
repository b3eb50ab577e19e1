use Rattle.std.proofs.Common.{◌≡◌, ◌∙◌, ap, arith, inl, length, map, of_z, pos, refl, take, to_z}
use Rattle.std.specs.Int.{w64}
use Rattle.std.proofs.lemmas.Int.{ints}
use Rattle.pf_posix.specs.TypeNumbers.{number_of_type}
use Rattle.fmtcanon_c.specs.Buffers.{put}
use Rattle.fmtcanon_c.proofs.ModelAnswers.{in_model}
use Rattle.pf_whole.proofs.CountLemmas.{taken_types}
use Rattle.fmtcanon_c.proofs.argument_types.fmtcanon_arguments.Goals as goal

pub returns-then-count : goal.returns-then-count
returns-then-count c =
    let code : to_z w64 (of_z w64 c.put_many_arguments.result) ≡ c.put_many_arguments.result = omega (arith, ints) in
    rw code (in_model c.args.model _ _ _ c.in-Some.model c.ranges.model c.in-Some.ensures c.put_many_arguments.ensures)

pub returns-else-count : goal.returns-else-count
returns-else-count c =
    let h = c.in-Ok.ensures.types in
    let code : to_z w64 (of_z w64 c.put_codes.result) ≡ c.put_codes.result = omega (arith, ints) in
    let listed : take c.in-Ok.count c.arguments.new.out ≡ h.types =
    taken_types c.in-Some.model c.args.text.now _ c.arguments.new.out c.in-Ok.count h (omega (arith, h.count_is, c.if-count.false)) in
    rw code (in_model c.args.model _ _ _ c.in-Some.model c.ranges.model c.in-Some.ensures (inl (
      h.types,
      h.accepted,
      c.put_codes.ensures.count ∙ ap (λ types. pos (length types)) listed,
      c.put_codes.ensures.put ∙ ap (λ types. put (map number_of_type types) c.args.out.now) listed,
      refl,
    )))
