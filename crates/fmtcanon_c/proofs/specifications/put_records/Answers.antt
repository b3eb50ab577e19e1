use Rattle.std.proofs.Common.{◌∙◌, ◌≡◌, [], ap, arith, length, of_z, pos, to_z}
use Rattle.std.specs.Int.{w64}
use Rattle.std.proofs.lemmas.Int.{ints}
use Rattle.std.proofs.lemmas.List.{length-map}
use Rattle.pf_posix.proofs.SpecificationWalkLemmas.{directive_of, few_ahead, has_specifications}
use Rattle.fmtcanon_c.proofs.RecordLemmas.{none_fit}
use Rattle.fmtcanon_c.proofs.specifications.put_records.Goals as goal

pub overflow_cast-result : goal.overflow_cast-result
overflow_cast-result c =
    let r = c.requires in
    let f = c.count-count.ensures r.0 _ [] r.1.ahead in
    omega (arith, ints, few_ahead r.0 _ _ [] r.1.ahead, r.1.ahead.limit, f.2, length-map f.0 directive_of, ap length f.1.all_are)

pub returns-then-count-out : goal.returns-then-count-out
returns-then-count-out c t before =
    let f = c.count-count.ensures t _ [] before.ahead in
    let code : to_z w64 c.count-count.result ≡ pos c.count-count.result =
    omega (arith, ints, few_ahead t _ _ [] before.ahead, before.ahead.limit, f.2, length-map f.0 directive_of, ap length f.1.all_are) in (
      f.0,
      has_specifications c.args.model t c.args.walk.now before f.0 f.1,
      code ∙ ap pos f.2,
      none_fit c.args.model f.0 c.args.out.now (omega (arith, f.2, c.if-count-out.true)),
    )

pub put_each-requires-clause-room : goal.put_each-requires-clause-room
put_each-requires-clause-room c t all h = elim c.if-most-out.branch [
  | goal.then-most-out+else-count-out w ↦
      let f = w.count-count.ensures t all [] h in omega (arith, f.2, length-map f.0 directive_of, ap length f.1.all_are, w.if-count-out.false)
  | goal.else-most-out w ↦ omega (arith, c.most.ensures t all [] h, w.if-most-out.false)
]

pub returns : goal.returns
returns c = let code : to_z w64 (of_z w64 c.put_each.result) ≡ c.put_each.result = omega (arith, ints) in rw code c.put_each.ensures
