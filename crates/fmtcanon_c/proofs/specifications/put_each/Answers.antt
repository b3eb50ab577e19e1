use Rattle.std.proofs.Common.{◌∙◌, ◌≡◌, ◌++◌, ◌∷◌, [], ap, arith, length, pos, sym, to_z}
use Rattle.std.specs.Int.{w64}
use Rattle.std.proofs.lemmas.Int.{ints}
use Rattle.std.proofs.lemmas.List.{length_push}
use Rattle.pf_posix.proofs.SpecificationWalkLemmas.{behind_few, behind_next, has_specifications, none_behind}
use Rattle.fmtcanon_c.proofs.RecordLemmas.{all_put, none_put, one_put}
use Rattle.fmtcanon_c.proofs.specifications.put_each.Goals as goal

pub loop-span-init : goal.loop-span-init
loop-span-init c = ([], λ t all h. none_behind t _ all [] h, none_put c.args.model c.args.out.now)

pub next-requires : goal.next-requires
next-requires c =
    let r = c.requires.before in
    let i = c.loop-span.invariant in (r.0, _, _, (i.1 r.0 _ r.1.ahead).ahead)

pub record_of-requires : goal.record_of-requires
record_of-requires c =
    let r = c.requires.before in
    let i = c.loop-span.invariant in (r.0, (c.in-Some.ensures.next r.0 _ _ (i.1 r.0 _ r.1.ahead).ahead).1)

pub bounds-out-count : goal.bounds-out-count
bounds-out-count c =
    let r = c.requires.before in
    let i = c.loop-span.invariant in
    let b = i.1 r.0 _ r.1.ahead in
    let next = behind_next r.0 _ _ [] i.0 c.in-Some.span b.each (c.in-Some.ensures.next r.0 _ _ b.ahead) in
    omega (arith, (behind_few r.0 _ _ _ next).0, length_push i.0 c.in-Some.span, i.2.counted, c.requires.room r.0 _ r.1.ahead, c.loop-span.auto.out)

pub loop-span-smaller : goal.loop-span-smaller
loop-span-smaller c =
    let r = c.requires.before in
    let next = c.in-Some.ensures.next r.0 _ _ (c.loop-span.invariant.1 r.0 _ r.1.ahead).ahead in
    let further = c.in-Some.ensures.further in omega (arith, next.0.listed.within, ap length r.1.ahead.text_is, further)

pub loop-span-preserved : goal.loop-span-preserved
loop-span-preserved c =
    let i = c.loop-span.invariant in
    let span = c.in-Some.span in
    let r = c.requires.before in
    let room = c.requires.room r.0 _ r.1.ahead in
    let b = i.1 r.0 _ r.1.ahead in
    let few = (behind_few r.0 _ _ _ (behind_next r.0 _ _ [] i.0 span b.each (c.in-Some.ensures.next r.0 _ _ b.ahead))).0 in (
      i.0 ++ span ∷ [],
      λ t all h. let b = i.1 t all h in behind_next t _ all [] i.0 span b.each (c.in-Some.ensures.next t all _ b.ahead),
      one_put c.args.model i.0 c.args.out.now c.loop-span.out c.loop-span.count span c.record_of.result i.2
          (omega (arith, few, length_push i.0 span, i.2.counted, room)) c.record_of.ensures,
    )

pub returns : goal.returns
returns c t before =
    let i = c.loop-span.invariant in
    let all = before.ahead in
    let b = i.1 t _ all in
    let few = behind_few t _ _ i.0 b in
    let code : to_z w64 c.loop-span.count ≡ pos c.loop-span.count = omega (arith, ints, few.1, all.limit, i.2.counted) in (
      i.0,
      has_specifications c.args.model t c.args.walk.now before i.0 (record { all_are = sym (c.in_default.ensures.next t _ _ b.ahead); each = b.each }),
      code ∙ ap pos (sym i.2.counted),
      all_put c.args.model i.0 c.args.out.now c.loop-span.out c.loop-span.count i.2 (omega (arith, few.0, c.requires.room t _ all)),
    )
