use Rattle.std.proofs.Common.{◌≡◌, arith, true}
use Rattle.std.specs.Result.{is_ok}
use Rattle.fmtcanon.proofs.FormatArgumentLemmas.{first_bad_word, given_so_far, one_more_spelled}
use Rattle.fmtcanon.proofs.arguments.read_words.Goals as goal

pub returns-in-None-clause-err : goal.returns-in-None-clause-err
returns-in-None-clause-err c =
    let words = c.args.words.now in
    let at = c.loop-word.word-index in
    let given = c.loop-word.given.items in
    let index : c.len.result ≡ at = omega (arith, c.loop-word.given.ok.0, given_so_far words at given c.loop-word.invariant c.loop-word-test.true) in
    rw index (first_bad_word words at given c.loop-word.invariant c.loop-word-test.true _ _ c.as_bytes.ensures.value
    (λ gives. c.in-None.ensures.none gives.0 gives.1))

pub loop-word-preserved : goal.loop-word-preserved
loop-word-preserved c =
    let pushed : is_ok c.push.result ≡ true = c.if-is_err.ensures.negation in
    rw (c.push.ensures.items, pushed)
    (one_more_spelled c.args.words.now c.loop-word.word-index c.loop-word.given.items c.loop-word.invariant c.loop-word-test.true _ _ c.as_bytes.ensures.value
    c.in-Some.argument c.in-Some.ensures.some)
