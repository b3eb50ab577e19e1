use Rattle.std.proofs.Common.{arith}
use Rattle.pf_probes.specs.Candidate.{candidate_argument}
use Rattle.pf_compare.proofs.CandidateLemmas.{argument_in, candidate_has_type, candidate_held, candidate_string, within_row}
use Rattle.pf_compare.proofs.ProbeLemmas.{first_tried, told_alike, told_unlike, tried_more}
use Rattle.pf_compare.proofs.witnesses.other_candidate.Goals as goal

pub loop-index-init : goal.loop-index-init
loop-index-init c = first_tried c.args.model c.args.whole.now c.args.first.now c.args.second.now c.args.wanted c.requires.neutral

pub candidate_differs-requires-clause-typed : goal.candidate_differs-requires-clause-typed
candidate_differs-requires-clause-typed c = candidate_has_type c.args.model c.args.wanted c.loop-index.index _
    (argument_in c.args.model candidate_argument c.candidate_row-row.result.now c.args.wanted c.candidate_row-row.ensures.value c.loop-index.index _
    (omega (arith, c.loop-index-test.true)))

pub candidate_differs-requires-clause-held : goal.candidate_differs-requires-clause-held
candidate_differs-requires-clause-held c = candidate_held c.args.model c.args.wanted c.loop-index.index _
    (argument_in c.args.model candidate_argument c.candidate_row-row.result.now c.args.wanted c.candidate_row-row.ensures.value c.loop-index.index _
    (omega (arith, c.loop-index-test.true)))

pub candidate_differs-requires-clause-string : goal.candidate_differs-requires-clause-string
candidate_differs-requires-clause-string c = candidate_string c.args.model c.args.wanted c.loop-index.index _
    (argument_in c.args.model candidate_argument c.candidate_row-row.result.now c.args.wanted c.candidate_row-row.ensures.value c.loop-index.index _
    (omega (arith, c.loop-index-test.true)))

pub returns-then-branch : goal.returns-then-branch
returns-then-branch c = record {
  argument = _;
  argument_is = argument_in c.args.model candidate_argument c.candidate_row-row.result.now c.args.wanted c.candidate_row-row.ensures.value c.loop-index.index _
      (omega (arith, c.loop-index-test.true));
  unlike = told_unlike _ _ c.in_ok-candidate_differs.field-0 c.if-branch.true c.in_ok-candidate_differs.ensures;
  earlier = c.loop-index.invariant;
}

pub loop-index-preserved : goal.loop-index-preserved
loop-index-preserved c =
    tried_more c.args.model c.args.whole.now c.args.first.now c.args.second.now c.args.wanted c.loop-index.index _
    (argument_in c.args.model candidate_argument c.candidate_row-row.result.now c.args.wanted c.candidate_row-row.ensures.value c.loop-index.index _
    (omega (arith, c.loop-index-test.true)))
    (told_alike _ _ c.in_ok-candidate_differs.field-0 c.if-branch.false c.in_ok-candidate_differs.ensures) c.loop-index.invariant

pub returns : goal.returns
returns c = λ k other e. c.loop-index.invariant k other
    (omega (
      arith,
      c.loop-index-test.false,
      within_row c.args.model candidate_argument c.candidate_row-row.result.now c.args.wanted
          c.candidate_row-row.ensures.value k other e,
    )) e
