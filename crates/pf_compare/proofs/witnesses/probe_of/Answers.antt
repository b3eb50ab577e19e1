use Rattle.std.proofs.Common.{◌∙◌, Some, ap, sym}
use Rattle.pf_probes.specs.Candidate.{candidate_argument}
use Rattle.pf_compare.proofs.CandidateLemmas.{argument_in, candidate_held, candidate_string, within_row}
use Rattle.pf_compare.proofs.witnesses.probe_of.Goals as goal

pub of-requires-clause-held : goal.of-requires-clause-held
of-requires-clause-held c =
    let row = c.candidate_row.result.now in
    let is = c.candidate_row.ensures.value in
    let within = within_row c.args.model candidate_argument row c.args.wanted is c.args.candidate_index c.requires.0 c.requires.1 in
    candidate_held c.args.model c.args.wanted c.args.candidate_index _ (argument_in c.args.model candidate_argument row c.args.wanted is c.args.candidate_index _ within)

pub of-requires-clause-string : goal.of-requires-clause-string
of-requires-clause-string c =
    let row = c.candidate_row.result.now in
    let is = c.candidate_row.ensures.value in
    let within = within_row c.args.model candidate_argument row c.args.wanted is c.args.candidate_index c.requires.0 c.requires.1 in
    candidate_string c.args.model c.args.wanted c.args.candidate_index _ (argument_in c.args.model candidate_argument row c.args.wanted is c.args.candidate_index _ within)

pub returns-clause-candidate : goal.returns-clause-candidate
returns-clause-candidate c =
    let row = c.candidate_row.result.now in
    let is = c.candidate_row.ensures.value in
    let within = within_row c.args.model candidate_argument row c.args.wanted is c.args.candidate_index c.requires.0 c.requires.1 in
    argument_in c.args.model candidate_argument row c.args.wanted is c.args.candidate_index _ within ∙ ap Some (sym c.of.ensures.value)
