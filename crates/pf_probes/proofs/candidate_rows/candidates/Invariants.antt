use Rattle.std.proofs.Common.{◌≡◌, map, take}
use Rattle.pf_probes.specs.Candidate.{candidate_argument}
use Rattle.pf_probes.proofs.candidate_rows.candidates.Given as goal

abbrev pub invariant-loop-candidate : goal.invariant-loop-candidate
invariant-loop-candidate l = map candidate_argument l.out.items ≡ map candidate_argument (take l.candidate-index l.candidate-items)
