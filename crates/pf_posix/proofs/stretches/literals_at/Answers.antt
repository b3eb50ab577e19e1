use Rattle.std.proofs.Common.{◌≡◌, ◌-◌, ◌∙◌, ap, arith, drop, length, subst, take}
use Rattle.std.proofs.lemmas.List.{length-drop, take_rest}
use Rattle.memchr.specs.Find.{Passes, is_byte2}
use Rattle.pf_posix.proofs.StretchLemmas.{found_run, nothing_found}
use Rattle.pf_posix.proofs.stretches.literals_at.Goals as goal

pub returns-then-run-eq0-clause-found : goal.returns-then-run-eq0-clause-found
returns-then-run-eq0-clause-found c left h =
    let t = c.args.text.now in
    let at = c.args.at in
    let run = c.literal_len-run in
    let rest : length (take (length t - at) (drop at t)) ≡ length t - at = ap length (take_rest t at) ∙ length-drop at t in
    let none = c.if-run-eq0.true in
    let passes : Passes (is_byte2 37 0) (take (length t - at) (drop at t)) 0 =
    subst (Passes (is_byte2 37 0) (take (length t - at) (drop at t))) none (run.ensures.ended (omega (arith, none, rest, c.requires.within))) in
    absurd (nothing_found t at c.requires.within c.requires.other passes left h)

pub returns-clause-found : goal.returns-clause-found
returns-clause-found c left h =
    let run = c.literal_len-run in
    found_run c.args.text.now c.args.at run.result (omega (arith, c.requires.within)) run.ensures.within run.ensures.none left h
