use Rattle.std.proofs.Common.{◌≡◌, ◌∙◌, ap, ap₂, sym, map, true, false, List, [], Option, Some, None, option_map, is_some, unwrap_or, Bor, inl, inr}
use Rattle.std.specs.Prelude.{◌⊎◌}
use Rattle.clap.specs.Walk.{Row, Text}
use Rattle.clap.specs.Matches.{subcommand_name_of}
use Rattle.clap.specs.Simple.{App, HasMatchesOf, subcommand_of, subcommand_rows_of}
use Rattle.clap.specs.Faults.{fault_of, is_simple_and_free}
use Rattle.clap.specs.Kinds.{IsAmong}
use Rattle.clap.specs.Takes.{takes}
use Rattle.clap.specs.declared.error.kind.ErrorKind.{ErrorKind}
use Rattle.clap.specs.declared.error.kind.ErrorKind.TheVariants as kind
use Rattle.clap.specs.declared.parser.matches.ArgMatches.{ArgMatches}
use Rattle.clap.specs.declared.parser.matches.ArgMatches.TheViews.{out-ArgMatches}
use Rattle.fmtcanon.specs.Words.{IsCommand}
use Rattle.fmtcanon.specs.Options.{rows_in}
use Rattle.fmtcanon.specs.Tasks.{IsAnsweredBy, IsNoTaskOf, Names}
use Rattle.fmtcanon.specs.declared.task.NoTask.{NoTask}
use Rattle.fmtcanon.specs.declared.task.NoTask.TheVariants.{Usage, Missing, Misplaced, Memory}
use Rattle.fmtcanon.proofs.command_line.WordLemmas.{free_command, simple_command, subcommand_given}
use Rattle.std.proofs.lemmas.Result.{IfErr-weaker, IfOk-weaker}
use Rattle.fmtcanon.proofs.task.task_of.Goals as goal

answered : (app : App) (words : List Text) (k : ErrorKind) (r : NoTask) → IsCommand app → (takes app words ≡ true → k ≡ kind.OutOfMemory)
    → (k ≡ kind.OutOfMemory) ⊎ IsAmong k (fault_of app words) → IsAnsweredBy k r → IsNoTaskOf words r
answered app words k (Usage m) is f g h = (λ taken. h (f (taken app is)), (app, is, k, h, elim g [ inl none ↦ absurd (h none) | inr among ↦ among ]))
answered app words k Missing is f g h = absurd h
answered app words k Misplaced is f g h = absurd h
answered app words k Memory is f g h = tt

abbrev texts : List (Bor Text) → List Text
texts = map (λ s. s.now)

-- words for which clap has matches: no fault is found, and the matches have their subcommand
parsed : (app : App) (words : List Text) (m : ArgMatches) → IsCommand app → HasMatchesOf app words m → (is_simple_and_free app ≡ true → fault_of app words ≡ [])
    → (fault_of app words ≡ []) × (subcommand_rows_of m ≡ subcommand_of app words)
parsed app words m is matches no_fault = (no_fault (free_command app is), (matches (simple_command app is)).1)

-- a name and rows that equations give are of one subcommand
joined : {X : Type 0} (o : Option X) (named : X → Text × List Row) (name : Text) (rows : List Row) → Some name ≡ option_map (λ x. (named x).0) o
    → Some rows ≡ option_map (λ (p : Text × List Row). p.1) (option_map named o) → option_map named o ≡ Some (name, rows)
joined None named name rows e h = absurd (cc)
joined (Some x) named name rows e h = ap₂ (λ n r. Some (n, r)) (ap (λ o. unwrap_or o name) (sym e)) (ap (λ o. unwrap_or o rows) (sym h))

-- the words name the subcommand that the code finds
named : (app : App) (words : List Text) (m : ArgMatches) (name : Text) (inner : ArgMatches)
    → IsCommand app → HasMatchesOf app words m → (is_simple_and_free app ≡ true → fault_of app words ≡ [])
    → Some name ≡ subcommand_name_of m → Some (rows_in inner) ≡ option_map (λ p. p.1) (subcommand_rows_of m) → Names words name (rows_in inner)
named app words m name inner is matches no_fault n r =
    let p = parsed app words m is matches no_fault in
    record { app = app; is_command = is; no_fault = p.0; named = sym p.1 ∙ joined (out-ArgMatches m).subcommand _ name _ n r }

missing : {A B : Type 0} (o : Option A) (f : A → B) (x : Option B) → false ≡ is_some o → option_map f o ≡ x → is_some x ≡ true → ⊥
missing None f x a e h = let g : is_some x ≡ false = ap is_some (sym e) in cc
missing (Some y) f x a e h = cc

pub returns-in-Err-clause-err : goal.returns-in-Err-clause-err
returns-in-Err-clause-err c =
    let is = c.in-Ok.ensures in
    answered _ (texts c.args.words.now) _ c.no_task.result is c.in-Err.ensures.passes (c.in-Err.ensures.kinds (free_command _ is)) c.no_task.ensures

pub unreachable-requires : goal.unreachable-requires
unreachable-requires c =
    let words = texts c.args.words.now in
    let ok = c.in-Ok-try_get_matches_from in
    let p = parsed _ words ok.matches c.in-Ok.ensures ok.ensures.matches ok.ensures.kinds in
    missing (out-ArgMatches ok.matches).subcommand _ _ c.in_default-subcommand.ensures.variant p.1 (subcommand_given _ words c.in-Ok.ensures p.0)

pub named_task-requires : goal.named_task-requires
named_task-requires c =
    let ok = c.in-Ok-try_get_matches_from in (
      texts c.args.words.now,
      named _ _ ok.matches _ c.in-Some.inner.now c.in-Ok.ensures ok.ensures.matches ok.ensures.kinds c.in-Some.ensures.name
          c.in-Some.ensures.rows,
    )

pub returns-clause-ok : goal.returns-clause-ok
returns-clause-ok c =
    let ok = c.in-Ok-try_get_matches_from in
    IfOk-weaker c.named_task.result _ _ (λ task h. h _ (named _ _ ok.matches _ c.in-Some.inner.now c.in-Ok.ensures ok.ensures.matches ok.ensures.kinds
    c.in-Some.ensures.name c.in-Some.ensures.rows)) c.named_task.ensures.ok

pub returns-clause-err : goal.returns-clause-err
returns-clause-err c =
    let ok = c.in-Ok-try_get_matches_from in
    IfErr-weaker c.named_task.result _ _ (λ fault h. h _ (named _ _ ok.matches _ c.in-Some.inner.now c.in-Ok.ensures ok.ensures.matches
    ok.ensures.kinds c.in-Some.ensures.name c.in-Some.ensures.rows)) c.named_task.ensures.err
