use Rattle.std.proofs.Common.{◌≢◌, refl, sym, subst, Err}
use Rattle.pf_values.specs.declared.refusals.RefusalKind.TheVariants.{Truncated}
use Rattle.pf_values.specs.meaning.Refusals.{IsRefusedAt}
use Rattle.pf_text.specs.History.{Finishes}
use Rattle.pf_text.specs.Stages.{Between, state_of}
use Rattle.pf_text.proofs.BetweenLemmas.{between_reads}
use Rattle.pf_text.proofs.Refusing.{truncated_at}
use Rattle.pf_text.proofs.scanner.Scanner.finish.Goals as goal

pub returns-clause-finished : goal.returns-clause-finished
returns-clause-finished c t items h =
    let inside : state_of c.args.self.now.automaton ≢ Between = λ e. let no = c.if-is_between.ensures.1 e in cc in
    subst (λ refusal. Finishes t items (Err refusal)) (sym c.refusal.ensures) (
      refl,
      h.offset,
      subst (λ p. IsRefusedAt t Truncated p) (sym h.offset)
          (truncated_at t h.part items (state_of c.args.self.now.automaton) h.good.splits h.state inside h.limit),
    )

pub returns-then-is_between-clause-finished : goal.returns-then-is_between-clause-finished
returns-then-is_between-clause-finished c t items h = between_reads c.args.self.now t items h (c.if-is_between.ensures.0 refl)
