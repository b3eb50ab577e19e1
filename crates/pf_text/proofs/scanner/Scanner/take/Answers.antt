use Rattle.std.proofs.Common.{◌≡◌, ◌<◌, ◌∷◌, ◌++◌, length, sym, ◌∙◌, subst, arith}
use Rattle.std.proofs.lemmas.List.{length_push}
use Rattle.pf_values.specs.declared.limits.TheConstants.{MAX_TEXT_LEN}
use Rattle.pf_values.specs.declared.refusals.RefusalKind.TheVariants.{TooLong}
use Rattle.pf_values.specs.meaning.Refusals.{IsRefusedAt}
use Rattle.pf_text.specs.Stages.{state_of}
use Rattle.pf_text.proofs.Refusing.{refused_at, too_long_at}
use Rattle.pf_text.proofs.Sound.{Judges, LeadsTo, judge}
use Rattle.pf_text.proofs.Texts.{begun, says, stepped}
use Rattle.pf_text.proofs.scanner.Scanner.take.Goals as goal

pub returns-then-self-ge-MAX_TEXT_LEN-clause-fed : goal.returns-then-self-ge-MAX_TEXT_LEN-clause-fed
returns-then-self-ge-MAX_TEXT_LEN-clause-fed c t items h =
    let byte = c.args.byte in
    let full : length t ≡ MAX_TEXT_LEN = omega (arith, h.offset, h.limit, c.if-self-ge-MAX_TEXT_LEN.true) in (
      h.offset,
      λ more. subst (λ p. IsRefusedAt (t ++ byte ∷ more) TooLong p) (sym h.offset)
          (too_long_at t h.part items (state_of c.args.self.now.automaton) h.good.splits h.state byte more full),
    )

pub returns-in-Ok-clause-fed : goal.returns-in-Ok-clause-fed
returns-in-Ok-clause-fed c t items h =
    let byte = c.args.byte in
    let leads : LeadsTo h.part byte (state_of c.step.new.self.automaton) c.in-Ok.step = subst (Judges h.part byte) c.in-Ok.ensures.made
    (judge (state_of c.args.self.now.automaton) h.part byte h.state) in
    let now = stepped t h.part items byte h.good.splits (state_of c.step.new.self.automaton) c.in-Ok.step leads in
    record {
      after = record {
        part = now.part;
        good = record { splits = now.splits; begun = begun (state_of c.step.new.self.automaton) now.part now.at };
        state = now.at;
        offset = omega (arith, h.offset, c.in-Ok.ensures.offset, length_push t byte);
        limit = omega (arith, h.offset, c.in-Ok.ensures.offset, length_push t byte, c.if-self-ge-MAX_TEXT_LEN.false);
        no_refusal = c.in-Ok.ensures.refused ∙ h.no_refusal;
      };
      says = says t h.part items byte (state_of c.step.new.self.automaton) c.in-Ok.step leads now;
    }

pub returns-in-Err-clause-fed : goal.returns-in-Err-clause-fed
returns-in-Err-clause-fed c t items h =
    let byte = c.args.byte in
    let below : length t < MAX_TEXT_LEN = omega (arith, h.offset, c.if-self-ge-MAX_TEXT_LEN.false) in
    let place : c.step.new.self.offset ≡ length t = c.in-Err.ensures.offset ∙ h.offset in (
      place,
      λ more. subst (λ p. IsRefusedAt (t ++ byte ∷ more) c.in-Err.kind p) (sym place)
          (refused_at t h.part items (state_of c.args.self.now.automaton) h.good.splits h.state byte c.in-Err.kind c.in-Err.ensures.made more below),
    )
