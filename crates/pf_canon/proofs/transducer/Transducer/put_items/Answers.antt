use Rattle.std.proofs.Common.{◌≡◌, [], arith, subst, sym}
use Rattle.std.specs.Prelude.{⊤}
use Rattle.pf_values.specs.meaning.Items.{Reads}
use Rattle.pf_text.specs.Walks.{IsPercent}
use Rattle.pf_text.proofs.WalkLemmas.{items_made, run_is_read}
use Rattle.pf_canon.specs.ChangedDirectives.{between}
use Rattle.pf_canon.specs.Making.{IsWritten, PutsItems}
use Rattle.pf_canon.proofs.ItemLemmas.{front_is, next_run, percents_put}
use Rattle.pf_canon.proofs.LanguageLemmas.{no_front, profile_passes, profile_step, run_verbatim}
use Rattle.pf_canon.proofs.WrittenLemmas.{none_written}
use Rattle.pf_canon.proofs.transducer.Transducer.put_items.Goals as goal

pub returns-then-self-gt0-clause-put : goal.returns-then-self-gt0-clause-put
returns-then-self-gt0-clause-put g c =
    let r = c.args.self.now in
    let text = c.args.walk.text.now in
    let len = c.run_end-len.result in
    subst (λ t. PutsItems g.S.Sink.given (IsWritten r.model) c.args.sink.now c.put.new.self t r.silents r.silents) (front_is text len)
    (percents_put g.S.Sink.given r.model text c.args.sink.now c.put.new.self 0 len r.silents
    (rw (c.text.ensures, sym (front_is text len)) at c.put.ensures) c.run_end-len.ensures.passed)

pub returns-then-self-gt0-clause-reads : goal.returns-then-self-gt0-clause-reads
returns-then-self-gt0-clause-reads g c =
    let run = items_made IsPercent _ c.run_end-len.ensures.passed in
    (run.0, subst (λ t. Reads t run.0) (front_is c.args.walk.text.now c.run_end-len.result) (run_is_read IsPercent _ run.0 run.1))

pub put_items-len-requires-clause-verbatim : goal.put_items-len-requires-clause-verbatim
put_items-len-requires-clause-verbatim g c =
    run_verbatim no_front c.args.self.now.model (λ t. ⊥) (profile_passes c.args.self.now.model) (between 0 c.run_end.result c.args.walk.text.now)
    c.run_end.ensures.passed

pub put_items-len-requires-clause-next : goal.put_items-len-requires-clause-next
put_items-len-requires-clause-next g c = next_run (λ byte. ⊤) c.args.walk.text.now c.run_end.result c.run_end.ensures.next

pub returns-clause-put : goal.returns-clause-put
returns-clause-put g c =
    let none : c.args.self.now.silents ≡ 0 = omega (arith, c.if-self-gt0.false) in
    rw (none, sym (front_is c.args.walk.text.now c.put_items-len.result.0))
    (let (more, given, step) = c.put_items-len.ensures.put in
    (more, given, profile_step c.args.self.now.model _ more 0 c.put_items-len.result.1 step))

pub returns-clause-reads : goal.returns-clause-reads
returns-clause-reads g c =
    let model = c.args.self.now.model in
    let w = profile_step model _ _ 0 c.put_items-len.result.1 c.put_items-len.ensures.put.2 [] [] (none_written model) in
    (w.items, subst (λ t. Reads t w.items) (front_is c.args.walk.text.now c.put_items-len.result.0) w.reads)
