use Rattle.std.proofs.Common.{◌≡◌, ◌++◌, ◌∙◌, List, arith, length, subst, sym, take}
use Rattle.std.proofs.lemmas.List.{length-take-le}
use Rattle.pf_values.specs.meaning.Items.{Item, Reads}
use Rattle.pf_canon.specs.Making.{IsWritten, PutsItems}
use Rattle.pf_canon.proofs.BlockLemmas.{none_taken}
use Rattle.pf_canon.proofs.ItemLemmas.{front_is, front_of_walk}
use Rattle.pf_canon.proofs.WrittenLemmas.{written_through}
use Rattle.pf_canon.proofs.transducer.Transducer.put_front.Goals as goal

pub returns-then-not-may_pass-clause-put : goal.returns-then-not-may_pass-clause-put
returns-then-not-may_pass-clause-put g c = none_taken g.met.S.Sink.laws c.args.sink.now c.args.self.now

pub returns-clause-within : goal.returns-clause-within
returns-clause-within g c = (front_of_walk c.args.text.now c.new.result c.new.ensures.over c.put_items-len.result c.put_items-len.ensures.within).1

pub returns-clause-put : goal.returns-clause-put
returns-clause-put g c =
    let r = c.args.self.now in
    let text = c.args.text.now in
    let put = c.put_items-len in
    let len = put.result in
    let front = take len text in
    let place = front_of_walk text c.new.result c.new.ensures.over len put.ensures.within in
    let same : take len c.new.result.text.now ≡ front = sym (front_is c.new.result.text.now len) ∙ place.0 in
    let (more, given, written) = subst (λ t. PutsItems g.S.Sink.given
    (IsWritten r.model) c.args.sink.now put.new.sink t r.silents put.new.self.silents) same put.ensures.put in
    let reads : (items : List Item) × Reads front items = subst (λ t. (items : List Item) × Reads t items) same put.ensures.reads in
    let long : length front ≡ len = length-take-le len text place.1 in (
      more,
      given,
      λ model t out items h.
          let may = c.may_pass.ensures t items h.after c.if-not-may_pass.false in
          let after = c.pass_items.ensures t front items reads.0 (rw put.ensures.scanner h.after) may.0 reads.1 long
          (rw put.ensures.scanner (omega (arith, may.1, place.1))) in (
            items ++ reads.0,
            written_through model r _ t out front more items reads.0 h may.0 put.ensures.model (rw h.model_is at written) reads.1 after,
          ),
    )
