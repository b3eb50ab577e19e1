use Rattle.std.proofs.Common.{rules, sym, subst}
use Rattle.std.proofs.lemmas.Result.{IfOk-weaker}
use Rattle.pf_values.specs.Arg.{argument_of}
use Rattle.pf_values.specs.meaning.Printing.{Prints}
use Rattle.pf_compare.proofs.ProbeLemmas.{told_here, told_printed}
use Rattle.pf_compare.proofs.witnesses.printed_differ.Goals as goal

pub returns-then-have_same_offsets : goal.returns-then-have_same_offsets
returns-then-have_same_offsets c =
    told_printed c.args.model c.args.whole.now c.args.first.now c.args.second.now
    (argument_of c.args.argument) c.deref.result.now c.deref-then-have_same_offsets.result.now
    (subst (Prints c.args.model c.args.first.now.directive (argument_of c.args.argument)) (sym c.deref.ensures.value) c.in_ok-first_bytes.ensures)
    (subst (Prints c.args.model c.args.second.now.directive (argument_of c.args.argument))
    (sym c.deref-then-have_same_offsets.ensures.value) c.in_ok-second_bytes.ensures)
    c.are_unlike.result
    (told_here c.args.whole.now c.args.first.now c.args.second.now
    (c.have_same_offsets.ensures (rw c.if-have_same_offsets.true
    (search rules))) c.deref.result.now c.deref-then-have_same_offsets.result.now c.are_unlike.result c.are_unlike.ensures)

pub returns : goal.returns
returns c = IfOk-weaker c.replaced_differ.result _ _
    (λ b h. told_printed c.args.model c.args.whole.now c.args.first.now c.args.second.now
    (argument_of c.args.argument) c.deref-3.result.now c.deref-4.result.now
    (subst (Prints c.args.model c.args.first.now.directive (argument_of c.args.argument)) (sym c.deref-3.ensures.value) c.in_ok-first_bytes.ensures)
    (subst (Prints c.args.model c.args.second.now.directive (argument_of c.args.argument))
    (sym c.deref-4.ensures.value) c.in_ok-second_bytes.ensures) b h) c.replaced_differ.ensures
