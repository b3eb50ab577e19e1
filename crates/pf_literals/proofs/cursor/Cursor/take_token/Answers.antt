use Rattle.std.proofs.Common.{arith, sym}
use Rattle.std.proofs.lemmas.List.{take_rest}
use Rattle.pf_literals.proofs.WalkLemmas.{gave, gives_within, stops_within, turned}
use Rattle.pf_literals.proofs.cursor.Cursor.take_token.Goals as goal

pub overflow_add-self-in-Character : goal.overflow_add-self-in-Character
overflow_add-self-in-Character c =
    let t = c.args.source.now in
    let at = c.args.self.now.at in
    let few = gives_within t c.args.self.now.context at c.in-Character.value c.in-Character.len
    (sym (rw (take_rest t at) at c.in-Character.ensures)) c.requires in
    omega (arith, few.1)

pub overflow_add-at : goal.overflow_add-at
overflow_add-at c =
    let t = c.args.source.now in
    let at = c.args.self.now.at in
    let few = stops_within t c.args.self.now.context at c.in-Invalid.on c.in-Invalid.kind (sym (rw (take_rest t at) at c.in-Invalid.ensures)) c.requires in
    omega (arith, few)

pub returns-in-White-clause-next : goal.returns-in-White-clause-next
returns-in-White-clause-next c =
    let t = c.args.source.now in
    let at = c.args.self.now.at in
    turned t c.args.self.now.context at c.requires _ (sym (rw (take_rest t at) at c.in-White.ensures))

pub returns-in-OpenQuote-clause-next : goal.returns-in-OpenQuote-clause-next
returns-in-OpenQuote-clause-next c =
    let t = c.args.source.now in
    let at = c.args.self.now.at in
    turned t c.args.self.now.context at c.requires _ (sym (rw (take_rest t at) at c.in-OpenQuote.ensures))

pub returns-in-CloseQuote-clause-next : goal.returns-in-CloseQuote-clause-next
returns-in-CloseQuote-clause-next c =
    let t = c.args.source.now in
    let at = c.args.self.now.at in
    turned t c.args.self.now.context at c.requires _ (sym (rw (take_rest t at) at c.in-CloseQuote.ensures))

pub returns-in-Character-clause-next : goal.returns-in-Character-clause-next
returns-in-Character-clause-next c =
    let t = c.args.source.now in
    let at = c.args.self.now.at in
    gave t c.args.self.now.context at c.requires c.in-Character.value c.in-Character.len (sym (rw (take_rest t at) at c.in-Character.ensures))

pub returns-in-Character-clause-further : goal.returns-in-Character-clause-further
returns-in-Character-clause-further c =
    let t = c.args.source.now in
    let at = c.args.self.now.at in
    let few = gives_within t c.args.self.now.context at c.in-Character.value c.in-Character.len
    (sym (rw (take_rest t at) at c.in-Character.ensures)) c.requires in
    (omega (arith, few.0), few.1, omega arith, omega (arith, few.0, few.1))
