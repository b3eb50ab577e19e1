use Rattle.std.proofs.Common.{◌≡◌, ◌∷◌, ◌++◌, [], decimal, arith, rules, sym, ap, ◌∙◌, subst}
use Rattle.pf_values.specs.meaning.Conversions.{conv_letter, kept_conv}
use Rattle.pf_values.specs.meaning.DataModel.{kept_length}
use Rattle.pf_values.specs.meaning.Lengths.{length_letters}
use Rattle.pf_canon.specs.ChangedDirectives.{letters_kept}
use Rattle.pf_canon.proofs.PutLemmas.{two_digits}
use Rattle.pf_canon.proofs.items.put_core.Goals as goal

pub returns-then-not-is_empty : goal.returns-then-not-is_empty
returns-then-not-is_empty g c =
    let width = c.args.width in
    let two = two_digits width c.digit-tens.result c.digit-ones.result
    (omega (arith, c.if-width-lt10.false)) c.requires c.digit-tens.ensures c.digit-ones.ensures in
    g.met.S.Sink.laws.both c.args.sink.now c.put-then-not-is_empty.new.self c.put_kept_letters-then-not-is_empty.new.sink (decimal width)
    (letters_kept c.args.model c.args.directive.now)
    (subst (g.S.Sink.given c.args.sink.now c.put-then-not-is_empty.new.self) (sym two) c.put-then-not-is_empty.ensures)
    c.put_kept_letters-then-not-is_empty.ensures

pub returns : goal.returns
returns g c =
    let s = c.args.directive.now in
    let width = c.args.width in
    let two = two_digits width c.digit-tens.result c.digit-ones.result
    (omega (arith, c.if-width-lt10.false)) c.requires c.digit-tens.ensures c.digit-ones.ensures in
    let none : length_letters (kept_length c.args.model s.length) ≡ [] =
    ap length_letters (ap (kept_length c.args.model) (sym c.length.ensures.value) ∙ sym c.representative.ensures) ∙ sym c.letters.ensures ∙ search rules in
    let letter : c.letter.result ≡ conv_letter (kept_conv s.conv) =
    c.letter.ensures ∙ ap conv_letter (c.representative-2.ensures ∙ ap kept_conv c.conv.ensures.value) in
    subst (g.S.Sink.given c.args.sink.now c.put-2.new.self)
    (ap (λ t. t ++ c.letter.result ∷ []) (sym two) ∙ ap (λ l. decimal width ++ l ∷ []) letter
    ∙ ap (λ t. decimal width ++ (t ++ conv_letter (kept_conv s.conv) ∷ [])) (sym none)) c.put-2.ensures
