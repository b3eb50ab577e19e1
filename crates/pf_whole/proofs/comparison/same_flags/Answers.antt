use Rattle.std.proofs.Common.{◌≡◌, Bool, true, false, refl, sym, ◌∙◌, subst}
use Rattle.std.proofs.Math.Bool.{beq, ◌&&◌}
use Rattle.pf_whole.proofs.comparison.same_flags.Goals as goal

both : (a b : Bool) → (a && b) ≡ true → (a ≡ true) × (b ≡ true)
both true b h = (refl, h)
both false b h = cc

equal : (a b : Bool) → beq a b ≡ true → a ≡ b
equal true true h = refl
equal true false h = cc
equal false true h = cc
equal false false h = refl

pub returns : goal.returns
returns c = λ is.
    let first = c.args.first in
    let second = c.args.second in
    let (minus, rest) = both _ _ (sym c.eq.ensures ∙ is) in
    let (plus, rest) = both _ _ rest in
    let (space, rest) = both _ _ rest in
    let (alt, rest) = both _ _ rest in
    let (zero, group) = both _ _ rest in
    let step : first ≡ record first { minus = second.minus } = subst (λ b. first ≡ record first { minus = b }) (equal _ _ minus) refl in
    let step : first ≡ record second { space = first.space; alt = first.alt; zero = first.zero; group = first.group } =
    subst (λ b. first ≡ record first { minus = second.minus; plus = b }) (equal _ _ plus) step in
    let step : first ≡ record second { alt = first.alt; zero = first.zero; group = first.group } =
    subst (λ b. first ≡ record second { space = b; alt = first.alt; zero = first.zero; group = first.group }) (equal _ _ space) step in
    let step : first ≡ record second { zero = first.zero; group = first.group } =
    subst (λ b. first ≡ record second { alt = b; zero = first.zero; group = first.group }) (equal _ _ alt) step in
    let step : first ≡ record second { group = first.group } =
    subst (λ b. first ≡ record second { zero = b; group = first.group }) (equal _ _ zero) step in
    subst (λ b. first ≡ record second { group = b }) (equal _ _ group) step
