-- Arguments for a text, and a text that takes those at their beginning.
use Rattle.std.proofs.Common.{◌≡◌, ◌≤◌, List, [], ◌∷◌, ◌++◌, length, take, subst, ◌∙◌, arith}
use Rattle.pf_values.specs.declared.models.Model.{Model}
use Rattle.pf_posix.specs.declared.types.WholeArgType.{WholeArgType}
use Rattle.pf_posix.proofs.Unique.{one_list}
use Rattle.pf_whole.specs.Laws.{ServeFewer}
use Rattle.pf_whole.specs.meaning.WholeArguments.{WholeArgument, HasWholeTypes}

serve_first : (model : Model) (args : List WholeArgument) (others more : List WholeArgType) → HasWholeTypes model args (others ++ more)
    → (length others ≤ length args) × HasWholeTypes model (take (length others) args) others
serve_first model [] [] more h = (omega arith, tt)
serve_first model (a ∷ args) [] more h = (omega arith, tt)
serve_first model [] (o ∷ others) more h = absurd h
serve_first model (a ∷ args) (o ∷ others) more h = let back = serve_first model args others more h.1 in (omega (arith, back.0), (h.0, back.1))

pub serve_fewer : (model : Model) → ServeFewer model
serve_fewer model t u types args h accepted typed =
    let same : types ≡ h.others ++ h.excess.0 = one_list model t types h.types accepted h.first_accepted ∙ h.excess.1 in
    let first = serve_first model args h.others h.excess.0 (subst (HasWholeTypes model args) same typed) in
    (h.others, h.second_accepted, first.0, first.1)
