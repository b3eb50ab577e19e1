-- Arguments of the profile, as arguments of the whole language.
use Rattle.std.proofs.Common.{◌≡◌, List, [], ◌∷◌, map, refl}
use Rattle.pf_values.specs.declared.models.Model.{Model}
use Rattle.pf_values.specs.declared.types.ArgType.{ArgType}
use Rattle.pf_values.specs.meaning.Arguments.{Argument, HasTypes}
use Rattle.pf_posix.specs.Types.{widened}
use Rattle.pf_whole.specs.meaning.WholeArguments.{Known, HasWholeTypes}

pub widened_once : (a b : List ArgType) → map widened a ≡ map widened b → a ≡ b
widened_once [] [] e = refl
widened_once [] (y ∷ b) e = cc
widened_once (x ∷ a) [] e = cc
widened_once (x ∷ a) (y ∷ b) e =
    let rest = widened_once a b (cc) in
    cc

pub known_once : (a b : List Argument) → map Known a ≡ map Known b → a ≡ b
known_once [] [] e = refl
known_once [] (y ∷ b) e = cc
known_once (x ∷ a) [] e = cc
known_once (x ∷ a) (y ∷ b) e = let rest = known_once a b (cc) in cc

pub known_typed : (model : Model) (args : List Argument) (types : List ArgType) → HasTypes model args types
    → HasWholeTypes model (map Known args) (map widened types)
known_typed model [] [] h = tt
known_typed model [] (type ∷ types) h = absurd h
known_typed model (argument ∷ args) [] h = absurd h
known_typed model (argument ∷ args) (type ∷ types) h = (h.0, known_typed model args types h.1)

pub typed_known : (model : Model) (args : List Argument) (types : List ArgType) → HasWholeTypes model (map Known args) (map widened types)
    → HasTypes model args types
typed_known model [] [] h = tt
typed_known model [] (type ∷ types) h = absurd h
typed_known model (argument ∷ args) [] h = absurd h
typed_known model (argument ∷ args) (type ∷ types) h =
    (h.0, typed_known model args types h.1)
