-- What holds of the items of two lists, pair by pair, where one list comes after another.
use Rattle.std.proofs.Common.{◌≡◌, List, [], ◌∷◌, ◌++◌, length, arith}
use Rattle.std.specs.List.{AllZip}

pub zip_parts : {A B : Type 0} (R : A → B → Type 0) (xs ys : List A) (a b : List B) → length xs ≡ length a → AllZip R (xs ++ ys) (a ++ b)
    → AllZip R xs a × AllZip R ys b
zip_parts R [] ys [] b e h = (tt, h)
zip_parts R [] ys (y ∷ a) b e h = absurd (omega (arith, e))
zip_parts R (x ∷ xs) ys [] b e h = absurd (omega (arith, e))
zip_parts R (x ∷ xs) ys (y ∷ a) b e h = let rest = zip_parts R xs ys a b (omega (arith, e)) h.1 in ((h.0, rest.0), rest.1)
