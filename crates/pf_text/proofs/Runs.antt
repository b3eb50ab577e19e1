-- What bytes make, one after another.
use Rattle.std.proofs.Common.{◌≡◌, ℕ, List, [], ◌∷◌, ◌++◌, refl, Ok, Err, Result}
use Rattle.std.specs.Prelude.{fold}
use Rattle.std.proofs.lemmas.Grind.{fold-append}
use Rattle.pf_values.specs.declared.refusals.RefusalKind.{RefusalKind}
use Rattle.pf_values.specs.meaning.Items.{Item}
use Rattle.pf_values.specs.meaning.Text.{Text}
use Rattle.pf_text.specs.Stages.{State}
use Rattle.pf_text.specs.History.{with_step}
use Rattle.pf_text.specs.States.{Next, next}

abbrev pub Progress : Type 0
Progress = Result (State × List Item) RefusalKind

abbrev pub moved : List Item → Next → Progress
moved items (Ok p) = Ok (p.0, with_step items p.1)
moved items (Err kind) = Err kind

abbrev pub advance : Progress → ℕ → Progress
advance (Ok p) byte = moved p.1 (next p.0 byte)
advance (Err kind) byte = Err kind

abbrev pub run : Progress → Text → Progress
run from t = fold advance from t

pub run-append : (p : Progress) (t u : Text) → run p (t ++ u) ≡ run (run p t) u
run-append p t u = fold-append advance p t u

pub run-refused : (kind : RefusalKind) (t : Text) → run (Err kind) t ≡ Err kind
run-refused kind [] = refl
run-refused kind (b ∷ t) = run-refused kind t

-- what is run through is run through at each front
pub front-ok : (p : Progress) (t u : Text) (q : State × List Item) → run p (t ++ u) ≡ Ok q → (r : State × List Item) × (run p t ≡ Ok r)
front-ok p t u q e = go (run p t) refl where
  go : (r : Progress) → run p t ≡ r → (r : State × List Item) × (run p t ≡ Ok r)
  go (Ok r) h = (r, h)
  go (Err kind) h = let refused = run-refused kind u in let all = run-append p t u in cc
