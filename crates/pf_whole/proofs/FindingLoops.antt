-- What a loop over the stretches of two texts keeps, while it looks for arguments that tell them apart.
use Rattle.std.proofs.Common.{◌≡◌, Bool, true, false, List, [], ◌++◌, map, refl, sym, ◌∙◌, subst, inl, inr}
use Rattle.std.specs.Prelude.{Option, Some}
use Rattle.std.proofs.lemmas.List.{append_assoc}
use Rattle.pf_values.specs.declared.models.Model.{Model}
use Rattle.pf_values.specs.Candidates.{neutrals}
use Rattle.pf_values.specs.meaning.Arguments.{Argument}
use Rattle.pf_values.specs.meaning.Items.{Item, types}
use Rattle.pf_values.specs.meaning.Printing.{PrintAlike}
use Rattle.pf_compare.specs.Answers.{PrintTheSame}
use Rattle.pf_posix.specs.Opaque.{OpaqueItem}
use Rattle.pf_whole.specs.Answers.{neutral_shown}
use Rattle.pf_whole.specs.Findings.{IsTellingProbe, NeutralAgrees, NeutralTells, ShowsTelling, shown_any, shown_neutrals}
use Rattle.pf_whole.specs.Laws.{Correspond}
use Rattle.pf_whole.specs.meaning.NormalSpellings.{normal_spelling}
use Rattle.pf_posix.specs.Stretches.{Stretches, Last, Before}
use Rattle.pf_whole.proofs.FindingLemmas.{alike_neutrally}

-- what is to be seen of what is left: once a probe is found, that neutral arguments don't tell it apart
abbrev pub GoesOn : Model → Stretches → Stretches → Stretches → Stretches → List (Option Argument) → Bool → Type 0
GoesOn model a b left more shown true = NeutralAgrees model left more → ShowsTelling model a b (shown ++ neutral_shown model left)
GoesOn model a b left more shown false = ((back : List (Option Argument)) → ShowsTelling model left more back → ShowsTelling model a b (shown ++ back))
    × (Correspond model left more → Correspond model a b)

pub record IsComparedUpTo (model : Model) (a b left more : Stretches) (shown : List (Option Argument)) (found : Bool) : Type 0 where
  pub neutral : NeutralTells model left more → NeutralTells model a b
  pub goes_on : GoesOn model a b left more shown found

pub compared_from : (model : Model) (a b : Stretches) → IsComparedUpTo model a b a b [] false
compared_from model a b = record { neutral = λ h. h; goes_on = (λ back h. h, λ h. h) }

pub join : {X : Type 0} (shown first own back : List X) → shown ++ (first ++ (own ++ back)) ≡ ((shown ++ first) ++ own) ++ back
join shown first own back =
    sym (append_assoc shown first (own ++ back)) ∙ sym (append_assoc (shown ++ first) own back)

-- a stretch after which neutral arguments are shown
pub past_same : (model : Model) (a b rest more : Stretches) (xs ys : List Item) (s p : OpaqueItem) (shown : List (Option Argument))
    → IsComparedUpTo model a b (Before xs s rest) (Before ys p more) shown true → PrintTheSame model xs ys (neutrals (types model xs))
    → IsComparedUpTo model a b rest more ((shown ++ shown_neutrals model xs) ++ shown_any model s) true
past_same model a b rest more xs ys s p shown h same = record {
  neutral = λ tells. h.neutral (inr tells);
  goes_on = λ agrees. subst (ShowsTelling model a b) (join shown (shown_neutrals model xs) (shown_any model s) (neutral_shown model rest))
      (h.goes_on (same, agrees));
}

-- stretches that print alike
pub past_alike : (model : Model) (a b rest more : Stretches) (xs ys : List Item) (s p : OpaqueItem) (shown : List (Option Argument)) (found : Bool)
    → IsComparedUpTo model a b (Before xs s rest) (Before ys p more) shown found → PrintAlike model xs ys → normal_spelling model s ≡ normal_spelling model p
    → IsComparedUpTo model a b rest more ((shown ++ shown_neutrals model xs) ++ shown_any model s) found
past_alike model a b rest more xs ys s p shown true h alike spelling =
    past_same model a b rest more xs ys s p shown h (alike_neutrally model xs ys alike)
past_alike model a b rest more xs ys s p shown false h alike spelling = record {
  neutral = λ tells. h.neutral (inr tells);
  goes_on = (
    λ back shows. subst (ShowsTelling model a b) (join shown (shown_neutrals model xs) (shown_any model s) back)
        (h.goes_on.0 _ (inr (back, refl, alike, shows))),
    λ same. h.goes_on.1 (alike, spelling, same),
  );
}

-- the first stretches that a probe tells apart
pub past_probe : (model : Model) (a b rest more : Stretches) (xs ys : List Item) (s p : OpaqueItem) (shown : List (Option Argument))
    (args : List Argument)
    → IsComparedUpTo model a b (Before xs s rest) (Before ys p more) shown false → IsTellingProbe model xs ys args
    → IsComparedUpTo model a b rest more ((shown ++ map Some args) ++ shown_any model s) true
past_probe model a b rest more xs ys s p shown args h probe = record {
  neutral = λ tells. h.neutral (inr tells);
  goes_on = λ agrees. subst (ShowsTelling model a b) (join shown (map Some args) (shown_any model s) (neutral_shown model rest))
      (h.goes_on.0 _ (inl (args, refl, probe, agrees)));
}

-- the last stretches
pub ends_same : (model : Model) (a b : Stretches) (xs ys : List Item) (shown : List (Option Argument))
    → IsComparedUpTo model a b (Last xs) (Last ys) shown true → PrintTheSame model xs ys (neutrals (types model xs))
    → ShowsTelling model a b (shown ++ shown_neutrals model xs)
ends_same model a b xs ys shown h same = h.goes_on same

pub ends_with_probe : (model : Model) (a b : Stretches) (xs ys : List Item) (shown : List (Option Argument)) (args : List Argument)
    → IsComparedUpTo model a b (Last xs) (Last ys) shown false → IsTellingProbe model xs ys args → ShowsTelling model a b (shown ++ map Some args)
ends_with_probe model a b xs ys shown args h probe = h.goes_on.0 (map Some args) (args, refl, probe)

pub ends_alike : (model : Model) (a b : Stretches) (xs ys : List Item) (shown : List (Option Argument))
    → IsComparedUpTo model a b (Last xs) (Last ys) shown false → PrintAlike model xs ys → Correspond model a b
ends_alike model a b xs ys shown h alike = h.goes_on.1 alike
