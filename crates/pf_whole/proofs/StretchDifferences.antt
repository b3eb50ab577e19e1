-- What a comparison of the profile says of two stretches of equal types.
use Rattle.std.proofs.Common.{◌≡◌, ℕ, List, refl, sym, ap, subst}
use Rattle.std.specs.Prelude.{slice_get}
use Rattle.pf_values.specs.declared.models.Model.{Model}
use Rattle.pf_values.specs.Candidates.{neutrals}
use Rattle.pf_values.specs.meaning.Arguments.{Argument}
use Rattle.pf_values.specs.meaning.Items.{HasItems, Item, Reads, types}
use Rattle.pf_values.specs.meaning.Printing.{PrintAlike}
use Rattle.pf_values.specs.meaning.Text.{Text}
use Rattle.pf_text.proofs.Texts.{Reads-unique}
use Rattle.pf_compare.specs.declared.comparisons.Difference.{Difference}
use Rattle.pf_compare.specs.declared.comparisons.Difference.TheVariants.{Nowhere, Types, Neutral, Probe as Told}
use Rattle.pf_compare.specs.declared.witnesses.Probe.{Probe}
use Rattle.pf_compare.specs.Answers.{IsDifference, IsDifferenceOf, IsOtherProbe, IsProbeOf, PrintTheSame, probe_at}
use Rattle.pf_compare.specs.Owned.{argument_of_owned}
use Rattle.pf_whole.specs.Comparisons.{IsStretchDifference}
use Rattle.pf_whole.specs.Findings.{IsTellingProbe}
use Rattle.pf_whole.proofs.Loops.{stretches_equivalent}
use Rattle.pf_whole.proofs.OneCanonical.{print_refl}

-- stretches of equal bytes are read as the same items
pub equal_stretches : (model : Model) (t u : Text) (xs ys : List Item) → t ≡ u → HasItems t xs → HasItems u ys → PrintAlike model xs ys
equal_stretches model t u xs ys e k l =
    subst (PrintAlike model xs) (Reads-unique t xs ys k.reads (subst (λ v. Reads v ys) (sym e) l.reads)) (print_refl model xs)

-- the difference is one of the items that the stretches are read as
difference_of_items : (model : Model) (t u : Text) (difference : Difference) (xs ys : List Item) → IsDifferenceOf model t u difference
    → HasItems t xs → HasItems u ys → IsDifference model t u xs ys difference
difference_of_items model t u difference xs ys h k l =
    let first : h.first ≡ xs = Reads-unique t h.first xs h.accepted_first.reads k.reads in
    let second : h.second ≡ ys = Reads-unique u h.second ys h.accepted_second.reads l.reads in
    subst (λ b. IsDifference model t u xs b difference) second (subst (λ a. IsDifference model t u a h.second difference) first h.is)

pub stretches_differ : (model : Model) (t u : Text)
    → (xs : List Item) × (ys : List Item) × HasItems t xs × HasItems u ys × (types model xs ≡ types model ys)
    → (difference : Difference) → IsDifferenceOf model t u difference → IsStretchDifference model t u difference
stretches_differ model t u r Nowhere h = λ xs ys k l. (stretches_equivalent model t u xs ys k.reads l.reads).0 (h.same.0 refl)
stretches_differ model t u r (Types index) h = λ xs ys k l.
    absurd ((difference_of_items model t u (Types index) r.0 r.1 h r.2 r.3).differ (ap (λ ts. slice_get ts index) r.4))
stretches_differ model t u r Neutral h = λ xs ys k l. (difference_of_items model t u Neutral xs ys h k l).1
stretches_differ model t u r (Told probe) h = λ xs ys k l.
    let is = difference_of_items model t u (Told probe) xs ys h k l in
    (is.1, is.2)

-- the probe, and the arguments of a comparison
pub probe_tells : (model : Model) (xs ys : List Item) (probe : Probe) → PrintTheSame model xs ys (neutrals (types model xs)) → IsProbeOf model xs ys probe
    → IsTellingProbe model xs ys (probe_at (types model xs) probe.index (argument_of_owned probe.argument))
probe_tells model xs ys probe same is = record {
  neutral_same = same;
  index = probe.index;
  candidate_index = is.candidate_index;
  argument = argument_of_owned probe.argument;
  probe = is.probe_is;
  args_are = refl;
}

pub telling_probe : (model : Model) (xs ys : List Item) (shown : List Argument) (renderings : ℕ) → IsOtherProbe model xs ys shown renderings
    → IsTellingProbe model xs ys shown
telling_probe model xs ys shown renderings probe = record {
  neutral_same = probe.neutral_same;
  index = probe.index;
  candidate_index = probe.candidate_index;
  argument = probe.argument;
  probe = probe.probe;
  args_are = probe.args_are;
}
