-- One meaning, one canonical text.
use Rattle.std.specs.Prelude.{◌≡◌, ◌↔◌}
use Rattle.std.proofs.Common.{subst}
use Rattle.pf_values.specs.declared.models.Model.{Model}
use Rattle.pf_values.specs.meaning.Canonical.{IsCanonicalOf}
use Rattle.pf_values.specs.meaning.Items.{IsAccepted}
use Rattle.pf_values.specs.meaning.Printing.{AreEquivalent}
use Rattle.pf_values.specs.meaning.Text.{Text}
use Rattle.pf_canon.proofs.EquivalentTexts.{equivalent_by}
use Rattle.pf_canon.proofs.SomeCanonical.{some_canonical}
use Rattle.pf_probes.proofs.Unique.{equivalent_formats_one, one_canonical, own_canonical}
use Rattle.pf_values.specs.meaning.Headline.{HasOneCanonical, HaveOneMeaning}

only_one : (model : Model) (t c : Text) → IsCanonicalOf model t c → HasOneCanonical model t
only_one model t c h = record {
  canonical = c;
  is = h;
  only = λ d g. one_canonical model t d c g h;
  means_the_same = h.equivalent;
  is_its_own = own_canonical model c h.canonical;
}

pub one_text : (model : Model) (t : Text) → IsAccepted t → HasOneCanonical model t
one_text model t h = let some = some_canonical model t h.0 h.1.reads in only_one model t some.0 some.1

-- two texts are equivalent where their canonical texts are one
pub one_same : (model : Model) (t u : Text) (h : HasOneCanonical model t) (g : HasOneCanonical model u)
    → (AreEquivalent model t u ↔ (h.canonical ≡ g.canonical))
one_same model t u h g = (
  λ e. equivalent_formats_one model t u h.canonical g.canonical e h.is g.is,
  λ e. equivalent_by model t u g.canonical (subst (λ c. AreEquivalent model t c) e h.means_the_same) g.means_the_same,
)

pub one_meaning : (model : Model) (t u : Text) → HasOneCanonical model t → HasOneCanonical model u → HaveOneMeaning model t u
one_meaning model t u h g = record { first = h; second = g; same = one_same model t u h g }
