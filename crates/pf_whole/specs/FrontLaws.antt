-- What comes after a front, a stretch and what the profile lacks, and that this is a front again.
use Rattle.std.proofs.Common.{◌≡◌, List, ◌++◌, refl, sym, ap, ◌∙◌, subst}
use Rattle.std.proofs.lemmas.List.{append_assoc}
use Rattle.pf_values.specs.declared.models.Model.{Model}
use Rattle.pf_values.specs.meaning.Canonical.{IsCanonicalOf}
use Rattle.pf_values.specs.meaning.Items.{Item, Reads}
use Rattle.pf_values.specs.meaning.Text.{Text}
use Rattle.pf_text.proofs.Texts.{Reads-unique}
use Rattle.pf_canon.specs.Languages.{ComesVerbatim}
use Rattle.pf_posix.specs.Opaque.{OpaqueItem, SpellsOpaqueItem}
use Rattle.pf_posix.specs.Stretches.{Before}
use Rattle.pf_whole.specs.Fronts.{IsWholeFront}
use Rattle.pf_whole.specs.Verbatim.{IsOwnSpelling}
use Rattle.pf_whole.specs.meaning.NormalSpellings.{normal_spelling}
use Rattle.pf_whole.specs.meaning.WholeCanonical.{IsCanonicalStretch, IsPutTogether}

-- the canonical text that `pf_canon` gives for a stretch is that of the stretch
pub stretch_of : (model : Model) (t c : Text) (items : List Item) → Reads t items → IsCanonicalOf model t c → IsCanonicalStretch model items c
stretch_of model t c items reads h =
    let first : h.equivalent.first ≡ items = Reads-unique t h.equivalent.first items h.equivalent.reads_first reads in
    let second : h.equivalent.second ≡ h.canonical.0 = Reads-unique c h.equivalent.second h.canonical.0 h.equivalent.reads_second h.canonical.1.reads in
    record { own = h.canonical.0; canonical = h.canonical.1; alike = rw (first, second) at h.equivalent.alike }

module _ (model : Model) where
  -- after a front a stretch comes, and what the profile lacks
  pub past_opaque : (front out last own middle : Text) (items : List Item) (s : OpaqueItem) → IsWholeFront model front out → Reads last items
      → IsCanonicalOf model last own → SpellsOpaqueItem middle s
      → IsWholeFront model ((front ++ last) ++ middle) ((out ++ own) ++ normal_spelling model s)
  past_opaque front out last own middle items s h reads is spells = record {
    continues = λ rest left later.
        let (whole, all, together) = h.continues ((last ++ middle) ++ rest) (Before items s left) (last, middle, rest, reads, spells, later, refl) in
        let text : front ++ ((last ++ middle) ++ rest) ≡ ((front ++ last) ++ middle) ++ rest =
        sym (append_assoc front (last ++ middle) rest) ∙ ap (λ u. u ++ rest) (sym (append_assoc front last middle)) in (
          whole,
          rw (← text) all,
          λ back k.
              let normal = normal_spelling model s in
              let put : out ++ ((own ++ normal) ++ back) ≡ ((out ++ own) ++ normal) ++ back =
              sym (append_assoc out (own ++ normal) back) ∙ ap (λ u. u ++ back) (sym (append_assoc out own normal)) in
              subst (IsPutTogether model whole) put
              (together ((own ++ normal) ++ back) (own, back, stretch_of model last own items reads is, k, refl)),
        );
  }

  -- which comes as it is if that is its normal spelling
  pub past_verbatim : ComesVerbatim IsWholeFront IsOwnSpelling model
  past_verbatim front out last own passed items begins reads is (other, spells, normal) =
      subst (λ u. IsWholeFront model ((front ++ last) ++ passed) ((out ++ own) ++ u)) (normal model)
      (past_opaque front out last own passed items other begins reads is spells)
