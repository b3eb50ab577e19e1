-- Each text of the whole language has a canonical text.
use Rattle.std.proofs.Common.{◌≡◌, List, ◌++◌, refl, subst}
use Rattle.pf_values.specs.declared.models.Model.{Model}
use Rattle.pf_values.specs.meaning.Items.{Item, Reads}
use Rattle.pf_values.specs.meaning.Text.{Text}
use Rattle.pf_canon.proofs.SomeCanonical.{some_canonical}
use Rattle.pf_posix.specs.Stretches.{Stretches, Last, Before, ReadsStretches, IsUnnumberedAccepted}
use Rattle.pf_whole.specs.Answers.{IsWholeCanonicalFor}
use Rattle.pf_whole.specs.meaning.WholeHeadline.{HasOneWholeCanonical, WholeHeadline}
use Rattle.pf_whole.specs.meaning.NormalSpellings.{normal_spelling}
use Rattle.pf_whole.specs.meaning.Traces.{AreWholeAlike}
use Rattle.pf_whole.specs.meaning.WholeCanonical.{IsCanonicalStretch, IsPutTogether, IsWholeCanonicalOf}
use Rattle.pf_whole.proofs.Completeness.{alike_have_one_canonical}
use Rattle.pf_whole.specs.FrontLaws.{stretch_of}
use Rattle.pf_whole.proofs.OneCanonical.{alike_to_it, its_own, one_canonical_is_alike}

some_stretch : (model : Model) (t : Text) (items : List Item) → Reads t items → (c : Text) × IsCanonicalStretch model items c
some_stretch model t items reads = let some = some_canonical model t items reads in (some.0, stretch_of model t some.0 items reads some.1)

some_whole : (model : Model) (t : Text) (a : Stretches) → ReadsStretches t a → (c : Text) × IsPutTogether model a c
some_whole model t (Last items) reads = some_stretch model t items reads
some_whole model t (Before items s rest) reads =
    let first = some_stretch model reads.0 items reads.3 in
    let back = some_whole model reads.2 rest reads.5 in
    ((first.0 ++ normal_spelling model s) ++ back.0, (first.0, back.0, first.1, back.1, refl))

pub one_canonical : (model : Model) (t : Text) → IsUnnumberedAccepted t → HasOneWholeCanonical model t
one_canonical model t h =
    let some = some_whole model t h.stretches h.reads in
    let is : IsWholeCanonicalOf model t some.0 = record { stretches = h.stretches; reads = h.reads; together = some.1 } in
    let same = alike_to_it model t some.0 is in
    let self : AreWholeAlike model t t = one_canonical_is_alike model t t some.0 is is in
    record {
      canonical = some.0;
      is = is;
      only = λ other g. alike_have_one_canonical model t t other some.0 self g is;
      means_the_same = same;
      is_its_own = its_own model t some.0 is;
    }

pub headline : (model : Model) → WholeHeadline model
headline model t u h g =
    let first = one_canonical model t h in
    let second = one_canonical model u g in
    record {
      first = first;
      second = second;
      same = (
        λ alike. alike_have_one_canonical model t u first.canonical second.canonical alike first.is second.is,
        λ e. one_canonical_is_alike model t u second.canonical (subst (IsWholeCanonicalOf model t) e first.is) second.is,
      );
    }

pub one_whole_canonical : (model : Model) (t c d : Text) → IsWholeCanonicalFor model t c → IsWholeCanonicalFor model t d → c ≡ d
one_whole_canonical model t c d h g =
    alike_have_one_canonical model t t c d (one_canonical_is_alike model t t c h.canonical_is h.canonical_is) h.canonical_is g.canonical_is
