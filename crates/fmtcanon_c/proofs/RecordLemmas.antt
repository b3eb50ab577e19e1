-- The records of specifications in a buffer.
use Rattle.std.proofs.Common.{◌≡◌, ◌∙◌, ℕ, ◌+◌, ◌<◌, ◌≤◌, List, [], ◌∷◌, ◌++◌, length, drop, slice_set, get_or, sym, ap, arith, inl, inr, refl}
use Rattle.std.specs.List.{AllZip}
use Rattle.std.proofs.lemmas.Bool.{le-leb}
use Rattle.std.proofs.lemmas.Bool.Decides.{leb_tells}
use Rattle.std.proofs.lemmas.List.{append_assoc, drop_more, length_push, set_at}
use Rattle.pf_values.specs.declared.models.Model.{Model}
use Rattle.pf_posix.specs.declared.specification_spans.SpecificationSpan.{SpecificationSpan}
use Rattle.fmtcanon_c.specs.declared.specifications.CSpecification.{CSpecification}
use Rattle.fmtcanon_c.specs.Specifications.{ArePut, IsRecordOf}

-- records of these specifications are put, and the rest of the buffer is as it was
pub record ArePutTo (model : Model) (listed : List SpecificationSpan) (before now : List CSpecification) (at : ℕ) : Type 0 where
  pub records : List CSpecification
  pub each : AllZip (IsRecordOf model) listed records
  pub counted : length listed ≡ at
  pub long : length records ≡ at
  pub now_is : now ≡ records ++ drop at before

zip_push : {A B : Type 0} (R : A → B → Type 0) (xs : List A) (ys : List B) (x : A) (y : B) → AllZip R xs ys → R x y → AllZip R (xs ++ x ∷ []) (ys ++ y ∷ [])
zip_push R [] [] x y h r = (r, tt)
zip_push R [] (b ∷ ys) x y h r = absurd h
zip_push R (a ∷ xs) [] x y h r = absurd h
zip_push R (a ∷ xs) (b ∷ ys) x y h r = (h.0, zip_push R xs ys x y h.1 r)

pub none_put : (model : Model) (before : List CSpecification) → ArePutTo model [] before before 0
none_put model before = record { records = []; each = tt; counted = refl; long = refl; now_is = refl }

pub one_put : (model : Model) (listed : List SpecificationSpan) (before now : List CSpecification) (at : ℕ) (span : SpecificationSpan) (entry : CSpecification)
    → ArePutTo model listed before now at → at < length before → IsRecordOf model span entry
    → ArePutTo model (listed ++ span ∷ []) before (slice_set now at entry) (at + 1)
one_put model listed before now at span entry h room is = record {
  records = h.records ++ entry ∷ [];
  each = zip_push (IsRecordOf model) listed h.records span entry h.each is;
  counted = length_push listed span ∙ ap (λ n. n + 1) h.counted;
  long = length_push h.records entry ∙ ap (λ n. n + 1) h.long;
  now_is = ap (λ l. slice_set l at entry) (h.now_is ∙ ap (λ l. h.records ++ l) (drop_more before at entry room))
      ∙ set_at h.records (get_or before at entry) (drop (at + 1) before) entry at h.long
      ∙ sym (append_assoc h.records (entry ∷ []) (drop (at + 1) before));
}

-- so all are, if there is room
pub all_put : (model : Model) (listed : List SpecificationSpan) (before now : List CSpecification) (at : ℕ) → ArePutTo model listed before now at
    → length listed ≤ length before → ArePut model listed before now
all_put model listed before now at h room = rw (le-leb (length listed) (length before) room) (h.records, h.each, rw h.counted h.now_is)

pub none_fit : (model : Model) (listed : List SpecificationSpan) (before : List CSpecification) → length before < length listed
    → ArePut model listed before before
none_fit model listed before more = elim (leb_tells (length listed) (length before)) [
  | inl fits ↦ absurd (omega (arith, fits.1, more))
  | inr none ↦ rw none.0 refl
]
