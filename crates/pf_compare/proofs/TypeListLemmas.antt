-- The argument types of two texts, side by side.
use Rattle.std.proofs.Common.{◌≡◌, ◌≢◌, ℕ, ◌+◌, List, [], ◌∷◌, ◌++◌, drop, length, refl, sym, ap, ◌∙◌, subst, arith, Some, None, Ok, Err, Result, Option}
use Rattle.std.specs.Prelude.{slice_get, MatchOption}
use Rattle.std.proofs.lemmas.List.{append-nil, append_assoc, length_push}
use Rattle.pf_values.specs.declared.models.Model.{Model}
use Rattle.pf_values.specs.declared.types.ArgType.{ArgType}
use Rattle.pf_values.specs.meaning.Items.{IsAccepted, Item, Reads, types}
use Rattle.pf_values.specs.meaning.Text.{Text}
use Rattle.pf_values.proofs.ItemTypes.{types-append}
use Rattle.pf_text.specs.declared.pieces.Piece.{Piece}
use Rattle.pf_text.specs.declared.pieces.Pieces.{Pieces}
use Rattle.pf_text.specs.declared.refusals.Refusal.{Refusal}
use Rattle.pf_text.specs.PieceHistory.{NextReturns, items_of}
use Rattle.pf_text.specs.Signatures.{TakesTypes}
use Rattle.pf_text.proofs.SignatureLemmas.{HasFound, all_found, more_found, refused}
use Rattle.pf_text.proofs.Texts.{Reads-unique}
use Rattle.pf_render.proofs.ItemLemmas.{front_items}
use Rattle.pf_render.specs.Rendering.{DifferFirstAt}
use Rattle.pf_compare.specs.Answers.{HaveSameTypes}
use Rattle.pf_compare.specs.TypeLists.{HasGivenTypes}
use Rattle.pf_compare.proofs.ListLemmas.{take_whole}

-- what is taken comes first
taken_first : (model : Model) (pieces : Pieces) (t : Text) (done : List ArgType) (xs : List Item) → HasGivenTypes model pieces t done → Reads t xs
    → (rest : List ArgType) × (types model xs ≡ done ++ rest)
taken_first model pieces t done xs h g =
    let more = front_items h.read (drop pieces.at t) h.items xs h.given.reads (subst (λ u. Reads u xs) h.given.split g) in
    (types model more.0, ap (types model) more.1 ∙ types-append model h.items more.0 ∙ ap (λ ts. ts ++ types model more.0) (sym h.types_are))

pub types_of_all : (model : Model) (t : Text) (wanted : List ArgType) (xs : List Item) → TakesTypes model t wanted → Reads t xs → types model xs ≡ wanted
types_of_all model t wanted xs h g = ap (types model) (Reads-unique t xs h.items g h.accepted.reads)
    ∙ sym h.types_are

taken_as : (model : Model) (pieces : Pieces) (t : Text) (done : List ArgType) → HasFound model pieces t done → HasGivenTypes model pieces t done
taken_as model pieces t done h = record { read = h.read; items = h.items; given = h.given; types_are = h.types_are }

found_as : (model : Model) (pieces : Pieces) (t : Text) (done : List ArgType) → HasGivenTypes model pieces t done → HasFound model pieces t done
found_as model pieces t done h = record { read = h.read; items = h.items; given = h.given; types_are = h.types_are }

-- one piece more
module _ (model : Model) (old new : Pieces) (t : Text) (done : List ArgType) (h : HasGivenTypes model old t done) where
  module _ (given : Result Piece Refusal) (steps : NextReturns old (Some given) new) where
    pub taken_more : (piece : Piece) (more : List ArgType) → given ≡ Ok piece → more ≡ types model (items_of piece) → HasGivenTypes model new t (done ++ more)
    taken_more piece more e same = taken_as model new t (done ++ more)
        (more_found model old new t done (found_as model old t done h) given steps piece more e same)

    pub taken_same : (piece : Piece) → given ≡ Ok piece → [] ≡ types model (items_of piece) → HasGivenTypes model new t done
    taken_same piece e same = subst (HasGivenTypes model new t) (append-nil done) (taken_more piece [] e same)

    pub not_refused : IsAccepted t → (refusal : Refusal) → given ≡ Err refusal → ⊥
    not_refused accepted refusal e = (refused model old new t done (found_as model old t done h) given steps refusal e).refused.not_accepted accepted

  pub taken_all : NextReturns old None new → TakesTypes model t done
  taken_all steps = all_found model old new t done (found_as model old t done h) steps

-- both have taken the same types so far
pub record AreInStep (model : Model) (first second : Pieces) (t u : Text) (index : ℕ) : Type 0 where
  pub done : List ArgType
  pub first_taken : HasGivenTypes model first t done
  pub second_taken : HasGivenTypes model second u done
  pub count : index ≡ length done

get_after : (xs ys : List ArgType) → slice_get (xs ++ ys) (length xs) ≡ slice_get ys 0
get_after [] ys = refl
get_after (x ∷ xs) ys = get_after xs ys

-- two lists begin with the same types, and then differ
differ_after_front : (done xs ys us vs : List ArgType) (index : ℕ) → xs ≡ done ++ us → ys ≡ done ++ vs → index ≡ length done
    → slice_get us 0 ≢ slice_get vs 0 → DifferFirstAt xs ys index
differ_after_front done xs ys us vs index e f at h =
    let here : DifferFirstAt (done ++ us) (done ++ vs) (length done)
    = record {
      same = take_whole done us ∙ sym (take_whole done vs);
      differ = λ same. h (sym (get_after done us) ∙ same ∙ get_after done vs);
    } in
    subst (λ l. DifferFirstAt l ys index) (sym e) (subst (λ l. DifferFirstAt (done ++ us) l index) (sym f)
    (subst (DifferFirstAt (done ++ us) (done ++ vs)) (sym at) here))

none_there : (done xs : List ArgType) → xs ≡ done → xs ≡ done ++ []
none_there done xs e = e ∙ sym (append-nil done)

some_there : (model : Model) (pieces : Pieces) (t : Text) (done : List ArgType) (type : ArgType) (xs : List Item)
    → HasGivenTypes model pieces t (done ++ type ∷ []) → Reads t xs → (rest : List ArgType) × (types model xs ≡ done ++ type ∷ rest)
some_there model pieces t done type xs h g = let more = taken_first model pieces t (done ++ type ∷ []) xs h g in
    (more.0, more.1 ∙ append_assoc done (type ∷ []) more.0)

-- Another type comes in the second list, or none.
pub differ_here : (model : Model) (first second : Pieces) (t u : Text) (done : List ArgType) (index : ℕ) (wanted : ArgType) (given : Option ArgType)
    (xs ys : List Item) → index ≡ length done
    → HasGivenTypes model first t (done ++ wanted ∷ []) → MatchOption given (TakesTypes model u done)
    (λ type. HasGivenTypes model second u (done ++ type ∷ [])) → given ≢ Some wanted → Reads t xs → Reads u ys
    → DifferFirstAt (types model xs) (types model ys) index
differ_here model first second t u done index wanted None xs ys at h k other a b =
    let one = some_there model first t done wanted xs h a in
    differ_after_front done (types model xs) (types model ys) (wanted ∷ one.0) [] index one.1
    (none_there done (types model ys) (types_of_all model u done ys k b)) at (λ e. cc)
differ_here model first second t u done index wanted (Some type) xs ys at h k other a b =
    let one = some_there model first t done wanted xs h a in
    let two = some_there model second u done type ys k b in
    differ_after_front done (types model xs) (types model ys) (wanted ∷ one.0) (type ∷ two.0) index one.1 two.1 at (λ e. other (sym e))

-- One type comes in both.
pub stepped : (model : Model) (first second : Pieces) (t u : Text) (done : List ArgType) (index : ℕ) (wanted : ArgType) (given : Option ArgType)
    → index ≡ length done
    → HasGivenTypes model first t (done ++ wanted ∷ []) → MatchOption given (TakesTypes model u done)
    (λ type. HasGivenTypes model second u (done ++ type ∷ [])) → given ≡ Some wanted → AreInStep model first second t u (index + 1)
stepped model first second t u done index wanted None at h k same = absurd (cc)
stepped model first second t u done index wanted (Some type) at h k same =
    let is : type ≡ wanted = cc in
    record {
      done = done ++ wanted ∷ [];
      first_taken = h;
      second_taken = subst (λ (a : ArgType). HasGivenTypes model second u (done ++ a ∷ [])) is k;
      count = omega (arith, at, length_push done wanted);
    }

-- The second list is longer.
pub differ_after : (model : Model) (second : Pieces) (t u : Text) (done : List ArgType) (index : ℕ) (type : ArgType) (xs ys : List Item) → index ≡ length done
    → TakesTypes model t done → HasGivenTypes model second u (done ++ type ∷ []) → Reads t xs → Reads u ys
    → DifferFirstAt (types model xs) (types model ys) index
differ_after model second t u done index type xs ys at h k a b =
    let two = some_there model second u done type ys k b in
    differ_after_front done (types model xs) (types model ys) [] (type ∷ two.0) index
    (none_there done (types model xs) (types_of_all model t done xs h a)) two.1 at (λ e. cc)

pub same_lists_of : (model : Model) (t u : Text) (done : List ArgType) (xs ys : List Item) → TakesTypes model t done → TakesTypes model u done → Reads t xs
    → Reads u ys → types model xs ≡ types model ys
same_lists_of model t u done xs ys h k a b = types_of_all model t done xs h a ∙ sym (types_of_all model u done ys k b)

pub same_types_of : (model : Model) (t u : Text) (a : IsAccepted t) (b : IsAccepted u)
    → ((xs ys : List Item) → Reads t xs → Reads u ys → types model xs ≡ types model ys) → HaveSameTypes model t u
same_types_of model t u a b same =
    record {
      types = types model a.0;
      first = record { items = a.0; accepted = a.1; types_are = refl };
      second = record { items = b.0; accepted = b.1; types_are = same a.0 b.0 a.1.reads b.1.reads };
    }
