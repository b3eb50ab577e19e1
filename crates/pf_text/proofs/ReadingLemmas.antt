-- What is read where a walk has come to an offset.
use Rattle.std.proofs.Common.{◌≡◌, ℕ, ◌+◌, ◌-◌, ◌≤◌, max, List, [], ◌∷◌, ◌++◌, length, get_or, map, take, drop, Some, refl, sym, ap, ap₂, ◌∙◌, subst, arith, inl, inr}
use Rattle.std.specs.Prelude.{⊤}
use Rattle.std.specs.List.{AllByRecursion}
use Rattle.std.proofs.lemmas.List.{append-nil, drop-take, length-drop, length-take, take_all}
use Rattle.pf_values.specs.declared.limits.TheConstants.{MAX_TEXT_LEN}
use Rattle.pf_values.specs.declared.conversions.Conv.{Conv}
use Rattle.pf_values.specs.declared.models.Model.{Model}
use Rattle.pf_values.specs.declared.types.ArgType.{ArgType}
use Rattle.pf_values.specs.meaning.DataModel.{arg_type}
use Rattle.pf_values.specs.meaning.Items.{Byte, Directive, IsAccepted, IsReadAs, Item, Reads, types}
use Rattle.pf_values.specs.meaning.Specification.{Specification}
use Rattle.pf_values.specs.meaning.Text.{Text}
use Rattle.pf_values.proofs.ItemTypes.{types-append}
use Rattle.pf_text.specs.FoundDirectives.{BeginsNoItem}
use Rattle.pf_text.specs.Letters.{conv_of}
use Rattle.pf_text.specs.Signatures.{ReadsTyped, TakesTypes}
use Rattle.pf_text.specs.Walks.{AreItems, AreRead, Either, EndsItems, HasPassed, HasPercent, HasWalked, IsItemsEnd, IsMadeOf, IsPercent, IsPiece, IsWalk, IsWalkOver}
use Rattle.pf_text.specs.declared.walk.Walk.{Walk}
use Rattle.pf_text.proofs.CanonicalRunLemmas.{Reads-append, bare, take_front}
use Rattle.pf_text.proofs.LiteralLemmas.{Reads-literals}
use Rattle.pf_text.proofs.ItemLemmas.{one_read, read_more}
use Rattle.pf_text.proofs.WalkLemmas.{by_pieces, conv_run, made_between, made_of_none, run_is_read, run_takes_none}

-- a walk over a text, and what was read before its offset
pub record HasRead (text : Text) (walk : Walk) : Type 0 where
  pub over : IsWalkOver text walk
  pub within : walk.at ≤ length walk.text.now
  pub items : List Item
  pub reads : Reads (take walk.at walk.text.now) items

-- at its beginning, nothing
pub read_none : (text : Text) (walk : Walk) → IsWalkOver text walk → walk.at ≡ 0 → HasRead text walk
read_none text walk over at = record {
  over = over;
  within = omega (arith, at);
  items = [];
  reads = subst (λ k. Reads (take k walk.text.now) []) (sym at) refl;
}

-- then what it has passed
pub read_passed_too : (passes : Item → Type 0) (text : Text) (old new : Walk) → HasRead text old → HasPassed passes old new → HasRead text new
read_passed_too passes text old new h g =
    let t = new.text.now in
    let place : old.at + (new.at - old.at) ≡ new.at = omega (arith, g.from) in
    let before : Reads (take old.at t) h.items = subst (λ u. Reads (take old.at u) h.items) (sym g.text) h.reads in
    record {
      over = record { walk_is = g.walk; text_is = g.text ∙ h.over.text_is };
      within = (let low : old.at ≤ length t = subst (λ u. old.at ≤ length u) (sym g.text) h.within in omega (arith, low, g.within));
      items = h.items ++ g.items;
      reads = subst (λ k. Reads (take k t) (h.items ++ g.items)) place
          (read_more t old.at (new.at - old.at) h.items g.items before (run_is_read passes _ g.items g.run));
    }

-- and an item
pub read_item : (text : Text) (walk : Walk) (stop : ℕ) (more : List Item) → HasRead text walk → walk.at ≤ stop → stop ≤ length walk.text.now
    → Reads (take (stop - walk.at) (drop walk.at walk.text.now)) more → HasRead text (record walk { at = stop })
read_item text walk stop more h up within g =
    let place : walk.at + (stop - walk.at) ≡ stop = omega (arith, up) in
    record {
      over = record { walk_is = record { few = h.over.walk_is.few; runs = h.over.walk_is.runs }; text_is = h.over.text_is };
      within = within;
      items = h.items ++ more;
      reads = subst (λ k. Reads (take k walk.text.now) (h.items ++ more)) place
          (read_more walk.text.now walk.at (stop - walk.at) h.items more h.reads g);
    }

-- what is made of pieces is made of others
pub made_as : (P Q : Text → Type 0) → ((t : Text) → P t → Q t) → (t : Text) → IsMadeOf P t → IsMadeOf Q t
made_as P Q turn t made = record { pieces = made.pieces; each = go made.pieces made.each; whole = made.whole } where
  piece_as : (piece : Text) → IsPiece P piece → IsPiece Q piece
  piece_as piece (inl literal) = inl literal
  piece_as piece (inr h) = inr (h.0, turn piece h.1)

  go : (pieces : List Text) → AllByRecursion (IsPiece P) pieces → AllByRecursion (IsPiece Q) pieces
  go [] h = tt
  go (piece ∷ pieces) h = (piece_as piece h.0, go pieces h.1)

-- items that are read, one text after another
pub read_made : (passes : Item → Type 0) (t : Text) → IsMadeOf (Either AreRead (AreItems passes)) t → AreRead t
read_made passes t made = by_pieces (Either AreRead (AreItems passes)) AreRead step [] t ([], refl) made where
  joined : (before piece : Text) → AreRead before → AreRead piece → AreRead (before ++ piece)
  joined before piece h g = (h.0 ++ g.0, Reads-append before piece h.0 g.0 h.1 g.1)

  step : (before piece : Text) → AreRead before → IsPiece (Either AreRead (AreItems passes)) piece → AreRead (before ++ piece)
  step before piece h (inl literal) = joined before piece h (map Byte piece, Reads-literals piece [] [] refl literal)
  step before piece h (inr (begins, inl read)) = joined before piece h read
  step before piece h (inr (begins, inr run)) = joined before piece h (run.0, run_is_read passes piece run.0 run.1)

module _ (passes : Text → Type 0) where
  -- a walk has come from another one over whole items
  pub record HasReadFrom (start walk : Walk) : Type 0 where
    pub is : IsWalk walk
    pub text : walk.text.now ≡ start.text.now
    pub low : start.at ≤ walk.at
    pub within : walk.at ≤ length start.text.now
    pub read : IsMadeOf (Either AreRead passes) (take (walk.at - start.at) (drop start.at start.text.now))

  -- at first over none
  pub read_nothing : (walk : Walk) → IsWalk walk → walk.at ≤ length walk.text.now → HasReadFrom walk walk
  read_nothing walk h within =
      let none : 0 ≡ walk.at - walk.at = omega arith in
      record {
        is = h;
        text = refl;
        low = omega arith;
        within = within;
        read = subst (λ k. IsMadeOf (Either AreRead passes) (take k (drop walk.at walk.text.now))) none (made_of_none (Either AreRead passes));
      }

  -- then over more of them
  pub read_from : (start walk to : Walk) → HasReadFrom start walk → IsWalk to → to.text.now ≡ start.text.now → walk.at ≤ to.at
      → to.at ≤ length start.text.now → IsMadeOf (Either AreRead passes) (take (to.at - walk.at) (drop walk.at start.text.now)) → HasReadFrom start to
  read_from start walk to h is text up within g =
      let place : walk.at + (to.at - walk.at) ≡ to.at = omega (arith, up) in
      record {
        is = is;
        text = text;
        low = omega (arith, h.low, up);
        within = within;
        read = subst (λ k. IsMadeOf (Either AreRead passes) (take (k - start.at) (drop start.at start.text.now))) place
            (made_between (Either AreRead passes) start.text.now start.at walk.at (to.at - walk.at) h.low h.read g);
      }

  -- by what a walk passes
  pub passed_from : (bare : Item → Type 0) (start old new : Walk) → HasReadFrom start old → HasWalked (Either (AreItems bare) passes) old new
      → HasReadFrom start new
  passed_from bare start old new h g =
      let t = start.text.now in
      let text_is : new.text.now ≡ t = g.text ∙ h.text in
      let most : new.at ≤ max old.at (length t) = subst (λ u. new.at ≤ max old.at (length u)) text_is g.within in
      let run = subst (λ u. IsMadeOf (Either (AreItems bare) passes) (take (new.at - old.at) (drop old.at u))) text_is g.run in
      read_from start old new h g.walk text_is g.from (omega (arith, most, h.within))
      (made_as (Either (AreItems bare) passes) (Either AreRead passes) as_read (take (new.at - old.at) (drop old.at t)) run) where
        as_read : (u : Text) → Either (AreItems bare) passes u → Either AreRead passes u
        as_read u (inl run) = inl (run.0, run_is_read bare u run.0 run.1)
        as_read u (inr other) = inr other

  -- up to where no item begins
  pub ends_items : (start walk : Walk) → HasReadFrom start walk → BeginsNoItem (drop walk.at walk.text.now) → EndsItems passes start walk.at
  ends_items start walk h none =
      record { within = (h.low, h.within); read = h.read; stopped = subst (λ t. BeginsNoItem (drop walk.at t)) h.text none }

-- so the text up to the offset is whole items, and that is all if no item begins there
pub items_up_to : (text : Text) (walk : Walk) → HasRead text walk → BeginsNoItem (drop walk.at walk.text.now) → IsItemsEnd text walk.at
items_up_to text walk h none =
    let within : walk.at ≤ length (take MAX_TEXT_LEN text) = subst (λ u. walk.at ≤ length u) h.over.text_is h.within in
    record {
      within = omega (arith, within, length-take MAX_TEXT_LEN text);
      few = omega (arith, within, length-take MAX_TEXT_LEN text);
      items = h.items;
      reads = subst (λ u. Reads u h.items) (take_front walk.at MAX_TEXT_LEN text within)
          (subst (λ u. Reads (take walk.at u) h.items) h.over.text_is h.reads);
      last = subst (λ u. BeginsNoItem (drop walk.at u)) h.over.text_is none;
    }

-- and all of it may be
pub all_items : (text : Text) (stop : ℕ) → IsItemsEnd text stop → stop ≡ length text → IsAccepted text
all_items text stop h e = (
  h.items,
  record { reads = subst (λ u. Reads u h.items) (take_all stop text (omega (arith, e))) h.reads; limit = omega (arith, h.few, e) },
)

-- a front of what comes after an offset, in a front of the text
pub part_of_front : (text : Text) (most start stop : ℕ) → start ≤ stop → stop ≤ length (take most text)
    → take (stop - start) (drop start (take most text)) ≡ take (stop - start) (drop start text)
part_of_front text most start stop up within =
    let long = length-take most text in
    let left = most - start in
    let place : start + left ≡ most = omega (arith, up, within, long) in
    let rest : drop start (take most text) ≡ take left (drop start text) = sym (ap (λ k. drop start (take k text)) place) ∙ drop-take start left text in
    ap (take (stop - start)) rest
    ∙ take_front (stop - start) left (drop start text) (omega (arith, up, within, long, place, length-take left (drop start text), length-drop start text))

-- a walk over a text from another offset on
pub moved_over : (text : Text) (walk : Walk) (at : ℕ) → IsWalkOver text walk → IsWalkOver text (record walk { at = at })
moved_over text walk at h = record { walk_is = record { few = h.walk_is.few; runs = h.walk_is.runs }; text_is = h.text_is }

-- a walk over a text that isn't too long has come to another offset
module _ (passes : Item → Type 0) (text : Text) (few : length text ≤ MAX_TEXT_LEN) (old new : Walk) (over : IsWalkOver text old)
    (h : HasPassed passes old new) where
  pub text_is : new.text.now ≡ text
  text_is = h.text ∙ over.text_is ∙ take_all MAX_TEXT_LEN text few

  pub still_over : IsWalkOver text new
  still_over = record { walk_is = h.walk; text_is = h.text ∙ over.text_is }

  pub still_within : old.at ≤ length text → new.at ≤ length text
  still_within low = let most : new.at ≤ max old.at (length text) = subst (λ t. new.at ≤ max old.at (length t)) text_is h.within in omega (arith, low, most)

-- a directive takes an argument of its type
pub directive_typed : (model : Model) (t : Text) (d : Specification) (type : ArgType) → IsReadAs t (Directive d) → type ≡ arg_type model d
    → ReadsTyped model t (type ∷ [])
directive_typed model t d type h e = record { items = Directive d ∷ []; reads = one_read t (Directive d) h; types_are = ap (λ w. w ∷ []) e }

-- a directive that is a conversion alone takes an argument of its type
pub bare_typed : (model : Model) (text : Text) (at : ℕ) (conv : Conv) (type : ArgType) → HasPercent text at → conv_of (get_or text (at + 1) 0) ≡ Some conv
    → type ≡ arg_type model (bare conv) → ReadsTyped model (take (at + 2 - at) (drop at text)) (type ∷ [])
bare_typed model text at conv type h e is =
    let two : at + 2 - at ≡ 2 = omega arith in
    subst (λ k. ReadsTyped model (take k (drop at text)) (type ∷ [])) (sym two) (record {
      items = Directive (bare conv) ∷ [];
      reads = run_is_read (λ item. ⊤) (take 2 (drop at text)) (Directive (bare conv) ∷ []) (conv_run (λ item. ⊤) text at conv h e tt);
      types_are = ap (λ w. w ∷ []) is;
    })

-- a walk over a text, and the types of the arguments of what was read before its offset
pub record HasTyped (model : Model) (text : Text) (walk : Walk) (found : List ArgType) : Type 0 where
  pub read : HasRead text walk
  pub types_are : found ≡ types model read.items

-- at its beginning, none
pub typed_none : (model : Model) (text : Text) (walk : Walk) → IsWalkOver text walk → walk.at ≡ 0 → HasTyped model text walk []
unfolding read_none
typed_none model text walk over at = record { read = read_none text walk over at; types_are = refl }

-- a walk over no directive changes none
pub typed_passed_too : (model : Model) (text : Text) (old new : Walk) (found : List ArgType) → HasTyped model text old found
    → HasPassed IsPercent old new → HasTyped model text new found
unfolding read_passed_too
typed_passed_too model text old new found h g = record {
  read = read_passed_too IsPercent text old new h.read g;
  types_are = h.types_are ∙ sym (types-append model h.read.items g.items
      ∙ ap (λ w. types model h.read.items ++ w) (run_takes_none model g.items g.run.passed) ∙ append-nil (types model h.read.items));
}

-- an item has its own
pub typed_item : (model : Model) (text : Text) (walk : Walk) (stop : ℕ) (found more : List ArgType) → HasTyped model text walk found → walk.at ≤ stop
    → stop ≤ length walk.text.now → ReadsTyped model (take (stop - walk.at) (drop walk.at walk.text.now)) more
    → HasTyped model text (record walk { at = stop }) (found ++ more)
unfolding read_item
typed_item model text walk stop found more h up within g = record {
  read = read_item text walk stop g.items h.read up within g.reads;
  types_are = ap₂ (λ (x y : List ArgType). x ++ y) h.types_are g.types_are ∙ sym (types-append model h.read.items g.items);
}

-- at the end, all are found
pub typed_all : (model : Model) (text : Text) (walk : Walk) (found : List ArgType) → HasTyped model text walk found
    → BeginsNoItem (drop walk.at walk.text.now) → walk.at ≡ length text → TakesTypes model text found
unfolding all_items items_up_to
typed_all model text walk found h none e =
    let all = all_items text walk.at (items_up_to text walk h.read none) e in
    record { items = all.0; accepted = all.1; types_are = h.types_are }

-- whole items from the beginning of a text on, up to where no item begins
pub items_to : (text : Text) (walk : Walk) → IsWalkOver text walk → walk.at ≡ 0 → (stop : ℕ) → EndsItems (AreItems (λ item. ⊥)) walk stop
    → IsItemsEnd text stop
items_to text walk over at stop h =
    let read = read_made (λ item. ⊥) _ h.read in
    let whole : stop - 0 ≡ stop = omega arith in
    let bytes : take (stop - walk.at) (drop walk.at walk.text.now) ≡ take stop walk.text.now =
    ap (λ k. take (stop - k) (drop k walk.text.now)) at ∙ ap (λ k. take k walk.text.now) whole in
    items_up_to text (record walk { at = stop }) (record {
      over = moved_over text walk stop over;
      within = h.within.1;
      items = read.0;
      reads = subst (λ u. Reads u read.0) bytes read.1;
    }) h.stopped
