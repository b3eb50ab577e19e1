-- The walk over the items of a text.
use Rattle.std.proofs.Common.{◌≡◌, ℕ, ◌+◌, ◌-◌, ◌<◌, ◌≤◌, List, [], ◌∷◌, ◌++◌, length, get_or, map, take, drop, flat_map, Option, Some, None, refl, sym, ap, ap₂, ◌∙◌, subst, arith, inl, inr}
use Rattle.std.specs.Prelude.{Bool, IfSome, MatchOption, true, is_some, ◌≢◌}
use Rattle.std.specs.List.{AllByRecursion}
use Rattle.std.proofs.Math.Seq.{take-add}
use Rattle.std.proofs.lemmas.Grind.{flat_map-append}
use Rattle.std.proofs.lemmas.List.{append_assoc, append_cancel_left, append-nil, drop-drop, get_or-drop, length-drop}
use Rattle.memchr.specs.Find.{Nowhere, Passes, is_byte2}
use Rattle.pf_values.specs.declared.conversions.Conv.{Conv}
use Rattle.pf_values.specs.declared.lengths.Length.{Length}
use Rattle.pf_values.specs.declared.models.Model.{Model}
use Rattle.pf_values.specs.declared.models.Model.TheVariants.{Lp64}
use Rattle.pf_values.specs.meaning.Canonical.{item_spelling}
use Rattle.pf_values.specs.meaning.Conversions.{conv_letter}
use Rattle.pf_values.specs.meaning.Items.{Item, Byte, Directive, Reads, types}
use Rattle.pf_values.specs.meaning.Spelling.{spelling_of}
use Rattle.pf_values.specs.meaning.Text.{Text, percent}
use Rattle.pf_values.specs.meaning.Lengths.{length_letters}
use Rattle.pf_text.specs.CanonicalRuns.{IsCanonicalItem, IsCanonicalRun, alternative_bytes, has_canonical_parts}
use Rattle.pf_text.specs.History.{IsLiteral}
use Rattle.pf_text.specs.Letters.{conv_of}
use Rattle.pf_text.specs.Marks.{AreMarksOf, HasMark, HasNoMark}
use Rattle.pf_text.specs.Offsets.{HasBytes}
use Rattle.pf_text.specs.Walks.{AreItems, AreRunsOf, BeginsPercent, HasPassed, HasPercent, HasWalked, IsMadeOf, IsPiece, IsNextEnd, IsNormalInEach, IsPassed, IsPassedRun, IsPercent, IsWalk}
use Rattle.pf_text.specs.declared.walk.Walk.{Walk}
use Rattle.pf_text.specs.declared.literal_runs.LiteralRuns.{LiteralRuns}
use Rattle.pf_text.specs.declared.marks.Marks.{Marks}
use Rattle.pf_text.specs.declared.marks.TheConstants.{MAX_MARKED}
use Rattle.pf_text.proofs.CanonicalRunLemmas.{bare, byte_read, conv_defined, conv_normal, first_bytes, literal_written, parts, run_written, parts_are_canonical}
use Rattle.pf_text.proofs.LiteralLemmas.{goes_on, literal_take}
use Rattle.pf_text.proofs.MarkLemmas.{marked_within}
use Rattle.pf_text.proofs.MarkedRunLemmas.{literal_between, no_end_between}
use Rattle.pf_text.proofs.ReadBack.{spelled_read}
use Rattle.pf_text.proofs.Sound.{byte_of_conv}
use Rattle.pf_text.proofs.SpecificationLemmas.{bytes_join, bytes_one}

-- what a search in the rest of a text has found
pub none_in_rest : (text : Text) (from stop n : ℕ) → from + n ≡ stop → Nowhere (Passes (is_byte2 37 0) (drop from text)) 0 n
    → Nowhere (Passes (is_byte2 37 0) text) from stop
none_in_rest text from stop n place none k low high ends =
    let same : from + (k - from) ≡ k = omega (arith, low) in
    none (k - from) (omega arith) (omega (arith, low, high, place))
    (ap (is_byte2 37 0) (get_or-drop from text (k - from) 0 ∙ ap (λ j. get_or text j 0) same) ∙ ends)

-- the marks, if there are some
pub marks_of_runs : (runs : LiteralRuns) (text : Text) (marks : Marks) → runs.marks ≡ Some marks → AreRunsOf runs text
    → (length text ≤ MAX_MARKED) × AreMarksOf marks text
marks_of_runs runs text marks e h = subst (λ o. IfSome o (λ m. (length text ≤ MAX_MARKED) × AreMarksOf m text)) e h

-- and what they say
pub next_end_of : (marks : Marks) (text : Text) (from : ℕ) (found : Option ℕ) → length text ≤ MAX_MARKED → AreMarksOf marks text
    → MatchOption found (HasNoMark marks from 64) (λ stop. (from ≤ stop) × (stop < 128) × HasNoMark marks from stop × HasMark marks stop)
    → IsNextEnd text from found
next_end_of marks text from None few are h = no_end_between marks text from (length text) (omega arith) are (λ k low high. h k low (omega (arith, few, high)))
next_end_of marks text from (Some stop) few are h =
    let within = marked_within marks.bits stop (length text) are.few h.3 in
    (h.0, within, no_end_between marks text from stop (omega (arith, within)) are h.2, are.only stop h.3)

-- two bytes of a text, the first a `%`
pub two_bytes : (text : Text) (at : ℕ) → HasPercent text at → take 2 (drop at text) ≡ percent ∷ get_or text (at + 1) 0 ∷ []
two_bytes text at h =
    first_bytes 2 (drop at text) (omega (arith, length-drop at text, h.0)) ∙ ap₂ (λ (a b : ℕ). a ∷ b ∷ [])
    (get_or-drop at text 0 0 ∙ ap (λ k. get_or text k 0) (omega arith) ∙ h.1)
    (get_or-drop at text 1 0 ∙ ap (λ k. get_or text k 0) (omega arith))

-- the bytes between two offsets
pub bytes_between : (t bytes : Text) (start stop : ℕ) → HasBytes t start stop bytes → take (stop - start) (drop start t) ≡ bytes
bytes_between t bytes start stop h =
    let n = stop - start in
    let place : start + n ≡ stop = omega (arith, h.from) in
    append_cancel_left (take start t) (take n (drop start t)) bytes (sym (take-add start n t) ∙ ap (λ k. take k t) place ∙ h.whole)

module _ (passes : Item → Type 0) where
  -- `%%`, and a directive that is a conversion alone
  pub percent_passed : (text : Text) (at : ℕ) → HasPercent text at → get_or text (at + 1) 0 ≡ percent → passes (Byte percent)
      → (items : List Item) × IsPassedRun passes (take 2 (drop at text)) items
  percent_passed text at h e p =
      (Byte percent ∷ [], record { passed = (((λ z. cc), λ same. p), tt); whole = two_bytes text at h ∙ ap (λ b. percent ∷ b ∷ []) e })

  pub conv_run : (text : Text) (at : ℕ) (conv : Conv) → HasPercent text at → conv_of (get_or text (at + 1) 0) ≡ Some conv → passes (Directive (bare conv))
      → IsPassedRun passes (take 2 (drop at text)) (Directive (bare conv) ∷ [])
  conv_run text at conv h e p = record {
    passed = ((conv_defined conv, p), tt);
    whole = two_bytes text at h ∙ ap (λ b. percent ∷ b ∷ []) (byte_of_conv (get_or text (at + 1) 0) conv e);
  }

  passed_both : (a b : List Item) → AllByRecursion (IsPassed passes) a → AllByRecursion (IsPassed passes) b → AllByRecursion (IsPassed passes) (a ++ b)
  passed_both [] b h g = g
  passed_both (item ∷ a) b h g = (h.0, passed_both a b h.1 g)

  -- nothing, a run after another, and literal bytes
  pub no_run : IsPassedRun passes [] []
  no_run = record { passed = tt; whole = refl }

  pub runs_passed : (t u : Text) (a b : List Item) → IsPassedRun passes t a → IsPassedRun passes u b → IsPassedRun passes (t ++ u) (a ++ b)
  runs_passed t u a b h g = record {
    passed = passed_both a b h.passed g.passed;
    whole = ap₂ (λ (x y : Text). x ++ y) h.whole g.whole ∙ sym (flat_map-append item_spelling a b);
  }

  bytes_passed : (bytes : Text) → AllByRecursion IsLiteral bytes → AllByRecursion (IsPassed passes) (map Byte bytes)
  bytes_passed [] h = tt
  bytes_passed (byte ∷ bytes) h = ((h.0.1, λ e. absurd (h.0.0 e)), bytes_passed bytes h.1)

  pub literals_passed : (bytes : Text) → AllByRecursion IsLiteral bytes → IsPassedRun passes bytes (map Byte bytes)
  literals_passed bytes h = record { passed = bytes_passed bytes h; whole = sym (literal_written bytes h) }

  -- such a run is read as its items
  read_passed : (items : List Item) → AllByRecursion (IsPassed passes) items → Reads (flat_map item_spelling items) items
  read_passed [] h = refl
  read_passed (Byte byte ∷ items) h = (item_spelling (Byte byte), flat_map item_spelling items, byte_read byte h.0.0, read_passed items h.1, refl)
  read_passed (Directive s ∷ items) h = (spelling_of s, flat_map item_spelling items, (spelled_read s h.0.0, h.0.0), read_passed items h.1, refl)

  pub run_is_read : (t : Text) (items : List Item) → IsPassedRun passes t items → Reads t items
  run_is_read t items h = subst (λ u. Reads u items) (sym h.whole) (read_passed items h.passed)

-- the bytes from one offset up to another, and more of them
joined_between : (text : Text) (start at len : ℕ) → start ≤ at
    → take (at - start) (drop start text) ++ take len (drop at text) ≡ take (at + len - start) (drop start text)
joined_between text start at len low =
    let place : start + (at - start) ≡ at = omega (arith, low) in
    let rest : drop (at - start) (drop start text) ≡ drop at text = drop-drop (at - start) start text ∙ ap (λ k. drop k text) place in
    let front = drop start text in
    ap (λ u. take (at - start) front ++ take len u) (sym rest) ∙ sym (take-add (at - start) len front) ∙ ap (λ k. take k front) (omega (arith, low))

-- texts of pieces
module _ (passes : Text → Type 0) where
  each_both : (a b : List Text) → AllByRecursion (IsPiece passes) a → AllByRecursion (IsPiece passes) b → AllByRecursion (IsPiece passes) (a ++ b)
  each_both [] b h g = g
  each_both (piece ∷ a) b h g = (h.0, each_both a b h.1 g)

  -- none, one, and one text after another
  pub made_of_none : IsMadeOf passes []
  made_of_none = record { pieces = []; each = tt; whole = refl }

  pub made_of_one : (t : Text) → IsPiece passes t → IsMadeOf passes t
  made_of_one t h = record { pieces = t ∷ []; each = (h, tt); whole = sym (append-nil t) }

  pub made_of_both : (t u : Text) → IsMadeOf passes t → IsMadeOf passes u → IsMadeOf passes (t ++ u)
  made_of_both t u h g = record {
    pieces = h.pieces ++ g.pieces;
    each = each_both h.pieces g.pieces h.each g.each;
    whole = ap₂ (λ (x y : Text). x ++ y) h.whole g.whole ∙ sym (flat_map-append (λ piece. piece) h.pieces g.pieces);
  }

  -- the bytes from one offset up to another, and more of them
  pub made_between : (text : Text) (start at len : ℕ) → start ≤ at → IsMadeOf passes (take (at - start) (drop start text))
      → IsMadeOf passes (take len (drop at text)) → IsMadeOf passes (take (at + len - start) (drop start text))
  made_between text start at len low h g = subst (IsMadeOf passes) (joined_between text start at len low)
      (made_of_both (take (at - start) (drop start text)) (take len (drop at text)) h g)

  -- What holds of no text, and after a piece if it holds before it, holds of all.
  pub by_pieces : (Holds : Text → Type 0) → ((before piece : Text) → Holds before → IsPiece passes piece → Holds (before ++ piece))
      → (before t : Text) → Holds before → IsMadeOf passes t → Holds (before ++ t)
  by_pieces Holds step before t h made = subst (λ u. Holds (before ++ u)) (sym made.whole) (go made.pieces before h made.each) where
    go : (pieces : List Text) (before : Text) → Holds before → AllByRecursion (IsPiece passes) pieces → Holds (before ++ flat_map (λ piece. piece) pieces)
    go [] before h each = subst Holds (sym (append-nil before)) h
    go (piece ∷ pieces) before h each =
        subst Holds (append_assoc before piece (flat_map (λ piece. piece) pieces)) (go pieces (before ++ piece) (step before piece h each.0) each.1)

-- the bytes from a `%` on begin with it
pub percent_begins : (text : Text) (at len : ℕ) → HasPercent text at → 0 < len → BeginsPercent (take len (drop at text))
percent_begins text at len h some =
    let one : 1 + (len - 1) ≡ len = omega (arith, some) in
    let rest = take (len - 1) (drop 1 (drop at text)) in (
      rest,
      ap (λ n. take n (drop at text)) (sym one) ∙ take-add 1 (len - 1) (drop at text)
          ∙ ap (λ u. u ++ rest) (first_bytes 1 (drop at text) (omega (arith, length-drop at text, h.0)) ∙ ap (λ b. b ∷ [])
          (get_or-drop at text 0 0 ∙ ap (λ k. get_or text k 0) (omega arith) ∙ h.1)),
    )

-- runs of items, one after another, are such a run
pub items_made : (passes : Item → Type 0) (t : Text) → IsMadeOf (AreItems passes) t → AreItems passes t
items_made passes t made = by_pieces (AreItems passes) (AreItems passes) step [] t ([], no_run passes) made where
  step : (before piece : Text) → AreItems passes before → IsPiece (AreItems passes) piece → AreItems passes (before ++ piece)
  step before piece h (inl literal) = (h.0 ++ map Byte piece, runs_passed passes before piece h.0 (map Byte piece) h.1 (literals_passed passes piece literal))
  step before piece h (inr (begins, g)) = (h.0 ++ g.0, runs_passed passes before piece h.0 g.0 h.1 g.1)

pub items_walked : (passes : Item → Type 0) (old new : Walk) → HasWalked (AreItems passes) old new → HasPassed passes old new
items_walked passes old new h =
    let run = items_made passes (take (new.at - old.at) (drop old.at new.text.now)) h.run in
    record { walk = h.walk; text = h.text; from = h.from; within = h.within; items = run.0; run = run.1 }

-- A walk comes from one offset to another.
module _ (passes : Text → Type 0) (old now : Walk) where
  pub walked_none : IsWalk now → now.text.now ≡ old.text.now → now.at ≡ old.at → HasWalked passes old now
  walked_none walk text at =
      let none : now.at - old.at ≡ 0 = omega (arith, at) in
      record {
        walk = walk;
        text = text;
        from = omega (arith, at);
        within = omega (arith, at);
        run = subst (λ k. IsMadeOf passes (take k (drop old.at now.text.now))) (sym none) (made_of_none passes);
      }

  module _ (h : HasWalked passes old now) where
    pub walked_more : (len : ℕ) → now.at + len ≤ length now.text.now → IsMadeOf passes (take len (drop now.at now.text.now))
        → HasWalked passes old (record now { at = now.at + len })
    walked_more len within g = record {
      walk = record { few = h.walk.few; runs = h.walk.runs };
      text = h.text;
      from = omega (arith, h.from);
      within = omega (arith, within);
      run = made_between passes now.text.now old.at now.at len h.from h.run g;
    }

    pub walked_literals : (stop : ℕ) → now.at ≤ stop → stop ≤ length now.text.now → Nowhere (Passes (is_byte2 37 0) now.text.now) now.at stop
        → HasWalked passes old (record now { at = stop })
    walked_literals stop up within none =
        let n = stop - now.at in
        let place : now.at + n ≡ stop = omega (arith, up) in
        subst (λ k. HasWalked passes old (record now { at = k })) place (walked_more n (omega (arith, place, within))
        (made_of_one passes (take n (drop now.at now.text.now)) (inl (literal_between now.text.now now.at stop up within none))))

    -- up to the byte that ends a run
    pub walked_to : (stop : ℕ) → IsNextEnd now.text.now now.at (Some stop) → HasWalked passes old (record now { at = stop })
    walked_to stop next = walked_literals stop next.0 (omega (arith, next.1)) next.2

-- a run of directives that are normal in each data model is canonical
canonical_items : (model : Model) (items : List Item) → AllByRecursion (IsPassed IsNormalInEach) items → AllByRecursion (IsCanonicalItem model) items
canonical_items model [] h = tt
canonical_items model (Byte byte ∷ items) h = (h.0.0, canonical_items model items h.1)
canonical_items model (Directive s ∷ items) h = (h.0.1 model, canonical_items model items h.1)

pub run_is_canonical : (model : Model) (t : Text) (items : List Item) → IsPassedRun IsNormalInEach t items → IsCanonicalRun model t items
run_is_canonical model t items h = record { canonical = canonical_items model items h.passed; whole = h.whole }

-- a run without directives takes no arguments
pub run_takes_none : (model : Model) (items : List Item) → AllByRecursion (IsPassed IsPercent) items → types model items ≡ []
run_takes_none model [] h = refl
run_takes_none model (Byte byte ∷ items) h = run_takes_none model items h.1
run_takes_none model (Directive s ∷ items) h = absurd h.0.1

-- a run of literal bytes alone
literals_only : (items : List Item) → AllByRecursion (IsPassed (λ item. ⊥)) items → AllByRecursion IsLiteral (flat_map item_spelling items)
literals_only [] h = tt
literals_only (Byte byte ∷ items) h =
    subst (λ t. AllByRecursion IsLiteral (t ++ flat_map item_spelling items)) (sym (run_written byte (h.0.1, h.0.0))) ((h.0.1, h.0.0), literals_only items h.1)
literals_only (Directive s ∷ items) h = absurd h.0.1

pub run_is_literal : (t : Text) (items : List Item) → IsPassedRun (λ item. ⊥) t items → AllByRecursion IsLiteral t
run_is_literal t items h = subst (AllByRecursion IsLiteral) (sym h.whole) (literals_only items h.passed)

-- what is normal in each data model after the byte `%`
pub letter_passed : (letter : ℕ) (o : Option Conv) → conv_of letter ≡ o → letter ≢ 105 → is_some o ≡ true
    → (items : List Item) × IsPassedRun IsNormalInEach (percent ∷ letter ∷ []) items
letter_passed letter None e other some = absurd (cc)
letter_passed letter (Some conv) e other some =
    let byte = byte_of_conv letter conv e in (
      Directive (bare conv) ∷ [],
      record {
        passed = ((conv_defined conv, λ model. conv_normal model conv (λ i. other (byte ∙ ap conv_letter i))), tt);
        whole = ap (λ b. percent ∷ b ∷ []) byte;
      },
    )

-- and with parts
pub parts_passed : (alternative : Bool) (modifier : Length) (conv : Conv) → has_canonical_parts alternative modifier conv ≡ true
    → IsPassedRun IsNormalInEach (((percent ∷ []) ++ alternative_bytes alternative ++ length_letters modifier) ++ conv_letter conv ∷ [])
    (Directive (parts alternative modifier conv) ∷ [])
parts_passed alternative modifier conv canonical =
    let in_each : (model : Model) → IsCanonicalRun model (((percent ∷ []) ++ alternative_bytes alternative ++ length_letters modifier) ++ conv_letter conv ∷ [])
    (Directive (parts alternative modifier conv) ∷ []) = λ model. parts_are_canonical model alternative modifier conv canonical in
    record { passed = (((in_each Lp64).canonical.0.defined, λ model. (in_each model).canonical.0), tt); whole = (in_each Lp64).whole }

-- the bytes of parts one after another
pub parts_between : (t a b d : Text) (at modifier stop : ℕ) → HasPercent t at → HasBytes t (at + 1) modifier a → HasBytes t modifier stop b
    → HasBytes t stop (stop + 1) d → take (stop + 1 - at) (drop at t) ≡ ((percent ∷ []) ++ a ++ b) ++ d
parts_between t a b d at modifier stop h ha hb hd =
    let first = bytes_one t at percent (omega (arith, h.0)) (sym h.1) in
    let front = bytes_join t at modifier stop ((percent ∷ []) ++ a) b (bytes_join t at (at + 1) modifier (percent ∷ []) a first ha) hb in
    bytes_between t (((percent ∷ []) ++ a ++ b) ++ d) at (stop + 1) (bytes_join t at stop (stop + 1) ((percent ∷ []) ++ a ++ b) d front hd)

-- the run of literal bytes at the front of a text
pub literal_front : (text : Text) (n : ℕ) → n ≤ length text → Nowhere (Passes (is_byte2 37 0) text) 0 n → AllByRecursion IsLiteral (take n text)
literal_front text n within none = literal_take text n within (λ k less. goes_on (get_or text k 0) (none k (omega arith) less))
