-- The pieces of a text, one after another.
use Rattle.std.proofs.Common.{◌≡◌, ℕ, ◌+◌, ◌-◌, ◌<◌, ◌≤◌, Bool, false, true, List, [], ◌++◌, drop, get_or, length, map, take, refl, sym, ap, ◌∙◌, subst, arith, inl, inr, Some, None, Ok, Err, Option}
use denote.Ref.{Bor}
use Rattle.std.specs.Prelude.{MatchOption}
use Rattle.std.specs.List.{AllByRecursion}
use Rattle.std.proofs.lemmas.Bool.{cases_lt}
use Rattle.std.proofs.lemmas.List.{drop_all, drop_more, get_or-drop, length-append, length-drop, length-take, length-take-le, get_or-take, take-append-drop, take_all, take_at}
use Rattle.memchr.specs.Find.{Nowhere, Passes, is_byte2}
use Rattle.pf_values.specs.declared.limits.TheConstants.{MAX_TEXT_LEN}
use Rattle.pf_values.specs.meaning.Items.{HasItems, Item, Byte, Reads}
use Rattle.pf_values.specs.meaning.Text.{Text}
use Rattle.pf_text.specs.declared.pieces.Piece.{Piece}
use Rattle.pf_text.specs.declared.pieces.Piece.TheVariants as pieces
use Rattle.pf_text.specs.declared.pieces.Pieces.{Pieces}
use Rattle.pf_text.specs.declared.refusals.Refusal.{Refusal}
use Rattle.pf_text.specs.FoundDirectives.{BeginsNoItem}
use Rattle.pf_text.specs.History.{EndsRun, IsLiteral}
use Rattle.pf_text.specs.PieceHistory.{HasGiven, IsPieceAt, IsPieceBefore, IsPieceOf, NextIsPiece, NextIsRefusal, NextReturns, items_of}
use Rattle.pf_text.specs.Walks.{IsItemsEnd}
use Rattle.pf_text.proofs.CanonicalRunLemmas.{Reads-append}
use Rattle.pf_text.proofs.LiteralLemmas.{Reads-literals, or_full, stops}
use Rattle.pf_text.proofs.ReadingLemmas.{part_of_front}
use Rattle.pf_text.proofs.RefusalLemmas.{take_between}
use Rattle.pf_text.proofs.WalkLemmas.{literal_front}

-- a run of literal bytes, as a search finds it in the rest of a text
pub literal_piece : (t : Text) (at n : ℕ) (run : Bor Text) → 0 < n → at + n ≤ length t → run.now ≡ take (at + n - at) (drop at t)
    → Nowhere (Passes (is_byte2 37 0) (drop at t)) 0 n → (n < length (drop at t) → Passes (is_byte2 37 0) (drop at t) n)
    → IsPieceAt t at (pieces.Literal run) (at + n)
literal_piece t at n run some within e none ended =
    let len : at + n - at ≡ n = omega arith in
    let literal = subst (λ k. AllByRecursion IsLiteral (take k (drop at t))) (sym len)
    (literal_front (drop at t) n (omega (arith, within, length-drop at t)) none) in
    record {
      some = omega (arith, some);
      within = within;
      reads = subst (λ u. Reads (take (at + n - at) (drop at t)) (map Byte u)) (sym e) (Reads-literals (take (at + n - at) (drop at t)) [] [] refl literal);
      piece_is = (
        e,
        literal,
        λ less. ap (is_byte2 37 0) (sym (get_or-drop at t n 0)) ∙ ended (omega (arith, less, length-drop at t)),
      );
    }

-- what was given is the text up to the offset
module _ (pieces : Pieces) (t read : Text) (items : List Item) (h : HasGiven pieces t read items) where
  read_is : read ≡ take pieces.at t
  read_is = sym (ap (take pieces.at) h.split ∙ take_at read (drop pieces.at t) pieces.at (sym h.at))

  at_within : pieces.at ≤ length t
  at_within = omega (arith, h.at, ap length h.split, length-append read (drop pieces.at t))

-- where a run of literal bytes ends that was given
module _ (t read : Text) (stop : ℕ) (long : length read ≡ stop) where
  ends_at : stop < length (take MAX_TEXT_LEN t) → Passes (is_byte2 37 0) (take MAX_TEXT_LEN t) stop → EndsRun read (drop stop t)
  ends_at inside passes =
      let some : stop < length t = omega (arith, inside, length-take MAX_TEXT_LEN t) in
      let byte : get_or (take MAX_TEXT_LEN t) stop 0 ≡ get_or t stop 0 = get_or-take MAX_TEXT_LEN t stop 0
      (omega (arith, inside, length-take MAX_TEXT_LEN t)) in
      subst (EndsRun read) (sym (drop_more t stop 0 some)) (or_full (get_or t stop 0) _ (stops (get_or t stop 0) (ap (is_byte2 37 0) (sym byte) ∙ passes)))

  ends_past : stop ≡ length (take MAX_TEXT_LEN t) → EndsRun read (drop stop t)
  ends_past over = elim (cases_lt stop (length t)) [
    | inl some ↦ subst (EndsRun read) (sym (drop_more t stop 0 some)) (inr (inr (omega (arith, long, over, some, length-take MAX_TEXT_LEN t))))
    | inr none ↦ subst (EndsRun read) (sym (drop_all stop t none)) tt
  ]

  pub run_ends_there : stop ≤ length (take MAX_TEXT_LEN t)
      → (stop < length (take MAX_TEXT_LEN t) → Passes (is_byte2 37 0) (take MAX_TEXT_LEN t) stop) → EndsRun read (drop stop t)
  run_ends_there within ended = elim (cases_lt stop (length (take MAX_TEXT_LEN t))) [
    | inl inside ↦ ends_at inside (ended inside)
    | inr over ↦ ends_past (omega (arith, within, over))
  ]

module _ (old new : Pieces) (t read : Text) (items : List Item) (h : HasGiven old t read items) where
  -- one more piece
  module _ (piece : Piece) (stop : ℕ) (going : new.is_over ≡ false) (text : new.text.now ≡ old.text.now) (at : new.at ≡ stop)
      (next : IsPieceAt (take MAX_TEXT_LEN t) old.at piece stop) where
    abbrev more : Text
    more = take (stop - old.at) (drop old.at t)

    more_is : take (stop - old.at) (drop old.at (take MAX_TEXT_LEN t)) ≡ more
    more_is = part_of_front t MAX_TEXT_LEN old.at stop (omega (arith, next.some)) next.within

    front_is : read ++ more ≡ take stop t
    front_is = ap (λ u. u ++ more) (read_is old t read items h) ∙ sym (take_between t old.at stop (omega (arith, next.some)))

    long : length (read ++ more) ≡ stop
    long = ap length front_is ∙ length-take-le stop t (omega (arith, next.within, length-take MAX_TEXT_LEN t))

    before : (p : Piece) → IsPieceOf p (take MAX_TEXT_LEN t) old.at stop → IsPieceBefore p (read ++ more) (drop stop t)
    before (pieces.Literal run) is = record {
      some = λ e. absurd (omega (
        arith,
        ap length (sym is.0 ∙ e),
        next.some,
        length-take (stop - old.at) (drop old.at (take MAX_TEXT_LEN t)),
        length-drop old.at (take MAX_TEXT_LEN t),
        next.within,
      ));
      literal = subst (AllByRecursion IsLiteral) (sym is.0) is.1;
      longest = run_ends_there t (read ++ more) stop long next.within is.2;
    }
    before pieces.Percent is = tt
    before (pieces.Directive d) is = tt

    pub piece_given : NextIsPiece new t read items piece
    piece_given = record {
      more = more;
      given = record {
        going = going;
        text_is = text ∙ h.text_is;
        at = at ∙ sym long;
        split = sym (ap (λ u. u ++ drop new.at t) (front_is ∙ ap (λ k. take k t) (sym at)) ∙ take-append-drop new.at t);
        limit = omega (arith, long, next.within, length-take MAX_TEXT_LEN t);
        reads = Reads-append read more items (items_of piece) h.reads (subst (λ u. Reads u (items_of piece)) more_is next.reads);
      };
      whole = subst (λ k. IsPieceBefore piece (read ++ more) (drop k t)) (sym at) (before piece next.piece_is);
    }

  -- where none begins
  pub ends_there : BeginsNoItem (drop old.at (take MAX_TEXT_LEN t)) → IsItemsEnd t old.at
  ends_there none = record {
    within = at_within old t read items h;
    few = omega (arith, h.at, h.limit);
    items = items;
    reads = subst (λ u. Reads u items) (read_is old t read items h) h.reads;
    last = none;
  }

  pub all_given : old.at ≡ length t → HasItems t items
  all_given e =
      let whole : read ≡ t = read_is old t read items h ∙ take_all old.at t (omega (arith, e)) in
      record { reads = subst (λ u. Reads u items) whole h.reads; limit = omega (arith, h.at, h.limit, e) }

not_both : (b : Bool) → b ≡ true → b ≡ false → ⊥
not_both b h g = cc

-- what a call of `next` gives
module _ (old new : Pieces) (going : old.is_over ≡ false) where
  pub gives_piece : (piece : Piece) (stop : ℕ) → new.is_over ≡ old.is_over → new.text.now ≡ old.text.now → new.at ≡ stop
      → IsPieceAt (take MAX_TEXT_LEN old.text.now) old.at piece stop → NextReturns old (Some (Ok piece)) new
  gives_piece piece stop over text at next = record {
    next = λ t read items h. piece_given old new t read items h piece stop (over ∙ going) text at
        (subst (λ u. IsPieceAt (take MAX_TEXT_LEN u) old.at piece stop) h.text_is next);
    over = λ closed. absurd (not_both old.is_over closed going);
    last = tt;
  }

  module _ (over : new.is_over ≡ true) (none : BeginsNoItem (drop old.at (take MAX_TEXT_LEN old.text.now))) (found : Option Refusal)
      (refused : (items : List Item) → IsItemsEnd old.text.now old.at → Reads (take old.at old.text.now) items
      → MatchOption found (old.at ≡ length old.text.now) (NextIsRefusal old.text.now items)) where
    refused_of : (t read : Text) (items : List Item) → HasGiven old t read items → MatchOption found (old.at ≡ length t) (NextIsRefusal t items)
    refused_of t read items h =
        let text = h.text_is in
        let all : HasGiven old old.text.now read items = subst (λ u. HasGiven old u read items) (sym text) h in
        subst (λ u. MatchOption found (old.at ≡ length u) (NextIsRefusal u items)) text
        (refused items (ends_there old new old.text.now read items all none) (subst (λ u. Reads u items) (read_is old old.text.now read items all) all.reads))

    pub gives_end : found ≡ None → NextReturns old None new
    gives_end e = record {
      next = λ t read items h.
          all_given old new t read items h (subst (λ o. MatchOption o (old.at ≡ length t) (NextIsRefusal t items)) e (refused_of t read items h));
      over = λ closed. absurd (not_both old.is_over closed going);
      last = over;
    }

    pub gives_refused : (refusal : Refusal) → found ≡ Some refusal → NextReturns old (Some (Err refusal)) new
    gives_refused refusal e = record {
      next = λ t read items h. subst (λ o. MatchOption o (old.at ≡ length t) (NextIsRefusal t items)) e (refused_of t read items h);
      over = λ closed. absurd (not_both old.is_over closed going);
      last = over;
    }
