-- What formats print for neutral arguments, one piece after another.
use Rattle.std.proofs.Common.{◌≡◌, ℕ, ◌+◌, ◌-◌, ◌^◌, ◌<◌, ◌≤◌, min, List, [], ◌∷◌, ◌++◌, length, take, drop, map, refl, sym, ap, ◌∙◌, subst, arith, inl, Option, Some, None, Ok, Err, Result}
use Rattle.std.specs.Prelude.{slice_get, slice_set}
use Rattle.std.proofs.lemmas.List.{append-nil, append_assoc, length-append, length-map, map-append}
use Rattle.std.proofs.lemmas.Option.{slice_get_within}
use Rattle.pf_values.specs.declared.models.Model.{Model}
use Rattle.pf_values.specs.meaning.Arguments.{Argument, HasTypes}
use Rattle.pf_values.specs.Candidates.{neutral, neutrals}
use Rattle.pf_values.specs.meaning.DataModel.{arg_type}
use Rattle.pf_values.specs.meaning.Items.{HasItems, IsAccepted, Item, Byte, Directive, Reads, types}
use Rattle.pf_values.specs.meaning.Printing.{Prints, PrintsAll}
use Rattle.pf_values.specs.meaning.Specification.{Specification}
use Rattle.pf_values.specs.meaning.Text.{Text}
use Rattle.pf_values.proofs.Alike.{all_printed, all_printed-is}
use Rattle.pf_values.proofs.ItemTypes.{types-append, types-bytes}
use Rattle.pf_probes.proofs.Probes.{probe_typed}
use Rattle.pf_render.proofs.ItemLemmas.{front_items, length_items}
use Rattle.pf_render.proofs.PrintingLemmas.{same_printed}
use Rattle.pf_text.proofs.Texts.{Reads-unique}
use Rattle.pf_text.specs.declared.pieces.Piece.{Piece}
use Rattle.pf_text.specs.declared.pieces.Piece.TheVariants as pieces
use Rattle.pf_text.specs.declared.pieces.Pieces.{Pieces}
use Rattle.pf_text.specs.declared.refusals.Refusal.{Refusal}
use Rattle.pf_text.specs.PieceHistory.{NextReturns, NextIs, NextIsPiece, NextIsRefusal, HasGiven, items_of}
use Rattle.pf_values.specs.meaning.Refusals.{IsRefusedAt}
use Rattle.pf_compare.specs.declared.neutral_texts.PrintedSpan.{PrintedSpan}
use Rattle.pf_compare.specs.declared.neutral_texts.Spans.{Spans}
use Rattle.pf_compare.specs.Spans.{AreBothIn, HaveGivenSpans, IsNextSpan, IsSpanAfter, IsSpanOf, PrintOneText, PrintsNeutral, counted, replace_span}
use Rattle.pf_compare.proofs.ListLemmas.{
  take_front,
  drop_front,
  take_whole,
  drop_whole,
  get_front,
  get_last,
  set_front,
  set_last,
}

pub PrintsAll-append : (model : Model) (a b : List Item) (xs ys : List Argument) (o p : Text) → PrintsAll model a xs o → PrintsAll model b ys p
    → PrintsAll model (a ++ b) (xs ++ ys) (o ++ p)
PrintsAll-append model [] b [] ys o p h g = subst (λ t. PrintsAll model b ys (t ++ p)) (sym h) g
PrintsAll-append model [] b (x ∷ xs) ys o p h g = absurd h
PrintsAll-append model (Byte c ∷ a) b [] ys o p h g = (h.0 ++ p, PrintsAll-append model a b [] ys h.0 p h.1 g, ap (λ t. t ++ p) h.2)
PrintsAll-append model (Byte c ∷ a) b (x ∷ xs) ys o p h g = (h.0 ++ p, PrintsAll-append model a b (x ∷ xs) ys h.0 p h.1 g, ap (λ t. t ++ p) h.2)
PrintsAll-append model (Directive s ∷ a) b [] ys o p h g = absurd h
PrintsAll-append model (Directive s ∷ a) b (x ∷ xs) ys o p h g = (
  h.0,
  h.1 ++ p,
  h.2,
  PrintsAll-append model a b xs ys h.1 p h.3 g,
  ap (λ t. t ++ p) h.4
      ∙ append_assoc h.0 h.1 p,
)

neutrals-append : (model : Model) (a b : List Item) → neutrals (types model (a ++ b)) ≡ neutrals (types model a) ++ neutrals (types model b)
neutrals-append model a b = ap neutrals (types-append model a b) ∙ map-append neutral (types model a) (types model b)

bytes_print : (model : Model) (bytes : Text) → PrintsAll model (map Byte bytes) [] bytes
bytes_print model [] = refl
bytes_print model (b ∷ bytes) = (bytes, bytes_print model bytes, refl)

-- more items after those of a span
extended : (model : Model) (items more : List Item) (whole out : Text) (i : ℕ) (span : PrintedSpan) → IsSpanOf model items whole i span
    → PrintsAll model more (neutrals (types model more)) out → IsSpanOf model (items ++ more) (whole ++ out) i span
extended model items more whole out i span h g =
    let ordered = h.inside.ordered in
    let within = h.inside.within in
    record {
      type_is = subst (λ ts. slice_get ts i ≡ Some (arg_type model span.directive)) (sym (types-append model items more))
          (get_front (types model items) (types model more) i _ h.type_is);
      inside = record { ordered = ordered; within = omega (arith, within, length-append whole out) };
      replaces = λ x p typed prints.
          let less = slice_get_within (types model items) i _ h.type_is in
          let args : slice_set (neutrals (types model (items ++ more))) i x ≡ slice_set (neutrals (types model items)) i x ++ neutrals (types model more)
          = ap (λ l. slice_set l i x) (neutrals-append model items more)
          ∙ set_front (neutrals (types model items)) (neutrals (types model more)) i x (omega (arith, less, length-map (types model items) neutral)) in
          let text : replace_span (whole ++ out) span p ≡ replace_span whole span p ++ out
          = ap (λ t. t ++ p ++ drop span.end (whole ++ out)) (take_front span.start whole out (omega arith))
          ∙ ap (λ t. take span.start whole ++ p ++ t) (drop_front span.end whole out within)
          ∙ sym (append_assoc (take span.start whole ++ p) (drop span.end whole) out) in
          subst (λ l. PrintsAll model (items ++ more) l (replace_span (whole ++ out) span p)) (sym args)
          (subst (λ t. PrintsAll model (items ++ more) (slice_set (neutrals (types model items)) i x ++ neutrals (types model more)) t) (sym text)
          (PrintsAll-append model items more _ _ _ _ (h.replaces x p typed prints) g));
    }

-- the span of a directive after some items
added : (model : Model) (items : List Item) (s : Specification) (whole first : Text) → PrintsAll model items (neutrals (types model items)) whole
    → Prints model s (neutral (arg_type model s)) first
    → IsSpanOf model (items ++ Directive s ∷ []) (whole ++ first) (length (types model items))
    (record { directive = s; start = length whole; end = length (whole ++ first) })
added model items s whole first h g = record {
  type_is = subst (λ ts. slice_get ts (length (types model items)) ≡ Some (arg_type model s)) (sym (types-append model items (Directive s ∷ [])))
      (get_last (types model items) (arg_type model s));
  inside = record { ordered = omega (arith, length-append whole first); within = omega arith };
  replaces = λ x p typed prints.
      let args : slice_set (neutrals (types model (items ++ Directive s ∷ []))) (length (types model items)) x ≡ neutrals (types model items) ++ x ∷ []
      = ap (λ l. slice_set l (length (types model items)) x) (neutrals-append model items (Directive s ∷ []))
      ∙ set_last (neutrals (types model items)) (neutral (arg_type model s)) x (length (types model items))
      (sym (length-map (types model items) neutral)) in
      let text : take (length whole) (whole ++ first) ++ p ++ drop (length (whole ++ first)) (whole ++ first) ≡ whole ++ (p ++ [])
      = ap (λ t. t ++ p ++ drop (length (whole ++ first)) (whole ++ first)) (take_whole whole first) ∙ ap (λ t. whole ++ p ++ t) (drop_whole (whole ++ first))
      ∙ append_assoc whole p [] in
      subst (λ l. PrintsAll model (items ++ Directive s ∷ []) l (take (length whole) (whole ++ first) ++ p ++ drop (length (whole ++ first)) (whole ++ first)))
      (sym args)
      (subst (λ t. PrintsAll model (items ++ Directive s ∷ []) (neutrals (types model items) ++ x ∷ []) t) (sym text)
      (PrintsAll-append model items (Directive s ∷ []) (neutrals (types model items)) (x ∷ []) whole (p ++ []) h (p, [], prints, refl, refl)));
}

-- more items, and what they print
pub printed_more : (model : Model) (a b : List Item) (o p : Text) → PrintsNeutral model a o → PrintsNeutral model b p → PrintsNeutral model (a ++ b) (o ++ p)
printed_more model a b o p h g = subst (λ l. PrintsAll model (a ++ b) l (o ++ p)) (sym (neutrals-append model a b))
    (PrintsAll-append model a b (neutrals (types model a)) (neutrals (types model b)) o p h g)

pub bytes_neutral : (model : Model) (bytes : Text) → PrintsNeutral model (map Byte bytes) bytes
bytes_neutral model bytes = subst (λ ts. PrintsAll model (map Byte bytes) (neutrals ts) bytes) (sym (types-bytes model bytes)) (bytes_print model bytes)

pub directive_neutral : (model : Model) (s : Specification) (printed : Text) → Prints model s (neutral (arg_type model s)) printed
    → PrintsNeutral model (Directive s ∷ []) printed
directive_neutral model s printed h = (printed, [], h, refl, sym (append-nil printed))

directive_prints : (model : Model) (s : Specification) (printed : Text) → PrintsNeutral model (Directive s ∷ []) printed
    → Prints model s (neutral (arg_type model s)) printed
directive_prints model s printed h =
    let is : printed ≡ h.0 = h.4 ∙ ap (λ t. h.0 ++ t) h.3 ∙ append-nil h.0 in
    subst (Prints model s (neutral (arg_type model s))) (sym is) h.2

pub neutral_typed : (model : Model) (items : List Item) → HasTypes model (neutrals (types model items)) (types model items)
neutral_typed model items = probe_typed model (types model items) (neutrals (types model items)) (inl refl)

-- what the pieces so far print
pub record HasPrinted (model : Model) (pieces : Pieces) (t bytes : Text) : Type 0 where
  pub read : Text
  pub items : List Item
  pub given : HasGiven pieces t read items
  pub prints : PrintsNeutral model items bytes

module _ (model : Model) (old new : Pieces) (t bytes : Text) (h : HasPrinted model old t bytes) where
  module _ (next : Result Piece Refusal) (steps : NextReturns old (Some next) new) where
    pub printed_refused : (refusal : Refusal) → next ≡ Err refusal → IsRefusedAt t refusal.kind refusal.at
    printed_refused refusal e = let g : NextIsRefusal t h.items refusal = subst (λ r. NextIs (Some r) new t h.read h.items) e
        (steps.next t h.read h.items h.given) in g.refused

    pub printed_next : (piece : Piece) (printed all : Text) → next ≡ Ok piece → PrintsNeutral model (items_of piece) printed → all ≡ bytes ++ printed
        → HasPrinted model new t all
    printed_next piece printed all e prints is =
        let g : NextIsPiece new t h.read h.items piece = subst (λ r. NextIs (Some r) new t h.read h.items) e (steps.next t h.read h.items h.given) in
        record {
          read = h.read ++ g.more;
          items = h.items ++ items_of piece;
          given = g.given;
          prints = subst (PrintsNeutral model (h.items ++ items_of piece)) (sym is) (printed_more model h.items (items_of piece) bytes printed h.prints prints);
        }

  pub printed_whole : NextReturns old None new → (items : List Item) → Reads t items → PrintsNeutral model items bytes
  printed_whole steps items reads =
      let whole : HasItems t h.items = steps.next t h.read h.items h.given in
      subst (λ l. PrintsNeutral model l bytes) (Reads-unique t h.items items whole.reads reads) h.prints

-- the next piece, and where the span ends that it prints
module _ (model : Model) (old new : Spans) (t : Text) (count : ℕ) (h : HaveGivenSpans model old t count) where
  module _ (next : Result Piece Refusal) (steps : NextReturns old.pieces (Some next) new.pieces) where
    pub span_refused : (refusal : Refusal) → next ≡ Err refusal → IsAccepted t → ⊥
    span_refused refusal e accepted = let g : NextIsRefusal t h.items refusal = subst (λ r. NextIs (Some r) new.pieces t h.read h.items) e
        (steps.next t h.read h.items h.given) in g.refused.not_accepted accepted

    module _ (piece : Piece) (printed : Text) (e : next ≡ Ok piece) (prints : PrintsNeutral model (items_of piece) printed)
        (end : new.end ≡ min (old.end + length printed) (2 ^ 64 - 1)) where
      next_given : NextIsPiece new.pieces t h.read h.items piece
      next_given = subst (λ r. NextIs (Some r) new.pieces t h.read h.items) e (steps.next t h.read h.items h.given)

      end_counted : new.end ≡ counted (h.front ++ printed)
      end_counted = omega (arith, end, h.end_is, length-append h.front printed)

      pub piece_passed : (more : ℕ) → more ≡ length (types model (items_of piece)) → HaveGivenSpans model new t (count + more)
      piece_passed more is = record {
        read = h.read ++ next_given.more;
        items = h.items ++ items_of piece;
        given = next_given.given;
        front = h.front ++ printed;
        prints = printed_more model h.items (items_of piece) h.front printed h.prints prints;
        end_is = end_counted;
        count_is = omega (
          arith,
          h.count_is,
          is,
          ap length (types-append model h.items (items_of piece)),
          length-append (types model h.items) (types model (items_of piece)),
        );
      }

      pub span_given : (s : Specification) (span : PrintedSpan) → items_of piece ≡ Directive s ∷ []
          → span ≡ record { directive = s; start = old.end; end = new.end } → IsNextSpan model new t count (Some span)
      span_given s span only is =
          let one : PrintsNeutral model (Directive s ∷ []) printed = subst (λ l. PrintsNeutral model l printed) only prints in
          let after : IsSpanAfter model t count (record { directive = s; start = old.end; end = new.end }) = record {
            read = h.read ++ next_given.more;
            rest = drop new.pieces.at t;
            split = next_given.given.split;
            before = h.items;
            reads = subst (λ l. Reads (h.read ++ next_given.more) (h.items ++ l)) only next_given.given.reads;
            front = h.front;
            prints = h.prints;
            printed = printed;
            also = directive_prints model s printed one;
            start_is = h.end_is;
            end_is = end_counted;
            count_is = h.count_is;
          } in
          (subst (IsSpanAfter model t count) (sym is) after, piece_passed 1 (sym (ap (λ l. length (types model l)) only)))

  pub spans_over : NextReturns old.pieces None new.pieces → IsNextSpan model new t count None
  spans_over steps = (h.items, steps.next t h.read h.items h.given, h.count_is)

-- a piece takes no argument, unless it is a directive
pub none_taken : (model : Model) (piece : Piece) → ((s : Specification) → piece ≡ pieces.Directive s → ⊥) → 0 ≡ length (types model (items_of piece))
none_taken model (pieces.Literal run) h = sym (ap length (types-bytes model run.now))
none_taken model pieces.Percent h = refl
none_taken model (pieces.Directive s) h = absurd (h s refl)

-- the span of a directive, in what all items print
pub span_in : (model : Model) (t whole : Text) (xs : List Item) (count : ℕ) (span : PrintedSpan) → IsSpanAfter model t count span → Reads t xs
    → PrintsNeutral model xs whole → length whole < 2 ^ 64 → IsSpanOf model xs whole count span
span_in model t whole xs count span h reads prints few =
    let s = span.directive in
    let read_items = h.before ++ Directive s ∷ [] in
    let more = front_items h.read h.rest read_items xs h.reads (subst (λ u. Reads u xs) h.split reads) in
    let tail = all_printed model more.0 (neutrals (types model more.0)) in
    let tail_prints : PrintsNeutral model more.0 tail = all_printed-is model more.0 (neutrals (types model more.0)) (neutral_typed model more.0) in
    let front_prints : PrintsNeutral model read_items (h.front ++ h.printed) = printed_more model h.before (Directive s ∷ []) h.front h.printed h.prints
    (directive_neutral model s h.printed h.also) in
    let all : PrintsNeutral model xs ((h.front ++ h.printed) ++ tail) = subst (λ l. PrintsNeutral model l ((h.front ++ h.printed) ++ tail)) (sym more.1)
    (printed_more model read_items more.0 (h.front ++ h.printed) tail front_prints tail_prints) in
    let is : whole ≡ (h.front ++ h.printed) ++ tail
    = same_printed model xs (neutrals (types model xs)) whole ((h.front ++ h.printed) ++ tail) (neutral_typed model xs) prints all in
    let long = ap length is in
    let parts = length-append (h.front ++ h.printed) tail in
    let fronts = length-append h.front h.printed in
    let start : span.start ≡ length h.front = omega (arith, h.start_is, few, long, parts, fronts) in
    let end : span.end ≡ length (h.front ++ h.printed) = omega (arith, h.end_is, few, long, parts) in
    let same : span ≡ record { directive = s; start = length h.front; end = length (h.front ++ h.printed) }
    = ap (λ n. record { directive = s; start = n; end = span.end }) start ∙ ap (λ n. record { directive = s; start = length h.front; end = n }) end in
    let placed = extended model read_items more.0 (h.front ++ h.printed) tail (length (types model h.before)) (record
    { directive = s; start = length h.front; end = length (h.front ++ h.printed) }) (added model h.before s h.front h.printed h.prints h.also) tail_prints in
    subst (λ l. IsSpanOf model l whole count span) (sym more.1) (subst (λ u. IsSpanOf model (read_items ++ more.0) u count span) (sym is)
    (subst (λ n. IsSpanOf model (read_items ++ more.0) ((h.front ++ h.printed) ++ tail) n span) (sym h.count_is)
    (subst (IsSpanOf model (read_items ++ more.0) ((h.front ++ h.printed) ++ tail) (length (types model h.before))) (sym same) placed)))

module _ (model : Model) (t u whole : Text) (r : PrintOneText model t u whole) (n : ℕ) (first second : Spans) where
  pub both_next : (one two : PrintedSpan) (a b : Option PrintedSpan) → IsNextSpan model first t n a → IsNextSpan model second u n b → a ≡ Some one
      → b ≡ Some two → AreBothIn model r.xs r.ys t u whole first second n one two
  both_next one two a b h k e f =
      let i = subst (IsNextSpan model first t n) e h in
      let j = subst (IsNextSpan model second u n) f k in
      record {
        first_in = span_in model t whole r.xs n one i.0 r.accepted_first.reads r.first_prints r.few;
        second_in = span_in model u whole r.ys n two j.0 r.accepted_second.reads r.second_prints r.few;
        first_passed = i.1;
        second_passed = j.1;
      }

  -- as many spans come in one text as in the other
  pub none_missing : (one : PrintedSpan) (a b : Option PrintedSpan) → IsNextSpan model first t n a → IsNextSpan model second u n b → a ≡ Some one
      → b ≡ None → ⊥
  none_missing one a b h k e f =
      let i = subst (IsNextSpan model first t n) e h in
      let j = subst (IsNextSpan model second u n) f k in
      let placed = span_in model t whole r.xs n one i.0 r.accepted_first.reads r.first_prints r.few in
      let less = slice_get_within (types model r.xs) n (arg_type model one.directive) placed.type_is in
      let same = Reads-unique u j.0 r.ys j.1.reads r.accepted_second.reads in
      absurd (omega (arith, less, j.2, ap (λ l. length (types model l)) same, ap length r.same_types))

  pub all_passed : (a : Option PrintedSpan) → IsNextSpan model first t n a → a ≡ None → n ≡ length (types model r.xs)
  all_passed a h e =
      let i = subst (IsNextSpan model first t n) e h in
      i.2 ∙ ap (λ l. length (types model l)) (Reads-unique t i.0 r.xs i.1.reads r.accepted_first.reads)

-- at most one argument is taken for each byte
pub few_passed : (model : Model) (spans : Spans) (t : Text) (count : ℕ) → HaveGivenSpans model spans t count → count ≤ length t
few_passed model spans t count h = omega (
  arith,
  h.count_is,
  few_types model h.items,
  length_items h.read h.items h.given.reads,
  ap length h.given.split,
  length-append h.read (drop spans.pieces.at t),
) where
  few_types : (model : Model) (items : List Item) → length (types model items) ≤ length items
  few_types model [] = omega arith
  few_types model (Byte byte ∷ items) = omega (arith, few_types model items)
  few_types model (Directive s ∷ items) = omega (arith, few_types model items)
