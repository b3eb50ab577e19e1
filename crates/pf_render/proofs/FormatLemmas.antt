-- What a format prints, and the pieces of it that are written.
use Rattle.std.proofs.Common.{◌≡◌, ℕ, ◌+◌, ◌*◌, ◌^◌, ◌≤◌, List, [], ◌∷◌, ◌++◌, drop, length, map, sym, ap, ◌∙◌, subst, arith, Some, None, Ok, Err, Result, refl}
use Rattle.std.proofs.lemmas.List.{append-nil, append_assoc, append_cancel_left, length-append}
use Rattle.pf_values.specs.declared.models.Model.{Model}
use Rattle.pf_values.specs.declared.types.ArgType.{ArgType}
use Rattle.pf_values.specs.meaning.Arguments.{Argument, HasTypes}
use Rattle.pf_values.specs.meaning.Items.{Item, Byte, Reads, types}
use Rattle.pf_values.specs.meaning.Printing.{PrintsAll}
use Rattle.pf_values.specs.meaning.Text.{Text}
use Rattle.pf_text.specs.declared.pieces.Piece.{Piece}
use Rattle.pf_text.specs.declared.pieces.Piece.TheVariants as pieces
use Rattle.pf_text.specs.declared.pieces.Pieces.{Pieces}
use Rattle.pf_text.specs.declared.refusals.Refusal.{Refusal}
use Rattle.pf_text.specs.PieceHistory.{NextReturns, NextIs, NextIsPiece, HasGiven, IsPieceBefore, items_of}
use Rattle.pf_text.proofs.Texts.{Reads-unique}
use Rattle.pf_render.specs.declared.format_parts.FormatPart.{FormatPart}
use Rattle.pf_render.specs.declared.progress.Progress.{Progress}
use Rattle.pf_render.specs.FormatParts.{items_of_part}
use Rattle.pf_render.specs.Matching.{TakesArguments}
use Rattle.pf_render.specs.Outputs.{IsOutput}
use Rattle.pf_render.specs.Progressing.{WritesOn, arity, next_arguments}
use Rattle.pf_render.specs.Rendering.{RendersBy, RendersToBy}
use Rattle.pf_render.proofs.ItemLemmas.{Begin, front_items, length_items}
use Rattle.pf_render.proofs.PrintingLemmas.{PrintsAll-exists, same_printed}
use Rattle.pf_render.proofs.ProgressLemmas.{IsPrinting, all_written, nothing_yet, wrote_on}

module _ {A : Type 0} (type_of : A → ArgType) (argument_of : A → Argument) where
  -- an accepted text takes these arguments
  module _ (model : Model) (t : Text) (args : List A) (h : TakesArguments type_of argument_of model t args) where
    module _ (items : List Item) (reads : Reads t items) where
      same_items : items ≡ h.takes.items
      same_items = Reads-unique t items h.takes.items reads h.takes.accepted.reads

      pub typed_items : HasTypes model (map argument_of args) (types model items)
      typed_items = subst (HasTypes model (map argument_of args)) (h.takes.types_are ∙ ap (types model) (sym same_items)) h.typed

      pub renders_items : (out : Text) → PrintsAll model items (map argument_of args) out → RendersBy type_of argument_of model t args out
      renders_items out prints =
          let here = subst (λ i. PrintsAll model i (map argument_of args) out) same_items prints in
          let typed = subst (λ i. HasTypes model (map argument_of args) (types model i)) same_items typed_items in
          record {
            takes = h.takes;
            typed = h.typed;
            prints = here;
            only = λ other g. same_printed model h.takes.items
                (map argument_of args) other out typed g here;
          }

    -- it prints something
    pub renders : (out : Text) × RendersBy type_of argument_of model t args out
    renders =
        let out = PrintsAll-exists model h.takes.items (map argument_of args)
        (typed_items h.takes.items h.takes.accepted.reads) in
        (out.0, renders_items h.takes.items h.takes.accepted.reads out.0 out.1)

some_items : (piece : Piece) (read rest : Text) → IsPieceBefore piece read rest → 1 ≤ length (items_of piece)
some_items (pieces.Literal run) read rest h = go run.now h.some where
  go : (bytes : Text) → (bytes ≡ [] → ⊥) → 1 ≤ length (map Byte bytes)
  go [] f = absurd (f refl)
  go (b ∷ bytes) f = omega arith
some_items pieces.Percent read rest h = omega arith
some_items (pieces.Directive d) read rest h = omega arith

module _ {A O : Type 0} (type_of : A → ArgType) (argument_of : A → Argument) (wrote : O → O → Text → Type 0) (model : Model) (old : O) (t : Text)
    (args : List A) where
  -- The pieces so far were written, for the first arguments. What is printed is that, and what the others print.
  pub record IsUnderWay (now : O) (pieces : Pieces) (progress : Progress) : Type 0 where
    pub out : Text
    pub renders : RendersBy type_of argument_of model t args out
    pub read : Text
    pub items : List Item
    pub others : List Item
    pub given : HasGiven pieces t read items
    pub whole : renders.takes.items ≡ items ++ others
    pub few : progress.written ≤ length items * 2 ^ 64
    pub printing : IsPrinting argument_of wrote model old args out now progress others

module _ (model : Model) {A O : Type 0} {type_of : A → ArgType} {argument_of : A → Argument} {wrote : O → O → Text → Type 0}
    {stopped : O → O → Text → ℕ → Type 0} (laws : IsOutput wrote stopped) {old : O} {t : Text} {args : List A} where
  pub under_way : (pieces : Pieces) (progress : Progress) → TakesArguments type_of argument_of model t args → HasGiven pieces t [] []
      → (progress.taken ≡ 0) × (progress.written ≡ 0) → IsUnderWay type_of argument_of wrote model old t args old pieces progress
  under_way pieces progress h g none =
      let r = renders type_of argument_of model t args h in
      record {
        out = r.0;
        renders = r.1;
        read = [];
        items = [];
        others = r.1.takes.items;
        given = g;
        whole = refl;
        few = omega (arith, none.1);
        printing = nothing_yet model laws progress r.1.takes.items none
            (typed_items type_of argument_of model t args h r.1.takes.items r.1.takes.accepted.reads) r.1.prints;
      }

  module _ {now : O} {before : Pieces} {progress : Progress} (h : IsUnderWay type_of argument_of wrote model old t args now before progress) where
    -- the bytes written so far are few enough to be counted
    pub counts : progress.written + 2 ^ 64 ≤ 2 ^ 128
    counts = omega (arith, h.few, length_items h.read h.items h.given.reads, h.given.limit)

    -- what a format prints has been written
    pub text_written : {new : Pieces} → NextReturns before None new → RendersToBy type_of argument_of model t args (λ out. wrote old now out)
    text_written steps =
        let end = steps.next t h.read h.items h.given in
        let same : h.items ++ h.others ≡ h.items ++ [] = sym h.whole
        ∙ Reads-unique t h.renders.takes.items h.items h.renders.takes.accepted.reads end.reads
        ∙ sym (append-nil h.items) in
        (h.out, h.renders, all_written model laws h.printing (append_cancel_left h.items h.others [] same))

    module _ {new : Pieces} {r : Result Piece Refusal} (steps : NextReturns before (Some r) new) where
      -- an accepted text isn't rejected
      pub no_refusal : {refusal : Refusal} → r ≡ Err refusal → ⊥
      no_refusal e =
          let g = subst (λ x. NextIs (Some x) new t h.read h.items) e (steps.next t h.read h.items h.given) in
          g.refused.not_accepted (h.renders.takes.items, h.renders.takes.accepted)

      -- one more piece was given
      module _ {piece : Piece} (is : r ≡ Ok piece) (part : FormatPart) (same : items_of_part part ≡ items_of piece) where
        pub piece_given : NextIsPiece new t h.read h.items piece
        piece_given = subst (λ x. NextIs (Some x) new t h.read h.items) is (steps.next t h.read h.items h.given)

        pub all_items : Begin (h.items ++ items_of piece) h.renders.takes.items
        all_items = let g = piece_given in front_items (h.read ++ g.more) (drop new.at t) _ _
            g.given.reads
            (subst (λ u. Reads u h.renders.takes.items) g.given.split
            h.renders.takes.accepted.reads)

        abbrev pub later : List Item
        later = all_items.0

        pub others_are : h.others ≡ items_of_part part ++ later
        others_are = append_cancel_left h.items h.others (items_of piece ++ later) (sym h.whole ∙ all_items.1 ∙ append_assoc h.items (items_of piece) later)
            ∙ ap (λ i. i ++ later) (sym same)

        pub piece_written : (after : Progress) (writer : O) (text : Text)
            → PrintsAll model (items_of_part part) (next_arguments argument_of model progress part args) text
            → WritesOn wrote stopped now writer progress after text (arity model part)
            → IsUnderWay type_of argument_of wrote model old t args writer new after
        piece_written after writer text prints w =
            record {
              out = h.out;
              renders = h.renders;
              read = h.read ++ piece_given.more;
              items = h.items ++ items_of piece;
              others = later;
              given = piece_given.given;
              whole = all_items.1;
              few = omega (arith, h.few, w.small, w.written, length-append h.items (items_of piece), some_items piece _ _ piece_given.whole);
              printing = wrote_on model laws h.printing part later others_are writer after text prints w;
            }
