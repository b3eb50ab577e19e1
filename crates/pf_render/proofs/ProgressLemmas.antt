-- Parts of a format that are written, one after another.
use Rattle.std.proofs.Common.{
  ◌≡◌,
  ℕ,
  ◌+◌,
  ◌<◌,
  ◌≤◌,
  List,
  [],
  ◌∷◌,
  ◌++◌,
  length,
  map,
  take,
  drop,
  refl,
  sym,
  ap,
  ◌∙◌,
  subst,
  arith,
  Some,
  None,
  get_or,
  append_assoc,
}
use Rattle.std.proofs.lemmas.List.{append-nil, length-append, length-drop, length-map, drop-drop, drop-map, take-map}
use Rattle.pf_values.specs.declared.models.Model.{Model}
use Rattle.pf_values.specs.meaning.Arguments.{Argument, HasTypes}
use Rattle.pf_values.specs.meaning.Items.{Item, Directive, types}
use Rattle.pf_values.specs.meaning.Printing.{Prints, PrintsAll}
use Rattle.pf_values.specs.meaning.Specification.{Specification}
use Rattle.pf_values.specs.meaning.Text.{Text}
use Rattle.pf_values.proofs.ItemTypes.{types-append}
use Rattle.pf_render.specs.declared.faults.WriteFault.{WriteFault}
use Rattle.pf_render.specs.declared.format_parts.FormatPart.{FormatPart}
use Rattle.pf_render.specs.declared.progress.Progress.{Progress}
use Rattle.pf_render.specs.FormatParts.{directive_or_bytes, items_of_part}
use Rattle.pf_render.specs.Outputs.{IsOutput}
use Rattle.pf_render.specs.Progressing.{WritesOn, WritesPart, arity, next_arguments}
use Rattle.pf_render.proofs.PrintingLemmas.{HasTypes-split, PrintsAll-bytes, PrintsAll-none, PrintsAll-split, same_printed}

module _ {A : Type 0} (argument_of : A → Argument) where
  one_printed : (model : Model) (s : Specification) (args : List A) (first : A) (out : Text) → first ≡ get_or args 0 first
      → HasTypes model (map argument_of args) (types model (Directive s ∷ [])) → Prints model s (argument_of first) out
      → PrintsAll model (Directive s ∷ []) (map argument_of args) out
  one_printed model s [] first out e h g = absurd h
  one_printed model s (a ∷ []) first out e h g = (out, [], subst (λ x. Prints model s (argument_of x) out) e g, refl, sym (append-nil out))
  one_printed model s (a ∷ (b ∷ args)) first out e h g = absurd h.1

  -- what one part prints
  module _ (model : Model) (part : FormatPart) (own : List A) (typed : HasTypes model (map argument_of own) (types model (items_of_part part))) where
    pub bytes_printed : part.directive ≡ None → PrintsAll model (items_of_part part) (map argument_of own) part.literal.now
    bytes_printed e =
        subst (λ d. HasTypes model (map argument_of own) (types model (directive_or_bytes d part.literal.now))
        → PrintsAll model (directive_or_bytes d part.literal.now) (map argument_of own) part.literal.now) (sym e)
        (PrintsAll-bytes model part.literal.now (map argument_of own)) typed

    pub directive_printed : (s : Specification) (first : A) (out : Text) → part.directive ≡ Some s → first ≡ get_or own 0 first
        → Prints model s (argument_of first) out → PrintsAll model (items_of_part part) (map argument_of own) out
    directive_printed s first out e same h =
        subst (λ d. HasTypes model (map argument_of own) (types model (directive_or_bytes d part.literal.now))
        → PrintsAll model (directive_or_bytes d part.literal.now) (map argument_of own) out) (sym e) (λ t. one_printed model s own first out same t h) typed

-- The first items were written, for the first arguments. What all of them print is that, and what the others print.
module _ {A O : Type 0} (argument_of : A → Argument) (wrote : O → O → Text → Type 0) (model : Model) (old : O) (args : List A) (out : Text) where
  pub record IsPrinting (now : O) (progress : Progress) (others : List Item) : Type 0 where
    pub typed : HasTypes model (drop progress.taken (map argument_of args)) (types model others)
    pub within : progress.taken ≤ length args
    pub front : Text
    pub back : Text
    pub prints : PrintsAll model others (drop progress.taken (map argument_of args)) back
    pub split : out ≡ front ++ back
    pub written : progress.written ≡ length front
    pub put : wrote old now front

module _ (model : Model) {A O : Type 0} {argument_of : A → Argument} {wrote : O → O → Text → Type 0} {stopped : O → O → Text → ℕ → Type 0}
    (laws : IsOutput wrote stopped) {old : O} {args : List A} {out : Text} where
  pub nothing_yet : (progress : Progress) (items : List Item) → (progress.taken ≡ 0) × (progress.written ≡ 0)
      → HasTypes model (map argument_of args) (types model items) → PrintsAll model items (map argument_of args) out
      → IsPrinting argument_of wrote model old args out old progress items
  nothing_yet progress items e typed prints =
      record {
        typed = subst (λ n. HasTypes model (drop n (map argument_of args)) (types model items)) (sym e.0) typed;
        within = omega (arith, e.0);
        front = [];
        back = out;
        prints = subst (λ n. PrintsAll model items (drop n (map argument_of args)) out) (sym e.0) prints;
        split = refl;
        written = e.1;
        put = laws.nothing old;
      }

  module _ {now : O} {progress : Progress} {others : List Item} (h : IsPrinting argument_of wrote model old args out now progress others) where
    abbrev left : List Argument
    left = drop progress.taken (map argument_of args)

    pub all_written : others ≡ [] → wrote old now out
    all_written none =
        let back : h.back ≡ [] = PrintsAll-none model others left h.back none h.prints in
        subst (wrote old now) (sym (h.split ∙ ap (λ b. h.front ++ b) back ∙ append-nil h.front)) h.put

    -- one more part is to be written
    module _ (part : FormatPart) (later : List Item) (others_are : others ≡ items_of_part part ++ later) where
      types_split : HasTypes model (take (arity model part) left) (types model (items_of_part part))
          × HasTypes model (drop (arity model part) left) (types model later) × (arity model part ≤ length left)
      types_split = HasTypes-split model (types model (items_of_part part)) (types model later) left
          (subst (HasTypes model left) (ap (types model) others_are ∙ types-append model (items_of_part part) later) h.typed)

      pub next_within : progress.taken + arity model part ≤ length args
      next_within = omega (arith, types_split.2, length-drop progress.taken (map argument_of args), length-map args argument_of, h.within)

      own_are : next_arguments argument_of model progress part args ≡ take (arity model part) left
      own_are = sym (take-map argument_of (arity model part) (drop progress.taken args))
          ∙ ap (take (arity model part)) (sym (drop-map argument_of progress.taken args))

      pub next_typed : HasTypes model (next_arguments argument_of model progress part args) (types model (items_of_part part))
      next_typed = subst (λ a. HasTypes model a (types model (items_of_part part))) (sym own_are) types_split.0

      -- what it prints
      module _ (new : O) (after : Progress) (text : Text) (prints : PrintsAll model (items_of_part part)
          (next_arguments argument_of model progress part args) text) where
        prints_split : (rest : Text) × PrintsAll model later (drop (arity model part) left) rest × (h.back ≡ text ++ rest)
        prints_split =
            let parts = PrintsAll-split model (items_of_part part) later left h.back (subst (λ i. PrintsAll model i left h.back) others_are h.prints) in
            let same : parts.0 ≡ text = same_printed model (items_of_part part) (next_arguments argument_of model progress part args) parts.0 text next_typed
            (subst (λ a. PrintsAll model (items_of_part part) a parts.0) (sym own_are) parts.2) prints in
            (parts.1, parts.3, parts.4 ∙ ap (λ u. u ++ parts.1) same)

        pub wrote_on : WritesOn wrote stopped now new progress after text (arity model part) → IsPrinting argument_of wrote model old args out new after later
        wrote_on w =
            let behind : drop (arity model part) left ≡ drop after.taken (map argument_of args) = drop-drop
            (arity model part) progress.taken (map argument_of args)
            ∙ ap (λ n. drop n (map argument_of args)) (sym w.taken) in
            record {
              typed = subst (λ a. HasTypes model a (types model later)) behind types_split.1;
              within = omega (arith, next_within, w.taken);
              front = h.front ++ text;
              back = prints_split.0;
              prints = subst (λ a. PrintsAll model later a prints_split.0) behind prints_split.1;
              split = h.split ∙ ap (λ b. h.front ++ b) prints_split.2 ∙ sym (append_assoc h.front text prints_split.0);
              written = omega (arith, h.written, w.written, length-append h.front text);
              put = laws.joined old now new h.front text h.put w.put;
            }

        -- only its first bytes went out
        pub wrote_part : (fault : WriteFault) → WritesPart wrote stopped now new progress after text fault
            → stopped old new out fault.written × (fault.written < length out)
        wrote_part fault w =
            let all : out ≡ h.front ++ (text ++ prints_split.0) = h.split ∙ ap (λ b. h.front ++ b) prints_split.2 in
            let count : length h.front + w.count ≡ fault.written = omega (arith, h.written, w.written) in (
              subst (stopped old new out) count (subst (λ u. stopped old new u (length h.front + w.count)) (sym all)
                  (laws.stopped_later old now new h.front text prints_split.0 w.count h.put w.less w.put)),
              omega (arith, count, w.less, ap length all, length-append h.front (text ++ prints_split.0), length-append text prints_split.0),
            )
