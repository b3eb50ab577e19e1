-- Items that take the same types and print the same for all arguments of them.
use Rattle.std.proofs.Common.{◌≡◌, List, [], ◌∷◌, ◌++◌, refl, sym, ap, ◌∙◌}
use Rattle.std.specs.Prelude.{◌↔◌}
use Rattle.std.proofs.lemmas.List.{append_assoc}
use Rattle.pf_values.specs.declared.models.Model.{Model}
use Rattle.pf_values.specs.declared.types.ArgType.{ArgType}
use Rattle.pf_values.specs.meaning.Arguments.{Argument, HasTypes}
use Rattle.pf_values.specs.meaning.DataModel.{arg_type}
use Rattle.pf_values.specs.meaning.Items.{Item, Byte, Directive, Reads, types}
use Rattle.pf_values.specs.meaning.Printing.{AreEquivalent, PrintAlike, PrintsAll}
use Rattle.pf_values.specs.meaning.Text.{Text}
use Rattle.pf_values.proofs.ItemTypes.{types-append}
use Rattle.pf_values.proofs.PrintsOnce.{printed_text, printed-is, Prints-unique}

-- what items print for arguments; too few or too many of them print nothing
abbrev pub all_printed : Model → List Item → List Argument → Text
all_printed model [] args = []
all_printed model (Byte byte ∷ items) args = byte ∷ all_printed model items args
all_printed model (Directive s ∷ items) [] = []
all_printed model (Directive s ∷ items) (argument ∷ args) = printed_text model s argument ++ all_printed model items args

pub all_printed-is : (model : Model) (items : List Item) (args : List Argument) → HasTypes model args (types model items)
    → PrintsAll model items args (all_printed model items args)
all_printed-is model [] [] h = refl
all_printed-is model [] (argument ∷ args) h = absurd h
all_printed-is model (Byte byte ∷ items) [] h = (all_printed model items [], all_printed-is model items [] h, refl)
all_printed-is model (Byte byte ∷ items) (argument ∷ args) h = (all_printed model items (argument ∷ args), all_printed-is model items (argument ∷ args) h, refl)
all_printed-is model (Directive s ∷ items) [] h = absurd h
all_printed-is model (Directive s ∷ items) (argument ∷ args) h =
    (printed_text model s argument, all_printed model items args, printed-is model s argument h.0, all_printed-is model items args h.1, refl)

pub PrintsAll-unique : (model : Model) (items : List Item) (args : List Argument) (out : Text) → HasTypes model args (types model items)
    → PrintsAll model items args out → out ≡ all_printed model items args
PrintsAll-unique model [] [] out h g = g
PrintsAll-unique model [] (argument ∷ args) out h g = absurd h
PrintsAll-unique model (Byte byte ∷ items) [] out h g = g.2 ∙ ap (λ t. byte ∷ t) (PrintsAll-unique model items [] g.0 h g.1)
PrintsAll-unique model (Byte byte ∷ items) (argument ∷ args) out h g = g.2 ∙ ap (λ t. byte ∷ t) (PrintsAll-unique model items (argument ∷ args) g.0 h g.1)
PrintsAll-unique model (Directive s ∷ items) [] out h g = absurd h
PrintsAll-unique model (Directive s ∷ items) (argument ∷ args) out h g =
    let first = Prints-unique model s argument g.0 h.0 g.2 in
    let rest = PrintsAll-unique model items args g.1 h.1 g.3 in
    g.4 ∙ ap (λ t. t ++ g.1) first ∙ ap (λ t. printed_text model s argument ++ t) rest

-- two lists of items take arguments of equal types, and print equal bytes for all of them
pub record AreAlike (model : Model) (a b : List Item) : Type 0 where
  pub same_types : types model a ≡ types model b
  pub same_bytes : (args : List Argument) → HasTypes model args (types model a) → all_printed model a args ≡ all_printed model b args

pub alike_refl : (model : Model) (a : List Item) → AreAlike model a a
alike_refl model a = record { same_types = refl; same_bytes = λ args h. refl }

pub alike_trans : (model : Model) (a b c : List Item) → AreAlike model a b → AreAlike model b c → AreAlike model a c
alike_trans model a b c h g = record {
  same_types = h.same_types ∙ g.same_types;
  same_bytes = λ args t. h.same_bytes args t ∙ g.same_bytes args (rw (← h.same_types) t);
}

pub alike_sym : (model : Model) (a b : List Item) → AreAlike model a b → AreAlike model b a
alike_sym model a b h = record {
  same_types = sym h.same_types;
  same_bytes = λ args t. sym (h.same_bytes args (rw h.same_types t));
}

-- what the one prints the other does
pub alike-printed : (model : Model) (a b : List Item) → AreAlike model a b → PrintAlike model a b
alike-printed model a b h = record { same_types = h.same_types; same_bytes = both }
  where
    both : (args : List Argument) (out : Text) → HasTypes model args (types model a)
        → (PrintsAll model a args out ↔ PrintsAll model b args out)
    both args out typed =
        let typed' : HasTypes model args (types model b) = rw (← h.same_types) typed in
        let equal = h.same_bytes args typed in (
          λ p. rw (PrintsAll-unique model a args out typed p ∙ equal) (all_printed-is model b args typed'),
          λ p. rw (PrintsAll-unique model b args out typed' p ∙ sym equal) (all_printed-is model a args typed),
        )

pub printed-alike : (model : Model) (a b : List Item) → PrintAlike model a b → AreAlike model a b
printed-alike model a b h = record {
  same_types = h.same_types;
  same_bytes = λ args typed.
      PrintsAll-unique model b args (all_printed model a args) (rw (← h.same_types) typed)
      ((h.same_bytes args (all_printed model a args) typed).0 (all_printed-is model a args typed));
}

-- texts that read as such items are equivalent
pub alike-equivalent : (model : Model) (t u : Text) (a b : List Item) → Reads t a → Reads u b → AreAlike model a b → AreEquivalent model t u
alike-equivalent model t u a b h g same = record {
  first = a;
  second = b;
  reads_first = h;
  reads_second = g;
  alike = alike-printed model a b same;
}

-- one item more in front of both
pub alike_behind : (model : Model) (item : Item) (a b : List Item) → AreAlike model a b → AreAlike model (item ∷ a) (item ∷ b)
alike_behind model (Byte byte) a b h = record {
  same_types = h.same_types;
  same_bytes = λ args t. ap (λ u. byte ∷ u) (h.same_bytes args t);
}
alike_behind model (Directive s) a b h = record {
  same_types = ap (λ ts. arg_type model s ∷ ts) h.same_types;
  same_bytes = go;
}
  where
    go : (args : List Argument) → HasTypes model args (types model (Directive s ∷ a))
        → all_printed model (Directive s ∷ a) args ≡ all_printed model (Directive s ∷ b) args
    go [] t = refl
    go (argument ∷ args) t = ap (λ u. printed_text model s argument ++ u) (h.same_bytes args t.1)

pub alike_after : (model : Model) (front a b : List Item) → AreAlike model a b → AreAlike model (front ++ a) (front ++ b)
alike_after model [] a b h = h
alike_after model (item ∷ front) a b h = alike_behind model item (front ++ a) (front ++ b) (alike_after model front a b h)

-- arguments of two lists of types, one after another
record IsSplit (model : Model) (args : List Argument) (ts us : List ArgType) : Type 0 where
  pub first : List Argument
  pub second : List Argument
  pub whole : args ≡ first ++ second
  pub typed_first : HasTypes model first ts
  pub typed_second : HasTypes model second us

split_typed : (model : Model) (args : List Argument) (ts us : List ArgType) → HasTypes model args (ts ++ us) → IsSplit model args ts us
split_typed model args [] us h = record { first = []; second = args; whole = refl; typed_first = tt; typed_second = h }
split_typed model [] (t ∷ ts) us h = absurd h
split_typed model (argument ∷ args) (t ∷ ts) us h =
    let rest = split_typed model args ts us h.1 in
    record {
      first = argument ∷ rest.first;
      second = rest.second;
      whole = ap (λ l. argument ∷ l) rest.whole;
      typed_first = (h.0, rest.typed_first);
      typed_second = rest.typed_second;
    }

all_printed-append : (model : Model) (a b : List Item) (first second : List Argument) → HasTypes model first (types model a)
    → all_printed model (a ++ b) (first ++ second) ≡ all_printed model a first ++ all_printed model b second
all_printed-append model [] b [] second h = refl
all_printed-append model [] b (argument ∷ first) second h = absurd h
all_printed-append model (Byte byte ∷ a) b first second h = ap (λ t. byte ∷ t) (all_printed-append model a b first second h)
all_printed-append model (Directive s ∷ a) b [] second h = absurd h
all_printed-append model (Directive s ∷ a) b (argument ∷ first) second h =
    ap (λ t. printed_text model s argument ++ t) (all_printed-append model a b first second h.1)
    ∙ sym (append_assoc (printed_text model s argument) (all_printed model a first) (all_printed model b second))

pub alike_before : (model : Model) (a b back : List Item) → AreAlike model a b → AreAlike model (a ++ back) (b ++ back)
alike_before model a b back h = record {
  same_types = types-append model a back ∙ ap (λ ts. ts ++ types model back) h.same_types ∙ sym (types-append model b back);
  same_bytes = λ args t.
      let s = split_typed model args (types model a) (types model back) (rw (types-append model) at t) in
      let typed : HasTypes model s.first (types model b) = rw (← h.same_types) s.typed_first in
      ap (λ l. all_printed model (a ++ back) l) s.whole
      ∙ all_printed-append model a back s.first s.second s.typed_first
      ∙ ap (λ t. t ++ all_printed model back s.second) (h.same_bytes s.first s.typed_first)
      ∙ sym (all_printed-append model b back s.first s.second typed)
      ∙ ap (λ l. all_printed model (b ++ back) l) (sym s.whole);
}
