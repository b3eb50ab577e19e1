-- What items print for arguments, part by part.
use Rattle.std.proofs.Common.{◌≡◌, ◌≤◌, List, [], ◌∷◌, ◌++◌, length, map, take, drop, refl, sym, ap, ◌∙◌, arith, subst, append_assoc}
use Rattle.pf_values.specs.declared.models.Model.{Model}
use Rattle.pf_values.specs.declared.types.ArgType.{ArgType}
use Rattle.pf_values.specs.meaning.Arguments.{Argument, HasTypes}
use Rattle.pf_values.specs.meaning.Items.{Item, Byte, Directive, types}
use Rattle.pf_values.specs.meaning.Printing.{PrintsAll}
use Rattle.pf_values.specs.meaning.Text.{Text}
use Rattle.pf_values.proofs.Alike.{all_printed, all_printed-is, PrintsAll-unique}

pub PrintsAll-exists : (model : Model) (items : List Item) (args : List Argument) → HasTypes model args (types model items)
    → (out : Text) × PrintsAll model items args out
PrintsAll-exists model items args h = (all_printed model items args, all_printed-is model items args h)

pub same_printed : (model : Model) (items : List Item) (args : List Argument) (x y : Text) → HasTypes model args (types model items)
    → PrintsAll model items args x
    → PrintsAll model items args y → x ≡ y
same_printed model items args x y typed f g = PrintsAll-unique model items args x typed f ∙ sym (PrintsAll-unique model items args y typed g)

-- items that come before others take the first arguments, and print first
pub PrintsAll-split : (model : Model) (items more : List Item) (args : List Argument) (out : Text) → PrintsAll model (items ++ more) args out
    → (first rest : Text) × PrintsAll model items (take (length (types model items)) args) first
    × PrintsAll model more (drop (length (types model items)) args) rest × (out ≡ first ++ rest)
PrintsAll-split model [] more args out h = ([], out, refl, h, refl)
PrintsAll-split model (Byte byte ∷ items) more args out h =
    let r = PrintsAll-split model items more args h.0 h.1 in
    (byte ∷ r.0, r.1, (r.0, r.2, refl), r.3, h.2 ∙ ap (λ t. byte ∷ t) r.4)
PrintsAll-split model (Directive s ∷ items) more [] out h = absurd h
PrintsAll-split model (Directive s ∷ items) more (a ∷ args) out h =
    let r = PrintsAll-split model items more args h.1 h.3 in
    (h.0 ++ r.0, r.1, (h.0, r.0, h.2, r.2, refl), r.3, h.4 ∙ ap (λ t. h.0 ++ t) r.4 ∙ sym (append_assoc h.0 r.0 r.1))

pub HasTypes-split : (model : Model) (first rest : List ArgType) (args : List Argument) → HasTypes model args (first ++ rest)
    → HasTypes model (take (length first) args) first × HasTypes model (drop (length first) args) rest × (length first ≤ length args)
HasTypes-split model [] rest args h = (tt, h, omega arith)
HasTypes-split model (type ∷ first) rest [] h = absurd h
HasTypes-split model (type ∷ first) rest (a ∷ args) h = let r = HasTypes-split model first rest args h.1 in ((h.0, r.0), r.1, omega (arith, r.2))

-- literal bytes print themselves, and take no argument
pub PrintsAll-bytes : (model : Model) (bytes : Text) (args : List Argument) → HasTypes model args (types model (map Byte bytes))
    → PrintsAll model (map Byte bytes) args bytes
PrintsAll-bytes model [] [] h = refl
PrintsAll-bytes model [] (a ∷ args) h = absurd h
PrintsAll-bytes model (byte ∷ bytes) args h = (bytes, PrintsAll-bytes model bytes args h, refl)

pub PrintsAll-none : (model : Model) (items : List Item) (args : List Argument) (out : Text) → items ≡ [] → PrintsAll model items args out → out ≡ []
PrintsAll-none model [] [] out e h = h
PrintsAll-none model [] (a ∷ args) out e h = absurd h
PrintsAll-none model (item ∷ items) args out e h = cc

-- items take their arguments first, and print first
pub PrintsAll-append : (model : Model) (a b : List Item) (xs ys : List Argument) (o p : Text) → PrintsAll model a xs o → PrintsAll model b ys p
    → PrintsAll model (a ++ b) (xs ++ ys) (o ++ p)
PrintsAll-append model [] b [] ys o p h g = subst (λ t. PrintsAll model b ys (t ++ p)) (sym h) g
PrintsAll-append model [] b (x ∷ xs) ys o p h g = absurd h
PrintsAll-append model (Byte c ∷ a) b [] ys o p h g = (h.0 ++ p, PrintsAll-append model a b [] ys h.0 p h.1 g, ap (λ t. t ++ p) h.2)
PrintsAll-append model (Byte c ∷ a) b (x ∷ xs) ys o p h g = (h.0 ++ p, PrintsAll-append model a b (x ∷ xs) ys h.0 p h.1 g, ap (λ t. t ++ p) h.2)
PrintsAll-append model (Directive s ∷ a) b [] ys o p h g = absurd h
PrintsAll-append model (Directive s ∷ a) b (x ∷ xs) ys o p h g = (
  h.0,
  h.1 ++ p,
  h.2,
  PrintsAll-append model a b xs ys h.1 p h.3 g,
  ap (λ t. t ++ p) h.4
      ∙ append_assoc h.0 h.1 p,
)
