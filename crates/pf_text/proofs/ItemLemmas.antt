-- Texts that are read an item at a time.
use Rattle.std.proofs.Common.{ℕ, ◌+◌, List, [], ◌∷◌, ◌++◌, take, drop, refl, sym, subst}
use Rattle.std.proofs.Math.Seq.{take-add}
use Rattle.pf_values.specs.meaning.Items.{Item, IsReadAs, Reads}
use Rattle.pf_values.specs.meaning.Text.{Text}
use Rattle.pf_text.proofs.CanonicalRunLemmas.{Reads-append}
use Rattle.pf_text.proofs.Texts.{Reads-push}

-- a text that is one item
pub one_read : (t : Text) (item : Item) → IsReadAs t item → Reads t (item ∷ [])
one_read t item h = Reads-push [] [] t item refl h

-- more bytes of a text are read
pub read_more : (text : Text) (at n : ℕ) (items more : List Item) → Reads (take at text) items → Reads (take n (drop at text)) more
    → Reads (take (at + n) text) (items ++ more)
read_more text at n items more h g = subst (λ u. Reads u (items ++ more)) (sym (take-add at n text))
    (Reads-append (take at text) (take n (drop at text)) items more h g)
