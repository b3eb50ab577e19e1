-- A text so far is whole just where the automaton is between items.
use Rattle.std.proofs.Common.{◌≡◌, ◌≢◌, ◌++◌, List, [], sym, ap, ◌∙◌, subst, Bool, true, false, refl}
use Rattle.std.specs.Prelude.{◌↔◌, IsTrue, MatchBool}
use Rattle.std.proofs.lemmas.List.{append-nil}
use Rattle.pf_values.specs.meaning.Items.{Item, Reads}
use Rattle.pf_values.specs.meaning.Text.{Text}
use Rattle.pf_text.specs.declared.scanner.Scanner.{Scanner}
use Rattle.pf_text.specs.Fronts.{IsAt}
use Rattle.pf_text.specs.History.{IsAfter}
use Rattle.pf_text.specs.Stages.{Between, state_of}
use Rattle.pf_text.proofs.Refusing.{truncated_at}

pub between_reads : (scanner : Scanner) (t : Text) (items : List Item) → IsAfter scanner t items → state_of scanner.automaton ≡ Between → Reads t items
between_reads scanner t items h e =
    let none : h.part ≡ [] = subst (λ s. IsAt s h.part) e h.state in
    let whole = h.good.splits.whole in
    subst (λ u. Reads u items) (sym (h.good.splits.split ∙ ap (λ p. whole ++ p) none ∙ append-nil whole)) h.good.splits.reads

-- where the text is cut inside an item it isn't accepted, so it isn't read
inside_unread : (scanner : Scanner) (t : Text) (items : List Item) → IsAfter scanner t items → state_of scanner.automaton ≢ Between → Reads t items → ⊥
inside_unread scanner t items h inside reads =
    (truncated_at t h.part items (state_of scanner.automaton) h.good.splits h.state inside h.limit).not_accepted
    (items, record { reads = reads; limit = h.limit })

pub whether_read : (scanner : Scanner) (t : Text) (items : List Item) (is : Bool) → IsTrue is ↔ (state_of scanner.automaton ≡ Between) → IsAfter scanner t items
    → MatchBool is (Reads t items) (Reads t items → ⊥)
whether_read scanner t items true e h = between_reads scanner t items h (e.0 refl)
whether_read scanner t items false e h = inside_unread scanner t items h (λ at. let is : false ≡ true = e.1 at in cc)
