-- The items that the front of a text has are the first ones of the whole text.
use Rattle.std.proofs.Common.{◌≡◌, ◌≢◌, ℕ, ◌≤◌, Bool, true, false, List, [], ◌∷◌, ◌++◌, length, sym, ap, ◌∙◌, arith, Ok, Err, append_assoc}
use Rattle.std.specs.Prelude.{◌==◌, MatchBool}
use Rattle.std.proofs.lemmas.List.{append-nil, length-append}
use Rattle.pf_values.specs.meaning.Items.{Item, Byte, Directive, IsReadAs, Reads}
use Rattle.pf_values.specs.meaning.Text.{Text, percent}
use Rattle.pf_text.specs.declared.scanner.Step.{Step}
use Rattle.pf_text.specs.declared.scanner.Step.TheVariants as steps
use Rattle.pf_text.specs.Stages.{State}
use Rattle.pf_text.specs.Stages.{Between}
use Rattle.pf_text.specs.History.{with_step}
use Rattle.pf_text.specs.States.{Next, next}
use Rattle.pf_text.proofs.Complete.{On}
use Rattle.pf_text.proofs.Runs.{moved, run, run-append, run-refused}
use Rattle.pf_text.proofs.Texts.{items_in, run-reads, start}

-- some items, and more after them
abbrev pub Begin : List Item → List Item → Type 0
Begin items all = (more : List Item) × (all ≡ items ++ more)

begin_longer : (items more all : List Item) → Begin (items ++ more) all → Begin items all
begin_longer items more all h = (more ++ h.0, h.1 ∙ append_assoc items more h.0)

begin_step : (items all : List Item) (step : Step) → Begin (with_step items step) all → Begin items all
begin_step items all steps.More h = h
begin_step items all (steps.Byte b) h = begin_longer items (Byte b ∷ []) all h
begin_step items all steps.Percent h = begin_longer items (Byte percent ∷ []) all h
begin_step items all (steps.Directive d) h = begin_longer items (Directive d ∷ []) all h

-- a run takes no item away
begin_run : (t : Text) (items all : List Item) (state last : State) → run (On items state) t ≡ On all last → Begin items all
begin_run [] items all state last e = let same : items ≡ all = ap items_in e in ([], sym same ∙ sym (append-nil items))
begin_run (b ∷ t) items all state last e = go (next state b) e (λ i s. begin_run t i all s last) where
  go : (n : Next) → run (moved items n) t ≡ On all last → ((i : List Item) (s : State) → run (On i s) t ≡ On all last → Begin i all) → Begin items all
  go (Ok p) f rest = begin_step items all p.1 (rest (with_step items p.1) p.0 f)
  go (Err kind) f rest = let no = run-refused kind t in cc

pub front_items : (read rest : Text) (items all : List Item) → Reads read items → Reads (read ++ rest) all → Begin items all
front_items read rest items all h g =
    begin_run rest items all Between Between (ap (λ p. run p rest) (sym (run-reads items read [] h)) ∙ sym (run-append start read rest)
    ∙ run-reads all (read ++ rest) [] g)

some_byte : (t : Text) (byte : ℕ) (b : Bool) → MatchBool b (t ≡ percent ∷ percent ∷ []) ((byte ≢ 0) × (t ≡ byte ∷ [])) → 1 ≤ length t
some_byte t byte true h = omega (arith, ap length h)
some_byte t byte false h = omega (arith, ap length h.1)

some_text : (t : Text) (item : Item) → IsReadAs t item → 1 ≤ length t
some_text t (Byte byte) h = some_byte t byte (byte == percent) h
some_text t (Directive s) h = omega (arith, ap length h.0.whole)

-- each item is read from a byte at least
pub length_items : (t : Text) (items : List Item) → Reads t items → length items ≤ length t
length_items t [] h = omega arith
length_items t (item ∷ items) h = omega (arith, some_text h.0 item h.2, length_items h.1 items h.3, ap length h.4, length-append h.0 h.1)
