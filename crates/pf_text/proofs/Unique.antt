-- A text is rejected for one reason at one place.
use Rattle.std.proofs.Common.{◌≡◌, ℕ, ◌≤◌, Bool, true, false, List, [], ◌∷◌, ◌++◌, length, refl, sym, ap, ◌∙◌, arith, subst, inl, inr, Ok, Err}
use Rattle.std.specs.Prelude.{◌⊎◌, ◌==◌, MatchBool}
use Rattle.std.proofs.lemmas.List.{append_assoc, append-nil}
use Rattle.pf_values.specs.declared.limits.TheConstants.{MAX_TEXT_LEN}
use Rattle.pf_values.specs.declared.refusals.RefusalKind.{RefusalKind}
use Rattle.pf_values.specs.declared.refusals.RefusalKind.TheVariants.{Unexpected, TooLong}
use Rattle.pf_values.specs.meaning.Items.{Item, Byte, Directive, Reads}
use Rattle.pf_values.specs.meaning.Refusals.{
  IsBegun,
  IsGoodFront,
  IsRefusedByte,
  HasCause,
  IsRefusedAt,
}
use Rattle.pf_values.specs.meaning.Text.{Text}
use Rattle.pf_text.specs.declared.scanner.Step.{Step}
use Rattle.pf_text.specs.declared.scanner.Step.TheVariants as steps
use Rattle.pf_text.specs.Stages.{State}
use Rattle.pf_text.specs.Stages.{Between}
use Rattle.pf_text.specs.Fronts.{IsAt}
use Rattle.pf_text.specs.History.{with_step}
use Rattle.pf_text.specs.States.{Next, next}
use Rattle.pf_text.proofs.Complete.{On}
use Rattle.pf_text.proofs.Runs.{Progress, moved, advance, run, run-append, run-refused}
use Rattle.pf_text.proofs.Sound.{Judges, judge}
use Rattle.pf_text.proofs.Texts.{start, items_in, state_in, run-reads, run-split, stepped, IsStepped, begun_run}

-- items that came before
abbrev pub prefixed : List Item → Progress → Progress
prefixed before (Ok p) = Ok (p.0, before ++ p.1)
prefixed before (Err kind) = Err kind

with_step_behind : (before items : List Item) (step : Step) → with_step (before ++ items) step ≡ before ++ with_step items step
with_step_behind before items steps.More = refl
with_step_behind before items (steps.Byte b) = append_assoc before items (Byte b ∷ [])
with_step_behind before items steps.Percent = append_assoc before items (Byte 37 ∷ [])
with_step_behind before items (steps.Directive s) = append_assoc before items (Directive s ∷ [])

moved_behind : (before items : List Item) (n : Next) → moved (before ++ items) n ≡ prefixed before (moved items n)
moved_behind before items (Ok p) = ap (λ i. Ok (p.0, i)) (with_step_behind before items p.1)
moved_behind before items (Err kind) = refl

advance_behind : (before : List Item) (p : Progress) (byte : ℕ) → advance (prefixed before p) byte ≡ prefixed before (advance p byte)
advance_behind before (Ok p) byte = moved_behind before p.1 (next p.0 byte)
advance_behind before (Err kind) byte = refl

run_behind : (t : Text) (before : List Item) (p : Progress) → run (prefixed before p) t ≡ prefixed before (run p t)
run_behind [] before p = refl
run_behind (b ∷ t) before p = ap (λ q. run q t) (advance_behind before p b) ∙ run_behind t before (advance p b)

pub run_from : (t : Text) (items : List Item) (state : State) → run (On items state) t ≡ prefixed items (run (On [] state) t)
run_from t items state = ap (λ i. run (On i state) t) (sym (append-nil items)) ∙ run_behind t items (On [] state)

none_before : (a b : List Item) → [] ≡ a ++ b → a ≡ []
none_before [] b e = refl
none_before (x ∷ a) b e = cc

none_after : (a b : List Item) → a ++ b ≡ a → b ≡ []
none_after [] b e = e
none_after (x ∷ a) b e = let rest : a ++ b ≡ a = cc in none_after a b rest

pub no_items : (t : Text) (state q : State) (items : List Item) → run (On items state) t ≡ On [] q → items ≡ []
no_items t state q items e = go (run (On [] state) t) refl where
  go : (p : Progress) → run (On [] state) t ≡ p → items ≡ []
  go (Ok p) g = none_before items p.1 (ap items_in (sym e ∙ run_from t items state ∙ ap (prefixed items) g))
  go (Err kind) g = let all : On [] q ≡ Err kind = sym e ∙ run_from t items state ∙ ap (prefixed items) g in cc

-- what is run through is items and the beginning of one more
sound_run : (u t : Text) (items : List Item) (state : State) → IsStepped t items state → (others : List Item) (q : State)
    → run (On items state) u ≡ On others q → IsStepped (t ++ u) others q
sound_run [] t items state h others q e =
    let same = ap items_in e in
    let there = ap state_in e in
    subst (λ v. IsStepped v others q) (sym (append-nil t)) (subst (λ s. IsStepped t others s) there (subst (λ i. IsStepped t i state) same h))
sound_run (b ∷ u) t items state h others q e = go (next state b) refl (λ i s g. sound_run u (t ++ b ∷ []) i s g others q) e where
  go : (n : Next) → next state b ≡ n → ((i : List Item) (s : State) → IsStepped (t ++ b ∷ []) i s → run (On i s) u ≡ On others q
      → IsStepped (t ++ b ∷ [] ++ u) others q) → run (moved items n) u ≡ On others q → IsStepped (t ++ (b ∷ u)) others q
  go (Ok p) g rest f =
      let leads = subst (Judges h.part b) g (judge state h.part b h.at) in
      subst (λ v. IsStepped v others q) (append_assoc t (b ∷ []) u) (rest (with_step items p.1) p.0 (stepped t h.part items b h.splits p.0 p.1 leads) f)
  go (Err kind) g rest f = let no = run-refused kind u in cc

at_start : IsStepped [] [] Between
at_start = record { part = []; splits = record { whole = []; reads = refl; split = refl }; at = refl }

-- the state at the beginning of an item
record IsReached (part : Text) : Type 0 where
  state : State
  at : IsAt state part

reached : (part : Text) → IsBegun part → IsReached part
reached part h =
    let runs = begun_run [] part h in
    let none = no_items runs.1 runs.0.0 runs.3 runs.0.1 runs.4 in
    let here : run start part ≡ On [] runs.0.0 = runs.2 ∙ ap (λ i. On i runs.0.0) none in
    let st = sound_run part [] [] Between at_start [] runs.0.0 here in
    let same : part ≡ st.part = st.splits.split ∙ ap (λ w. w ++ st.part) st.splits.reads in
    record { state = runs.0.0; at = subst (IsAt runs.0.0) (sym same) st.at }

-- from between items back to there without an item nothing came
nothing_more : (items : List Item) (x : Text) → run (On items Between) x ≡ On items Between → x ≡ []
nothing_more items x e = go (run start x) refl where
  go : (p : Progress) → run start x ≡ p → x ≡ []
  go (Ok p) g =
      let all : Ok (p.0, items ++ p.1) ≡ On items Between = sym (ap (prefixed items) g) ∙ sym (run_from x items Between) ∙ e in
      let none = none_after items p.1 (ap items_in all) in
      let there = ap state_in all in
      let st = sound_run x [] [] Between at_start [] Between (g ∙ ap (λ i. On i p.0) none ∙ ap (On []) there) in
      st.splits.split ∙ ap (λ w. w ++ st.part) st.splits.reads ∙ st.at
  go (Err kind) g = let all : Err kind ≡ On items Between = sym (ap (prefixed items) g) ∙ sym (run_from x items Between) ∙ e in cc

-- two cuts of one text
pub data Cuts (a b c d : Text) : Type 0 where
  Later : (x : Text) → c ≡ a ++ x → b ≡ x ++ d → Cuts a b c d
  Sooner : (x : Text) → a ≡ c ++ x → d ≡ x ++ b → Cuts a b c d

longer_cuts : (y : ℕ) (a b c d : Text) → Cuts a b c d → Cuts (y ∷ a) b (y ∷ c) d
longer_cuts y a b c d (Later x e f) = Later x (ap (λ t. y ∷ t) e) f
longer_cuts y a b c d (Sooner x e f) = Sooner x (ap (λ t. y ∷ t) e) f

pub cuts : (a b c d : Text) → a ++ b ≡ c ++ d → Cuts a b c d
cuts [] b c d e = Later c refl e
cuts (y ∷ a) b [] d e = Sooner (y ∷ a) refl (sym e)
cuts (y ∷ a) b (z ∷ c) d e =
    let first : y ≡ z = cc in
    let rest : a ++ b ≡ c ++ d = cc in
    subst (λ w. Cuts (y ∷ a) b (w ∷ c) d) first (longer_cuts y a b c d (cuts a b c d rest))

-- the items of a good front, and what has come of one more, are one
pub same_whole : (items : List Item) (a b x : Text) → Reads a items → Reads b items → b ≡ a ++ x → x ≡ []
same_whole items a b x h g e =
    nothing_more items x (ap (λ p. run p x) (sym (run-reads items a [] h)) ∙ sym (run-append start a x) ∙ ap (run start) (sym e) ∙ run-reads items b [] g)

module _ (front part other : Text) (items others : List Item) (h : IsGoodFront front items part) (g : IsGoodFront front others other) where
  same_items : items ≡ others
  same_items =
      let at = reached part h.begun in
      let to = reached other g.begun in
      ap items_in (sym (run-split front part items at.state h.splits at.at) ∙ run-split front other others to.state g.splits to.at)

  same_part : part ≡ other
  same_part = go (cuts h.splits.whole part g.splits.whole other (sym h.splits.split ∙ g.splits.split)) where
    go : Cuts h.splits.whole part g.splits.whole other → part ≡ other
    go (Later x e f) = f ∙ ap (λ t. t ++ other) (same_whole others h.splits.whole g.splits.whole x
        (subst (Reads h.splits.whole) same_items h.splits.reads) g.splits.reads e)
    go (Sooner x e f) = sym (f ∙ ap (λ t. t ++ part) (same_whole others g.splits.whole h.splits.whole x g.splits.reads
        (subst (Reads h.splits.whole) same_items h.splits.reads) e))

same_reason : (part : Text) (byte : ℕ) (kind other : RefusalKind) → IsRefusedByte part byte kind → IsRefusedByte part byte other → kind ≡ other
same_reason part byte kind other h g = go (h.others other g.reason) (g.others kind h.reason) where
  go : ((other ≡ kind) ⊎ (other ≡ Unexpected)) → ((kind ≡ other) ⊎ (kind ≡ Unexpected)) → kind ≡ other
  go (inl e) f = sym e
  go (inr e) (inl f) = f
  go (inr e) (inr f) = f ∙ sym e

same_cause : (p : ℕ) (part rest : Text) (kind other : RefusalKind) → HasCause p part rest kind → HasCause p part rest other → kind ≡ other
same_cause p part [] kind other h g = h ∙ sym g
same_cause p part (byte ∷ rest) kind other h g = go (p == MAX_TEXT_LEN) h g where
  go : (b : Bool) → MatchBool b (kind ≡ TooLong) (IsRefusedByte part byte kind) → MatchBool b (other ≡ TooLong) (IsRefusedByte part byte other) → kind ≡ other
  go true h g = h ∙ sym g
  go false h g = same_reason part byte kind other h g

module _ (t : Text) (kind other : RefusalKind) (p q : ℕ) (h : IsRefusedAt t kind p) (g : IsRefusedAt t other q) where
  same_front : (h.front ≡ g.front) × (h.rest ≡ g.rest)
  same_front = go (cuts h.front h.rest g.front g.rest (sym h.split ∙ g.split)) where
    go : Cuts h.front h.rest g.front g.rest → (h.front ≡ g.front) × (h.rest ≡ g.rest)
    go (Later x e f) =
        let few : length (h.front ++ x) ≤ MAX_TEXT_LEN = omega (arith, g.offset, g.limit, ap length e) in
        let none = h.longest x g.rest g.items g.part f few (subst (λ u. IsGoodFront u g.items g.part) e g.good) in
        (sym (e ∙ ap (λ x. h.front ++ x) none ∙ append-nil h.front), f ∙ ap (λ x. x ++ g.rest) none)
    go (Sooner x e f) =
        let few : length (g.front ++ x) ≤ MAX_TEXT_LEN = omega (arith, h.offset, h.limit, ap length e) in
        let none = g.longest x h.rest h.items h.part f few (subst (λ u. IsGoodFront u h.items h.part) e h.good) in
        (e ∙ ap (λ x. g.front ++ x) none ∙ append-nil g.front, sym (f ∙ ap (λ x. x ++ h.rest) none))

  -- A text is rejected for one reason at one place.
  pub IsRefusedAt-unique : (kind ≡ other) × (p ≡ q)
  IsRefusedAt-unique =
      let places : p ≡ q = h.offset ∙ ap length same_front.0 ∙ sym g.offset in
      let parts = same_part g.front h.part g.part h.items g.items (subst (λ u. IsGoodFront u h.items h.part) same_front.0 h.good) g.good in
      let cause : HasCause q g.part g.rest kind = subst (λ n. HasCause n g.part g.rest kind) places
      (subst (λ u. HasCause p u g.rest kind) parts (subst (λ u. HasCause p h.part u kind) same_front.1 h.cause)) in
      (same_cause q g.part g.rest kind other cause g.cause, places)
