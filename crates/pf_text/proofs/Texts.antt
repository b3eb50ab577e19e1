-- Whole texts: what is read is run through, and what is run through is items and the beginning of one more.
use Rattle.std.proofs.Common.{◌≡◌, ◌≢◌, ℕ, zero, suc, Bool, true, false, List, [], ◌∷◌, ◌++◌, length, refl, sym, ap, ◌∙◌, arith, subst, Ok, Err, map}
use Rattle.std.specs.Prelude.{Option, Some, None, ◌==◌, MatchBool}
use Rattle.std.proofs.lemmas.Bool.{eqb-true}
use Rattle.std.proofs.lemmas.Bool.Decides.{nat_tests}
use Rattle.std.proofs.lemmas.List.{append_assoc, append-nil, same_from_push}
use Rattle.pf_values.specs.declared.conversions.Conv.TheVariants.{D}
use Rattle.pf_values.specs.declared.flags.FlagSet.{FlagSet}
use Rattle.pf_values.specs.declared.lengths.Length.{Length}
use Rattle.pf_values.specs.declared.lengths.Length.TheVariants as lengths
use Rattle.pf_values.specs.meaning.Conversions.{conv_letter}
use Rattle.pf_values.specs.meaning.Defined.{refused_as, IsDefined}
use Rattle.pf_values.specs.meaning.Flags.{no_flags, flag_byte}
use Rattle.pf_values.specs.meaning.Items.{Item, Byte, Directive, IsReadAs, Reads}
use Rattle.pf_values.specs.meaning.Lengths.{length_letters}
use Rattle.pf_values.specs.meaning.Refusals.{IsWithinLimits, IsBegun, IsSplit, IsGoodFront}
use Rattle.pf_values.specs.meaning.Specification.{Specification}
use Rattle.pf_values.specs.Directives.{width_given}
use Rattle.pf_values.proofs.DefinedLemmas.{within}
use Rattle.pf_values.specs.meaning.Spelling.{Spells}
use Rattle.pf_values.specs.meaning.Text.{Text}
use Rattle.pf_text.specs.declared.scanner.Step.{Step}
use Rattle.pf_text.specs.declared.scanner.Step.TheVariants as steps
use Rattle.pf_text.specs.Stages.{State}
use Rattle.pf_text.specs.Stages.{Between, Opened, Flags, Width, Point, Precision, Modifier}
use Rattle.pf_text.specs.Fronts.{IsFront, IsAt}
use Rattle.pf_text.specs.History.{Says, with_step}
use Rattle.pf_text.specs.States.{judgement_of, judged_as}
use Rattle.pf_text.proofs.Complete.{On, run-front, conv_at_front, run-at, at_front}
use Rattle.pf_text.proofs.Runs.{Progress, moved, run, run-append, front-ok}
use Rattle.pf_text.proofs.Sound.{LeadsTo}

abbrev pub start : Progress
start = On [] Between

-- a spelled text is one without its conversion, and that letter
pub record IsEnded (t : Text) (s : Specification) : Type 0 where
  pub part : Text
  pub front : IsFront part s.flags s.width s.precision s.length
  pub whole : t ≡ part ++ conv_letter s.conv ∷ []

pub IsEnded-spelled : (t : Text) (s : Specification) → Spells t s → IsWithinLimits s → IsEnded t s
IsEnded-spelled t s h few =
    record {
      part = 37 ∷ map flag_byte h.flags ++ h.width ++ h.precision ++ length_letters s.length;
      front = record {
        flags = h.flags;
        width_text = h.width;
        precision_text = h.precision;
        set_is = h.flags_are;
        width_is = h.width_is;
        precision_is = h.precision_is;
        width_fits = few.width;
        precision_fits = few.precision;
        whole = refl;
      };
      whole = h.whole;
    }

pub run-ended : (items : List Item) (t : Text) (s : Specification) (h : IsEnded t s)
    → run (On items Between) t ≡ moved items (judged_as s.flags s.width s.precision s.length s.conv)
run-ended items t s h =
    ap (run (On items Between)) h.whole
    ∙ run-append (On items Between) h.part (conv_letter s.conv ∷ [])
    ∙ ap (λ p. run p (conv_letter s.conv ∷ [])) (run-front items h.part s.flags s.width s.precision s.length h.front)
    ∙ ap (moved items) (conv_at_front h.part s.flags s.width s.precision s.length h.front s.conv)

given_width : (width : Option ℕ) → width ≢ Some 0 → width_given width ≡ width
given_width None h = refl
given_width (Some zero) h = absurd (h refl)
given_width (Some (suc n)) h = refl

pub run-directive : (items : List Item) (t : Text) (s : Specification) → Spells t s → IsDefined s
    → run (On items Between) t ≡ On (items ++ Directive s ∷ []) Between
run-directive items t s h defined =
    let same = given_width s.width defined.width in
    let g : Option ℕ → Specification = λ w. record { flags = s.flags; width = w; precision = s.precision; length = s.length; conv = s.conv } in
    run-ended items t s (IsEnded-spelled t s h (within s defined.allowed))
    ∙ ap (λ w. moved items (judgement_of (g w) (refused_as (g w)))) same
    ∙ ap (λ o. moved items (judgement_of s o)) defined.allowed

run-byte : (items : List Item) (t : Text) (byte : ℕ) (b : Bool) → (byte == 37) ≡ b → MatchBool b (t ≡ 37 ∷ 37 ∷ []) ((byte ≢ 0) × (t ≡ byte ∷ []))
    → run (On items Between) t ≡ On (items ++ Byte byte ∷ []) Between
run-byte items t byte true e h = ap (run (On items Between)) h ∙ ap (λ k. On (items ++ Byte k ∷ []) Between) (sym (eqb-true byte 37 e))
run-byte items t byte false e h =
    let some : (byte == 0) ≡ false = grind (arith, nat_tests, h.0) in
    ap (run (On items Between)) h.1 ∙ rw (some, e) refl

pub run-item : (items : List Item) (t : Text) (item : Item) → IsReadAs t item → run (On items Between) t ≡ On (items ++ item ∷ []) Between
run-item items t (Byte byte) h = run-byte items t byte (byte == 37) refl h
run-item items t (Directive s) h = run-directive items t s h.0 h.1

pub run-reads : (items : List Item) (t : Text) (before : List Item) → Reads t items → run (On before Between) t ≡ On (before ++ items) Between
run-reads [] t before h = ap (run (On before Between)) h ∙ ap (λ i. On i Between) (sym (append-nil before))
run-reads (item ∷ items) t before h =
    ap (run (On before Between)) h.4
    ∙ run-append (On before Between) h.0 h.1
    ∙ ap (λ p. run p h.1) (run-item before h.0 item h.2)
    ∙ run-reads items h.1 (before ++ item ∷ []) h.3
    ∙ ap (λ i. On i Between) (append_assoc before (item ∷ []) items)

abbrev pub items_in : Progress → List Item
items_in (Ok p) = p.1
items_in (Err kind) = []

abbrev pub state_in : Progress → State
state_in (Ok p) = p.0
state_in (Err kind) = Between

-- A text has at most one list of items.
pub Reads-unique : (t : Text) (items others : List Item) → Reads t items → Reads t others → items ≡ others
Reads-unique t items others h g = ap items_in (sym (run-reads items t [] h) ∙ run-reads others t [] g)

pub run-split : (t part : Text) (items : List Item) (state : State) → IsSplit t items part → IsAt state part → run start t ≡ On items state
run-split t part items state h at =
    ap (run start) h.split ∙ run-append start h.whole part ∙ ap (λ p. run p part) (run-reads items h.whole [] h.reads) ∙ run-at items state part at

pub Reads-push : (items : List Item) (t last : Text) (item : Item) → Reads t items → IsReadAs last item → Reads (t ++ last) (items ++ item ∷ [])
Reads-push [] t last item h g = (last, [], g, refl, ap (λ u. u ++ last) h ∙ sym (append-nil last))
Reads-push (one ∷ items) t last item h g = (h.0, h.1 ++ last, h.2, Reads-push items h.1 last item h.3 g, ap (λ u. u ++ last) h.4 ∙ append_assoc h.0 h.1 last)

-- One more byte, at each state.
pub record IsStepped (t : Text) (items : List Item) (state : State) : Type 0 where
  pub part : Text
  pub splits : IsSplit t items part
  pub at : IsAt state part

module _ (t part : Text) (items : List Item) (byte : ℕ) (h : IsSplit t items part) where
  longer : t ++ byte ∷ [] ≡ h.whole ++ (part ++ byte ∷ [])
  longer = ap (λ u. u ++ byte ∷ []) h.split ∙ append_assoc h.whole part (byte ∷ [])

  ended_item : (q : State) (item : Item) → (q ≡ Between) × IsReadAs (part ++ byte ∷ []) item → IsStepped (t ++ byte ∷ []) (items ++ item ∷ []) q
  ended_item q item g =
      record {
        part = [];
        splits = record {
          whole = h.whole ++ (part ++ byte ∷ []);
          reads = Reads-push items h.whole (part ++ byte ∷ []) item h.reads g.1;
          split = longer
              ∙ sym (append-nil (h.whole ++ (part ++ byte ∷ [])));
        };
        at = subst (λ s. IsAt s []) (sym g.0) refl;
      }

  pub stepped : (q : State) (step : Step) → LeadsTo part byte q step → IsStepped (t ++ byte ∷ []) (with_step items step) q
  stepped q steps.More g = record { part = part ++ byte ∷ []; splits = record { whole = h.whole; reads = h.reads; split = longer }; at = g }
  stepped q (steps.Byte b) g = ended_item q (Byte b) (g.0, g.1)
  stepped q steps.Percent g = ended_item q (Byte 37) g
  stepped q (steps.Directive s) g = ended_item q (Directive s) g

-- between items the text is read
read_between : (t part : Text) (items : List Item) → IsSplit t items part → part ≡ [] → Reads t items
read_between t part items h none = subst (λ u. Reads u items) (sym (h.split ∙ ap (λ p. h.whole ++ p) none ∙ append-nil h.whole)) h.reads

pub says : (t part : Text) (items : List Item) (byte : ℕ) (q : State) (step : Step) → LeadsTo part byte q step
    → (now : IsStepped (t ++ byte ∷ []) (with_step items step) q) → Says (t ++ byte ∷ []) (with_step items step) byte step
says t part items byte q steps.More g now = tt
says t part items byte q (steps.Byte b) g now = (read_between _ now.part _ now.splits (subst (λ s. IsAt s now.part) g.0 now.at), g.2.0, g.2.1)
says t part items byte q steps.Percent g now = read_between _ now.part _ now.splits (subst (λ s. IsAt s now.part) g.0 now.at)
says t part items byte q (steps.Directive d) g now = read_between _ now.part _ now.splits (subst (λ s. IsAt s now.part) g.0 now.at)

-- what has come of an item can go on to a whole one
front_begun : (part : Text) (set : FlagSet) (width precision : Option ℕ) (length : Length) → IsFront part set width precision length → IsBegun part
front_begun part set width precision length h = (
  conv_letter D ∷ [],
  record { flags = set; width = width; precision = precision; length = length; conv = D },
  record {
    flags = h.flags;
    width = h.width_text;
    precision = h.precision_text;
    flags_are = h.set_is;
    width_is = h.width_is;
    precision_is = h.precision_is;
    whole = ap (λ t. t ++ conv_letter D ∷ []) h.whole;
  },
  record { width = h.width_fits; precision = h.precision_fits },
  λ e. cc,
)

opened : (part : Text) → part ≡ 37 ∷ [] → IsFront part no_flags None None lengths.None
opened part h =
    record {
      flags = [];
      width_text = [];
      precision_text = [];
      set_is = refl;
      width_is = refl;
      precision_is = refl;
      width_fits = refl;
      precision_fits = refl;
      whole = h;
    }

pub begun : (state : State) (part : Text) → IsAt state part → IsBegun part
begun Between part h =
    let b = front_begun (37 ∷ []) no_flags None None lengths.None (opened (37 ∷ []) refl) in
    (37 ∷ b.0, b.1, subst (λ p. Spells (p ++ 37 ∷ b.0) b.1) (sym h) b.2, b.3, λ e. cc)
begun Opened part h = front_begun part no_flags None None lengths.None (opened part h)
begun (Flags set) part h = front_begun part set None None lengths.None h.0
begun (Width set n) part h = front_begun part set (Some n) None lengths.None h
begun (Point set width) part h = front_begun part set width (Some 0) lengths.None h.0
begun (Precision set width n) part h = front_begun part set width (Some n) lengths.None h.0
begun (Modifier set width precision length) part h = front_begun part set width precision length h.0

pub split_last : (t : Text) → t ≢ [] → (front : Text) × (last : ℕ) × (t ≡ front ++ last ∷ [])
split_last [] h = absurd (h refl)
split_last (x ∷ []) h = ([], x, refl)
split_last (x ∷ y ∷ t) h = let rest = split_last (y ∷ t) (λ e. cc) in (x ∷ rest.0, rest.1, ap (λ u. x ∷ u) rest.2)

-- What has begun an item is run through, and what is left of one goes on to a state with no more items.
pub begun_run : (items : List Item) (part : Text) → IsBegun part
    → (q : State × List Item) × (rest : Text) × (run (On items Between) part ≡ Ok q) × (last : State) × (run (On q.1 q.0) rest ≡ On items last)
begun_run items part h =
    let s = h.1 in
    let ended = IsEnded-spelled (part ++ h.0) s h.2 h.3 in
    let cut = split_last h.0 h.4 in
    let same : part ++ cut.0 ++ cut.1 ∷ [] ≡ ended.part ++ conv_letter s.conv ∷ [] = append_assoc part cut.0 (cut.1 ∷ []) ∙ ap (λ u. part ++ u) (sym cut.2)
    ∙ ended.whole in
    let front = same_from_push (part ++ cut.0) ended.part cut.1 (conv_letter s.conv) same in
    let all = ap (run (On items Between)) front.0 ∙ run-front items ended.part s.flags s.width s.precision s.length ended.front in
    let ok = front-ok (On items Between) part cut.0 (at_front ended.front, items) all in
    (ok.0, cut.0, ok.1, at_front ended.front, ap (λ p. run p cut.0) (sym ok.1) ∙ sym (run-append (On items Between) part cut.0) ∙ all)

-- a good front is run through
pub run-good : (t part : Text) (items : List Item) → IsGoodFront t items part → (q : State × List Item) × (run start t ≡ Ok q)
run-good t part items g =
    let runs = begun_run items part g.begun in (
      runs.0,
      ap (run start) g.splits.split ∙ run-append start g.splits.whole part ∙ ap (λ p. run p part) (run-reads items g.splits.whole [] g.splits.reads)
          ∙ runs.2,
    )
