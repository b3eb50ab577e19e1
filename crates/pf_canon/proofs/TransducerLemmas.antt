-- How a transducer goes on.
use Rattle.std.proofs.Common.{◌≡◌, ℕ, ◌+◌, ◌*◌, ◌≤◌, ◌^◌, List, [], ◌∷◌, ◌++◌, length, replicate, refl, sym, ap, ◌∙◌, subst, arith}
use Rattle.std.specs.Prelude.{flat_map, ◌⊎◌, ◌==◌, Bool, true, false, if◌then◌else◌}
use Rattle.std.specs.List.{AllByRecursion}
use Rattle.std.proofs.lemmas.List.{append-nil, append_assoc, length-append}
use Rattle.pf_values.specs.declared.models.Model.{Model}
use Rattle.pf_values.specs.meaning.Canonical.{IsCanonicalOf, IsCanonicalText, item_spelling}
use Rattle.pf_values.specs.meaning.Items.{Item, Byte, Directive, Reads}
use Rattle.pf_values.specs.meaning.Normal.{IsNormal, silent}
use Rattle.pf_values.specs.meaning.Specification.{Specification}
use Rattle.pf_values.specs.meaning.Spelling.{spelling_of}
use Rattle.pf_values.specs.meaning.Text.{Text, percent, space, zero_digit}
use Rattle.pf_text.specs.declared.scanner.Step.{Step}
use Rattle.pf_text.specs.declared.scanner.Step.TheVariants as steps
use Rattle.pf_text.specs.History.{IsAfter, IsLiteral, Says, with_step}
use Rattle.pf_text.specs.CanonicalRuns.{IsCanonicalItem}
use Rattle.pf_text.proofs.SpellingLemmas.{length-spelled}
use Rattle.pf_text.specs.History as scanned
use Rattle.pf_reduce.specs.Reducing.{IsReducedTo}
use Rattle.pf_reduce.specs.declared.results.Core.TheVariants as cores
use Rattle.pf_reduce.specs.declared.results.Reduced.{Reduced}
use Rattle.pf_reduce.specs.NormalValues.{NormalDirective}
use Rattle.pf_canon.specs.declared.output.StepOutput.{StepOutput}
use Rattle.pf_canon.specs.declared.transducer.Transducer.{Transducer}
use Rattle.pf_text.specs.CanonicalRuns.{silents}
use Rattle.pf_canon.specs.Making.{IsMaking}
use Rattle.pf_canon.specs.Output.{whole_text}
use Rattle.pf_canon.specs.Transducer.{GrowsByByte, IsStepOf, IsThrough, Settles, SettlesTo, byte_output_text, more_of}
use Rattle.pf_canon.specs.Answers.{most_len}
use Rattle.pf_canon.proofs.TextLemmas.{items_few, most_len-append}
use Rattle.pf_canon.proofs.DirectiveLemmas.{directive_made}
use Rattle.pf_values.proofs.Alike.{alike_refl}
use Rattle.pf_canon.proofs.MakingLemmas.{made_canonical, made_same, made_settled}
use Rattle.pf_canon.proofs.PieceLemmas.{run_made}
use Rattle.pf_canon.proofs.Printing.{reduced_items}

is_step_of : (t : Text) (items : List Item) (byte : ℕ) (step : Step) → Says t items byte step → IsStepOf step byte
is_step_of t items byte steps.More h = tt
is_step_of t items byte (steps.Byte b) h = (h.1, h.2)
is_step_of t items byte steps.Percent h = tt
is_step_of t items byte (steps.Directive d) h = tt

with_more : (items : List Item) (step : Step) → with_step items step ≡ items ++ more_of step
with_more items steps.More = sym (append-nil items)
with_more items (steps.Byte b) = refl
with_more items steps.Percent = refl
with_more items (steps.Directive d) = refl

-- one more byte was taken
pub grown : (model : Model) (old new : Transducer) (t out : Text) (items : List Item) (byte : ℕ) (step : Step) (output : StepOutput)
    → IsThrough model old t items out → new.model ≡ old.model → scanned.Takes t items byte step new.scanner
    → Settles old.model step byte items out old.silents output new.silents → new.silents ≤ old.silents + 1
    → length (byte_output_text output byte) + 4 * new.silents ≤ 4 * old.silents + most_len (more_of step)
    → GrowsByByte model t items out byte output new
grown model old new t out items byte step output h same takes settles one less =
    let few = h.few in
    let short = h.short in
    let limit = h.after.limit in
    let says = takes.says in
    let e = with_more items step in
    record {
      more = more_of step;
      through = record {
        model_is = same ∙ h.model_is;
        after = subst (λ l. IsAfter new.scanner (t ++ byte ∷ []) l) e takes.after;
        made = subst (λ l. IsMaking model (out ++ byte_output_text output byte) new.silents l []) e
            (rw h.model_is at settles (is_step_of (t ++ byte ∷ []) (with_step items step) byte step says) (omega (arith, few, limit)) h.made);
        few = omega (arith, few, one, length-append t (byte ∷ []));
        short = omega (arith, short, less, length-append out (byte_output_text output byte), most_len-append items (more_of step));
      };
    }

-- a byte in a canonical text is short
pub byte_short : (byte : ℕ) (b : Bool) → length (if b then percent ∷ percent ∷ [] else byte ∷ []) ≤ 2
byte_short byte true = omega arith
byte_short byte false = omega arith

pub run_is_short : (model : Model) (items : List Item) → AllByRecursion (IsCanonicalItem model) items → length (flat_map item_spelling items) ≤ most_len items
run_is_short model [] all = omega arith
run_is_short model (Byte byte ∷ items) all = omega (
  arith,
  length-append (item_spelling (Byte byte)) (flat_map item_spelling items),
  byte_short byte
      (byte == percent),
  run_is_short model items all.1,
)
run_is_short model (Directive s ∷ items) all =
    let normal = all.0 in
    omega (arith, length-append (spelling_of s) (flat_map item_spelling items), length-spelled s normal.defined, run_is_short model items all.1)

pub byte_settled : (model : Model) (b byte held : ℕ) (out : Text) (items : List Item) → b ≡ byte → IsLiteral byte → IsMaking model out held items []
    → IsMaking model (out ++ byte ∷ []) held (items ++ Byte b ∷ []) []
byte_settled model b byte held out items e literal h = rw e (run_made model (byte ∷ []) out (out ++ byte ∷ []) held items (literal, tt) refl h)

four : (out a b c d : Text) → ((out ++ a) ++ b) ++ (c ++ d) ≡ out ++ (a ++ (b ++ (c ++ d)))
four out a b c d = append_assoc (out ++ a) b (c ++ d) ∙ append_assoc out a (b ++ (c ++ d))

-- a directive whose core is silent
pub silent_settled : (model : Model) (s : Specification) (r : Reduced) (out : Text) (held still : ℕ) (items rest : List Item) → r.core ≡ cores.Silent
    → still ≡ held + 1 → IsReducedTo model s r
    → (IsNormal model s ⊎ (s ≡ silent) → reduced_items r ≡ Directive s ∷ []) → IsMaking model out held items (Directive s ∷ rest)
    → IsMaking model (out ++ whole_text r.spaces r.zeros 0 [] r.trail) still items rest
silent_settled model s r out held still items rest core one reduced same h =
    let a = replicate r.spaces space in
    let b = replicate r.zeros zero_digit in
    let d = replicate r.trail space in
    subst (λ t. IsMaking model t still items rest) (four out a b [] d)
    (directive_made model s r out (out ++ a) ((out ++ a) ++ b) ((out ++ a) ++ b) (((out ++ a) ++ b) ++ d) held still items rest reduced same refl refl
    (rw core (refl, one)) refl h)

-- and one whose core is normal
pub normal_settled : (model : Model) (s : Specification) (n : NormalDirective) (r : Reduced) (out : Text) (held : ℕ) (items rest : List Item)
    → r.core ≡ cores.Normal n → IsReducedTo model s r
    → (IsNormal model s ⊎ (s ≡ silent) → reduced_items r ≡ Directive s ∷ []) → IsMaking model out held items (Directive s ∷ rest)
    → IsMaking model (out ++ whole_text r.spaces r.zeros held (spelling_of n.specification) r.trail) 0 items rest
normal_settled model s n r out held items rest core reduced same h =
    let a = replicate r.spaces space in
    let b = replicate r.zeros zero_digit in
    let c = flat_map item_spelling (silents held) in
    let q = spelling_of n.specification in
    let d = replicate r.trail space in
    let cored = ((out ++ a) ++ b) ++ (c ++ q) in
    subst (λ t. IsMaking model t 0 items rest) (append_assoc ((out ++ a) ++ b) (c ++ q) d ∙ ap (λ t. ((out ++ a) ++ b) ++ t) (append_assoc c q d)
    ∙ four out a b c (q ++ d))
    (directive_made model s r out (out ++ a) ((out ++ a) ++ b) cored (cored ++ d) held 0 items rest reduced same refl refl (rw core (refl, refl)) refl h)

-- the end was taken
pub ended : (model : Model) (t out : Text) (held : ℕ) (items : List Item) → Reads t items → IsMaking model out held items [] → (c : Text)
    → c ≡ flat_map item_spelling (silents held) → Reads t items × IsCanonicalOf model t (out ++ c) × (IsCanonicalText model t → out ++ c ≡ t)
ended model t out held items reads h c same = (
  reads,
  subst (λ u. IsCanonicalOf model t (out ++ u)) (sym same) (made_canonical model out held items h t items reads (alike_refl model items)),
  λ is. ap (λ u. out ++ u) same ∙ made_same model out held items h t reads is,
)

-- what was settled of a text by then
pub through_settles : (model : Model) (r : Transducer) (t out : Text) (items : List Item) → IsThrough model r t items out → SettlesTo model t out
through_settles model r t out items h =
    let splits = h.after.good.splits in
    record {
      items = items;
      part = h.after.part;
      good = h.after.good;
      settled = made_settled model out r.silents items h.made splits.whole items splits.reads (alike_refl model items);
    }

pub most_items : (items : List Item) → most_len items ≤ 4120 * length items
most_items [] = omega arith
most_items (Byte byte ∷ items) = omega (arith, most_items items)
most_items (Directive s ∷ items) = omega (arith, most_items items)

-- what was settled can be counted
pub through_few : (model : Model) (r : Transducer) (t out : Text) (items : List Item) → IsThrough model r t items out
    → length out + 4 * r.silents ≤ 4120 * 2 ^ 62
through_few model r t out items h =
    let splits = h.after.good.splits in
    let short = h.short in
    let limit = h.after.limit in
    omega (arith, short, limit, most_items items, items_few splits.whole items splits.reads, ap length splits.split, length-append splits.whole h.after.part)
