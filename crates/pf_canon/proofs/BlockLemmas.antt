-- A block of a text is taken, one part after another.
use Rattle.std.proofs.Common.{◌≡◌, ℕ, ◌+◌, ◌^◌, ◌<◌, List, [], ◌∷◌, ◌++◌, drop, get_or, length, take, sym, ap, ◌∙◌, subst, arith, Err}
use Rattle.std.proofs.Math.Seq.{take-add}
use Rattle.std.proofs.lemmas.List.{append_assoc, append-nil, drop_more, take-append-drop, take_more}
use Rattle.pf_values.specs.declared.models.Model.{Model}
use Rattle.pf_values.specs.meaning.Items.{Item}
use Rattle.pf_values.specs.meaning.Text.{Text}
use Rattle.pf_text.specs.declared.refusals.Refusal.{Refusal}
use Rattle.pf_canon.specs.Sink.{IsSink}
use Rattle.pf_canon.specs.Transducer.{GrowsByByte, IsThrough, PutsBytes, RefusesBlock, SettlesTo, StaysRefused, TakesByte, byte_output_text}
use Rattle.pf_canon.proofs.TextLemmas.{not_truncated}
use Rattle.pf_canon.proofs.TransducerLemmas.{through_few, through_settles}
use Rattle.pf_canon.specs.declared.output.StepOutput.{StepOutput}
use Rattle.pf_canon.specs.declared.output.StepOutput.TheVariants as outputs
use Rattle.pf_canon.specs.declared.transducer.Transducer.{Transducer}

module _ {S : Type 0} {given : S → S → Text → Type 0} (laws : IsSink given) where
  -- nothing was taken
  pub none_taken : (s : S) (r : Transducer) → PutsBytes given s s r r []
  none_taken s r = (
    [],
    laws.none s,
    λ model t out items h. (
      items,
      subst (λ u. IsThrough model r u items (out ++ [])) (sym (append-nil t))
          (subst (IsThrough model r t items) (sym (append-nil out)) h),
    ),
  )

  -- one part after another
  pub both_taken : (old mid new : S) (r q p : Transducer) (a b : Text) → PutsBytes given old mid r q a → PutsBytes given mid new q p b
      → PutsBytes given old new r p (a ++ b)
  both_taken old mid new r q p a b (x, first, f) (y, then, g) = (
    x ++ y,
    laws.both old mid new x y first then,
    λ model t out items h.
        let one = f model t out items h in
        let two = g model (t ++ a) (out ++ x) one.0 one.1 in (
          two.0,
          subst (λ u. IsThrough model p u two.0 (out ++ (x ++ y))) (append_assoc t a b)
              (subst (IsThrough model p ((t ++ a) ++ b) two.0) (append_assoc out x y) two.1),
        ),
  )

  -- two parts of a text, one after the other
  pub more_taken : (old mid new : S) (r q p : Transducer) (text : Text) (at n : ℕ) → PutsBytes given old mid r q (take at text)
      → PutsBytes given mid new q p (take n (drop at text)) → PutsBytes given old new r p (take (at + n) text)
  more_taken old mid new r q p text at n h g = subst (PutsBytes given old new r p) (sym (take-add at n text))
      (both_taken old mid new r q p (take at text) (take n (drop at text)) h g)

  -- a part is rejected after others
  pub refused_behind : (model : Model) (t out more later : Text) (text : Text) (at : ℕ) (refusal : Refusal)
      → RefusesBlock model (t ++ take at text) ((out ++ more) ++ later) (drop at text) refusal → RefusesBlock model t (out ++ (more ++ later)) text refusal
  refused_behind model t out more later text at refusal h = record {
    fed = take at text ++ h.fed;
    last = h.last;
    rest = h.rest;
    split = sym (take-append-drop at text) ∙ ap (λ u. take at text ++ u) h.split ∙ sym (append_assoc (take at text) h.fed (h.last ∷ h.rest));
    kind = h.kind;
    offset = h.offset ∙ ap length (append_assoc t (take at text) h.fed);
    refused = subst (λ u. StaysRefused u h.last refusal) (append_assoc t (take at text) h.fed) h.refused;
    settles = subst (λ u. SettlesTo model u (out ++ (more ++ later))) (append_assoc t (take at text) h.fed)
        (subst (SettlesTo model ((t ++ take at text) ++ h.fed)) (append_assoc out more later) h.settles);
    few = subst (λ u. length u < 2 ^ 128) (append_assoc out more later) h.few;
  }

-- an item was taken
pub item_taken : {S : Type 0} (given : S → S → Text → Type 0) (old new : S) (r q : Transducer) (text : Text) (len : ℕ)
    → (more : Text) × given old new more × ((model : Model) (t out : Text) (items : List Item) → IsThrough model r t items out
    → (now : List Item) × IsThrough model q (t ++ take len text) now (out ++ more))
    → PutsBytes given old new r q (take len text)
item_taken given old new r q text len h = h

-- one byte more is rejected
pub refused_byte : (model : Model) (r : Transducer) (t out text : Text) (at : ℕ) → at < length text → (items : List Item)
    → IsThrough model r (t ++ take at text) items out → (refusal : Refusal) → TakesByte model (t ++ take at text) items out (get_or text at 0) (Err refusal) r
    → RefusesBlock model t (out ++ []) text refusal
refused_byte model r t out text at some items h refusal f =
    let fed = t ++ take at text in
    record {
      fed = take at text;
      last = get_or text at 0;
      rest = drop (at + 1) text;
      split = sym (take-append-drop at text) ∙ ap (λ u. take at text ++ u) (drop_more text at 0 some);
      kind = not_truncated fed (get_or text at 0) [] refusal.kind refusal.at f.0 (f.1 []);
      offset = f.0;
      refused = f.1;
      settles = subst (SettlesTo model fed) (sym (append-nil out)) (through_settles model r fed out items h);
      few = (let few = through_few model r fed out items h in omega (arith, few, ap length (append-nil out)));
    }

-- one byte more, which settles this
module _ (model : Model) (r : Transducer) (t out text : Text) (at : ℕ) (some : at < length text) (items : List Item) (output : StepOutput)
    (h : GrowsByByte model (t ++ take at text) items out (get_or text at 0) output r) where
  pub byte_taken : IsThrough model r (t ++ take (at + 1) text) (items ++ h.more) (out ++ byte_output_text output (get_or text at 0))
  byte_taken = subst (λ u. IsThrough model r u (items ++ h.more) (out ++ byte_output_text output (get_or text at 0)))
      (append_assoc t (take at text) (get_or text at 0 ∷ []) ∙ ap (λ u. t ++ u) (sym (take_more text at 0 some))) h.through

  -- nothing
  pub byte_inside : output ≡ outputs.Nothing → (now : List Item) × IsThrough model r (t ++ take (at + 1) text) now out
  byte_inside e = (
    items ++ h.more,
    subst (IsThrough model r (t ++ take (at + 1) text) (items ++ h.more))
        (ap (λ o. out ++ byte_output_text o (get_or text at 0)) e ∙ append-nil out) byte_taken,
  )
