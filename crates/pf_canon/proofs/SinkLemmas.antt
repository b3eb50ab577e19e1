-- What a sink was given.
use Rattle.std.proofs.Common.{◌≡◌, ℕ, ◌+◌, ◌-◌, ◌*◌, ◌≤◌, ◌<◌, ◌^◌, [], ◌∷◌, ◌++◌, replicate, refl, sym, ap, ◌∙◌, subst, arith, length, ◌≢◌, Bool, Option, Some, None}
use Rattle.std.specs.Prelude.{flat_map, MatchResult, Result, Ok, Err, IsTrue, MatchOption, ◌↔◌}
use Rattle.std.proofs.lemmas.List.{replicate-append-replicate, append-nil, append_cancel_left}
use Rattle.std.specs.Borrow.{Bor}
use Rattle.pf_values.specs.meaning.Canonical.{item_spelling}
use Rattle.pf_values.specs.meaning.Items.{Directive}
use Rattle.pf_values.specs.meaning.Normal.{silent}
use Rattle.pf_values.specs.meaning.Text.{Text}
use Rattle.pf_text.specs.declared.refusals.Refusal.{Refusal}
use Rattle.pf_text.specs.CanonicalRuns.{silents}
use Rattle.pf_canon.specs.declared.limits.TheConstants.{BLOCK}
use Rattle.pf_canon.specs.Sink.{IsBuilt, IsSink, Counts, IsFrontStripped, IsLeft, given_len}
use Rattle.pf_canon.specs.declared.sink.TextBuilder.{TextBuilder}
use Rattle.pf_canon.proofs.CanonicalItems.{item_spelling-append}

-- some bytes several times
pub record IsRepetition (of : ℕ → Text) : Type 0 where
  pub none : of 0 ≡ []
  pub adds : (a b : ℕ) → of a ++ of b ≡ of (a + b)

pub blocks : (byte : ℕ) → IsRepetition (λ n. replicate (n * BLOCK) byte)
blocks byte = record {
  none = refl;
  adds = λ a b. let e : a * BLOCK + b * BLOCK ≡ (a + b) * BLOCK = omega arith in replicate-append-replicate (a * BLOCK) (b * BLOCK) byte
      ∙ ap (λ n. replicate n byte) e;
}

pub silents_alone : IsRepetition (λ n. flat_map item_spelling (silents n))
silents_alone = record {
  none = refl;
  adds = λ a b. sym (item_spelling-append (silents a) (silents b)) ∙ ap (flat_map item_spelling) (replicate-append-replicate a b (Directive silent));
}

-- a part of a repetition, and a part of what is left of it
module _ {S : Type 0} {given : S → S → Text → Type 0} (laws : IsSink given) {of : ℕ → Text} (repetition : IsRepetition of) where
  pub repeated_none : (s : S) (times left : ℕ) → left ≡ times → given s s (of (times - left))
  repeated_none s times left e = let none : times - left ≡ 0 = omega (arith, e) in subst (given s s) (sym (ap of none ∙ repetition.none)) (laws.none s)

  pub repeated_more : (old mid new : S) (times left count : ℕ) → left ≤ times → count ≤ left → given old mid (of (times - left)) → given mid new (of count)
      → given old new (of (times - (left - count)))
  repeated_more old mid new times left count all few before h =
      let e : times - left + count ≡ times - (left - count) = omega (arith, all, few) in
      subst (given old new) (repetition.adds (times - left) count ∙ ap of e) (laws.both old mid new (of (times - left)) (of count) before h)

  pub repeated_all : (old new : S) (times left : ℕ) → left ≤ 0 → given old new (of (times - left)) → given old new (of times)
  repeated_all old new times left none h = let e : times - left ≡ times = omega (arith, none) in subst (given old new) (ap of e) h

-- the front of a text, and then what follows of it
pub front_put : {S : Type 0} {given : S → S → Text → Type 0} (laws : IsSink given) (Is : Text → Type 0) (Fails : Refusal → Type 0) (front : Text)
    (old mid new : S) (r : Result (Unit {0}) Refusal) → given old mid front → MatchResult r (λ _. (more : Text) × given mid new more × Is (front ++ more)) Fails
    → MatchResult r (λ _. (c : Text) × given old new c × Is c) Fails
front_put laws Is Fails front old mid new (Ok done) h g = (front ++ g.0, laws.both old mid new front g.0 h g.1, g.2)
front_put laws Is Fails front old mid new (Err refusal) h g = g

pub no_bytes : (t : Text) → length t ≡ 0 → t ≡ []
no_bytes [] e = refl
no_bytes (byte ∷ t) e = absurd (omega (arith, e))

-- all that was put into empty room, if there was enough
pub built_whole : {R : Type 0} (bytes_of : R → Text) (old new : TextBuilder R) (c : Text) → IsBuilt bytes_of old new c → given_len bytes_of old ≡ 0
    → new.lost ≡ 0 → bytes_of new.buffer ≡ c
built_whole bytes_of old new c h empty kept =
    let none = no_bytes (bytes_of old.buffer) (omega (arith, empty)) in
    (h.whole kept).1 ∙ ap (λ t. t ++ c) none

-- so they are where all went into empty room, whether there was enough or not
pub counted_in_room : (Is : Text → Type 0) (c : Text) (before after len : ℕ) → Is c → length c < 2 ^ 128 → before ≡ 0 → Counts before (length c) after
    → (after < 2 ^ 128 → len ≡ after) → (c : Text) × Is c × (len ≡ length c)
counted_in_room Is c before after len h few empty counts is =
    let all : after ≡ length c = omega (arith, empty, counts (omega (arith, few, empty))) in
    (c, h, is (omega (arith, all, few)) ∙ all)

pub front_stripped : (left : Bor Text) (bytes : Text) (rest : Option (Bor Text)) → MatchOption rest ((others : Text) → left.now ≢ bytes ++ others)
    (λ others. left.now ≡ bytes ++ others.now) → IsFrontStripped (Some left) bytes rest
front_stripped left bytes (Some rest) h = h
front_stripped left bytes None h = h

-- all that was left was taken off
used_up : (start left : Option (Bor Text)) (t bytes : Text) → IsLeft start t → IsFrontStripped start bytes left → IsLeft left [] → t ≡ bytes
used_up (Some start) (Some left) t bytes e h none = sym e ∙ h ∙ ap (λ u. bytes ++ u) none ∙ append-nil bytes
used_up (Some start) None t bytes e h none = absurd none
used_up None left t bytes e h none = absurd e

same_used_up : (start left : Option (Bor Text)) (t bytes : Text) → IsLeft start t → IsFrontStripped start bytes left → bytes ≡ t → IsLeft left []
same_used_up (Some start) (Some left) t bytes e h same = append_cancel_left bytes left.now [] (sym h ∙ e ∙ sym same ∙ sym (append-nil bytes))
same_used_up (Some start) None t bytes e h same = h [] (e ∙ sym same ∙ sym (append-nil bytes))
same_used_up None left t bytes e h same = absurd e

-- a text is its canonical text if and only if nothing is left of it after that
pub stripped_to_end : (t c : Text) (start left : Option (Bor Text)) (is : Bool) → IsLeft start t → IsFrontStripped start c left
    → IsTrue is ↔ IsLeft left [] → IsTrue is ↔ (c ≡ t)
stripped_to_end t c start left is rest cut e =
    (λ yes. sym (used_up start left t c rest cut (e.0 yes)), λ same. e.1 (same_used_up start left t c rest cut same))
