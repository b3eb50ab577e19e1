-- What a run of `CanonBytes` has given.
use Rattle.std.proofs.Common.{◌≡◌, ℕ, ◌+◌, Bool, true, false, [], ◌∷◌, ◌++◌, length, take, drop, Some, None, Err, refl, sym, ap, ◌∙◌, subst, arith, inl, inr}
use Rattle.std.specs.Prelude.{MatchBool}
use Rattle.std.specs.Io.KnownBytes.{Consumes, IsAtEnd}
use Rattle.std.proofs.Math.Seq.{drop-append_seam, take-append_seam}
use Rattle.std.proofs.lemmas.List.{append-nil, append_assoc, drop_all, length-append}
use Rattle.pf_values.specs.declared.models.Model.{Model}
use Rattle.pf_values.specs.Counting.{Known}
use Rattle.pf_values.specs.meaning.Refusals.{IsRefusedAt}
use Rattle.pf_values.specs.meaning.Text.{Text}
use Rattle.pf_text.specs.declared.refusals.Refusal.{Refusal}
use Rattle.pf_canon.specs.declared.faults.StreamFault.{StreamFault}
use Rattle.pf_canon.specs.declared.faults.StreamFault.TheVariants as faults
use Rattle.pf_canon.specs.declared.canonical_bytes.ByteTransducer.{ByteTransducer}
use Rattle.pf_canon.specs.declared.transducer.Transducer.{Transducer}
use Rattle.pf_canon.specs.Output.{pending_text}
use Rattle.pf_canon.specs.CanonicalBytes.{History, IsEnding, IsReading, IsRefusedBehind, AnswerLeaves, RunBegins, RunEnds}
use Rattle.pf_canon.specs.Transducer.{SettlesTo}
use Rattle.pf_canon.proofs.TransducerLemmas.{through_settles}

module _ (model : Model) (t : Text) where
  -- all was taken
  taken_whole : (left : Known) (taken : Text) → Consumes (Some t) left taken → IsAtEnd left → (t ≡ taken) × (left ≡ Some [])
  taken_whole None taken c end = absurd c
  taken_whole (Some rest) taken c end = (c ∙ ap (λ u. taken ++ u) end ∙ append-nil taken, ap Some end)

  -- and here up to a byte
  taken_to : (left : Known) (taken : Text) (last : ℕ) → Consumes (Some t) left (taken ++ last ∷ [])
      → (rest : Text) × (left ≡ Some rest) × (t ≡ taken ++ last ∷ rest)
  taken_to None taken last c = absurd c
  taken_to (Some rest) taken last c = (rest, refl, c ∙ append_assoc taken (last ∷ []) rest)

  -- the reader failed
  pub run_failed : (left : Known) (taken given : Text) → Consumes (Some t) left taken → SettlesTo model taken given
      → RunEnds model t left given (Err faults.Read)
  run_failed None taken given c settles = absurd c
  run_failed (Some rest) taken given c settles = (taken, rest, c, refl, settles)

  refused_at_end : (left : Known) (taken given : Text) (refusal : Refusal) → refusal.at ≡ length taken → Consumes (Some t) left taken → IsAtEnd left
      → IsRefusedAt taken refusal.kind refusal.at → SettlesTo model taken given → RunEnds model t left given (Err (faults.Refused refusal))
  refused_at_end left taken given refusal place c end refused settles =
      let all = taken_whole left taken c end in
      let front : take refusal.at t ≡ taken = ap (λ n. take n t) place ∙ ap (take (length taken)) (all.0 ∙ sym (append-nil taken))
      ∙ take-append_seam taken [] in
      let none : drop (refusal.at + 1) t ≡ [] = drop_all (refusal.at + 1) t (omega (arith, place, ap length all.0)) in
      (rw all.0 refused, rw front settles, all.1 ∙ ap Some (sym none))

  refused_at_byte : (left : Known) (taken given : Text) (last : ℕ) (refusal : Refusal) → refusal.at ≡ length taken
      → Consumes (Some t) left (taken ++ last ∷ []) → ((rest : Text) → IsRefusedAt (taken ++ last ∷ rest) refusal.kind refusal.at)
      → SettlesTo model taken given → RunEnds model t left given (Err (faults.Refused refusal))
  refused_at_byte left taken given last refusal place c refused settles =
      let cut = taken_to left taken last c in
      let rest = cut.0 in
      let front : take refusal.at t ≡ taken = ap (λ n. take n t) place ∙ ap (take (length taken)) cut.2 ∙ take-append_seam taken (last ∷ rest) in
      let len : refusal.at + 1 ≡ length (taken ++ last ∷ []) = omega (arith, place, length-append taken (last ∷ [])) in
      let behind : drop (refusal.at + 1) t ≡ rest = ap (λ n. drop n t) len
      ∙ ap (drop (length (taken ++ last ∷ []))) (cut.2 ∙ sym (append_assoc taken (last ∷ []) rest)) ∙ drop-append_seam (taken ++ last ∷ []) rest in
      (rw cut.2 (refused rest), rw front settles, cut.1 ∙ ap Some (sym behind))

  -- the text is rejected
  pub run_refused : (left : Known) (taken given : Text) (refusal : Refusal) → IsRefusedBehind (Some t) left taken refusal → SettlesTo model taken given
      → RunEnds model t left given (Err (faults.Refused refusal))
  run_refused left taken given refusal h settles = elim h.cause [
    | inl end ↦ refused_at_end left taken given refusal h.offset end.1 end.2 end.3 settles
    | inr byte ↦ refused_at_byte left taken given byte.0 refusal h.offset byte.2 byte.3 settles
  ]

  -- a fault was answered
  pub run_stopped : (s : ByteTransducer) (left : Known) (taken given : Text) (fault : StreamFault)
      → AnswerLeaves model (Some (Err fault)) s (Some t) left taken given → RunEnds model t left given (Err fault)
  run_stopped s left taken given faults.Read h = run_failed left taken given h.0 h.1
  run_stopped s left taken given (faults.Refused refusal) h = run_refused left taken given refusal h.0 h.1

  -- what was given so far
  begun_by : (is_open : Bool) (r : Transducer) (pending : Text) (left : Known) (taken given : Text)
      → MatchBool is_open (IsReading model r pending (Some t) left taken given) (IsEnding model pending (Some t) left taken given) → RunBegins model t given
  begun_by true r pending None taken given h = absurd h.reader
  begun_by true r pending (Some rest) taken given h = (
    pending,
    inr
        (taken, rest, h.reader, subst (SettlesTo model taken) h.whole (through_settles model r taken h.out h.items h.through)),
  )
  begun_by false r pending left taken given h =
      let all = taken_whole left taken h.reader h.end in
      (pending, inl (rw all.0 h.canonical))

  pub run_begun : (s : ByteTransducer) (left : Known) (taken given : Text) → History model s (Some t) left taken given → RunBegins model t given
  run_begun s left taken given h = begun_by s.is_open s.transducer (pending_text s.pending) left taken given h
