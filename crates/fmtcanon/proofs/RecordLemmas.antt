-- What a run over records has come to.
use Rattle.std.proofs.Common.{◌≡◌, ◌∙◌, ℕ, ◌<◌, ◌++◌, [], ◌∷◌, List, true, false, append-nil, append_assoc, ap, refl, subst, sym, length, Result, Ok, Err}
use Rattle.std.specs.Prelude.{MatchResult, flat_map}
use Rattle.std.proofs.lemmas.List.{flat_map_more}
use Rattle.pf_values.specs.declared.counted.Counted.{Counted}
use Rattle.pf_values.specs.Counting.{Known, WritesAll, is_flushed}
use Rattle.pf_values.specs.meaning.Text.{Text}
use Rattle.fmtcanon.specs.RecordRuns.{AddsReply, HasAsked, HasFirst, HasReplies, HasSaid, HasSaidFirst, HasStopped, HasRepliedTo, RecordsFinish}
use Rattle.fmtcanon.specs.RecordRuns.{RecordsEndEarly, WritesReplies, first_of, waiting_text}
use Rattle.fmtcanon.specs.Questions.{formats_wanted}
use Rattle.fmtcanon.specs.Records.{AreReplies, IsReply, RepliesAll, RepliesFirst, Reply, last_record}
use Rattle.fmtcanon.specs.declared.questions.RecordQuestion.{RecordQuestion}
use Rattle.fmtcanon.specs.declared.record_answers.PartialQuestion.{PartialQuestion}
use Rattle.fmtcanon.specs.declared.record_answers.RecordAnswers.{RecordAnswers}
use Rattle.fmtcanon.specs.declared.record_answers.RecordRunFault.{RecordRunFault}
use Rattle.fmtcanon.specs.declared.record_answers.RecordRunFault.TheVariants.{Memory, Write}
use Rattle.fmtcanon.specs.declared.records.RecordRun.{RecordRun}
use Rattle.fmtcanon.specs.declared.replies.Replies.{Replies}
use Rattle.fmtcanon.specs.declared.outcome.Outcome.{Outcome}
use Rattle.fmtcanon.specs.declared.outcome.Outcome.TheVariants as outcomes
use Rattle.fmtcanon.proofs.RecordTexts.{all_more}

module _ (asked : RecordQuestion) where
  -- more records come that have no reply
  pub are_more : (records more : List Text) (replies : List Reply) (others : List Text) → AreReplies asked records replies others
      → AreReplies asked (records ++ more) replies (others ++ more)
  are_more records more replies others h = record { each = h.each; to = ap (λ r. r ++ more) h.to ∙ append_assoc _ others more }

  -- the last record and those before it without a reply have one now
  pub are_added : (whole : List Text) (rest : Text) (replies : List Reply) (first : List Text) (reply : Reply) → AreReplies asked whole replies first
      → IsReply asked reply → reply.formats ≡ first ++ rest ∷ []
      → AreReplies asked (whole ++ rest ∷ []) (replies ++ reply ∷ []) []
  are_added whole rest replies first reply h is about =
      let f = λ (r : Reply). r.formats in
      record {
        each = all_more (IsReply asked) replies reply h.each is;
        to =
            ap (λ r. r ++ rest ∷ []) h.to ∙ append_assoc (flat_map f replies) first (rest ∷ []) ∙ ap (λ r. flat_map f replies ++ r) (sym about)
            ∙ flat_map_more f [] replies reply ∙ sym (append-nil (flat_map f (replies ++ reply ∷ [])));
      }

  module _ {W : Type 0} (contents : W → Known) (start now : Counted W) (records : List Text) (replies : List Reply) (others : List Text)
      (are : AreReplies asked records replies others) where
    -- nothing waits, and the writer was flushed
    pub out_all : (r : Replies) (greatest : ℕ) → HasSaid contents r start now replies → waiting_text r ≡ [] → is_flushed now ≡ true
        → greatest ≡ r.greatest → RepliesAll asked contents start now records others greatest
    out_all r greatest h none flushed e =
        let all = h.has.bytes ∙ ap (λ w. h.sent ++ w) none ∙ append-nil h.sent in
        record {
          replies = replies;
          are = are;
          greatest_is = e ∙ h.has.greatest;
          writes = subst (WritesAll contents start now) (sym all) h.writes;
          flushed = flushed;
        }

    pub out_first : (count : ℕ) → HasSaidFirst contents start now replies count → RepliesFirst asked contents start now records count
    out_first count h = record { replies = replies; others = others; are = are; written = h.written; writes = h.writes; count_is = h.count_is }

  module _ {W : Type 0} (contents : W → Known) (a : RecordAnswers) (start now : Counted W) (whole : List Text)
      (h : HasAsked asked contents a start now whole) where
    -- memory was refused
    pub refused : (new : RecordAnswers) (more : List Text) → HasReplies new.replies h.said.sent h.replies
        → HasStopped asked contents new start now (whole ++ more) Memory
    refused new more has = (
      h.replies,
      h.first ++ more,
      are_more whole more h.replies h.first h.are,
      record { sent = h.said.sent; writes = h.said.writes; has = has },
    )

    module _ (text : Text) (mid : Replies) (new : RecordAnswers) where
      -- the question of this record was answered: what waits is written or not
      pub ended : (w : Counted W) (r : Result (Unit {0}) RecordRunFault)
          → AddsReply asked (h.first ++ text ∷ []) h.said.sent h.replies a.replies mid (Ok true)
          → ((replies : List Reply) → HasSaid contents mid start now replies → WritesReplies contents new.replies start w replies r)
          → HasFirst new.partial asked []
          → MatchResult r (λ _. HasAsked asked contents new start w (whole ++ text ∷ []))
          (HasStopped asked contents new start w (whole ++ text ∷ []))
      ended w r adds writes none =
          let reply = adds.0 in
          let are = are_added whole text h.replies h.first reply h.are adds.1 adds.2 in
          let said = writes (h.replies ++ reply ∷ []) (record { sent = h.said.sent; writes = h.said.writes; has = adds.3 }) in
          go r are said
        where
          go : {replies : List Reply} (r : Result (Unit {0}) RecordRunFault) → AreReplies asked (whole ++ text ∷ []) replies []
              → WritesReplies contents new.replies start w replies r
              → MatchResult r (λ _. HasAsked asked contents new start w (whole ++ text ∷ []))
              (HasStopped asked contents new start w (whole ++ text ∷ []))
          go {replies} (Ok done) are said = record { first = []; replies = replies; are = are; held = none; said = said }
          go {replies} (Err Memory) are said = absurd said
          go {replies} (Err (Write count)) are said = (replies, [], are, said)

      -- it is kept, since a second one is needed
      pub kept : AddsReply asked (h.first ++ text ∷ []) h.said.sent h.replies a.replies mid (Ok false) → new.replies ≡ mid
          → HasFirst new.partial asked (h.first ++ text ∷ []) → HasAsked asked contents new start now (whole ++ text ∷ [])
      kept adds same held = record {
        first = h.first ++ text ∷ [];
        replies = h.replies;
        are = are_more whole (text ∷ []) h.replies h.first h.are;
        held = held;
        said = subst (λ r. HasSaid contents r start now h.replies) (sym (same ∙ adds.1)) h.said;
      }

  module _ {W : Type 0} (contents : W → Known) (r : RecordRun) (start now : Counted W) (whole : List Text) (rest : Text)
      (h : HasRepliedTo asked contents r start now whole rest) where
    -- what waited went out, or the first bytes of it
    pub written : (answer : Result (Unit {0}) ℕ) (new : RecordRun) (w : Counted W) → new.part ≡ r.part
        → new.answers.partial ≡ r.answers.partial
        → ((replies : List Reply) → HasSaid contents r.answers.replies start now replies
        → MatchResult answer (λ _. HasSaid contents new.answers.replies start w replies) (HasSaidFirst contents start w replies))
        → MatchResult answer (λ _. HasRepliedTo asked contents new start w whole rest)
        (RepliesFirst asked contents start w (whole ++ last_record rest))
    written (Ok done) new w e f writes = record {
      to = record {
        first = h.to.first;
        replies = h.to.replies;
        are = h.to.are;
        held = subst (λ p. HasFirst p asked h.to.first) (sym f) h.to.held;
        said = writes h.to.replies h.to.said;
      };
      part_is = h.part_is ∙ sym (ap (λ part. part.items) e);
    }
    written (Err count) new w e f writes =
        out_first contents start w _ h.to.replies _ (are_more whole (last_record rest) h.to.replies h.to.first h.to.are) count
        (writes h.to.replies h.to.said)

    -- a part of a record came
    pub longer : (new : RecordRun) (bytes : Text) → new.answers ≡ r.answers → new.part.items ≡ r.part.items ++ bytes
        → HasRepliedTo asked contents new start now whole (rest ++ bytes)
    longer new bytes same longer_is = record {
      to = subst (λ a. HasAsked asked contents a start now whole) (sym same) h.to;
      part_is = ap (λ part. part ++ bytes) h.part_is ∙ sym longer_is;
    }

    -- a record came in one piece, as nothing of it had come before
    module _ (none : r.part.items ≡ []) (bytes : Text) (new : RecordRun) (w : Counted W) (same : new.part ≡ r.part) where
      it_is : bytes ≡ rest ++ bytes
      it_is = ap (λ t. t ++ bytes) (sym (h.part_is ∙ none))

      pub taken_at_once : (answer : Result (Unit {0}) RecordRunFault)
          → MatchResult answer (λ _. HasAsked asked contents new.answers start w (whole ++ bytes ∷ []))
          (HasStopped asked contents new.answers start w (whole ++ bytes ∷ []))
          → MatchResult answer (λ _. HasRepliedTo asked contents new start w (whole ++ (rest ++ bytes) ∷ []) [])
          (HasStopped asked contents new.answers start w (whole ++ (rest ++ bytes) ∷ []))
      taken_at_once (Ok done) to = record {
        to = subst (λ t. HasAsked asked contents new.answers start w (whole ++ t ∷ [])) it_is to;
        part_is = sym (ap (λ part. part.items) same ∙ none);
      }
      taken_at_once (Err fault) stopped = subst (λ t. HasStopped asked contents new.answers start w (whole ++ t ∷ []) fault) it_is stopped

  -- the first of two is held, or nothing is
  pub one_left : (p : PartialQuestion) (first : List Text) → HasFirst p asked first → p.has_first ≡ true
      → (first ≡ p.first.items ∷ []) × (1 < formats_wanted asked)
  one_left p first h is =
      let e = h.first_is ∙ ap (λ b. first_of b p.first.items) is in
      (e, subst (λ f. length f < formats_wanted asked) e h.few)

  pub none_left : (p : PartialQuestion) (first : List Text) → HasFirst p asked first → p.has_first ≡ false → first ≡ []
  none_left p first h is = h.first_is ∙ ap (λ b. first_of b p.first.items) is

  -- at the end an empty rest isn't a record
  pub last_none : {W : Type 0} (contents : W → Known) (r : RecordRun) (start now : Counted W) (whole : List Text) (rest : Text)
      → rest ≡ [] → HasRepliedTo asked contents r start now whole rest
      → HasRepliedTo asked contents r start now (whole ++ last_record rest) []
  last_none contents r start now whole rest none h =
      subst (λ records. HasRepliedTo asked contents r start now records [])
      (sym (ap (λ t. whole ++ last_record t) none ∙ append-nil whole)) (subst (HasRepliedTo asked contents r start now whole) none h)

  module _ {W : Type 0} (contents : W → Known) (start now : Counted W) where
    -- replies to the first of some records are so, too, where more come
    pub stopped_more : (a : RecordAnswers) (records more : List Text) (stop : RecordRunFault)
        → HasStopped asked contents a start now records stop → HasStopped asked contents a start now (records ++ more) stop
    stopped_more a records more Memory h = (h.0, h.1 ++ more, are_more records more h.0 h.1 h.2, h.3)
    stopped_more a records more (Write count) h = (h.0, h.1 ++ more, are_more records more h.0 h.1 h.2, h.3)

    -- to stop is one way to end
    pub stopped_at_end : (records : List Text) (outcome : Outcome) → RecordsEndEarly asked contents start now records outcome
        → RecordsFinish asked contents start now records outcome
    stopped_at_end records outcomes.Memory h = h
    stopped_at_end records (outcomes.Write count) h = h
    stopped_at_end records _ h = absurd h

-- a record that isn't empty is the last one
pub last_some : (rest : Text) → (rest ≡ [] → ⊥) → last_record rest ≡ rest ∷ []
last_some [] some = absurd (some refl)
last_some (byte ∷ bytes) some = refl
