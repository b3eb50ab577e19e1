-- What replies have gone out, and what is added to them.
use Rattle.std.proofs.Common.{◌≡◌, ◌∙◌, ℕ, ◌+◌, ◌≤◌, ◌++◌, [], ◌∷◌, List, append-nil, append_assoc, ap, arith, length, length-append, max, min, refl, subst, sym}
use Rattle.std.proofs.Common.{take, take_all, Result, Ok, Err}
use Rattle.std.specs.Prelude.{MatchResult, OnErr, OnOk}
use Rattle.std.proofs.lemmas.List.{flat_map_more}
use Rattle.std.proofs.lemmas.List.Sums.{fold-append}
use Rattle.std.specs.Io.KnownBytes.{Appends, Keeps}
use Rattle.std.proofs.KnownBytes.{Appends-kept, Appends-trans}
use Rattle.pf_values.specs.declared.counted.Counted.{Counted}
use Rattle.pf_values.specs.declared.models.Model.{Model}
use Rattle.pf_values.specs.Counting.{HasFailed, Known, WritesAll, WritesFirst, device_of}
use Rattle.pf_values.specs.meaning.Text.{Text}
use Rattle.pf_values.proofs.WriteLemmas.{WritesFirst-more}
use Rattle.fmtcanon.specs.RecordRuns.{HasReplies, HasSaid, HasSaidFirst, count_of, waiting_text}
use Rattle.fmtcanon.specs.Answers.{IsGivenFault, IsGivenPairFault, IsOneFault, IsQuestionFault, lacks_in}
use Rattle.fmtcanon.specs.Outcomes.{status_of}
use Rattle.fmtcanon.specs.Questions.{IsAbout}
use Rattle.fmtcanon.specs.Records.{IsReply, Reply, RunWrites, replies_text, reply_bytes}
use Rattle.fmtcanon.specs.declared.outcome.Outcome.{Outcome}
use Rattle.fmtcanon.specs.declared.formats.GivenFormat.{GivenFormat}
use Rattle.fmtcanon.specs.declared.questions.PairQuestion.{PairQuestion}
use Rattle.fmtcanon.specs.declared.questions.Question.{Question}
use Rattle.fmtcanon.specs.declared.questions.Question.TheVariants.{One, Two}
use Rattle.fmtcanon.specs.declared.questions.RecordQuestion.{RecordQuestion}
use Rattle.fmtcanon.specs.declared.replies.Replies.{Replies}

-- a count that stays at a bound goes on from one that did
min-more : (a b m : ℕ) → min (min a m + b) m ≡ min (a + b) m
min-more a b m = omega arith

module _ {W : Type 0} (contents : W → Known) (start old now : Counted W) (r : Replies) (replies : List Reply) (h : HasSaid contents r start old replies) where
  -- all that waited went out
  pub said_all : (new : Replies) → WritesAll contents old now (waiting_text r) → waiting_text new ≡ [] → new.greatest ≡ r.greatest
      → new.written ≡ count_of (r.written + length (waiting_text r)) → HasSaid contents new start now replies
  said_all new writes none greatest count =
      let sent = h.sent ++ waiting_text r in
      record {
        sent = sent;
        writes = record {
          appended = Appends-trans _ (contents (device_of old)) _ h.sent (waiting_text r) h.writes.appended writes.appended;
          none_failed = writes.none_failed ∙ h.writes.none_failed;
        };
        has = record {
          bytes = h.has.bytes ∙ sym (ap (λ w. sent ++ w) none ∙ append-nil sent);
          greatest = greatest ∙ h.has.greatest;
          count =
              count ∙ ap (λ n. count_of (n + length (waiting_text r))) h.has.count ∙ min-more (length h.sent) (length (waiting_text r)) _ ∙ ap
              count_of (sym (length-append h.sent (waiting_text r)));
        };
      }

  -- the first bytes of it did
  pub said_first : (n count : ℕ) → WritesFirst contents old now (waiting_text r) n → count ≡ count_of (r.written + n)
      → HasSaidFirst contents start now replies count
  said_first n count writes e =
      let more = WritesFirst-more contents start old now h.sent (waiting_text r) [] n h.writes writes in
      record {
        written = length h.sent + n;
        writes = subst (λ t. WritesFirst contents start now t (length h.sent + n)) (ap (λ t. h.sent ++ t) (append-nil (waiting_text r)) ∙ sym h.has.bytes) more;
        count_is = e ∙ ap (λ k. count_of (k + n)) h.has.count ∙ min-more (length h.sent) n _;
      }

-- all of it did, and then the flush failed
pub said_unflushed : {W : Type 0} (contents : W → Known) (start old now : Counted W) (r : Replies) (replies : List Reply)
    → HasSaid contents r start old replies → waiting_text r ≡ [] → Keeps (contents (device_of old)) (contents (device_of now)) → HasFailed old now
    → HasSaidFirst contents start now replies r.written
said_unflushed contents start old now r replies h none kept failed =
    let all : replies_text replies ≡ h.sent = h.has.bytes ∙ ap (λ w. h.sent ++ w) none ∙ append-nil h.sent in
    let same = h.writes.none_failed in
    record {
      written = length h.sent;
      writes = record {
        appended =
            subst (Appends _ _) (sym (ap (take (length h.sent)) all ∙ take_all (length h.sent) h.sent (omega arith)))
            (Appends-kept _ (contents (device_of old)) _ h.sent h.writes.appended kept);
        within = omega (arith, ap length all);
        failed = rw (← same) failed;
      };
      count_is = h.has.count;
    }

module _ (asked : RecordQuestion) (formats : List Text) (sent : Text) (replies : List Reply) (old new : Replies) (h : HasReplies old sent replies)
    (same : new.written ≡ old.written) (question : Question) (about : IsAbout question asked formats) (said : Text) (outcome : Outcome)
    (says : RunWrites question said outcome) (status : ℕ) (is : status ≡ status_of outcome) where
  -- a reply was added, or none
  pub reply_added : {E : Type 0} (r : Result (Unit {0}) E) → OnOk r (waiting_text new ≡ waiting_text old ++ reply_bytes status said)
      → OnOk r (new.greatest ≡ max old.greatest status) → OnErr r (waiting_text new ≡ waiting_text old) → OnErr r (new.greatest ≡ old.greatest)
      → MatchResult r (λ _. (reply : Reply) × IsReply asked reply × (reply.formats ≡ formats) × HasReplies new sent (replies ++ reply ∷ []))
      (λ _. HasReplies new sent replies)
  reply_added (Ok done) bytes greatest none stays =
      let reply : Reply = record { formats = formats; status = status; bytes = reply_bytes status said } in (
        reply,
        record { question = question; about = about; said = said; outcome = outcome; says = says; status = is; bytes = refl },
        refl,
        record {
          bytes =
              sym (flat_map_more (λ (r : Reply). r.bytes) [] replies reply) ∙ ap (λ t. t ++ reply.bytes) h.bytes ∙ append_assoc sent
              (waiting_text old) reply.bytes ∙ ap (λ t. sent ++ t) (sym bytes);
          greatest = greatest ∙ ap (λ n. max n reply.status) h.greatest ∙ sym (fold-append (λ n (r : Reply). max n r.status) 0 replies (reply ∷ []));
          count = same ∙ h.count;
        },
      )
  reply_added (Err e) bytes greatest none stays =
      record { bytes = h.bytes ∙ ap (λ t. sent ++ t) (sym none); greatest = stays ∙ h.greatest; count = same ∙ h.count }

-- the status of what failed is one digit
one_digit : (IsFault : Text → Outcome → Type 0) (given : GivenFormat) (failed : Outcome) → IsGivenFault IsFault given failed → status_of failed ≤ 9
one_digit IsFault given failed h = grind arith

pair_digit : (Needs : PairQuestion → Model → Text → Text → Type 0) (question : PairQuestion) (model : Model) (first second : GivenFormat) (failed : Outcome)
    → IsGivenPairFault Needs question model first second failed → status_of failed ≤ 9
pair_digit Needs question model first second failed h = grind arith

pub fault_digit : (question : Question) (failed : Outcome) → IsQuestionFault question failed → status_of failed ≤ 9
fault_digit (One question model format) failed h = one_digit (IsOneFault question model) format failed h
fault_digit (Two question models first second) failed h = pair_digit (lacks_in models) question h.model first second failed h.is
