-- What a run over records holds in memory, for private functions. This project's own.
use Rattle.std.specs.Prelude.{◌≡◌, ℕ, ◌-◌, ◌^◌, ◌<◌, Bool, true, false, List, [], ◌∷◌, ◌++◌, length, min, Result, Ok, Err}
use Rattle.std.specs.Io.KnownBytes.{Consumes}
use Rattle.std.specs.declared.alloc.AllocError.{AllocError}
use Rattle.pf_values.specs.declared.counted.Counted.{Counted}
use Rattle.pf_values.specs.Counting.{Known, WritesAll, WritesFirst, device_of, failures_of}
use Rattle.pf_values.specs.meaning.Text.{Text}
use Rattle.fmtcanon.specs.Questions.{formats_wanted}
use Rattle.fmtcanon.specs.Records.{AreReplies, IsRecords, IsReply, RepliesAll, RepliesFirst, Reply, replies_text, greatest_of, last_record}
use Rattle.fmtcanon.specs.declared.outcome.Outcome.{Outcome}
use Rattle.fmtcanon.specs.declared.outcome.Outcome.TheVariants as outcomes
use Rattle.fmtcanon.specs.declared.questions.RecordQuestion.{RecordQuestion}
use Rattle.fmtcanon.specs.declared.record_answers.PartialQuestion.{PartialQuestion}
use Rattle.fmtcanon.specs.declared.record_answers.RecordAnswers.{RecordAnswers}
use Rattle.fmtcanon.specs.declared.records.RecordRun.{RecordRun}
use Rattle.fmtcanon.specs.declared.replies.Replies.{Replies}
use Rattle.fmtcanon.specs.declared.record_answers.RecordRunFault.{RecordRunFault}
use Rattle.fmtcanon.specs.declared.record_answers.RecordRunFault.TheVariants.{Memory, Write}

-- the count of bytes that went out
abbrev pub count_of : ℕ → ℕ
count_of written = min written (2 ^ 128 - 1)

-- the bytes that wait
abbrev pub waiting_text : Replies → Text
waiting_text r = r.buffer.items

-- These replies came, and those bytes of them that don't wait went out.
pub record HasReplies (r : Replies) (sent : Text) (replies : List Reply) : Type 0 where
  pub bytes : replies_text replies ≡ sent ++ waiting_text r
  pub greatest : r.greatest ≡ greatest_of replies
  pub count : r.written ≡ count_of (length sent)

module _ {W : Type 0} (contents : W → Known) where
  -- those bytes went to a writer that began so
  pub record HasSaid (r : Replies) (start now : Counted W) (replies : List Reply) : Type 0 where
    pub sent : Text
    pub writes : WritesAll contents start now sent
    pub has : HasReplies r sent replies

  -- just the first bytes of them went out
  pub record HasSaidFirst (start now : Counted W) (replies : List Reply) (count : ℕ) : Type 0 where
    pub written : ℕ
    pub writes : WritesFirst contents start now (replies_text replies) written
    pub count_is : count ≡ count_of written

-- the first format of two, if it has come
abbrev pub first_of : Bool → Text → List Text
first_of false text = []
first_of true text = text ∷ []

-- The part of a question that has come in whole records: the first format, if it is about two.
pub record HasFirst (p : PartialQuestion) (asked : RecordQuestion) (first : List Text) : Type 0 where
  pub asked_is : p.asked ≡ asked
  pub few : length first < formats_wanted asked
  pub first_is : first ≡ first_of p.has_first p.first.items

module _ (asked : RecordQuestion) {W : Type 0} (contents : W → Known) where
  -- Replies were made to these whole records, except to a first one that waits for a second.
  pub record HasAsked (a : RecordAnswers) (start now : Counted W) (whole : List Text) : Type 0 where
    pub first : List Text
    pub replies : List Reply
    pub are : AreReplies asked whole replies first
    pub held : HasFirst a.partial asked first
    pub said : HasSaid contents a.replies start now replies

  -- Replies were made to these whole records, and a rest has come after them.
  pub record HasRepliedTo (r : RecordRun) (start now : Counted W) (whole : List Text) (rest : Text)
      : Type 0 where
    pub to : HasAsked r.answers start now whole
    pub part_is : rest ≡ r.part.items

  -- Replies were made to the first of some records, and then memory was refused, or a write failed.
  abbrev pub HasStopped : RecordAnswers → Counted W → Counted W → List Text → RecordRunFault → Type 0
  HasStopped a start now records Memory =
      (replies : List Reply) × (others : List Text) × AreReplies asked records replies others
      × HasSaid contents a.replies start now replies
  HasStopped a start now records (Write count) =
      (replies : List Reply) × (others : List Text) × AreReplies asked records replies others
      × HasSaidFirst contents start now replies count

  -- they were made to the records that are whole in what was taken
  abbrev pub HasRepliedToText : RecordRun → Counted W → Counted W → Text → Type 0
  HasRepliedToText r start now taken =
      (whole : List Text) × (rest : Text) × IsRecords taken whole rest × HasRepliedTo r start now whole rest

  abbrev pub HasStoppedAt : RecordAnswers → Counted W → Counted W → Text → RecordRunFault → Type 0
  HasStoppedAt a start now taken stop =
      (whole : List Text) × (rest : Text) × IsRecords taken whole rest
      × HasStopped a start now (whole ++ last_record rest) stop

module _ (asked : RecordQuestion) {R W : Type 0} (remaining : R → Known) (contents : W → Known) where
  -- The run has taken all that the reader has handed out since `begin`, and made the replies to the
  -- records that are whole in it. No read failed.
  pub record HasAnswered (r : RecordRun) (begin left : Counted R) (start now : Counted W)
      : Type 0 where
    pub taken : Text
    pub took : Consumes (remaining (device_of begin)) (remaining (device_of left)) taken
    pub well : failures_of left ≡ failures_of begin
    pub replied : HasRepliedToText asked contents r start now taken

-- whether the reply to these formats was added: all was, they are too few, or memory was refused
abbrev pub AddsReply : RecordQuestion → List Text → Text → List Reply → Replies → Replies
    → Result Bool AllocError → Type 0
AddsReply asked formats sent replies old new (Ok true) =
    (reply : Reply) × IsReply asked reply × (reply.formats ≡ formats)
    × HasReplies new sent (replies ++ reply ∷ [])
AddsReply asked formats sent replies old new (Ok false) =
    (length formats < formats_wanted asked) × (new ≡ old)
AddsReply asked formats sent replies old new (Err e) = HasReplies new sent replies

module _ {W : Type 0} (contents : W → Known) where
  -- a write of replies that wait, or of none
  abbrev pub WritesReplies : Replies → Counted W → Counted W → List Reply
      → Result (Unit {0}) RecordRunFault → Type 0
  WritesReplies r start now replies (Ok done) = HasSaid contents r start now replies
  WritesReplies r start now replies (Err Memory) = ⊥
  WritesReplies r start now replies (Err (Write count)) =
      HasSaidFirst contents start now replies count

module _ (asked : RecordQuestion) {W : Type 0} (contents : W → Known) (old new : Counted W) where
  -- what is written where it ends early, of replies to the first of these records
  abbrev pub RecordsEndEarly : List Text → Outcome → Type 0
  RecordsEndEarly records outcomes.Memory =
      (others : List Text) × (greatest : ℕ)
      × RepliesAll asked contents old new records others greatest
  RecordsEndEarly records (outcomes.Write count) =
      RepliesFirst asked contents old new records count
  RecordsEndEarly records outcome = ⊥

  -- what is written at the end, of these records
  abbrev pub RecordsFinish : List Text → Outcome → Type 0
  RecordsFinish records (outcomes.Answered greatest) =
      RepliesAll asked contents old new records [] greatest
  RecordsFinish records outcomes.NoSecond =
      (first : Text) × (greatest : ℕ) × (1 < formats_wanted asked)
      × RepliesAll asked contents old new records (first ∷ []) greatest
  RecordsFinish records outcome = RecordsEndEarly records outcome
