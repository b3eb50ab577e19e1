-- Formats that come as records, their replies, and what a run over them leaves. This project's own.
use Rattle.std.specs.Prelude.{◌≡◌, ◌≢◌, ℕ, ◌+◌, ◌-◌, ◌^◌, ◌<◌, ◌≤◌, List, [], ◌∷◌, ◌++◌, flat_map, length, max, min, take, true, ◌⊎◌}
use Rattle.std.specs.List.{AllByRecursion, fold}
use Rattle.std.specs.Io.KnownBytes.{Consumes, IsAtEnd}
use Rattle.pf_values.specs.declared.counted.Counted.{Counted}
use Rattle.pf_values.specs.Counting.{HasFailed, Known, WritesAll, WritesFirst, calls_of, device_of, failures_of, is_flushed, max_count}
use Rattle.pf_values.specs.meaning.Text.{Text}
use Rattle.fmtcanon.specs.Answers.{IsAnswer, IsQuestionFault}
use Rattle.fmtcanon.specs.Outcomes.{outcome_of, status_of}
use Rattle.fmtcanon.specs.Questions.{IsAbout, formats_wanted}
use Rattle.fmtcanon.specs.Reports.{line_text}
use Rattle.fmtcanon.specs.declared.answer.Ending.{Ending}
use Rattle.fmtcanon.specs.declared.outcome.Outcome.{Outcome}
use Rattle.fmtcanon.specs.declared.outcome.Outcome.TheVariants.{Answered, Memory, NoSecond, Read, Write}
use Rattle.fmtcanon.specs.declared.questions.Question.{Question}
use Rattle.fmtcanon.specs.declared.questions.RecordQuestion.{RecordQuestion}

-- a text has no NUL
abbrev pub IsBare : Text → Type 0
IsBare text = AllByRecursion (λ byte. byte ≢ 0) text

-- A text is these whole records, each with a NUL after it, and then the rest of it.
pub record IsRecords (text : Text) (whole : List Text) (rest : Text) : Type 0 where
  pub bare : AllByRecursion IsBare whole × IsBare rest
  pub is : text ≡ flat_map (λ r. r ++ 0 ∷ []) whole ++ rest

-- at the end the rest of a text is one more record, if it isn't empty
abbrev pub last_record : Text → List Text
last_record [] = []
last_record (byte ∷ bytes) = (byte ∷ bytes) ∷ []

-- What a run of the command says to a question, and how it ends: it writes the answer to standard
-- output, or a line about what failed to standard error.
abbrev pub RunWrites : Question → Text → Outcome → Type 0
RunWrites question said outcome =
    ((ending : Ending) × IsAnswer question said ending × (outcome ≡ outcome_of ending))
    ⊎ (IsQuestionFault question outcome × (outcome ≢ Memory) × (said ≡ line_text outcome))

-- a reply: the digit of the status, a space, what is said except for its last newline, a NUL
abbrev pub reply_bytes : ℕ → Text → Text
reply_bytes status said =
    (48 + status) ∷ 32 ∷ take (length said - 1) said ++ 0 ∷ []

-- a reply with the formats that it is about, and its status
pub record Reply : Type 0 where
  pub formats : List Text
  pub status : ℕ
  pub bytes : Text

-- This is a reply to what is asked about its formats.
pub record IsReply (asked : RecordQuestion) (reply : Reply) : Type 0 where
  pub question : Question
  pub about : IsAbout question asked reply.formats
  pub said : Text
  pub outcome : Outcome
  pub says : RunWrites question said outcome
  pub status : reply.status ≡ status_of outcome
  pub bytes : reply.bytes ≡ reply_bytes reply.status said

-- the bytes of replies, one after another
abbrev pub replies_text : List Reply → Text
replies_text replies = flat_map (λ r. r.bytes) replies

-- the highest of their statuses, and 0 if there are none
abbrev pub greatest_of : List Reply → ℕ
greatest_of replies = fold (λ greatest r. max greatest r.status) 0 replies

-- These are the replies to the first of some records, in order, and the others have none.
pub record AreReplies (asked : RecordQuestion) (records : List Text) (replies : List Reply)
    (others : List Text) : Type 0 where
  pub each : AllByRecursion (IsReply asked) replies
  pub to : records ≡ flat_map (λ r. r.formats) replies ++ others

module _ (asked : RecordQuestion) {W : Type 0} (contents : W → Known) (old new : Counted W) where
  -- The replies to all records but the others went out, and were flushed.
  pub record RepliesAll (records others : List Text) (greatest : ℕ) : Type 0 where
    pub replies : List Reply
    pub are : AreReplies asked records replies others
    pub greatest_is : greatest ≡ greatest_of replies
    pub writes : WritesAll contents old new (replies_text replies)
    pub flushed : is_flushed new ≡ true

  -- Just the first bytes of replies went out, and a call failed. The count stays at the largest
  -- `u128`.
  pub record RepliesFirst (records : List Text) (count : ℕ) : Type 0 where
    pub replies : List Reply
    pub others : List Text
    pub are : AreReplies asked records replies others
    pub written : ℕ
    pub writes : WritesFirst contents old new (replies_text replies) written
    pub count_is : count ≡ min written (2 ^ 128 - 1)

module _ (asked : RecordQuestion) {R W : Type 0} (remaining : R → Known) (contents : W → Known)
    (reader left : Counted R) (old new : Counted W) where
  -- the reader handed out these whole records, and a rest after them
  abbrev pub HandsOut : List Text → Text → Type 0
  HandsOut whole rest =
      (taken : Text) × IsRecords taken whole rest
      × Consumes (remaining (device_of reader)) (remaining (device_of left)) taken

  -- it handed out all that it had, and these are its records
  abbrev pub HandsOutAll : List Text → Type 0
  HandsOutAll records =
      (whole : List Text) × (rest : Text) × HandsOut whole rest
      × IsAtEnd (remaining (device_of left)) × (records ≡ whole ++ last_record rest)

  -- it did not fail
  abbrev pub ReadWell : Type 0
  ReadWell = failures_of left ≡ failures_of reader

  -- it failed, or was called as often as can be counted
  abbrev pub ReadFails : Type 0
  ReadFails = HasFailed reader left ⊎ (max_count ≤ calls_of left)

  -- Each whole record that it has handed out has its reply, which went out and was flushed, except
  -- one that needs a second. No call failed.
  abbrev pub AllReplied : Type 0
  AllReplied =
      (whole : List Text) × (rest : Text) × (first : List Text) × (greatest : ℕ)
      × HandsOut whole rest × ReadWell × (length first < formats_wanted asked)
      × RepliesAll asked contents old new whole first greatest

  -- The state that a run over records leaves. At Read each whole record has its reply, except one
  -- that needs a second. At Memory the first of them have theirs: it doesn't say which one needed
  -- the memory.
  abbrev pub RecordsEnd : Outcome → Type 0
  RecordsEnd (Answered greatest) =
      (records : List Text) × HandsOutAll records × ReadWell
      × RepliesAll asked contents old new records [] greatest
  RecordsEnd NoSecond =
      (records : List Text) × (first : Text) × (greatest : ℕ) × HandsOutAll records × ReadWell
      × (1 < formats_wanted asked)
      × RepliesAll asked contents old new records (first ∷ []) greatest
  RecordsEnd Read =
      (whole : List Text) × (rest : Text) × (first : List Text) × (greatest : ℕ)
      × HandsOut whole rest × ReadFails × (length first < formats_wanted asked)
      × RepliesAll asked contents old new whole first greatest
  RecordsEnd Memory =
      (whole : List Text) × (rest : Text) × (others : List Text) × (greatest : ℕ)
      × HandsOut whole rest × ReadWell
      × RepliesAll asked contents old new (whole ++ last_record rest) others greatest
  RecordsEnd (Write count) =
      (whole : List Text) × (rest : Text) × HandsOut whole rest × ReadWell
      × RepliesFirst asked contents old new (whole ++ last_record rest) count
  RecordsEnd _ = ⊥
