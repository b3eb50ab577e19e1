-- The walk over the items of a text in memory. This project's own.
use Rattle.std.specs.Prelude.{◌≡◌, ◌≢◌, ℕ, Bool, ◌+◌, ◌-◌, ◌<◌, ◌≤◌, List, ◌∷◌, drop, flat_map, get_or, length, max, take, Option, Some, None, IfSome, IsFalse, IsTrue, ⊤, ◌⊎◌}
use Rattle.std.specs.List.{AllByRecursion}
use Rattle.memchr.specs.Find.{Nowhere, Passes, is_byte2}
use Rattle.pf_values.specs.declared.limits.TheConstants.{MAX_TEXT_LEN}
use Rattle.pf_values.specs.declared.models.Model.{Model}
use Rattle.pf_values.specs.meaning.Canonical.{item_spelling}
use Rattle.pf_values.specs.meaning.Defined.{IsDefined}
use Rattle.pf_values.specs.meaning.Items.{Item, Byte, Directive, Reads}
use Rattle.pf_values.specs.meaning.Normal.{IsNormal}
use Rattle.pf_values.specs.meaning.Text.{Text, percent}
use Rattle.pf_text.specs.declared.literal_runs.LiteralRuns.{LiteralRuns}
use Rattle.pf_text.specs.declared.marks.TheConstants.{MAX_MARKED}
use Rattle.pf_text.specs.declared.walk.Walk.{Walk}
use Rattle.pf_text.specs.FoundDirectives.{BeginsNoItem}
use Rattle.pf_text.specs.History.{IsLiteral}
use Rattle.pf_text.specs.Marks.{AreMarksOf}

-- the runs are this text's
abbrev pub AreRunsOf : LiteralRuns → Text → Type 0
AreRunsOf runs text = IfSome runs.marks (λ marks. (length text ≤ MAX_MARKED) × AreMarksOf marks text)

-- from an offset on, this byte of a text is the first one that ends a run of literal bytes
abbrev pub IsNextEnd : Text → ℕ → Option ℕ → Type 0
IsNextEnd t from None = Nowhere (Passes (is_byte2 37 0) t) from (length t)
IsNextEnd t from (Some stop) = (from ≤ stop) × (stop < length t)
    × Nowhere (Passes (is_byte2 37 0) t) from stop × Passes (is_byte2 37 0) t stop

-- an item that a walk passes: a literal byte, or one of these others
abbrev pub IsPassed : (Item → Type 0) → Item → Type 0
IsPassed passes (Byte byte) = (byte ≢ 0) × (byte ≡ percent → passes (Byte percent))
IsPassed passes (Directive s) = IsDefined s × passes (Directive s)

-- a text of such items, each written in the one way
pub record IsPassedRun (passes : Item → Type 0) (t : Text) (items : List Item) : Type 0 where
  pub passed : AllByRecursion (IsPassed passes) items
  pub whole : t ≡ flat_map item_spelling items

-- such items, one after another
abbrev pub AreItems : (Item → Type 0) → Text → Type 0
AreItems passes t = (items : List Item) × IsPassedRun passes t items

-- a text begins with a `%`
abbrev pub BeginsPercent : Text → Type 0
BeginsPercent t = (rest : Text) × (t ≡ percent ∷ rest)

-- literal bytes, or what passes, from a `%` on
abbrev pub IsPiece : (Text → Type 0) → Text → Type 0
IsPiece passes piece = AllByRecursion IsLiteral piece ⊎ (BeginsPercent piece × passes piece)

-- a text of such pieces
pub record IsMadeOf (passes : Text → Type 0) (t : Text) : Type 0 where
  pub pieces : List Text
  pub each : AllByRecursion (IsPiece passes) pieces
  pub whole : t ≡ flat_map (λ piece. piece) pieces

-- this or that
abbrev pub Either : (Text → Type 0) → (Text → Type 0) → Text → Type 0
Either one other t = one t ⊎ other t

-- no directive
abbrev pub IsPercent : Item → Type 0
IsPercent (Byte byte) = ⊤
IsPercent (Directive s) = ⊥

-- no directive, or one that is normal in each data model
abbrev pub IsNormalInEach : Item → Type 0
IsNormalInEach (Byte byte) = ⊤
IsNormalInEach (Directive s) = (model : Model) → IsNormal model s

-- an offset has a `%` that isn't the last byte
abbrev pub HasPercent : Text → ℕ → Type 0
HasPercent t at = (at + 1 < length t) × (get_or t at 0 ≡ percent)

-- no item of any language begins at an offset: the text ends there, or has a NUL or its last byte, a `%`
abbrev pub BeginsNothing : Text → ℕ → Type 0
BeginsNothing t at = (length t ≤ at) ⊎ (get_or t at 0 ≡ 0)
    ⊎ ((length t ≤ at + 1) × (get_or t at 0 ≡ percent))

-- the text of a walk isn't too long, and its runs are the text's
pub record IsWalk (walk : Walk) : Type 0 where
  pub few : length walk.text.now ≤ MAX_TEXT_LEN
  pub runs : AreRunsOf walk.runs walk.text.now

-- it is a walk over this text, up to the limit
pub record IsWalkOver (text : Text) (walk : Walk) : Type 0 where
  pub walk_is : IsWalk walk
  pub text_is : walk.text.now ≡ take MAX_TEXT_LEN text

-- a walk has come from one offset to another, over literal bytes and what passes
pub record HasWalked (passes : Text → Type 0) (old new : Walk) : Type 0 where
  pub walk : IsWalk new
  pub text : new.text.now ≡ old.text.now
  pub from : old.at ≤ new.at
  pub within : new.at ≤ max old.at (length new.text.now)
  pub run : IsMadeOf passes (take (new.at - old.at) (drop old.at new.text.now))

-- the same, where items of the profile pass
pub record HasPassed (passes : Item → Type 0) (old new : Walk) : Type 0 where
  pub walk : IsWalk new
  pub text : new.text.now ≡ old.text.now
  pub from : old.at ≤ new.at
  pub within : new.at ≤ max old.at (length new.text.now)
  pub items : List Item
  pub run : IsPassedRun passes (take (new.at - old.at) (drop old.at new.text.now)) items

-- and has found a `%` that begins something else, before such a byte; or where no item begins
pub record Finds (passes : Text → Type 0) (leaves : ℕ → Type 0) (old new : Walk)
    (found : Bool) : Type 0 where
  pub passed : HasWalked passes old new
  pub stopped : IsTrue found → HasPercent new.text.now new.at × leaves (get_or new.text.now (new.at + 1) 0)
  pub ended : IsFalse found → BeginsNothing new.text.now new.at

-- the bytes up to an offset are whole items, and aren't too many; and no item begins there that would end
-- within the limit
pub record IsItemsEnd (t : Text) (stop : ℕ) : Type 0 where
  pub within : stop ≤ length t
  pub few : stop ≤ MAX_TEXT_LEN
  pub items : List Item
  pub reads : Reads (take stop t) items
  pub last : BeginsNoItem (drop stop (take MAX_TEXT_LEN t))

-- whole items of the profile
abbrev pub AreRead : Text → Type 0
AreRead t = (items : List Item) × Reads t items

-- The bytes of a walk's text between its offset and another are whole items of the profile, and others that
-- pass. No item of the profile begins there.
pub record EndsItems (passes : Text → Type 0) (walk : Walk) (stop : ℕ) : Type 0 where
  pub within : (walk.at ≤ stop) × (stop ≤ length walk.text.now)
  pub read : IsMadeOf (Either AreRead passes) (take (stop - walk.at) (drop walk.at walk.text.now))
  pub stopped : BeginsNoItem (drop stop walk.text.now)
