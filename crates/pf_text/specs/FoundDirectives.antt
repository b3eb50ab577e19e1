-- Directives at an offset of a text. This project's own.
use Rattle.std.specs.Prelude.{◌≡◌, ℕ, ◌+◌, ◌-◌, ◌<◌, ◌≤◌, [], ◌∷◌, ◌++◌, drop, length, take, Option, None}
use Rattle.pf_values.specs.Directives.{specification_of}
use Rattle.pf_values.specs.declared.conversions.Conv.{Conv}
use Rattle.pf_values.specs.declared.flags.FlagSet.{FlagSet}
use Rattle.pf_values.specs.declared.lengths.Length.{Length}
use Rattle.pf_values.specs.declared.lengths.Length.TheVariants as lengths
use Rattle.pf_values.specs.meaning.Conversions.{conv_letter}
use Rattle.pf_values.specs.meaning.Defined.{IsDefined}
use Rattle.pf_values.specs.meaning.Items.{Directive, IsReadAs, Item}
use Rattle.pf_values.specs.meaning.Lengths.{length_letters}
use Rattle.pf_values.specs.meaning.Specification.{Specification}
use Rattle.pf_values.specs.meaning.Spelling.{flags_spelled, precision_spelled, spelling_of, width_spelled}
use Rattle.pf_values.specs.meaning.Text.{Text, percent}
use Rattle.pf_text.specs.Fronts.{IsFront}
use Rattle.pf_text.specs.Offsets.{EndsFlags, EndsPrecision, EndsWidth, HasBytes}
use Rattle.pf_text.specs.declared.specification.FoundDirective.{FoundDirective}

-- it is the bytes from there up to its end, and the last of these are its length modifier and its conversion
pub record IsFoundAt (t : Text) (start : ℕ) (found : FoundDirective) : Type 0 where
  pub some : start < found.stop
  pub within : found.stop ≤ length t
  pub read : IsReadAs (take (found.stop - start) (drop start t)) (Directive found.directive)
  pub modifier : HasBytes t found.modifier_at found.stop
      (length_letters found.directive.length ++ conv_letter found.directive.conv ∷ [])

-- the spelling of a specification up to its length modifier
abbrev pub head_spelled : Specification → Text
head_spelled s =
    percent ∷ flags_spelled s.flags ++ width_spelled s.width ++ precision_spelled s.precision

-- and they are its spelling
pub record IsSpelledAt (t : Text) (start : ℕ) (found : FoundDirective) : Type 0 where
  pub defined : IsDefined found.directive
  pub some : start < found.modifier_at
  pub modifier : found.modifier_at < found.stop
  pub within : found.stop ≤ length t
  pub head : take (found.modifier_at - start) (drop start t) ≡ head_spelled found.directive
  pub whole : take (found.stop - start) (drop start t) ≡ spelling_of found.directive

-- no item begins a text
abbrev pub BeginsNoItem : Text → Type 0
BeginsNoItem t = (read rest : Text) (item : Item) → t ≡ read ++ rest → IsReadAs read item → ⊥

-- no directive does
abbrev pub BeginsNoDirective : Text → Type 0
BeginsNoDirective t = (read rest : Text) (s : Specification) → t ≡ read ++ rest
    → IsReadAs read (Directive s) → ⊥

-- the parts of a specification before its length modifier are the bytes up to an offset
abbrev pub ArePartsAt : Text → ℕ → FlagSet → Option ℕ → Option ℕ → ℕ → Type 0
ArePartsAt t start flags width precision stop = (front : Text) × IsFront front flags width precision lengths.None
    × HasBytes t start stop front

-- and none of them goes on there
pub record EndsParts (t : Text) (at : ℕ) (width precision : Option ℕ) : Type 0 where
  pub flags : width ≡ None → precision ≡ None → EndsFlags t at
  pub width_ends : precision ≡ None → EndsWidth width t at
  pub precision_ends : EndsPrecision precision t at

-- a length modifier and a conversion come there, and end a directive with these parts
pub record EndsDirective (t : Text) (at : ℕ) (flags : FlagSet) (width precision : Option ℕ) (found : FoundDirective) : Type 0 where
  pub length : Length
  pub conv : Conv
  pub between : ℕ
  pub directive : found.directive ≡ specification_of flags width precision length conv
  pub defined : IsDefined found.directive
  pub modifier : found.modifier_at ≡ at
  pub letters : HasBytes t at between (length_letters length)
  pub stop : found.stop ≡ between + 1
  pub letter : HasBytes t between (between + 1) (conv_letter conv ∷ [])
