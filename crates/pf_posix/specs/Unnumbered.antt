-- Texts of the whole language without numbered arguments: what is accepted, and where and why others
-- are rejected. That the arguments have no numbers is this project's own choice.
use Rattle.std.specs.Prelude.{◌≡◌, ℕ, ◌<◌, ◌≤◌, List, ◌∷◌, ◌++◌, length, None, ◌⊎◌, ◌↔◌, ⊤}
use Rattle.std.specs.List.{AllByRecursion}
use Rattle.pf_values.specs.declared.limits.TheConstants.{MAX_TEXT_LEN}
use Rattle.pf_values.specs.declared.models.Model.{Model}
use Rattle.pf_values.specs.meaning.Text.{Text, dollar, percent}
use Rattle.pf_values.specs.declared.refusals.RefusalKind.{RefusalKind}
use Rattle.pf_values.specs.declared.refusals.RefusalKind.TheVariants.{Numbered}
use Rattle.pf_posix.specs.Items.{HasArguments, Byte, Errno, WholeItem, ReadsWhole, Specification}
use Rattle.pf_posix.specs.Refusals.{IsWholeRefusedAt}
use Rattle.pf_posix.specs.Spelling.{SpellsPositive}
use Rattle.pf_posix.specs.Stretches.{Stretches, ReadsStretches, IsUnnumberedAccepted, whole_types}

-- a text is read as one list of stretches at most
abbrev pub IsReadOnce : Text → Type 0
IsReadOnce t = (a b : Stretches) → ReadsStretches t a → ReadsStretches t b → a ≡ b

-- a text that is read as stretches, and is within the limit, has arguments of their types
abbrev pub TypesAreKept : Model → Type 0
TypesAreKept model = (t : Text) (a : Stretches) → ReadsStretches t a → length t ≤ MAX_TEXT_LEN
    → HasArguments model t (whole_types model a)

-- the item is not a numbered specification (POSIX fprintf on `%n$`)
abbrev pub IsUnnumbered : WholeItem → Type 0
IsUnnumbered (Byte byte) = ⊤
IsUnnumbered (Specification s) = s.position ≡ None
IsUnnumbered Errno = ⊤

-- a text is read as items, with no numbered specification, and is within the limit
pub record IsReadUnnumbered (t : Text) : Type 0 where
  pub items : List WholeItem
  pub reads : ReadsWhole t items
  pub unnumbered : AllByRecursion IsUnnumbered items
  pub limit : length t ≤ MAX_TEXT_LEN

-- a text is accepted if and only if this holds
abbrev pub AcceptsUnnumbered : Text → Type 0
AcceptsUnnumbered t = IsUnnumberedAccepted t ↔ IsReadUnnumbered t

-- the byte at this offset is a `$` directly after the first number of a specification, which numbers
-- the argument (POSIX fprintf on `%n$`); items that aren't numbered come before it
pub record IsNumberedAt (t : Text) (at : ℕ) : Type 0 where
  pub whole : Text
  pub digits : Text
  pub rest : Text
  pub items : List WholeItem
  pub n : ℕ
  pub reads : ReadsWhole whole items
  pub unnumbered : AllByRecursion IsUnnumbered items
  pub number : SpellsPositive digits n
  pub split : t ≡ (whole ++ percent ∷ digits) ++ dollar ∷ rest
  pub offset : at ≡ length (whole ++ percent ∷ digits)
  pub limit : at < MAX_TEXT_LEN

-- A text is rejected at this offset. Numbered: a `$` there numbers an argument, and the text is rejected
-- no earlier where arguments may have numbers. Another kind: it is rejected so there, too, and no `$`
-- numbers an argument before or at this offset.
abbrev pub IsUnnumberedRefusedAt : Model → Text → RefusalKind → ℕ → Type 0
IsUnnumberedRefusedAt model t Numbered at =
    IsNumberedAt t at
    × ((kind : RefusalKind) (other : ℕ) → IsWholeRefusedAt model t kind other → ¬ (other < at))
IsUnnumberedRefusedAt model t kind at =
    IsWholeRefusedAt model t kind at × ((other : ℕ) → IsNumberedAt t other → at < other)

-- a text is accepted or rejected, and never both
abbrev pub IsJudged : Model → Text → Type 0
IsJudged model t =
    (IsUnnumberedAccepted t ⊎ ((kind : RefusalKind) × (at : ℕ) × IsUnnumberedRefusedAt model t kind at))
    × ((kind : RefusalKind) (at : ℕ) → IsUnnumberedRefusedAt model t kind at → ¬ IsUnnumberedAccepted t)
