-- A directive of a text that is its own canonical text, or nearly. This project's own.
use Rattle.std.specs.Prelude.{◌≡◌, ◌≢◌, ℕ, ◌<◌, ◌≤◌, ◌-◌, [], ◌∷◌, ◌++◌, Bool, MatchBool, length, take, drop}
use Rattle.pf_values.specs.declared.models.Model.{Model}
use Rattle.pf_values.specs.meaning.Conversions.{conv_letter, kept_conv}
use Rattle.pf_values.specs.meaning.DataModel.{kept_length}
use Rattle.pf_values.specs.meaning.Items.{Directive, IsReadAs}
use Rattle.pf_values.specs.meaning.Lengths.{length_letters}
use Rattle.pf_values.specs.meaning.Normal.{IsNormal, silent}
use Rattle.pf_values.specs.meaning.Specification.{Specification}
use Rattle.pf_values.specs.meaning.Spelling.{spelling_of}
use Rattle.pf_values.specs.meaning.Text.{Text}
use Rattle.pf_reduce.specs.Changes.{IsChange}
use Rattle.pf_text.specs.FoundDirectives.{IsSpelledAt}
use Rattle.pf_canon.specs.Making.{IsWritten}
use Rattle.pf_canon.specs.declared.changed_directives.ChangedDirective.{ChangedDirective}

-- the directive is there, and what changes is known
abbrev pub IsChangedAt : Model → Text → ℕ → ChangedDirective → Type 0
IsChangedAt model text at d = IsSpelledAt text at d.found × IsChange model d.found.directive d.change

-- the bytes from one offset up to another
abbrev pub between : ℕ → ℕ → Text → Text
between start stop text = take (stop - start) (drop start text)

-- the letters that a normal directive has for those of a directive
abbrev pub letters_kept : Model → Specification → Text
letters_kept model s = length_letters (kept_length model s.length) ++ conv_letter (kept_conv s.conv) ∷ []

-- The bytes from `start` up to `at` are written as they are, but not yet put. Then comes a directive, up to `stop`.
-- Now all is put but the bytes from `next` on, which are written as they are.
abbrev pub IsWrittenWith : Model → Text → ℕ → ℕ → Text → ℕ → ℕ → Type 0
IsWrittenWith model text start at more next stop = (spelled : Text)
    × (between start at text ++ spelled ≡ more ++ between next stop text)
    × ((before out : Text) → IsWritten model before out 0
    → IsWritten model (before ++ between at stop text) (out ++ spelled) 0)

abbrev pub PutsFront : {A : Type 0} → (A → A → Text → Type 0) → Model → Text → ℕ → ℕ → A → A → ℕ → ℕ → Type 0
PutsFront given model text start at old new next stop =
    (more : Text) × given old new more × IsWrittenWith model text start at more next stop

-- A directive is there, up to `stop`; `is` says whether it is a canonical item.
pub record IsKnownAt (model : Model) (text : Text) (at : ℕ) (is : Bool) (stop : ℕ) : Type 0 where
  pub directive : Specification
  pub some : at < stop
  pub within : stop ≤ length text
  pub read : IsReadAs (between at stop text) (Directive directive)
  pub known : MatchBool is
      (IsNormal model directive × (spelling_of directive ≡ between at stop text))
      ((IsNormal model directive → ⊥) × (directive ≢ silent))
