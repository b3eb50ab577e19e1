-- The results of calls. This project's own.
use Rattle.std.specs.Prelude.{◌≡◌, ◌≢◌, ◌≤◌, ◌<◌, ◌^◌, ◌⊎◌, ℕ, ◌+◌, ◌*◌, ℤ, pos, List, [], ◌∷◌, ◌++◌, length, map, None, Some, Result, Ok, Err}
use Rattle.pf_values.specs.declared.models.Model.{Model}
use Rattle.pf_values.specs.declared.models.TheConstants.Model.{ALL}
use Rattle.pf_values.specs.declared.refusals.RefusalKind.{RefusalKind}
use Rattle.pf_values.specs.meaning.Canonical.{IsCanonicalText}
use Rattle.pf_values.specs.meaning.Items.{IsAccepted}
use Rattle.pf_values.specs.meaning.Refusals.{IsRefusedAt}
use Rattle.pf_values.specs.meaning.Text.{Text}
use Rattle.pf_values.specs.TypeNumbers.{type_number}
use Rattle.pf_text.specs.Signatures.{TakesManyArguments, TakesTypes}
use Rattle.pf_text.specs.declared.refusals.Refusal.{Refusal}
use Rattle.pf_text.specs.declared.refusals.TextFault.TheVariants.{Memory}
use Rattle.pf_text.specs.declared.refusals.Side.TheVariants.{First}
use Rattle.pf_canon.specs.Languages.{FaultIn, Front, HasCanonicalIn, Refuses}
use Rattle.pf_canon.specs.Answers.{FaultForCanonical, IsCanonicalFor}
use Rattle.pf_posix.specs.Directives.{HasDirectives}
use Rattle.pf_posix.specs.Items.{HasArguments}
use Rattle.pf_posix.specs.Refusals.{IsWholeRefusedAt}
use Rattle.pf_posix.specs.TypeNumbers.{number_of_type}
use Rattle.pf_posix.specs.Unnumbered.{IsUnnumberedRefusedAt}
use Rattle.pf_whole.specs.Answers.{IsWholeCanonicalFor}
use Rattle.pf_whole.specs.Faults.{FaultForWholeCanonical}
use Rattle.fmtcanon_c.specs.declared.directives.CDirective.{CDirective}
use Rattle.fmtcanon_c.specs.declared.interface.CError.{CError}
use Rattle.fmtcanon_c.specs.declared.interface.TheConstants.{NO_MEMORY}
use Rattle.fmtcanon_c.specs.Buffers.{put}
use Rattle.fmtcanon_c.specs.Directives.{record_of}
use Rattle.fmtcanon_c.specs.Errors.{IsNameOf, IsRefusalCode, IsRefusedAs, IsRefusedBy}

-- accepted, with the error untouched, or rejected
abbrev pub Checks : Text → CError → ℤ → CError → Type 0
Checks t error code error_now =
    (IsAccepted t × (code ≡ pos 0) × (error_now ≡ error)) ⊎ IsRefusedBy First t code error_now

-- memory is out for this reason, and the error is untouched
abbrev pub IsOut : Type 0 → ℤ → CError → CError → Type 0
IsOut Why code error error_now = Why × (code ≡ NO_MEMORY) × (error_now ≡ error)

-- 1 where it is so, 0 where it isn't
abbrev pub IsTruthCode : Type 0 → ℤ → Type 0
IsTruthCode Is code = (Is × (code ≡ pos 1)) ⊎ ((¬ Is) × (code ≡ pos 0))

-- 1 where an accepted text is canonical, 0 where it isn't, with the error untouched; or rejected
abbrev pub AnswersCanonical : Model → Text → CError → ℤ → CError → Type 0
AnswersCanonical model t error code error_now =
    (IsAccepted t × IsTruthCode (IsCanonicalText model t) code × (error_now ≡ error))
    ⊎ IsRefusedBy First t code error_now

-- Of some data models those in which it is so, as a sum: the first counts so much, and each other
-- twice as much as the one before it.
abbrev pub AreModels : (Model → Type 0) → ℕ → List Model → ℕ → Type 0
AreModels Is weight [] sum = sum ≡ 0
AreModels Is weight (model ∷ models) sum =
    (others : ℕ) × AreModels Is (2 * weight) models others
    × ((Is model × (sum ≡ weight + others)) ⊎ ((¬ Is model) × (sum ≡ others)))

-- the data models in which it is so, as an answer: 1 for the first, 2 for the second, 4 for the third,
-- added
abbrev pub IsModelsCode : (Model → Type 0) → ℤ → Type 0
IsModelsCode Is code = (sum : ℕ) × AreModels Is 1 ALL sum × (code ≡ pos sum)

-- elements are put as they are written, where the buffer has room for them, and their number is returned; or
-- the text is rejected, or memory is out for this reason
abbrev pub PutsElements : {X Y : Type 0} → (List X → Type 0) → (List X → List Y) → (RefusalKind → ℕ → Type 0) → Type 0
    → List Y → CError → ℤ → List Y → CError → Type 0
PutsElements Has written Refuses NeedsMemory out error code out_now error_now =
    ((elements : List _) × Has elements × (code ≡ pos (length elements))
    × (out_now ≡ put (written elements) out) × (error_now ≡ error))
    ⊎ ((out_now ≡ out)
    × (IsRefusedAs Refuses First code error_now ⊎ IsOut NeedsMemory code error error_now))

-- a text and a NUL after it
abbrev pub with_nul : Text → Text
with_nul t = t ++ 0 ∷ []

-- the canonical text in a language, and a NUL
abbrev pub PutsCanonicalIn : Front → Refuses → Model → Text → Text → CError → ℤ → Text → CError → Type 0
PutsCanonicalIn has_front refuses model t = PutsElements (HasCanonicalIn has_front model t) with_nul (refuses model t)
    (FaultIn has_front refuses model t Memory)

-- that of the profile
abbrev pub PutsCanonical : Model → Text → Text → CError → ℤ → Text → CError → Type 0
PutsCanonical model t =
    PutsElements (IsCanonicalFor model t) with_nul (IsRefusedAt t) (FaultForCanonical model t Memory)

-- that of a format of the whole language
abbrev pub PutsWholeCanonical : Model → Text → Text → CError → ℤ → Text → CError → Type 0
PutsWholeCanonical model t = PutsElements (IsWholeCanonicalFor model t) with_nul (IsUnnumberedRefusedAt model t)
    (FaultForWholeCanonical model t Memory)

-- the codes of the types
abbrev pub PutsTypes : Model → Text → Text → CError → ℤ → Text → CError → Type 0
PutsTypes model t =
    PutsElements (TakesTypes model t) (map type_number) (IsRefusedAt t) (TakesManyArguments model t)

-- there is a list, and it has elements
abbrev pub HasSome : {X : Type 0} → (List X → Type 0) → Type 0
HasSome Has = (elements : List _) × Has elements × (elements ≢ [])

-- the numbers of the types in the whole language
abbrev pub PutsArguments : Model → Text → Text → CError → ℤ → Text → CError → Type 0
PutsArguments model t = PutsElements (HasArguments model t) (map number_of_type) (IsWholeRefusedAt model t)
    (HasSome (HasArguments model t))

-- the records of the specifications
abbrev pub PutsDirectives : Model → Text → List CDirective → CError → ℤ → List CDirective → CError → Type 0
PutsDirectives model t = PutsElements (HasDirectives model t) (map record_of) (IsWholeRefusedAt model t)
    (HasSome (HasDirectives model t))

-- a length as an answer; no memory holds a text with 2^63 bytes
abbrev pub IsLengthCode : ℕ → ℤ → Type 0
IsLengthCode len code =
    ((len < 2 ^ 63) × (code ≡ pos len)) ⊎ ((2 ^ 63 ≤ len) × (code ≡ NO_MEMORY))

-- the answer of a length that was found, or of a refusal
abbrev pub IsLengthAnswer : Result ℕ Refusal → CError → ℤ → CError → Type 0
IsLengthAnswer (Ok len) error code error_now = IsLengthCode len code × (error_now ≡ error)
IsLengthAnswer (Err refusal) error code error_now = IsRefusalCode First refusal code error_now

-- the length of the canonical text is answered, with the error untouched; or the text is rejected
abbrev pub AnswersLength : (Text → Type 0) → (RefusalKind → ℕ → Type 0) → CError → ℤ → CError → Type 0
AnswersLength IsCanonical Refuses error code error_now =
    ((c : Text) × IsCanonical c × IsLengthCode (length c) code × (error_now ≡ error))
    ⊎ IsRefusedAs Refuses First code error_now

-- two answers, with what they leave in a buffer and as the error, are equal, or memory was out for one of them
abbrev pub AreOneAnswer : {Y : Type 0} → ℤ → List Y → CError → ℤ → List Y → CError → Type 0
AreOneAnswer code out error code_too out_too error_too =
    ((code ≡ code_too) × (out ≡ out_too) × (error ≡ error_too)) ⊎ ((code ≡ NO_MEMORY) ⊎ (code_too ≡ NO_MEMORY))

-- the name of a kind and a zero are put, where the buffer has room for them, and its length is
-- answered
abbrev pub PutsName : ℕ → Text → ℕ → Text → Type 0
PutsName n out len out_now =
    ((name : Text) × IsNameOf n (Some name) × (len ≡ length name)
    × (out_now ≡ put (name ++ 0 ∷ []) out))
    ⊎ (IsNameOf n None × (len ≡ 0) × (out_now ≡ out))
