-- The bytes of an output, and those of silent directives.
use Rattle.std.proofs.Common.{◌≡◌, ℕ, zero, suc, ◌*◌, [], ◌++◌, length, refl, ap, ◌∙◌, arith, ◌+◌, replicate}
use Rattle.std.specs.Fmt.{digits}
use Rattle.std.specs.Prelude.{flat_map}
use Rattle.std.proofs.lemmas.List.{append-nil, length-append, length-replicate}
use Rattle.pf_values.specs.meaning.Canonical.{item_spelling}
use Rattle.pf_values.specs.meaning.Normal.{silent}
use Rattle.pf_values.specs.meaning.Spelling.{spelling_of}
use Rattle.pf_values.specs.meaning.Text.{Text, space, zero_digit}
use Rattle.pf_text.specs.CanonicalRuns.{silents}
use Rattle.pf_canon.specs.Output.{silent_bytes, whole_text}

pub spelled_silent : spelling_of silent ≡ silent_bytes
unfolding digits
spelled_silent = refl

pub one_silent : flat_map item_spelling (silents 1) ≡ silent_bytes
one_silent = append-nil (spelling_of silent) ∙ spelled_silent

pub four_silents : flat_map item_spelling (silents 4) ≡ silent_bytes ++ (silent_bytes ++ (silent_bytes ++ silent_bytes))
unfolding digits
four_silents = refl

pub length-silents : (count : ℕ) → length (flat_map item_spelling (silents count)) ≡ 4 * count
length-silents zero = omega arith
length-silents (suc count) = omega (
  arith,
  length-append (spelling_of silent) (flat_map item_spelling (silents count)),
  ap length spelled_silent,
  length-silents count,
)

-- how many there are
pub length-whole : (spaces zeros count : ℕ) (bytes : Text) (trail : ℕ)
    → length (whole_text spaces zeros count bytes trail) ≡ spaces + (zeros + (4 * count + (length bytes + trail)))
length-whole spaces zeros count bytes trail =
    let a = replicate spaces space in
    let b = replicate zeros zero_digit in
    let c = flat_map item_spelling (silents count) in
    let d = replicate trail space in
    omega (
      arith,
      length-append a (b ++ (c ++ (bytes ++ d))),
      length-append b (c ++ (bytes ++ d)),
      length-append c (bytes ++ d),
      length-append bytes d,
      length-replicate spaces space,
      length-replicate zeros zero_digit,
      length-silents count,
      length-replicate trail space,
    )

-- silent directives and no spelling
pub silents_alone : (count : ℕ) (bytes : Text) {t : Text} → t ≡ flat_map item_spelling (silents count) ++ bytes → bytes ≡ []
    → t ≡ flat_map item_spelling (silents count)
silents_alone count bytes is none =
    let held = flat_map item_spelling (silents count) in
    is ∙ ap (λ u. held ++ u) none ∙ append-nil held
