-- Directives outside the profile that are their own normal spelling.
use Rattle.std.proofs.Common.{◌≡◌, ℕ, ◌+◌, ◌-◌, [], ◌∷◌, take, drop, refl, sym, ap, subst, arith, inl}
use Rattle.pf_values.specs.meaning.Text.{Text, percent}
use Rattle.pf_text.specs.Offsets.{HasBytes}
use Rattle.pf_text.specs.Walks.{HasPercent}
use Rattle.pf_text.proofs.SpecificationLemmas.{bytes_join, bytes_one}
use Rattle.pf_text.proofs.WalkLemmas.{bytes_between}
use Rattle.pf_posix.specs.Opaque.{OpaqueSpecification}
use Rattle.pf_posix.specs.OpaqueParts.{bare, parts_of_opaque}
use Rattle.pf_posix.specs.Specifications.{conversion_letter}
use Rattle.pf_posix.specs.declared.conversions.WholeConv.{WholeConv}
use Rattle.pf_posix.specs.declared.opaque_directives.OpaqueDirective.{OpaqueDirective}
use Rattle.pf_whole.specs.Verbatim.{IsOwnNormalForm, IsPlainAt, IsOwnSpelling}
use Rattle.pf_whole.specs.meaning.NormalSpellings.{whole_spelling_of}
use Rattle.pf_whole.proofs.SpelledNormally.{spelled_parts}

-- parts that are normal and spelled in the one way
pub plain_verbatim : (t : Text) (at : ℕ) (directive : OpaqueDirective) (stop : ℕ) → IsPlainAt t at directive stop → IsOwnNormalForm (parts_of_opaque directive)
    → IsOwnSpelling (take (stop - at) (drop at t))
plain_verbatim t at directive stop h normal =
    let s = parts_of_opaque directive in
    subst IsOwnSpelling (sym (bytes_between t (whole_spelling_of s) at stop h.bytes)) (
      OpaqueSpecification s,
      record { spelled = spelled_parts s refl h.width h.precision; defined = normal.defined; unnumbered = refl; opaque = normal.opaque },
      λ model. ap whole_spelling_of (normal.normal model),
    )

-- a conversion alone
pub bare_verbatim : (t : Text) (at : ℕ) (conversion : WholeConv) → HasPercent t at → HasBytes t (at + 1) (at + 1 + 1) (conversion_letter conversion ∷ [])
    → IsOwnNormalForm (parts_of_opaque (bare conversion)) → IsOwnSpelling (take 2 (drop at t))
bare_verbatim t at conversion h letter normal =
    let two : at + 1 + 1 - at ≡ 2 = omega arith in
    let first = bytes_one t at percent (omega (arith, h.0)) (sym h.1) in
    let bytes = bytes_join t at (at + 1) (at + 1 + 1) (percent ∷ []) (conversion_letter conversion ∷ []) first letter in
    subst (λ n. IsOwnSpelling (take n (drop at t))) two (plain_verbatim t at (bare conversion) (at + 1 + 1)
    (record { bytes = bytes; flags = inl refl; width = tt; precision = tt }) normal)
