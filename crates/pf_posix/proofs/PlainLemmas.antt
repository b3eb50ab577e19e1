-- Specifications without numbers at an offset of a text, and what is there if none begins.
use Rattle.pf_posix.proofs.DirectiveLemmas.{errno_split}
use Rattle.pf_text.proofs.ReadingLemmas.{part_of_front}
use Rattle.std.proofs.Common.{◌≡◌, ℕ, ◌+◌, ◌-◌, Bool, true, false, ◌++◌, drop, get_or, length, take, refl, sym, ap, ◌∙◌, arith, subst}
use Rattle.std.specs.Prelude.{◌==◌, ◌<◌}
use Rattle.std.proofs.lemmas.List.{length-take}
use Rattle.pf_values.specs.declared.limits.TheConstants.{MAX_TEXT_LEN}
use Rattle.pf_values.specs.meaning.Items.{Directive}
use Rattle.pf_values.specs.meaning.Text.{Text, percent}
use Rattle.pf_text.specs.FoundDirectives.{BeginsNoItem}
use Rattle.pf_posix.specs.declared.opaque_directives.Opaque.TheVariants.{Directive as OpaqueDirective, Errno as OpaqueErrno}
use Rattle.pf_posix.specs.declared.specifications.Numbering.TheVariants.{Unnumbered}
use Rattle.pf_posix.specs.declared.specifications.Specification.{Specification as Read}
use Rattle.pf_posix.specs.Defined.{IsWholeDefined, undefined_of}
use Rattle.pf_posix.specs.PartsInText.{IsSpecificationAt, specification_read}
use Rattle.pf_posix.specs.Heads.{IsOpaqueAt}
use Rattle.pf_posix.specs.Items.{errno}
use Rattle.pf_posix.specs.Opaque.{SpellsOpaque, is_opaque}
use Rattle.pf_posix.specs.OpaqueParts.{parts_of_opaque}
use Rattle.pf_posix.specs.Specifications.{WholeSpecification}
use Rattle.pf_posix.proofs.SpecificationsOnce.{parted, unnumbered_parts}
use Rattle.pf_posix.proofs.Narrowed.{narrowed}
use Rattle.pf_posix.specs.OpaqueParts.{narrow}
use Rattle.pf_posix.proofs.Agreeing.{without_number}
use Rattle.pf_posix.specs.Halts.{IsDefinedAt}
use Rattle.pf_posix.specs.Spelling.{SpellsWhole}

-- A specification that was read in the front of a text up to the limit isn't one of the profile, if no item of that
-- begins there and ends within the limit.
pub opaque_read : (t : Text) (at : ℕ) (read : Read) (stop : ℕ) → BeginsNoItem (drop at (take MAX_TEXT_LEN t))
    → IsDefinedAt (take MAX_TEXT_LEN t) at Unnumbered (read, stop) → IsOpaqueAt t at (OpaqueDirective read.parts, stop)
opaque_read t at read stop none h = go (is_opaque s) refl where
  found : IsSpecificationAt (take MAX_TEXT_LEN t) at (read, stop)
  found = h.is.read

  text : Text
  text = take (stop - at) (drop at (take MAX_TEXT_LEN t))

  s : WholeSpecification
  s = parts_of_opaque read.parts

  same : s ≡ specification_read read
  same = unnumbered_parts text read found.spelled (without_number read.position h.is.follows)

  spelled : SpellsWhole text s
  spelled = subst (SpellsWhole text) (sym same) found.spelled

  defined : IsWholeDefined s
  defined = ap undefined_of same ∙ h.defined

  go : (b : Bool) → is_opaque s ≡ b → IsOpaqueAt t at (OpaqueDirective read.parts, stop)
  go true e = record {
    some = found.some;
    within = omega (arith, found.within, length-take MAX_TEXT_LEN t);
    limit = omega (arith, found.within, length-take MAX_TEXT_LEN t);
    spelled = subst (λ v. SpellsOpaque v s) (part_of_front t MAX_TEXT_LEN at stop (omega (arith, found.some)) found.within)
        (record { spelled = spelled; defined = defined; unnumbered = refl; opaque = e });
  }
  go false e = absurd (none text (drop stop (take MAX_TEXT_LEN t)) (Directive (narrow s))
      (parted (take MAX_TEXT_LEN t) at stop (omega (arith, found.some))) (narrowed text s spelled defined refl e))

-- `%m` there
pub errno_read : (t : Text) (at : ℕ) → get_or (take MAX_TEXT_LEN t) at 0 ≡ percent → (get_or (take MAX_TEXT_LEN t) (at + 1) 0 == 109) ≡ true
    → at + 1 < length (take MAX_TEXT_LEN t) → IsOpaqueAt t at (OpaqueErrno, at + 2)
errno_read t at first second less =
    let front = take MAX_TEXT_LEN t in
    let two : 2 ≡ at + 2 - at = omega arith in
    record {
      some = omega arith;
      within = omega (arith, less, length-take MAX_TEXT_LEN t);
      limit = omega (arith, less, length-take MAX_TEXT_LEN t);
      spelled = sym (part_of_front t MAX_TEXT_LEN at (at + 2) (omega arith) (omega (arith, less)))
          ∙ ap (take (at + 2 - at)) (errno_split front at first second less) ∙ ap (λ n. take n (errno ++ drop (at + 2) front)) (sym two);
    }
