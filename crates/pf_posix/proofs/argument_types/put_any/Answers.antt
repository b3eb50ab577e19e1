use Rattle.std.proofs.Common.{◌≡◌, inl, inr, refl, subst, sym, [], ◌∷◌}
use Rattle.std.proofs.lemmas.Bool.{eqb-false, eqb-true}
use Rattle.std.proofs.lemmas.List.{append-nil}
use Rattle.pf_posix.specs.Halts.{IsDefinedAt}
use Rattle.pf_posix.specs.Items.{Specification, errno_letter, fetched}
use Rattle.pf_posix.specs.OpaqueParts.{parts_of_opaque}
use Rattle.pf_posix.specs.Types.{fetches}
use Rattle.pf_posix.proofs.PlainFrontLemmas.{errno_put, none_there, numbered_there, plain_there}
use Rattle.pf_posix.proofs.argument_types.put_any.Goals as goal

pub returns-then-has_errno : goal.returns-then-has_errno
returns-then-has_errno c =
    inr (errno_put c.args.model c.args.text.now c.args.at c.args.out.now c.args.count c.requires.percent
    (eqb-true _ errno_letter (sym c.if-has_errno.ensures.same)))

pub defined_at-requires-clause-errno : goal.defined_at-requires-clause-errno
defined_at-requires-clause-errno c = eqb-false _ errno_letter (sym c.if-has_errno.ensures.same)

pub returns-in-Some : goal.returns-in-Some
returns-in-Some c = inl (
  refl,
  refl,
  refl,
  eqb-false _ errno_letter (sym c.if-has_errno.ensures.same),
  λ found d. numbered_there c.args.text.now c.args.at c.numbering_after.result c.in-Ok.read c.in-Ok.stop c.in-Ok.ensures c.in-Some.field-0 c.in-Some.is found
      (subst (λ n. IsDefinedAt c.args.text.now c.args.at n found) (sym c.numbering_after.ensures) d),
)

pub returns-in-None : goal.returns-in-None
returns-in-None c =
    let s = parts_of_opaque c.in-Ok.read.parts in
    let same : fetched c.args.model (Specification s ∷ []) ≡ fetches c.args.model s = append-nil (fetches c.args.model s) in
    inr (record {
      item = Specification s;
      plain = plain_there c.args.text.now c.args.at c.numbering_after.result c.in-Ok.read c.in-Ok.stop c.in-Ok.ensures c.in-None.is;
      more = rw same c.put_types.ensures.count;
      put = rw same c.put_types.ensures.put;
      same_length = c.put_types.ensures.length;
    })

pub returns-in-Err : goal.returns-in-Err
returns-in-Err c = inl (
  refl,
  refl,
  refl,
  eqb-false _ errno_letter (sym c.if-has_errno.ensures.same),
  λ found d. none_there c.args.text.now c.args.at c.numbering_after.result c.in-Err.field-0 c.in-Err.ensures found
      (subst (λ n. IsDefinedAt c.args.text.now c.args.at n found) (sym c.numbering_after.ensures) d),
)
