use Rattle.std.proofs.Common.{inl, inr, refl, subst, sym}
use Rattle.std.proofs.lemmas.Bool.{eqb-false, eqb-true}
use Rattle.pf_posix.specs.Halts.{IsDefinedAt}
use Rattle.pf_posix.specs.Items.{errno_letter}
use Rattle.pf_posix.proofs.ListingLemmas.{any_listed, errno_listed}
use Rattle.pf_posix.proofs.PlainFrontLemmas.{none_there, numbered_there}
use Rattle.pf_posix.proofs.listings.put_any_directive.Goals as goal

pub returns-then-has_errno : goal.returns-then-has_errno
returns-then-has_errno c =
    inr (errno_listed c.args.model c.args.text.now c.args.at c.args.out.now c.args.count c.args.fetched c.requires.percent
    (eqb-true _ errno_letter (sym c.if-has_errno.ensures.same)))

pub defined_at-requires-clause-errno : goal.defined_at-requires-clause-errno
defined_at-requires-clause-errno c = eqb-false _ errno_letter (sym c.if-has_errno.ensures.same)

pub returns-in-Some : goal.returns-in-Some
returns-in-Some c = inl (
  refl,
  refl,
  eqb-false _ errno_letter (sym c.if-has_errno.ensures.same),
  λ found d. numbered_there c.args.text.now c.args.at c.numbering_after.result c.in-Ok.read c.in-Ok.stop c.in-Ok.ensures c.in-Some.field-0 c.in-Some.is found
      (subst (λ n. IsDefinedAt c.args.text.now c.args.at n found) (sym c.numbering_after.ensures) d),
)

pub returns-in-None : goal.returns-in-None
returns-in-None c =
    inr (any_listed c.args.model c.args.text.now c.args.at c.numbering_after.result c.in-Ok.read c.in-Ok.stop c.args.out.now c.put.new.out c.args.count
    c.args.fetched c.in-Ok.ensures c.in-None.is c.span_between.result c.span_between.ensures c.fetch_count.result (c.fetch_count.ensures.count c.args.model)
    c.put.ensures.filled c.put.ensures.length)

pub returns-in-Err : goal.returns-in-Err
returns-in-Err c = inl (
  refl,
  refl,
  eqb-false _ errno_letter (sym c.if-has_errno.ensures.same),
  λ found d. none_there c.args.text.now c.args.at c.numbering_after.result c.in-Err.field-0 c.in-Err.ensures found
      (subst (λ n. IsDefinedAt c.args.text.now c.args.at n found) (sym c.numbering_after.ensures) d),
)
