use Rattle.std.proofs.Common.{◌+◌, ◌∙◌, ap, arith, get_or, length, refl, subst, sym}
use Rattle.std.proofs.lemmas.Bool.{eqb-true}
use Rattle.std.proofs.lemmas.Result.{err_from_is_err_and}
use Rattle.std.specs.Prelude.{MatchResult}
use Rattle.pf_posix.specs.declared.specifications.Numbering.TheVariants.{Numbered, Undecided}
use Rattle.pf_posix.specs.Endings.{end_refusal}
use Rattle.pf_posix.specs.Halts.{IsDefinedAt, IsRefusedIn}
use Rattle.pf_posix.specs.Items.{errno_letter}
use Rattle.pf_posix.specs.Laws.{HasCount}
use Rattle.pf_posix.proofs.FrontRefusals.{IsRefused}
use Rattle.pf_posix.proofs.NumberedLemmas.{IsTabledTo, errno_tabled, finished, first_added, first_refused, gap_refused, next_added, next_refused, table_ended, tabled_walked}
use Rattle.pf_text.proofs.WalkLemmas.{items_walked}
use Rattle.pf_posix.proofs.numbered.numbered_arguments.Goals as goal

pub returns-in_err-add-in-Ok-clause-types : goal.returns-in_err-add-in-Ok-clause-types
returns-in_err-add-in-Ok-clause-types c =
    let t = c.args.at_first.text.now in
    let p = err_from_is_err_and c.from_residual.result c.from_residual.ensures.1 in
    let d = subst (λ u. IsDefinedAt u c.args.at_first.at Undecided (c.in-Ok.read, c.in-Ok.stop)) c.text.ensures c.in-Ok.ensures in
    let m = first_added c.args.model t c.args.at_first.at c.requires.first c.requires.walk.few c.in-Ok.read c.in-Ok.stop d c.new-table.result
    c.new-table.ensures c.add.result c.add.new.self c.add.ensures in
    rw (p.1, p.2) (subst (λ r. MatchResult r (λ _. IsTabledTo c.args.model t c.in-Ok.stop c.add.new.self) (IsRefused c.args.model t)) c.in_err-add-in-Ok.was m)

pub returns-in-Err-clause-types : goal.returns-in-Err-clause-types
returns-in-Err-clause-types c =
    let t = c.args.at_first.text.now in
    first_refused c.args.model t c.args.at_first.at c.requires.first c.requires.walk.few c.in-Err.refused (omega (arith, c.requires.percent.0))
    (subst (λ u. IsRefusedIn u c.args.at_first.at Undecided c.in-Err.refused) c.text.ensures c.in-Err.ensures)

pub loop-model-init : goal.loop-model-init
loop-model-init c =
    let t = c.args.at_first.text.now in
    let d = subst (λ u. IsDefinedAt u c.args.at_first.at Undecided (c.in-Ok.read, c.in-Ok.stop)) c.text.ensures c.in-Ok.ensures in
    let m = first_added c.args.model t c.args.at_first.at c.requires.first c.requires.walk.few c.in-Ok.read c.in-Ok.stop d c.new-table.result
    c.new-table.ensures c.add.result c.add.new.self c.add.ensures in
    record {
      walk = record { few = c.requires.walk.few; runs = c.requires.walk.runs };
      text = refl;
      same = refl;
      tabled = subst (λ r. MatchResult r (λ _. IsTabledTo c.args.model t c.in-Ok.stop c.add.new.self) (IsRefused c.args.model t)) c.in_ok-add-in-Ok.was m;
    }

pub returns-in_err-add-in-Ok-defined_at-clause-types : goal.returns-in_err-add-in-Ok-defined_at-clause-types
returns-in_err-add-in-Ok-defined_at-clause-types c =
    let i = c.loop-model.invariant in
    let here = c.find.new.self in
    let passed = items_walked _ _ _ c.find.ensures.passed in
    let t = here.text.now in
    let read = c.in-Ok-defined_at in
    let p = err_from_is_err_and c.from_residual-in_err-add-in-Ok-defined_at.result c.from_residual-in_err-add-in-Ok-defined_at.ensures.1 in
    let d = subst (λ u. IsDefinedAt u here.at Numbered (read.read, read.stop)) c.text-in-loop-model-2.ensures read.ensures in
    let now = tabled_walked c.args.model c.loop-model.walk here c.loop-model.table passed i.tabled in
    let add = c.add-in-Ok-defined_at in
    let m = next_added c.args.model t here.at c.loop-model.table now passed.walk.few read.read read.stop d add.result add.new.self add.ensures in
    rw (p.1, p.2) (subst (λ u. IsRefused c.args.model u c.in_err-add-in-Ok-defined_at.field-0.0) (passed.text ∙ i.text)
    (subst (λ r. MatchResult r (λ _. IsTabledTo c.args.model t read.stop add.new.self) (IsRefused c.args.model t)) c.in_err-add-in-Ok-defined_at.was m))

pub loop-model-preserved-then-has_errno : goal.loop-model-preserved-then-has_errno
loop-model-preserved-then-has_errno c =
    let i = c.loop-model.invariant in
    let here = c.find.new.self in
    let passed = items_walked _ _ _ c.find.ensures.passed in
    let t = here.text.now in
    let now = tabled_walked c.args.model c.loop-model.walk here c.loop-model.table passed i.tabled in
    record {
      walk = record { few = passed.walk.few; runs = passed.walk.runs };
      text = passed.text ∙ i.text;
      same = i.same;
      tabled = errno_tabled c.args.model t here.at c.loop-model.table now passed.walk.few (c.find.ensures.stopped c.loop-model-test.true).0
          (ap (λ u. get_or u (here.at + 1) 0) (sym c.text-in-loop-model.ensures) ∙ eqb-true _ errno_letter (sym c.if-has_errno.ensures.same));
    }

pub loop-model-preserved : goal.loop-model-preserved
loop-model-preserved c =
    let i = c.loop-model.invariant in
    let here = c.find.new.self in
    let passed = items_walked _ _ _ c.find.ensures.passed in
    let t = here.text.now in
    let read = c.in-Ok-defined_at in
    let d = subst (λ u. IsDefinedAt u here.at Numbered (read.read, read.stop)) c.text-in-loop-model-2.ensures read.ensures in
    let now = tabled_walked c.args.model c.loop-model.walk here c.loop-model.table passed i.tabled in
    let add = c.add-in-Ok-defined_at in
    let m = next_added c.args.model t here.at c.loop-model.table now passed.walk.few read.read read.stop d add.result add.new.self add.ensures in
    record {
      walk = record { few = passed.walk.few; runs = passed.walk.runs };
      text = passed.text ∙ i.text;
      same = i.same;
      tabled = subst (λ r. MatchResult r (λ _. IsTabledTo c.args.model t read.stop add.new.self) (IsRefused c.args.model t)) c.in_ok-add-in-Ok-defined_at.was m;
    }

pub returns-in_err-add_stars-in-Err-defined_at-clause-types : goal.returns-in_err-add_stars-in-Err-defined_at-clause-types
returns-in_err-add_stars-in-Err-defined_at-clause-types c =
    let i = c.loop-model.invariant in
    let here = c.find.new.self in
    let passed = items_walked _ _ _ c.find.ensures.passed in
    let t = here.text.now in
    let refused = c.in-Err-defined_at.refused in
    let p = err_from_is_err_and c.from_residual-in_err-add_stars-in-Err-defined_at.result c.from_residual-in_err-add_stars-in-Err-defined_at.ensures.1 in
    let k = subst (λ u. IsRefusedIn u here.at Numbered refused) c.text-in-loop-model-2.ensures c.in-Err-defined_at.ensures in
    let now = tabled_walked c.args.model c.loop-model.walk here c.loop-model.table passed i.tabled in
    let m = next_refused c.args.model t here.at c.loop-model.table now passed.walk.few refused k c.add_stars.result c.add_stars.new.self c.add_stars.ensures in
    rw (p.1, p.2) (subst (λ u. IsRefused c.args.model u c.in_err-add_stars-in-Err-defined_at.field-0.0) (passed.text ∙ i.text)
    (subst (λ r. MatchResult r (λ _. IsRefused c.args.model t refused.refusal) (IsRefused c.args.model t)) c.in_err-add_stars-in-Err-defined_at.was m))

pub returns-in-Err-defined_at-clause-types : goal.returns-in-Err-defined_at-clause-types
returns-in-Err-defined_at-clause-types c =
    let i = c.loop-model.invariant in
    let here = c.find.new.self in
    let passed = items_walked _ _ _ c.find.ensures.passed in
    let t = here.text.now in
    let refused = c.in-Err-defined_at.refused in
    let k = subst (λ u. IsRefusedIn u here.at Numbered refused) c.text-in-loop-model-2.ensures c.in-Err-defined_at.ensures in
    let now = tabled_walked c.args.model c.loop-model.walk here c.loop-model.table passed i.tabled in
    let m = next_refused c.args.model t here.at c.loop-model.table now passed.walk.few refused k c.add_stars.result c.add_stars.new.self c.add_stars.ensures in
    subst (λ u. IsRefused c.args.model u refused.refusal) (passed.text ∙ i.text)
    (subst (λ r. MatchResult r (λ _. IsRefused c.args.model t refused.refusal) (IsRefused c.args.model t)) c.in_ok-add_stars-in-Err-defined_at.was m)

pub returns-then-walk-text-clause-types : goal.returns-then-walk-text-clause-types
returns-then-walk-text-clause-types c =
    let i = c.loop-model.invariant in
    let here = c.find.new.self in
    let passed = items_walked _ _ _ c.find.ensures.passed in
    let t = here.text.now in
    let now = tabled_walked c.args.model c.loop-model.walk here c.loop-model.table passed i.tabled in
    let ended = table_ended c.args.model t here.at c.loop-model.table now passed.walk.few (omega (arith, c.if-walk-text.true, ap length c.text-2.ensures))
    (c.find.ensures.ended c.loop-model-test.false) in
    subst (IsRefused c.args.model c.args.at_first.text.now) (sym c.refusal_at.ensures)
    (subst (λ u. IsRefused c.args.model c.args.at_first.text.now (end_refusal u here.at)) (sym c.text-then-walk-text.ensures)
    (subst (λ u. IsRefused c.args.model u (end_refusal t here.at)) (passed.text ∙ i.text) ended))

pub returns-in_err-finish-clause-types : goal.returns-in_err-finish-clause-types
returns-in_err-finish-clause-types c =
    let i = c.loop-model.invariant in
    let here = c.find.new.self in
    let passed = items_walked _ _ _ c.find.ensures.passed in
    let t = here.text.now in
    let now = tabled_walked c.args.model c.loop-model.walk here c.loop-model.table passed i.tabled in
    let p = err_from_is_err_and c.from_residual-in_err-finish.result c.from_residual-in_err-finish.ensures.1 in
    let gap = c.in_err-finish.ensures _ now.holds in
    rw (p.1, p.2) (subst (λ u. IsRefused c.args.model u c.in_err-finish.field-0.0) (passed.text ∙ i.text)
    (gap_refused c.args.model t here.at c.loop-model.table now passed.walk.few (omega (arith, c.if-walk-text.false, ap length c.text-2.ensures))
    c.in_err-finish.field-0.0 gap.0 gap.1))

pub returns-clause-types : goal.returns-clause-types
returns-clause-types c =
    let i = c.loop-model.invariant in
    let here = c.find.new.self in
    let passed = items_walked _ _ _ c.find.ensures.passed in
    let t = here.text.now in
    let now = tabled_walked c.args.model c.loop-model.walk here c.loop-model.table passed i.tabled in
    subst (λ u. HasCount c.args.model u c.args.out.now c.copy_front.new.out c.loop-model.table.count) (passed.text ∙ i.text)
    (finished c.args.model t here.at c.loop-model.table now passed.walk.few (omega (arith, c.if-walk-text.false, ap length c.text-2.ensures)) c.args.out.now
    c.copy_front.new.out (c.in_ok-finish.ensures _ now.holds) c.copy_front.ensures.types)
