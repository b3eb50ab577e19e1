use Rattle.std.proofs.Common.{◌≡◌, ◌≢◌, ◌∙◌, Option, Some, ap, codes, length, subst}
use Rattle.std.specs.Prelude.{MatchOption}
use Rattle.pf_values.specs.meaning.Text.{Text}
use Rattle.fmtcanon.specs.Questions.{IsAbout, formats_wanted}
use Rattle.fmtcanon.specs.Options.{rows_in}
use Rattle.fmtcanon.proofs.TaskLemmas.{formats_are, none_there, none_wanted}
use Rattle.fmtcanon.proofs.command_line.ModelLemmas.{value_of_row}
use Rattle.fmtcanon.proofs.task.question_in.Goals as goal

abbrev same : Option Text → Option Text
same o = o

pub returns-in_default : goal.returns-in_default
returns-in_default c =
    let none = none_there (rows_in c.args.inner.now) (value_of_row same (codes "F") c.args.inner.now c.get_str.result _ c.get_str.ensures c.in_default.is) in
    λ e. none_wanted c.args.asked (subst (λ formats. length formats ≡ formats_wanted c.args.asked) none e)

pub returns-in-None : goal.returns-in-None
returns-in-None c =
    let inner = c.args.inner.now in
    let first = ap (λ t. Some t) c.as_bytes.ensures.value ∙ value_of_row same (codes "F") inner c.get_str.result _ c.get_str.ensures c.in-Some.is in
    let second = value_of_row same (codes "G") inner c.get_str-2.result _ c.get_str-2.ensures c.in-None.is in
    subst (λ formats. MatchOption c.about.result (length formats ≢ formats_wanted c.args.asked) (λ question. IsAbout question c.args.asked formats))
    (formats_are (rows_in inner) _ _ first second) c.about.ensures

pub returns-in-Some-get_str : goal.returns-in-Some-get_str
returns-in-Some-get_str c =
    let inner = c.args.inner.now in
    let first = ap (λ t. Some t) c.as_bytes-in-Some-get_str.ensures.value ∙ value_of_row same (codes "F") inner c.get_str.result _ c.get_str.ensures
    c.in-Some.is in
    let second = ap (λ t. Some t) c.as_bytes-in-Some-get_str-2.ensures.value ∙ value_of_row same (codes "G") inner c.get_str-2.result _
    c.get_str-2.ensures c.in-Some-get_str.is in
    subst (λ formats. MatchOption c.about-in-Some-get_str.result (length formats ≢ formats_wanted c.args.asked)
    (λ question. IsAbout question c.args.asked formats)) (formats_are (rows_in inner) _ _ first second) c.about-in-Some-get_str.ensures
