-- A question has one answer.
use Rattle.std.proofs.Common.{◌≡◌, ◌≢◌, List, [], ◌∷◌, ◌++◌, map, refl, sym, ap, ◌∙◌, subst}
use Rattle.std.specs.Prelude.{Option, Some, None, codes, decimal, flat_map}
use Rattle.std.specs.List.{AllByRecursion, AllZip, concat}
use Rattle.pf_values.specs.declared.models.Model.{Model}
use Rattle.pf_values.specs.meaning.Arguments.{Argument}
use Rattle.pf_values.specs.meaning.Items.{Item, Byte, Directive, Reads, types}
use Rattle.pf_values.specs.meaning.Printing.{PrintsAll}
use Rattle.pf_values.specs.meaning.Text.{Text, percent}
use Rattle.pf_text.specs.History.{IsLiteral}
use Rattle.pf_text.proofs.LiteralLemmas.{read_literal}
use Rattle.pf_text.proofs.Texts.{Reads-unique}
use Rattle.pf_literals.proofs.Unique.{one_source}
use Rattle.pf_bounds.proofs.BoundsLemmas.{bounds_once}
use Rattle.pf_compare.specs.Owned.{argument_of_owned}
use Rattle.pf_compare.specs.Words.{argument_word}
use Rattle.pf_compare.specs.declared.owned_args.OwnedArg.{OwnedArg}
use Rattle.pf_posix.proofs.DifferenceLemmas.{compares_once, fewer_once}
use Rattle.pf_posix.proofs.Unique.{one_list}
use Rattle.pf_probes.proofs.Unique.{one_canonical}
use Rattle.pf_whole.specs.Answers as answers
use Rattle.pf_whole.specs.Comparisons.{IsComparison, shown_as, verdict_of}
use Rattle.pf_whole.specs.declared.verdicts.WholeVerdict.{WholeVerdict}
use Rattle.pf_whole.specs.declared.verdicts.WholeVerdict.TheVariants as verdicts
use Rattle.pf_whole.proofs.OneVerdict.{one_verdict}
use Rattle.pf_whole.proofs.ProfileVerdicts.{profile_is}
use Rattle.pf_whole.proofs.SomeCanonical.{one_whole_canonical}
use Rattle.fmtcanon.specs.declared.answer.Ending.{Ending}
use Rattle.fmtcanon.specs.declared.answer.Ending.TheVariants as endings
use Rattle.fmtcanon.specs.declared.formats.GivenFormat.{GivenFormat}
use Rattle.fmtcanon.specs.declared.formats.FormatNotation.{FormatNotation}
use Rattle.fmtcanon.specs.declared.formats.FormatNotation.TheVariants.{Bytes, Literals}
use Rattle.fmtcanon.specs.declared.models.Models.{Models}
use Rattle.fmtcanon.specs.declared.models.Models.TheVariants as models
use Rattle.fmtcanon.specs.declared.questions.FormatQuestion.{FormatQuestion}
use Rattle.fmtcanon.specs.declared.questions.FormatQuestion.TheVariants.{Types, WholeTypes, Canonical, WholeCanonical, Parts, Bounds}
use Rattle.fmtcanon.specs.declared.questions.OneQuestion.{OneQuestion}
use Rattle.fmtcanon.specs.declared.questions.OneQuestion.TheVariants.{Any, Printed}
use Rattle.fmtcanon.specs.declared.questions.PairQuestion.{PairQuestion}
use Rattle.fmtcanon.specs.declared.questions.PairQuestion.TheVariants.{Fits, FitsFewer, Same, WholeSame}
use Rattle.fmtcanon.specs.declared.questions.Question.{Question}
use Rattle.fmtcanon.specs.declared.questions.Question.TheVariants.{One, Two}
use Rattle.fmtcanon.specs.Answers.{HasAnswer, HasOneAnswer, IsAnswer}
use Rattle.fmtcanon.specs.ArgumentLines.{argument_line, fit_ending, fit_line}
use Rattle.fmtcanon.specs.ByteCounts.{bounds_line}
use Rattle.fmtcanon.specs.Comparisons.{IsVerdictAnswer, ending_of, shown_line, verdict_lines}
use Rattle.fmtcanon.specs.FormatArguments.{SpellArguments}
use Rattle.fmtcanon.specs.Formats.{HoldsFormat, IsFormat, written_in}
use Rattle.fmtcanon.specs.Lines.{line}
use Rattle.fmtcanon.specs.Models.{asked_models, model_name}
use Rattle.fmtcanon.specs.PairAnswers.{IsAnswerIn, IsAnswerInEach, IsPairAnswer, ending_with}
use Rattle.fmtcanon.specs.Shows.{BeginsNoRun, HasShownLines, IsLineOf, IsShownAs, Percent, Run, Shown, Specified, reduced_line}
use Rattle.fmtcanon.specs.TypeLines.{type_line}
use Rattle.fmtcanon.proofs.ArgumentWordLemmas.{spells_one}

-- the bytes of a format
one_format : (given : GivenFormat) (bytes others : Text) → IsFormat given bytes → IsFormat given others → bytes ≡ others
one_format given bytes others h g = go given.notation h g where
  go : (notation : FormatNotation) → HoldsFormat notation given.text.now bytes → HoldsFormat notation given.text.now others → bytes ≡ others
  go Bytes h g = h ∙ sym g
  go Literals h g = one_source given.text.now bytes others h g

-- the items of what has a line
abbrev shown_items : List Shown → List Item
shown_items [] = []
shown_items (Run bytes ∷ xs) = map Byte bytes ++ shown_items xs
shown_items (Percent ∷ xs) = Byte percent ∷ shown_items xs
shown_items (Specified s ∷ xs) = Directive s ∷ shown_items xs

reads_run : (bytes rest : Text) (items : List Item) → AllByRecursion IsLiteral bytes → Reads rest items → Reads (bytes ++ rest) (map Byte bytes ++ items)
reads_run [] rest items h reads = reads
reads_run (byte ∷ bytes) rest items h reads = (byte ∷ [], bytes ++ rest, read_literal byte h.0, reads_run bytes rest items h.1 reads, refl)

shown_reads : (xs : List Shown) (t : Text) → IsShownAs t xs → Reads t (shown_items xs)
shown_reads [] t h = h
shown_reads (Run bytes ∷ xs) t h =
    subst (λ u. Reads u (map Byte bytes ++ shown_items xs)) (sym h.4) (reads_run bytes h.2 (shown_items xs) h.1 (shown_reads xs h.2 h.3))
shown_reads (Percent ∷ xs) t h = (percent ∷ percent ∷ [], h.0, refl, shown_reads xs h.0 h.1, h.2)
shown_reads (Specified s ∷ xs) t h = (h.0, h.1, (h.2, h.3), shown_reads xs h.1 h.4, h.5)

-- no literal byte comes first
abbrev BeginsNoByte : List Item → Type 0
BeginsNoByte [] = Unit {0}
BeginsNoByte (Byte byte ∷ items) = ¬ IsLiteral byte
BeginsNoByte (Directive s ∷ items) = Unit {0}

-- literal bytes are in longest runs
abbrev AreRuns : List Shown → Type 0
AreRuns [] = Unit {0}
AreRuns (Run bytes ∷ xs) = (bytes ≢ []) × AllByRecursion IsLiteral bytes × BeginsNoByte (shown_items xs) × AreRuns xs
AreRuns (Percent ∷ xs) = AreRuns xs
AreRuns (Specified s ∷ xs) = AreRuns xs

no_byte : (xs : List Shown) (t : Text) → IsShownAs t xs → BeginsNoRun t → BeginsNoByte (shown_items xs)
no_byte [] t h none = tt
no_byte (Run [] ∷ xs) t h none = absurd (h.0 refl)
no_byte (Run (byte ∷ bytes) ∷ xs) t h none = subst BeginsNoRun h.4 none
no_byte (Percent ∷ xs) t h none = λ literal. literal.0 refl
no_byte (Specified s ∷ xs) t h none = tt

are_runs : (xs : List Shown) (t : Text) → IsShownAs t xs → AreRuns xs
are_runs [] t h = tt
are_runs (Run bytes ∷ xs) t h = (h.0, h.1, no_byte xs h.2 h.3 h.5, are_runs xs h.2 h.3)
are_runs (Percent ∷ xs) t h = are_runs xs h.0 h.1
are_runs (Specified s ∷ xs) t h = are_runs xs h.1 h.4

one_run : (bytes others : Text) (items more : List Item) → AllByRecursion IsLiteral bytes → AllByRecursion IsLiteral others → BeginsNoByte items
    → BeginsNoByte more → map Byte bytes ++ items ≡ map Byte others ++ more → (bytes ≡ others) × (items ≡ more)
one_run [] [] items more h g free none e = (refl, e)
one_run [] (byte ∷ others) items more h g free none e = absurd (subst BeginsNoByte e free g.0)
one_run (byte ∷ bytes) [] items more h g free none e = absurd (subst BeginsNoByte (sym e) none h.0)
one_run (byte ∷ bytes) (other ∷ others) items more h g free none e =
    let first : byte ≡ other = cc in
    let behind : map Byte bytes ++ items ≡ map Byte others ++ more = cc in
    let same = one_run bytes others items more h.1 g.1 free none behind in
    (ap (λ b. b ∷ bytes) first ∙ ap (λ l. other ∷ l) same.0, same.1)

one_shown : (xs ys : List Shown) → AreRuns xs → AreRuns ys → shown_items xs ≡ shown_items ys → xs ≡ ys
one_shown [] [] h g e = refl
one_shown [] (Run [] ∷ ys) h g e = absurd (g.0 refl)
one_shown [] (Run (byte ∷ bytes) ∷ ys) h g e = cc
one_shown [] (Percent ∷ ys) h g e = cc
one_shown [] (Specified s ∷ ys) h g e = cc
one_shown (Run [] ∷ xs) ys h g e = absurd (h.0 refl)
one_shown (Run (byte ∷ bytes) ∷ xs) [] h g e = cc
one_shown (Run (byte ∷ bytes) ∷ xs) (Run others ∷ ys) h g e =
    let same = one_run (byte ∷ bytes) others (shown_items xs) (shown_items ys) h.1 g.1 h.2 g.2 e in
    ap (λ l. Run l ∷ xs) same.0 ∙ ap (λ l. Run others ∷ l) (one_shown xs ys h.3 g.3 same.1)
one_shown (Run (byte ∷ bytes) ∷ xs) (Percent ∷ ys) h g e = let same : byte ≡ percent = cc in absurd (h.1.0.0 same)
one_shown (Run (byte ∷ bytes) ∷ xs) (Specified s ∷ ys) h g e = cc
one_shown (Percent ∷ xs) [] h g e = cc
one_shown (Percent ∷ xs) (Run [] ∷ ys) h g e = absurd (g.0 refl)
one_shown (Percent ∷ xs) (Run (byte ∷ bytes) ∷ ys) h g e = let same : percent ≡ byte = cc in absurd (g.1.0.0 (sym same))
one_shown (Percent ∷ xs) (Percent ∷ ys) h g e = let behind : shown_items xs ≡ shown_items ys = cc in ap (λ l. Percent ∷ l) (one_shown xs ys h g behind)
one_shown (Percent ∷ xs) (Specified s ∷ ys) h g e = cc
one_shown (Specified s ∷ xs) [] h g e = cc
one_shown (Specified s ∷ xs) (Run [] ∷ ys) h g e = absurd (g.0 refl)
one_shown (Specified s ∷ xs) (Run (byte ∷ bytes) ∷ ys) h g e = cc
one_shown (Specified s ∷ xs) (Percent ∷ ys) h g e = cc
one_shown (Specified s ∷ xs) (Specified p ∷ ys) h g e =
    let first : s ≡ p = cc in
    let behind : shown_items xs ≡ shown_items ys = cc in
    ap (λ x. Specified x ∷ xs) first ∙ ap (λ l. Specified p ∷ l) (one_shown xs ys h g behind)

-- the lines of what is shown
one_line : (model : Model) (x : Shown) (out other : Text) → IsLineOf model x out → IsLineOf model x other → out ≡ other
one_line model (Run bytes) out other h g = h ∙ sym g
one_line model Percent out other h g = h ∙ sym g
one_line model (Specified s) out other h g = h.3 ∙ ap (reduced_line model s) (sym (h.2 g.0 g.1)) ∙ sym g.3

one_lines : (model : Model) (xs : List Shown) (parts others : List Text) → AllZip (IsLineOf model) xs parts → AllZip (IsLineOf model) xs others
    → parts ≡ others
one_lines model [] [] [] h g = refl
one_lines model [] [] (other ∷ others) h g = absurd g
one_lines model [] (part ∷ parts) others h g = absurd h
one_lines model (x ∷ xs) [] others h g = absurd h
one_lines model (x ∷ xs) (part ∷ parts) [] h g = absurd g
one_lines model (x ∷ xs) (part ∷ parts) (other ∷ others) h g =
    ap (λ l. l ∷ parts) (one_line model x part other h.0 g.0) ∙ ap (λ l. other ∷ l) (one_lines model xs parts others h.1 g.1)

shown_once : (model : Model) (format out other : Text) → HasShownLines model format out → HasShownLines model format other → out ≡ other
shown_once model format out other h g =
    let same = one_shown g.shown h.shown (are_runs g.shown format g.cut) (are_runs h.shown format h.cut)
    (Reads-unique format (shown_items g.shown) (shown_items h.shown) (shown_reads g.shown format g.cut) (shown_reads h.shown format h.cut)) in
    h.whole ∙ ap concat (one_lines model h.shown h.parts g.parts h.each (subst (λ xs. AllZip (IsLineOf model) xs g.parts) same g.each)) ∙ sym g.whole

-- what is answered about the bytes of one format
one_text : (question : FormatQuestion) (notation : FormatNotation) (model : Model) (bytes out other : Text) → HasAnswer question notation model bytes out
    → HasAnswer question notation model bytes other → out ≡ other
one_text Types notation model bytes out other h g =
    h.2 ∙ ap (λ items. flat_map type_line (types model items)) (Reads-unique bytes h.0 g.0 h.1.reads g.1.reads) ∙ sym g.2
one_text WholeTypes notation model bytes out other h g = h.2 ∙ ap (flat_map argument_line) (one_list model bytes h.0 g.0 h.1 g.1) ∙ sym g.2
one_text Canonical notation model bytes out other h g =
    h.2 ∙ ap (λ c. line (written_in notation c)) (one_canonical model bytes h.0 g.0 h.1.canonical_is g.1.canonical_is) ∙ sym g.2
one_text WholeCanonical notation model bytes out other h g =
    h.2 ∙ ap (λ c. line (written_in notation c)) (one_whole_canonical model bytes h.0 g.0 h.1 g.1) ∙ sym g.2
one_text Parts notation model bytes out other h g = shown_once model bytes out other h g
one_text Bounds notation model bytes out other h g =
    let same = bounds_once model bytes h.0 g.0 h.1 g.1 h.2 g.2 in
    h.3 ∙ ap (λ n. bounds_line n h.1) same.0 ∙ ap (bounds_line g.0) same.1 ∙ sym g.3

one_spelled : (words : List Text) (arguments others : List Argument) → SpellArguments words arguments → SpellArguments words others → arguments ≡ others
one_spelled [] [] [] h g = refl
one_spelled [] [] (other ∷ others) h g = absurd g
one_spelled [] (argument ∷ arguments) others h g = absurd h
one_spelled (word ∷ words) [] others h g = absurd h
one_spelled (word ∷ words) (argument ∷ arguments) [] h g = absurd g
one_spelled (word ∷ words) (argument ∷ arguments) (other ∷ others) h g =
    ap (λ a. a ∷ arguments) (spells_one word argument other h.0 g.0) ∙ ap (λ l. other ∷ l) (one_spelled words arguments others h.1 g.1)

one_about : (question : OneQuestion) (notation : FormatNotation) (model : Model) (bytes out other : Text) → HasOneAnswer question notation model bytes out
    → HasOneAnswer question notation model bytes other → out ≡ other
one_about (Any question) notation model bytes out other h g = one_text question notation model bytes out other h g
one_about (Printed words) notation model bytes out other h g =
    let items = Reads-unique bytes h.items g.items h.given.accepted.reads g.given.accepted.reads in
    let arguments = one_spelled (map (λ s. s.now) words.items) h.arguments g.arguments h.given.spelled g.given.spelled in
    g.only out (subst (λ xs. PrintsAll model xs g.arguments out) items (subst (λ xs. PrintsAll model h.items xs out) arguments h.prints))

-- what is written for a verdict
abbrev shown_word : Option Argument → Text
shown_word None = line (codes "any")
shown_word (Some argument) = line (argument_word argument)

abbrev lines_for : answers.WholeVerdict → Text
lines_for answers.Same = line (codes "same")
lines_for (answers.TypesDiffer index) = line (codes "types differ at argument " ++ decimal index)
lines_for (answers.DirectivesDiffer index) = line (codes "directives differ at argument " ++ decimal index)
lines_for (answers.Different shown) = line (codes "different") ++ flat_map shown_word shown

abbrev ends_for : answers.WholeVerdict → Ending
ends_for answers.Same = endings.Same
ends_for (answers.TypesDiffer index) = endings.Different
ends_for (answers.DirectivesDiffer index) = endings.Different
ends_for (answers.Different shown) = endings.Different

shown_words : (shown : List (Option OwnedArg)) → flat_map shown_line shown ≡ flat_map shown_word (shown_as shown)
shown_words [] = refl
shown_words (None ∷ shown) = ap (λ t. line (codes "any") ++ t) (shown_words shown)
shown_words (Some arg ∷ shown) = ap (λ t. line (argument_word (argument_of_owned arg)) ++ t) (shown_words shown)

lines_are : (verdict : WholeVerdict) → verdict_lines verdict ≡ lines_for (verdict_of verdict)
lines_are verdicts.Same = refl
lines_are (verdicts.Types index) = refl
lines_are (verdicts.Directives index) = refl
lines_are (verdicts.Args shown) = ap (λ t. line (codes "different") ++ t) (shown_words shown.items)

ends_are : (verdict : WholeVerdict) → ending_of verdict ≡ ends_for (verdict_of verdict)
ends_are verdicts.Same = refl
ends_are (verdicts.Types index) = refl
ends_are (verdicts.Directives index) = refl
ends_are (verdicts.Args shown) = refl

one_compared : (model : Model) (first second : Text) (verdict other : WholeVerdict) (out lines : Text) (ending end : Ending)
    → IsComparison model first second verdict → IsComparison model first second other → IsVerdictAnswer verdict out ending
    → IsVerdictAnswer other lines end → (out ≡ lines) × (ending ≡ end)
one_compared model first second verdict other out lines ending end h g said also =
    let same = one_verdict model first second (verdict_of verdict) (verdict_of other) h.is g.is in (
      said.lines ∙ lines_are verdict ∙ ap lines_for same ∙ sym (lines_are other) ∙ sym also.lines,
      said.ends ∙ ends_are verdict ∙ ap ends_for same ∙ sym (ends_are other) ∙ sym also.ends,
    )

-- what is answered about two, in one data model and in several
one_pair : (question : PairQuestion) (model : Model) (first second out other : Text) (ending end : Ending) → IsPairAnswer question model first second out ending
    → IsPairAnswer question model first second other end → (out ≡ other) × (ending ≡ end)
one_pair Fits model first second out other ending end h g =
    let same = compares_once model first second h.index g.index h.compares g.compares in
    (h.is_line ∙ ap fit_line same ∙ sym g.is_line, h.ends ∙ ap fit_ending same ∙ sym g.ends)
one_pair FitsFewer model first second out other ending end h g =
    let same = fewer_once model first second h.index g.index h.compares g.compares in
    (h.is_line ∙ ap fit_line same ∙ sym g.is_line, h.ends ∙ ap fit_ending same ∙ sym g.ends)
one_pair Same model first second out other ending end (verdict, renderings, h, said) (found, tried, g, also) =
    one_compared model first second verdict found out other ending end (profile_is model first second h.0 h.1 verdict h.2)
    (profile_is model first second g.0 g.1 found g.2) said also
one_pair WholeSame model first second out other ending end (verdict, h, said) (found, g, also) =
    one_compared model first second verdict found out other ending end h g said also

module _ (Is : Model → Text → Ending → Type 0)
    (once : (model : Model) (out other : Text) (ending end : Ending) → Is model out ending → Is model other end → (out ≡ other) × (ending ≡ end)) where
  one_in_each : (asked : List Model) (out other : Text) (ending end : Ending) → IsAnswerInEach Is asked out ending → IsAnswerInEach Is asked other end
      → (out ≡ other) × (ending ≡ end)
  one_in_each [] out other ending end h g = (h.0 ∙ sym g.0, h.1 ∙ sym g.1)
  one_in_each (model ∷ asked) out other ending end (lines, others, ends, last, h, more, whole, is) (texts, rest, found, tail, g, behind, full, also) =
      let here = once model lines texts ends found h g in
      let back = one_in_each asked others rest last tail more behind in (
        whole ∙ ap (λ t. line (model_name model) ++ t ++ others) here.0 ∙ ap (λ t. line (model_name model) ++ texts ++ t) back.0 ∙ sym full,
        is ∙ ap (λ e. ending_with e last) here.1 ∙ ap (ending_with found) back.1 ∙ sym also,
      )

  one_in : (asked : Models) (out other : Text) (ending end : Ending) → IsAnswerIn Is asked out ending → IsAnswerIn Is asked other end
      → (out ≡ other) × (ending ≡ end)
  one_in (models.One model) out other ending end h g = once model out other ending end h g
  one_in models.Both out other ending end h g = one_in_each (asked_models models.Both) out other ending end h g
  one_in models.All out other ending end h g = one_in_each (asked_models models.All) out other ending end h g

pub one_answer : (question : Question) (out other : Text) (ending end : Ending) → IsAnswer question out ending → IsAnswer question other end
    → (out ≡ other) × (ending ≡ end)
one_answer (One question model format) out other ending end h g =
    let same = one_format format g.0 h.0 g.1 h.1 in (
      one_about question format.notation model h.0 out other h.2 (subst (λ b. HasOneAnswer question format.notation model b other) same g.2),
      h.3 ∙ sym g.3,
    )
one_answer (Two question asked first second) out other ending end h g =
    let one = one_format first g.0 h.0 g.2 h.2 in
    let two = one_format second g.1 h.1 g.3 h.3 in
    one_in (λ model. IsPairAnswer question model h.0 h.1) (λ model a b e f. one_pair question model h.0 h.1 a b e f) asked out other ending end h.4
    (subst (λ t. IsAnswerIn (λ model. IsPairAnswer question model h.0 t) asked other end) two
    (subst (λ t. IsAnswerIn (λ model. IsPairAnswer question model t g.1) asked other end) one g.4))
