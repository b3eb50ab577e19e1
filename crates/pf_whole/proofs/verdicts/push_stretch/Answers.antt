use Rattle.std.proofs.Common.{[], append-nil, rules, refl, subst, sym}
use Rattle.std.proofs.lemmas.Result.{IfOk-weaker}
use Rattle.pf_values.specs.meaning.Items.{types}
use Rattle.pf_compare.specs.Witnesses.{AreNeutral}
use Rattle.pf_compare.proofs.WitnessLemmas.{added_some}
use Rattle.pf_whole.proofs.CountLemmas.{no_items}
use Rattle.pf_whole.proofs.verdicts.push_stretch.Goals as goal

pub returns-then-is_empty : goal.returns-then-is_empty
returns-then-is_empty c = λ items reads. (
  [],
  subst (λ l. AreNeutral (types c.args.model l) []) (sym (no_items c.args.text.now items reads (search rules))) (record { args_are = refl; types_are = refl }),
  sym (append-nil c.args.shown.now.items),
)

pub returns : goal.returns
returns c = IfOk-weaker c.push_neutrals.result _ _
    (λ _ h items reads. added_some (AreNeutral (types c.args.model items)) c.args.shown.now.items c.push_neutrals.new.args.items (h items reads))
    c.push_neutrals.ensures.added
