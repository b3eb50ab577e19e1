use Rattle.std.proofs.Common.{◌≡◌, ◌∙◌, ◌++◌, ap, arith, drop, subst, sym, take}
use Rattle.std.proofs.lemmas.List.{take_rest}
use Rattle.pf_canon.specs.Output.{pending_text}
use Rattle.pf_canon.specs.CanonicalSlices.{SlicesHaveGivenBy, pending_of}
use Rattle.pf_canon.proofs.SliceLemmas.{drop_both, some_given}
use Rattle.pf_canon.proofs.canonical_slices.CanonicalSlices.skip.Goals as goal

pub returns-clause-given : goal.returns-clause-given
returns-clause-given g c model text given h =
    let w = c.args.self.now in
    let n = c.args.count in
    let first = c.min-first.result in
    let now = given ++ take n (pending_of w) in
    let left : drop n (pending_of w) ≡ drop first w.bytes.now ++ pending_text c.skip.new.self = sym
    (ap (λ t. drop first w.bytes.now ++ t) c.skip.ensures ∙ drop_both n first w.bytes.now (pending_text w.output) (omega (arith, c.min-first.ensures))) in
    record {
      model_is = h.model_is;
      text_is = h.text_is;
      by = rw take_rest (subst (SlicesHaveGivenBy w.end g.L.Language.has_front g.L.Language.refuses model w.walk w.held text)
          (some_given given (pending_of w) n ∙ ap (λ t. now ++ t) left) h.by);
    }
