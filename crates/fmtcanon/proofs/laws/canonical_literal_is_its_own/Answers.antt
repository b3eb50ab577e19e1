use Rattle.std.proofs.Common.{sym, subst}
use Rattle.pf_literals.specs.Sources.{IsSourceOf}
use Rattle.pf_literals.proofs.EncodingReadLemmas.{encoding_read}
use Rattle.pf_probes.proofs.Unique.{own_canonical}
use Rattle.fmtcanon.proofs.laws.canonical_literal_is_its_own.Goals as goal

pub returns : goal.returns
returns c = λ model t literal h. record {
  bytes = h.canonical;
  canonical = h.canonical;
  gives = subst (λ l. IsSourceOf l h.canonical) (sym h.literal_is) (encoding_read h.canonical h.nonzero);
  canonical_is = own_canonical model h.canonical h.canonical_is.canonical;
  nonzero = h.nonzero;
  literal_is = h.literal_is;
}
