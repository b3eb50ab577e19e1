-- Whole directives at the front of what follows.
use Rattle.std.proofs.Common.{◌≡◌, [], ◌∷◌, sym, subst}
use Rattle.pf_values.specs.declared.conversions.Conv.{Conv}
use Rattle.pf_values.specs.meaning.Conversions.{conv_letter}
use Rattle.pf_values.specs.meaning.Items.{Directive, IsReadAs}
use Rattle.pf_values.specs.meaning.Specification.{Specification}
use Rattle.pf_values.specs.meaning.Text.{percent}
use Rattle.pf_text.proofs.CanonicalRunLemmas.{bare, conv_defined}
use Rattle.pf_text.proofs.ReadBack.{spelled_read}

-- what is spelled by its conversion alone
pub conv_read : (conv : Conv) (d : Specification) → d ≡ bare conv → IsReadAs (percent ∷ conv_letter conv ∷ []) (Directive d)
conv_read conv d e = subst (λ s. IsReadAs (percent ∷ conv_letter conv ∷ []) (Directive s)) (sym e)
    (spelled_read (bare conv) (conv_defined conv), conv_defined conv)
