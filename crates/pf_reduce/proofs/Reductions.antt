-- Each defined directive has a reduction, also where no code makes it.
use Rattle.std.proofs.Common.{◌≡◌, refl, ap}
use Rattle.pf_values.specs.declared.conversions.Conv.{Conv}
use Rattle.pf_values.specs.declared.conversions.Conv.TheVariants.{D, I, U, O, X, UpperX, B, C, S}
use Rattle.pf_values.specs.declared.models.Model.{Model}
use Rattle.pf_values.specs.meaning.Conversions.{is_signed, is_text}
use Rattle.pf_values.specs.meaning.Defined.{IsDefined}
use Rattle.pf_values.specs.meaning.Specification.{Specification}
use Rattle.pf_reduce.proofs.Carried.{Reduction}
use Rattle.pf_reduce.proofs.SignedReductions.{signed_reduction}
use Rattle.pf_reduce.proofs.TextReductions.{char_reduction, string_reduction}
use Rattle.pf_reduce.proofs.UnsignedReductions.{unsigned}

pub reduction : (model : Model) (s : Specification) → IsDefined s → Reduction model s
reduction model s defined = by_conv s.conv refl
  where
    by_conv : (conv : Conv) → s.conv ≡ conv → Reduction model s
    by_conv D e = signed_reduction model s defined (ap is_signed e)
    by_conv I e = signed_reduction model s defined (ap is_signed e)
    by_conv C e = char_reduction model s defined e
    by_conv S e = string_reduction model s defined e
    by_conv U e = unsigned model s defined (ap is_text e) (ap is_signed e)
    by_conv O e = unsigned model s defined (ap is_text e) (ap is_signed e)
    by_conv X e = unsigned model s defined (ap is_text e) (ap is_signed e)
    by_conv UpperX e = unsigned model s defined (ap is_text e) (ap is_signed e)
    by_conv B e = unsigned model s defined (ap is_text e) (ap is_signed e)
