-- The value of an argument of a C program.
use Rattle.std.proofs.Common.{◌≡◌, ◌∙◌, ap, sym, ℤ, Option, Some, None}
use Rattle.std.specs.Prelude.{MatchOption}
use Rattle.pf_values.specs.declared.types.ArgType.{ArgType}
use Rattle.pf_values.specs.meaning.Arguments.{Argument, Number, String}
use Rattle.pf_values.specs.meaning.Text.{Text}
use Rattle.fmtcanon_c.specs.declared.arguments.CArgument.{CArgument}
use Rattle.fmtcanon_c.specs.Arguments.{type_with_number, value_from, value_in_c, value_or_string}

module _ (arg : CArgument) (r : Option ArgType) (is : r ≡ type_with_number arg.kind) where
  pub value_of_type : (own : ArgType) → r ≡ Some own → value_in_c arg ≡ value_from own arg.number arg.string.now
  value_of_type own some = ap (λ o. value_or_string o arg.number arg.string.now) (sym is ∙ some)

  pub value_of_none : r ≡ None → value_in_c arg ≡ String arg.string.now
  value_of_none none = ap (λ o. value_or_string o arg.number arg.string.now) (sym is ∙ none)

pub same_number : (number : Option ℤ) (v w : Argument) (bytes : Text) → w ≡ v → MatchOption number (v ≡ String bytes) (λ n. v ≡ Number n)
    → MatchOption number ((x : Text) × (w ≡ String x)) (λ n. w ≡ Number n)
same_number None v w bytes same h = (bytes, same ∙ h)
same_number (Some n) v w bytes same h = same ∙ h
