-- Conversion specifications as records. This project's own.
use Rattle.std.specs.Prelude.{ℕ, Option, Some, None}
use Rattle.pf_posix.specs.declared.directive_spans.DirectiveSpan.{DirectiveSpan}
use Rattle.pf_posix.specs.TypeNumbers.{number_of_type}
use Rattle.fmtcanon_c.specs.declared.directives.CDirective.{CDirective}
use Rattle.fmtcanon_c.specs.declared.directives.TheConstants.{NO_ARGUMENT}

-- the index of an argument, or the number for none
abbrev pub index_or_none : Option ℕ → ℕ
index_or_none None = NO_ARGUMENT
index_or_none (Some index) = index

-- the record of a specification
abbrev pub record_of : DirectiveSpan → CDirective
record_of d = record {
  begin = d.begin;
  end = d.end;
  argument = d.argument;
  width_argument = index_or_none d.width_argument;
  precision_argument = index_or_none d.precision_argument;
  kind = number_of_type d.kind;
}
