-- A normal directive, and the data model in which it is normal. This project's own.
use Rattle.pf_values.specs.declared.models.Model.{Model}
use Rattle.pf_values.specs.meaning.Specification.{Specification}

pub record NormalDirective : Type 0 where
  pub model : Model
  pub specification : Specification
