-- Arguments of the whole language.
use Rattle.std.specs.Prelude.{Option, Some, None, List, ⊤}
use Rattle.std.specs.List.{AllZip}
use Rattle.pf_values.specs.declared.models.Model.{Model}
use Rattle.pf_values.specs.declared.types.ArgType.{ArgType}
use Rattle.pf_values.specs.meaning.Arguments.{Argument, HasType}
use Rattle.pf_values.specs.meaning.Text.{Text}
use Rattle.pf_posix.specs.declared.types.WholeArgType.{WholeArgType}
use Rattle.pf_posix.specs.declared.types.WholeArgType.TheVariants.{Profile}

-- An argument of a type of the profile is known. Any other is represented by bytes (C11 6.2.6.1 p4),
-- and no definition depends on which bytes represent which value.
pub data WholeArgument : Type 0 where
  Known : (argument : Argument) → WholeArgument
  Other : (representation : Text) → WholeArgument

-- The type of the profile that this is, or none.
abbrev pub narrowed : WholeArgType → Option ArgType
narrowed (Profile type) = Some type
narrowed _ = None

-- A known argument has its type of the profile. Any bytes are an argument of any other type.
abbrev pub HasNarrowedType : Model → WholeArgument → Option ArgType → Type 0
HasNarrowedType model (Known argument) (Some type) = HasType model argument type
HasNarrowedType model (Known argument) None = ⊥
HasNarrowedType model (Other representation) (Some type) = ⊥
HasNarrowedType model (Other representation) None = ⊤

-- The argument has the type that a directive expects. Any other is undefined (C11 7.21.6.1 p9).
abbrev pub HasWholeType : Model → WholeArgument → WholeArgType → Type 0
HasWholeType model argument type = HasNarrowedType model argument (narrowed type)

-- There is one argument for each type, in order. Too few are undefined (C11 7.21.6.1 p2). The
-- standard ignores arguments that are left over; this project doesn't accept them.
abbrev pub HasWholeTypes : Model → List WholeArgument → List WholeArgType → Type 0
HasWholeTypes model args types = AllZip (HasWholeType model) args types
