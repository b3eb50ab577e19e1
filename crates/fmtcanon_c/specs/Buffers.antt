-- What is put into a caller's buffer. This project's own.
use Rattle.std.specs.Prelude.{List, ◌++◌, length, drop, leb, if◌then◌else◌}

-- elements at the front of a buffer that has room for them; any other is left as it is
abbrev pub put : {X : Type 0} → List X → List X → List X
put elements out =
    if leb (length elements) (length out) then elements ++ drop (length elements) out else out
