-- What a clause sees of a reader that fails in the middle. This project's own.
use Rattle.std.specs.Prelude.{ℕ, length, min, Option}
use Rattle.std.specs.declared.io.ErrorKind.{ErrorKind}
use Rattle.pf_values.specs.FaultPlaces.{up_to_fault}
use Rattle.pf_values.specs.meaning.Text.{Text}
use Rattle.pf_values.specs.declared.devices.feed.Feed.{Feed}

-- the bytes that it still hands out
abbrev pub rest_of : Feed → Text
rest_of feed = feed.rest.now

-- how many bytes a call hands out at most
abbrev pub step_of : Feed → ℕ
step_of feed = feed.step

-- after how many bytes a call fails
abbrev pub fault_of : Feed → Option ℕ
fault_of feed = feed.before_fault

-- the kind of error with which it fails
abbrev pub error_kind_of : Feed → ErrorKind
error_kind_of feed = feed.kind

-- how many bytes a call hands out that doesn't fail, with so much room
abbrev pub next_count : Feed → ℕ → ℕ
next_count feed room =
    up_to_fault (fault_of feed) (min (min (length (rest_of feed)) (step_of feed)) room)
