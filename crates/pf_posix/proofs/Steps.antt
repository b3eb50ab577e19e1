-- What was read of a specification, if more of it may follow, and what one more byte makes of it: a device of the
-- proofs. The parts come in the order of C11 7.21.6.1 p4, and numbers as POSIX fprintf has them.
use Rattle.std.specs.Prelude.{◌≡◌, ◌≢◌, ℕ, zero, suc, ◌+◌, ◌-◌, ◌*◌, ◌≤◌, true, false, nat_lt, ◌==◌, List, [], ◌∷◌, ◌++◌, map, Option, Some, None, is_some}
use Rattle.std.specs.Prelude.{if◌then◌else◌, option_map, ⊤}
use Rattle.std.specs.Fmt.{digit_glyph}
use Rattle.pf_values.specs.declared.flags.Flag.{Flag}
use Rattle.pf_values.specs.declared.flags.Flag.TheVariants as flags
use Rattle.pf_values.specs.declared.flags.FlagSet.{FlagSet}
use Rattle.pf_values.specs.declared.lengths.Length.TheVariants as lengths
use Rattle.pf_values.specs.declared.limits.TheConstants.{MAX_NUMBER}
use Rattle.pf_values.specs.declared.refusals.RefusalKind.{RefusalKind}
use Rattle.pf_values.specs.declared.refusals.RefusalKind.TheVariants.{WidthTooLarge, PrecisionTooLarge}
use Rattle.pf_values.specs.meaning.Digits.{AreDigits}
use Rattle.pf_values.specs.meaning.Flags.{with_flag, no_flags}
use Rattle.pf_values.specs.meaning.Text.{Text, dollar, percent, point, star, zero_digit}
use Rattle.pf_text.specs.Letters.{flag_of}
use Rattle.pf_text.specs.States.{is_digit}
use Rattle.pf_posix.specs.declared.conversions.WholeConv.{WholeConv}
use Rattle.pf_posix.specs.declared.conversions.WholeLength.{WholeLength}
use Rattle.pf_posix.specs.declared.conversions.WholeLength.TheVariants.{Integer}
use Rattle.pf_posix.specs.declared.fetches.Fetch.{Fetch}
use Rattle.pf_posix.specs.Letters.{conversion_of, length_modifier_of}
use Rattle.pf_posix.specs.Specifications.{Amount, Given, Fetched, WholeSpecification, modifier_letters}
use Rattle.pf_posix.specs.Spelling.{SpellsPositive, SpellsUpToFlags, SpellsUpToPrecision, SpellsUpToWidth}
use Rattle.pf_posix.specs.Types.{star_fetches}

-- where a width or a precision comes, after these parts
pub data Place : Type 0 where
  Width : (position : Option ℕ) (set : FlagSet) → Place
  Precision : (position : Option ℕ) (set : FlagSet) (width : Option Amount) → Place

-- all up to a length modifier
pub record Numbers : Type 0 where
  pub position : Option ℕ
  pub flags : FlagSet
  pub width : Option Amount
  pub precision : Option Amount

pub data State : Type 0 where
  -- the opening `%`
  Opened : State
  -- `%` and digits, of a width or of the number of the argument
  First : (n : ℕ) → State
  -- `%` and the number of the argument, or flags, or both
  Flags : (position : Option ℕ) (set : FlagSet) → State
  -- digits of a width or of a precision
  Digits : (place : Place) (n : ℕ) → State
  -- the `*` of one
  Star : (place : Place) → State
  -- digits of the number after it
  StarDigits : (place : Place) (n : ℕ) → State
  -- the `$` after those
  Placed : (place : Place) (n : ℕ) → State
  -- the `.` of a precision
  Point : (position : Option ℕ) (set : FlagSet) (width : Option Amount) → State
  -- letters of a modifier
  Modified : (numbers : Numbers) (modifier : WholeLength) → State

abbrev pub position_of : Place → Option ℕ
position_of (Width position set) = position
position_of (Precision position set width) = position

-- the kind of a number above the limit
abbrev pub too_large : Place → RefusalKind
too_large (Width position set) = WidthTooLarge
too_large (Precision position set width) = PrecisionTooLarge

abbrev pub numbers_by : Option ℕ → FlagSet → Option Amount → Option Amount → Numbers
numbers_by position flags width precision =
    record { position = position; flags = flags; width = width; precision = precision }

-- with the width or the precision
abbrev pub filled : Place → Amount → Numbers
filled (Width position set) amount = numbers_by position set (Some amount) None
filled (Precision position set width) amount = numbers_by position set width (Some amount)

-- a `*` alone is whole in a specification that isn't numbered
abbrev pub after_star : Place → Option ℕ → Option Numbers
after_star place None = Some (filled place (Fetched None))
after_star place (Some n) = None

-- all up to a modifier, if that or the conversion may come
abbrev pub numbers_in : State → Option Numbers
numbers_in Opened = Some (numbers_by None no_flags None None)
numbers_in (First n) = Some (numbers_by None no_flags (Some (Given n)) None)
numbers_in (Flags position set) = Some (numbers_by position set None None)
numbers_in (Digits place n) = Some (filled place (Given n))
numbers_in (Star place) = after_star place (position_of place)
numbers_in (StarDigits place n) = None
numbers_in (Placed place n) = Some (filled place (Fetched (Some n)))
numbers_in (Point position set width) = Some (numbers_by position set width (Some (Given 0)))
numbers_in (Modified numbers modifier) = None

-- where a `*` may come
abbrev pub place_in : State → Option Place
place_in Opened = Some (Width None no_flags)
place_in (Flags position set) = Some (Width position set)
place_in (Point position set width) = Some (Precision position set width)
place_in _ = None

abbrev pub position_in : State → Option ℕ
position_in Opened = None
position_in (First n) = None
position_in (Flags position set) = position
position_in (Digits place n) = position_of place
position_in (Star place) = position_of place
position_in (StarDigits place n) = position_of place
position_in (Placed place n) = position_of place
position_in (Point position set width) = position
position_in (Modified numbers modifier) = numbers.position

-- what was fetched before a width or a precision, with both, and by what was read
abbrev pub own_before : Place → List Fetch
own_before (Width position set) = []
own_before (Precision position set width) = star_fetches width

abbrev pub own_of : Numbers → List Fetch
own_of numbers = star_fetches numbers.width ++ star_fetches numbers.precision

abbrev pub own_unfinished : State → List Fetch
own_unfinished (Star place) = own_before place
own_unfinished (StarDigits place n) = own_before place
own_unfinished (Modified numbers modifier) = own_of numbers
own_unfinished _ = []

abbrev pub own_by : State → Option Numbers → List Fetch
own_by state (Some numbers) = own_of numbers
own_by state None = own_unfinished state

abbrev pub own_in : State → List Fetch
own_in state = own_by state (numbers_in state)

-- what a byte is in a specification
pub data Sign : Type 0 where
  Digit : (n : ℕ) → Sign
  Dollar : Sign
  Asterisk : Sign
  Dot : Sign
  Mark : (flag : Flag) → Sign
  Letter : (modifier : WholeLength) → Sign
  Last : (conversion : WholeConv) → Sign
  Strange : Sign

abbrev pub last_of : Option WholeConv → Sign
last_of (Some conversion) = Last conversion
last_of None = Strange

abbrev pub letter_of : Option WholeLength → Option WholeConv → Sign
letter_of (Some modifier) conversion = Letter modifier
letter_of None conversion = last_of conversion

abbrev pub mark_of : Option Flag → ℕ → Sign
mark_of (Some flag) byte = Mark flag
mark_of None byte = letter_of (length_modifier_of byte) (conversion_of byte)

-- 0 is a digit and a flag
abbrev pub sign_of : ℕ → Sign
sign_of byte =
    if is_digit byte then Digit (byte - zero_digit) else
    if byte == dollar then Dollar else
    if byte == star then Asterisk else
    if byte == point then Dot else
    mark_of (flag_of byte) byte

-- one more digit
abbrev pub with_digit : (ℕ → State) → ℕ → ℕ → Option State
with_digit state n digit =
    if nat_lt MAX_NUMBER (10 * n + digit) then None else Some (state (10 * n + digit))

-- the number after a `*`, of a numbered specification alone
abbrev pub number_after : Place → Option ℕ → ℕ → Option State
number_after place (Some m) (suc n) = Some (StarDigits place (suc n))
number_after place _ n = None

abbrev pub on_digit : State → ℕ → Option State
on_digit Opened zero = Some (Flags None (with_flag no_flags flags.Zero))
on_digit Opened (suc n) = Some (First (suc n))
on_digit (First n) digit = with_digit First n digit
on_digit (Flags position set) zero = Some (Flags position (with_flag set flags.Zero))
on_digit (Flags position set) (suc n) = Some (Digits (Width position set) (suc n))
on_digit (Digits place n) digit = with_digit (Digits place) n digit
on_digit (Star place) digit = number_after place (position_of place) digit
on_digit (StarDigits place n) digit = with_digit (StarDigits place) n digit
on_digit (Point position set width) digit = Some (Digits (Precision position set width) digit)
on_digit _ digit = None

abbrev pub on_dollar : State → Option State
on_dollar (First n) = Some (Flags (Some n) no_flags)
on_dollar (StarDigits place n) = Some (Placed place n)
on_dollar _ = None

abbrev pub on_mark : State → Flag → Option State
on_mark Opened flag = Some (Flags None (with_flag no_flags flag))
on_mark (Flags position set) flag = Some (Flags position (with_flag set flag))
on_mark _ flag = None

-- a precision comes after a width, or after none
abbrev pub on_dot : Option Numbers → Option State
on_dot None = None
on_dot (Some numbers) = if is_some numbers.precision then None else
    Some (Point numbers.position numbers.flags numbers.width)

-- the second letter of `hh` and `ll` (C11 7.21.6.1 p7), or the first of a modifier
abbrev pub second_letter : Numbers → WholeLength → WholeLength → Option State
second_letter numbers (Integer lengths.H) (Integer lengths.H) = Some (Modified numbers (Integer lengths.Hh))
second_letter numbers (Integer lengths.L) (Integer lengths.L) = Some (Modified numbers (Integer lengths.Ll))
second_letter numbers first second = None

abbrev pub on_letter : State → Option Numbers → WholeLength → Option State
on_letter state (Some numbers) letter = Some (Modified numbers letter)
on_letter (Modified numbers modifier) None letter = second_letter numbers modifier letter
on_letter state None letter = None

-- what is begun with the byte
abbrev pub step : State → Sign → Option State
step state (Digit n) = on_digit state n
step state Dollar = on_dollar state
step state Asterisk = option_map Star (place_in state)
step state Dot = on_dot (numbers_in state)
step state (Mark flag) = on_mark state flag
step state (Letter letter) = on_letter state (numbers_in state) letter
step state _ = None

abbrev pub specification_by : Numbers → WholeLength → WholeConv → WholeSpecification
specification_by numbers modifier conversion =
    record {
      position = numbers.position;
      flags = numbers.flags;
      width = numbers.width;
      precision = numbers.precision;
      modifier = modifier;
      conversion = conversion;
    }

abbrev pub on_last : State → Option Numbers → WholeConv → Option WholeSpecification
on_last state (Some numbers) conversion = Some (specification_by numbers (Integer lengths.None) conversion)
on_last (Modified numbers modifier) None conversion = Some (specification_by numbers modifier conversion)
on_last state None conversion = None

-- what ends with the byte
abbrev pub finish : State → Sign → Option WholeSpecification
finish state (Last conversion) = on_last state (numbers_in state) conversion
finish state _ = None

-- the text before a width, or before a precision and with its point (C11 7.21.6.1 p4)
abbrev pub IsBefore : Place → Text → Type 0
IsBefore (Width position set) t = SpellsUpToFlags t position set
IsBefore (Precision position set width) t =
    (before : Text) × SpellsUpToWidth before position set width × (t ≡ before ++ point ∷ [])

-- digits of a width, or of a precision, which may begin with 0 (C11 7.21.6.1 p4)
abbrev pub SpellsDigits : Place → Text → ℕ → Type 0
SpellsDigits (Width position set) t n = SpellsPositive t n
SpellsDigits (Precision position set width) t n = (ds : List ℕ) × AreDigits 10 n ds × (ds ≢ []) × (n ≤ MAX_NUMBER)
    × (t ≡ map (digit_glyph false) ds)

-- digits right after `%` may be a width or the number of the argument, others are a width
abbrev pub IsNotFirst : Place → Text → Type 0
IsNotFirst (Width position set) before = before ≢ percent ∷ []
IsNotFirst (Precision position set width) before = ⊤

-- the text is what a state says
abbrev pub IsStateAfter : State → Text → Type 0
IsStateAfter Opened t = t ≡ percent ∷ []
IsStateAfter (First n) t = (digits : Text) × SpellsPositive digits n × (t ≡ percent ∷ digits)
IsStateAfter (Flags position set) t = SpellsUpToFlags t position set × (t ≢ percent ∷ [])
IsStateAfter (Digits place n) t = (before digits : Text) × IsBefore place before × SpellsDigits place digits n
    × IsNotFirst place before × (t ≡ before ++ digits)
IsStateAfter (Star place) t = (before : Text) × IsBefore place before × (t ≡ before ++ star ∷ [])
IsStateAfter (StarDigits place n) t = (before digits : Text) × IsBefore place before × SpellsPositive digits n
    × (is_some (position_of place) ≡ true) × (t ≡ before ++ star ∷ digits)
IsStateAfter (Placed place n) t = (before digits : Text) × IsBefore place before × SpellsPositive digits n
    × (is_some (position_of place) ≡ true) × (t ≡ before ++ star ∷ digits ++ dollar ∷ [])
IsStateAfter (Point position set width) t = IsBefore (Precision position set width) t
IsStateAfter (Modified numbers modifier) t = (before : Text)
    × SpellsUpToPrecision before numbers.position numbers.flags numbers.width numbers.precision
    × (t ≡ before ++ modifier_letters modifier) × (modifier ≢ Integer lengths.None)
