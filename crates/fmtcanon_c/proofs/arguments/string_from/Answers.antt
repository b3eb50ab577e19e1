use Rattle.std.proofs.Common.{ap, pos}
use Rattle.std.specs.Int.{cast_signed, w64}
use Rattle.fmtcanon_c.specs.Arguments.{value_from}
use Rattle.fmtcanon_c.proofs.arguments.string_from.Goals as goal

pub returns-in-Int : goal.returns-in-Int
returns-in-Int c bits = (cast_signed w64 bits, ap (λ own. value_from own bits c.args.bytes.now) c.in-Int.is)

pub returns-in-Long : goal.returns-in-Long
returns-in-Long c bits = (cast_signed w64 bits, ap (λ own. value_from own bits c.args.bytes.now) c.in-Long.is)

pub returns-in-LongLong : goal.returns-in-LongLong
returns-in-LongLong c bits = (cast_signed w64 bits, ap (λ own. value_from own bits c.args.bytes.now) c.in-LongLong.is)

pub returns-in-UInt : goal.returns-in-UInt
returns-in-UInt c bits = (pos bits, ap (λ own. value_from own bits c.args.bytes.now) c.in-UInt.is)

pub returns-in-ULong : goal.returns-in-ULong
returns-in-ULong c bits = (pos bits, ap (λ own. value_from own bits c.args.bytes.now) c.in-ULong.is)

pub returns-in-ULongLong : goal.returns-in-ULongLong
returns-in-ULongLong c bits = (pos bits, ap (λ own. value_from own bits c.args.bytes.now) c.in-ULongLong.is)
