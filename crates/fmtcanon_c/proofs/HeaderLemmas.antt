-- The numbers of the header.
use Rattle.std.proofs.Common.{arith}
use Rattle.pf_literals.specs.declared.faults.LiteralKind.{LiteralKind}
use Rattle.pf_whole.specs.declared.parts.Part.{Part}
use Rattle.fmtcanon_c.specs.Header.{HasBitOfHeader, HasNumberOfHeader}

pub number_of_header : (kind : LiteralKind) → HasNumberOfHeader kind
number_of_header kind = grind arith

pub bit_of_header : (part : Part) → HasBitOfHeader part
bit_of_header part = grind arith
