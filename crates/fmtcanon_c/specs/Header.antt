-- The numbers of include/fmtcanon.h that constants of the code have. This project's own.
use Rattle.std.specs.Prelude.{◌≡◌, ℕ, ◌+◌, ◌-◌, ◌^◌, ℤ, pos, neg_ℤ}
use Rattle.pf_literals.specs.Kinds.{literal_kind_number}
use Rattle.pf_literals.specs.declared.faults.LiteralKind.{LiteralKind}
use Rattle.pf_literals.specs.declared.faults.LiteralKind.TheVariants.{NoLiteral, Unterminated, BadEscape, EscapeTooLarge, ZeroByte, Trigraph}
use Rattle.pf_values.specs.declared.flags.Flag.TheVariants.{Minus, Plus, Space, Alt, Zero, Group}
use Rattle.pf_whole.specs.declared.parts.Part.{Part}
use Rattle.pf_whole.specs.declared.parts.Part.TheVariants.{Flag, Width, Precision, Modifier}
use Rattle.pf_whole.specs.Parts.{only}
use Rattle.fmtcanon_c.specs.Specifications.{part_bits}
use Rattle.fmtcanon_c.specs.declared.specifications.TheConstants.{NONE}
use Rattle.fmtcanon_c.specs.declared.byte_counts.TheConstants.{MOST, UNBOUNDED}
use Rattle.fmtcanon_c.specs.declared.directives.TheConstants.{NO_ARGUMENT}
use Rattle.fmtcanon_c.specs.declared.interface.TheConstants.{LITERAL_KINDS, NO_MEMORY, NO_MODEL, NO_PLACE, WRONG_COUNT, WRONG_TYPE}

-- FMTCANON_ERROR_NOMEMORY
abbrev pub error_nomemory : ℤ
error_nomemory = neg_ℤ (pos 100)

-- FMTCANON_ERROR_MODEL
abbrev pub error_model : ℤ
error_model = neg_ℤ (pos 101)

-- FMTCANON_ERROR_NOPLACE
abbrev pub error_noplace : ℤ
error_noplace = neg_ℤ (pos 102)

-- FMTCANON_ERROR_COUNT
abbrev pub error_count : ℤ
error_count = neg_ℤ (pos 103)

-- FMTCANON_ERROR_TYPE
abbrev pub error_type : ℤ
error_type = neg_ℤ (pos 104)

-- enum fmtcanon_literal_kind
abbrev pub literal_kind_in_header : LiteralKind → ℕ
literal_kind_in_header NoLiteral = 201
literal_kind_in_header Unterminated = 202
literal_kind_in_header BadEscape = 203
literal_kind_in_header EscapeTooLarge = 204
literal_kind_in_header ZeroByte = 205
literal_kind_in_header Trigraph = 206

-- enum fmtcanon_part
abbrev pub part_in_header : Part → ℕ
part_in_header (Flag Minus) = 1
part_in_header (Flag Plus) = 2
part_in_header (Flag Space) = 4
part_in_header (Flag Alt) = 8
part_in_header (Flag Zero) = 16
part_in_header (Flag Group) = 32
part_in_header Width = 64
part_in_header Precision = 128
part_in_header Modifier = 256

-- the codes that are not refusals are those of the header
pub record AreErrorsOfHeader : Type 0 where
  pub memory : NO_MEMORY ≡ error_nomemory
  pub model : NO_MODEL ≡ error_model
  pub place : NO_PLACE ≡ error_noplace
  pub count : neg_ℤ (pos WRONG_COUNT) ≡ error_count
  pub type : neg_ℤ (pos WRONG_TYPE) ≡ error_type

-- what the code makes of the number of a kind of faults of literals is its number in the header
abbrev pub HasNumberOfHeader : LiteralKind → Type 0
HasNumberOfHeader kind = LITERAL_KINDS + literal_kind_number kind ≡ literal_kind_in_header kind

-- FMTCANON_NO_ARGUMENT, which is UINT64_MAX
abbrev pub IsArgumentOfHeader : Type 0
IsArgumentOfHeader = NO_ARGUMENT ≡ 2 ^ 64 - 1

-- a set of one part is its number in the header
abbrev pub HasBitOfHeader : Part → Type 0
HasBitOfHeader part = part_bits (only part) ≡ part_in_header part

-- FMTCANON_NONE, which is UINT64_MAX
abbrev pub IsNoneOfHeader : Type 0
IsNoneOfHeader = NONE ≡ 2 ^ 64 - 1

-- FMTCANON_UNBOUNDED, which is UINT64_MAX
abbrev pub IsUnboundedOfHeader : Type 0
IsUnboundedOfHeader = UNBOUNDED ≡ 2 ^ 64 - 1

-- UINT64_MAX - 1, the largest number of bytes that is put
abbrev pub IsMostOfHeader : Type 0
IsMostOfHeader = MOST ≡ 2 ^ 64 - 2
