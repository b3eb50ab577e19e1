-- The rows of the length modifiers, in any data model.
use Rattle.std.proofs.Common.{◌≡◌, refl}
use Rattle.pf_values.specs.declared.lengths.Length.{Length}
use Rattle.pf_values.specs.declared.lengths.Length.TheVariants as lengths
use Rattle.pf_values.specs.declared.models.Model.{Model}
use Rattle.pf_values.specs.declared.models.Rank.{Rank}
use Rattle.pf_values.specs.declared.models.Rank.TheVariants as ranks
use Rattle.pf_values.specs.meaning.DataModel.{LengthRow, greatest_rank, length_row, row_of_rank, size_rank}

-- What holds of the rows of `hh`, of `h`, of no modifier, of `l` and of `ll` holds of all.
module _ (model : Model) (P : LengthRow → Type 0) (hh : P (length_row model lengths.Hh)) (h : P (length_row model lengths.H))
    (none : P (length_row model lengths.None)) (l : P (length_row model lengths.L)) (ll : P (length_row model lengths.Ll)) where
  by_rank : (rank : Rank) → P (row_of_rank model rank)
  by_rank ranks.Int = none
  by_rank ranks.Long = l
  by_rank ranks.LongLong = ll

  pub each_row : (length : Length) → P (length_row model length)
  each_row lengths.Hh = hh
  each_row lengths.H = h
  each_row lengths.None = none
  each_row lengths.L = l
  each_row lengths.Ll = ll
  each_row lengths.J = by_rank (greatest_rank model)
  each_row lengths.Z = by_rank (size_rank model)
  each_row lengths.T = by_rank (size_rank model)

-- the modifier that a normal directive has for another says the same
pub kept_row : (model : Model) (length : Length) → length_row model (length_row model length).kept ≡ length_row model length
kept_row model = each_row model (λ r. length_row model r.kept ≡ r) refl refl refl refl refl
