-- The command with one subcommand more.
use Rattle.std.proofs.Common.{◌≡◌, ◌∙◌, ◌+◌, ◌<◌, ◌++◌, ℕ, suc, List, [], ◌∷◌, ap, ap₂, arith, get_or, length, sym, take}
use Rattle.std.specs.List.{fold}
use Rattle.std.proofs.Math.Seq.{take-suc}
use Rattle.std.proofs.lemmas.List.Sums.{fold-append}
use Rattle.clap.specs.Simple.{App, with_subcommand}
use Rattle.fmtcanon.specs.declared.command.Row.{Row}
use Rattle.fmtcanon.specs.Words.{row_app, row_of, top_app, with_row}

pub with_next : (rows : List Row) (i : ℕ) (d : Row) → i < length rows → (before sub now : App) → before ≡ fold with_row top_app (take i rows)
    → sub ≡ row_app (row_of (get_or rows i d))
    → now ≡ with_subcommand before sub.top → now ≡ fold with_row top_app (take (i + 1) rows)
with_next rows i d few before sub now so_far row added =
    let next : suc i ≡ i + 1 = omega arith in
    let front : take i rows ++ get_or rows i d ∷ [] ≡ take (i + 1) rows = sym (take-suc rows i d few) ∙ ap (λ n. take n rows) next in
    let one : fold with_row top_app (take (i + 1) rows) ≡ with_row (fold with_row top_app (take i rows)) (get_or rows i d) = ap (fold with_row top_app)
    (sym front) ∙ fold-append with_row top_app (take i rows) (get_or rows i d ∷ []) in
    added ∙ ap₂ (λ a s. with_subcommand a s.top) so_far row ∙ sym one
