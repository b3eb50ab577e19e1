-- A text without `%m` is read as the items that the standards have in `fprintf`.
use Rattle.std.proofs.Common.{◌≡◌, List, [], ◌∷◌, ◌++◌, sym, ap, ◌∙◌}
use Rattle.std.specs.List.{AllByRecursion}
use Rattle.std.proofs.lemmas.List.{append_assoc}
use Rattle.pf_values.specs.meaning.Text.{Text}
use Rattle.pf_posix.specs.Items.{Byte, Errno, WholeItem, ReadsWhole, Specification, errno}
use Rattle.pf_posix.specs.Laws.{HasNoPartOfErrno, IsOfFprintf, IsWithoutErrno}

-- what comes after an item is without it, too
rest_without : (t first rest : Text) → t ≡ first ++ rest → IsWithoutErrno t → IsWithoutErrno rest
rest_without t first rest e h front more f =
    h (first ++ front) more (e ∙ ap (λ u. first ++ u) f ∙ sym (append_assoc first (front ++ errno) more)
    ∙ ap (λ u. u ++ more) (sym (append_assoc first front errno)))

others : (t : Text) (items : List WholeItem) → IsWithoutErrno t → ReadsWhole t items → AllByRecursion IsOfFprintf items
others t [] h reads = tt
others t (Byte byte ∷ items) h reads = (tt, others reads.1 items (rest_without t reads.0 reads.1 reads.4 h) reads.3)
others t (Specification s ∷ items) h reads = (tt, others reads.1 items (rest_without t reads.0 reads.1 reads.4 h) reads.3)
others t (Errno ∷ items) h reads = absurd (h [] reads.1 (reads.4 ∙ ap (λ u. u ++ reads.1) reads.2))

pub errno_aside : (t : Text) → IsWithoutErrno t → HasNoPartOfErrno t
errno_aside t h = record {
  items = λ items reads. others t items h reads;
  bytes = λ whole part rest byte e one letter.
      let same : part ++ byte ∷ rest ≡ errno ++ rest = ap (λ p. p ++ byte ∷ rest) one ∙ ap (λ b. 37 ∷ b ∷ rest) letter in
      h whole rest (e ∙ append_assoc whole part (byte ∷ rest) ∙ ap (λ u. whole ++ u) same ∙ sym (append_assoc whole errno rest));
}
