-- What one write after another leaves.
use Rattle.std.proofs.Common.{◌≡◌, ℕ, ◌+◌, ◌++◌, length, take, drop, ap, ◌∙◌, arith}
use Rattle.std.specs.Io.KnownBytes.{Appends}
use Rattle.std.proofs.KnownBytes.{Appends-trans}
use Rattle.std.proofs.Math.Seq.{take-add, take-append-add}
use Rattle.std.proofs.lemmas.List.{take-append-le, length-append}
use Rattle.pf_values.specs.declared.counted.Counted.{Counted}
use Rattle.pf_values.specs.Counting.{Known, WritesAll, WritesFirst, device_of, failures_of}
use Rattle.pf_values.specs.meaning.Text.{Text}

module _ {W : Type 0} (contents : W → Known) (old mid new : Counted W) where
  -- the first bytes of a text went out, and then some of those after them
  pub WritesAll-more : (bytes : Text) (n m : ℕ) → WritesAll contents old mid (take n bytes)
      → Appends (contents (device_of mid)) (contents (device_of new)) (take m (drop n bytes)) → failures_of new ≡ failures_of mid
      → WritesAll contents old new (take (n + m) bytes)
  WritesAll-more bytes n m before now same =
      record {
        appended = rw take-add (Appends-trans _ (contents (device_of mid)) _ (take n bytes) (take m (drop n bytes)) before.appended now);
        none_failed = same ∙ before.none_failed;
      }

  -- a text went out, and then the first bytes of the next one, whatever was to follow
  pub WritesFirst-more : (before next rest : Text) (n : ℕ) → WritesAll contents old mid before → WritesFirst contents mid new next n
      → WritesFirst contents old new (before ++ (next ++ rest)) (length before + n)
  WritesFirst-more before next rest n h g =
      let within = g.within in
      let out : take (length before + n) (before ++ (next ++ rest)) ≡ before ++ take n next = take-append-add before (next ++ rest) n
      ∙ ap (λ t. before ++ t) (take-append-le n next rest within) in
      let same = h.none_failed in
      record {
        appended = rw out (Appends-trans _ (contents (device_of mid)) _ before (take n next) h.appended g.appended);
        within = omega (arith, within, length-append before (next ++ rest), length-append next rest);
        failed = rw (← same) g.failed;
      }
