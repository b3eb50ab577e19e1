-- That each sink keeps to the laws of sinks.
use Rattle.std.proofs.Common.{◌≡◌, ℕ, ◌+◌, Bool, true, false, [], ◌++◌, length, Option, Some, None, refl, sym, ap, ◌∙◌, subst, arith}
use Rattle.std.specs.Borrow.{Bor}
use Rattle.std.proofs.KnownBytes.{Appends-nil, Appends-trans}
use Rattle.std.proofs.lemmas.List.{append-nil, append_assoc, append_cancel_left, length-append, take-append-le}
use Rattle.pf_values.specs.declared.counted.Counted.{Counted}
use Rattle.pf_values.specs.Counting.{Known, WritesFirst, device_of}
use Rattle.pf_values.specs.meaning.Text.{Text}
use Rattle.pf_values.proofs.WriteLemmas.{WritesFirst-more}
use Rattle.pf_canon.specs.Sink.{Counts, IsStripped, IsFrontStripped, IsBuilt, IsCounted, IsSink, given_len}
use Rattle.pf_canon.specs.Copy.{GathersAll, GathersBy, HasGathered, PutsAll, PutsFirst}

-- a count goes on
counts_none : (before : ℕ) → Counts before 0 before
counts_none before few = omega arith

counts_both : (before mid after : ℕ) (t u : Text) → Counts before (length t) mid → Counts mid (length u) after → Counts before (length (t ++ u)) after
counts_both before mid after t u h g few =
    let len = length-append t u in
    let x : mid ≡ before + length t = h (omega (arith, few, len)) in
    let y : after ≡ mid + length u = g (omega (arith, few, len, x)) in
    omega (arith, x, y, len)

-- a text that is put together, and a count
pub builds : {R : Type 0} (bytes_of : R → Text) → IsSink (IsBuilt bytes_of)
builds bytes_of = record {
  none = λ s. record {
    grown = omega arith;
    count = counts_none (given_len bytes_of s);
    whole = λ going. (going, sym (append-nil (bytes_of s.buffer)));
  };
  both = λ a b c t u h g. record {
    grown = omega (arith, h.grown, g.grown);
    count = counts_both (given_len bytes_of a) (given_len bytes_of b) (given_len bytes_of c) t u h.count g.count;
    whole = λ going.
        let last = g.whole going in
        let first = h.whole last.0 in
        (first.0, last.1 ∙ ap (λ v. v ++ u) first.1 ∙ append_assoc (bytes_of a.buffer) t u);
  };
}

pub counts : IsSink IsCounted
counts = record { none = λ s. counts_none s.len; both = λ a b c t u h g. counts_both a.len b.len c.len t u h g }

strip_none : (left : Option (Bor Text)) → IsFrontStripped left [] left
strip_none (Some left) = refl
strip_none None = refl

-- some bytes, and then some more
strip_then : (left mid rest : Option (Bor Text)) (a b : Text) → IsFrontStripped left a mid → IsFrontStripped mid b rest → IsFrontStripped left (a ++ b) rest
strip_then (Some left) (Some mid) (Some rest) a b h g = h ∙ ap (λ t. a ++ t) g ∙ sym (append_assoc a b rest.now)
strip_then (Some left) (Some mid) None a b h g = λ rest e. g rest (append_cancel_left a mid.now (b ++ rest) (sym h ∙ e ∙ append_assoc a b rest))
strip_then (Some left) None rest a b h g = rw g (λ rest e. h (b ++ rest) (e ∙ append_assoc a b rest))
strip_then None mid rest a b h g = rw h at g

-- what is expected
pub strips : IsSink IsStripped
strips = record { none = λ s. strip_none s.left; both = λ a b c t u h g. strip_then a.left b.left c.left t u h g }

-- a writer with its count and its buffer
module _ {W : Type 0} (contents : W → Known) where
  pub all_all : (old mid new : Counted W) (a b : Text) (before after last : ℕ) → PutsAll contents old mid a before after → PutsAll contents mid new b after last
      → PutsAll contents old new (a ++ b) before last
  all_all old mid new a b before after last h g =
      let one = h.0 in
      let two = g.0 in (
        record { appended = Appends-trans _ (contents (device_of mid)) _ a b one.appended two.appended; none_failed = two.none_failed ∙ one.none_failed },
        λ few.
            let len = length-append a b in
            let x : after ≡ before + length a = h.1 (omega (arith, few, len)) in
            let y : last ≡ after + length b = g.1 (omega (arith, few, len, x)) in
            omega (arith, x, y, len),
      )

  pub all_first : (old mid new : Counted W) (a b : Text) (before after last : ℕ) → PutsAll contents old mid a before after
      → PutsFirst contents mid new b after last → PutsFirst contents old new (a ++ b) before last
  all_first old mid new a b before after last h g =
      let one = h.0 in
      let fewer = g.fewer in
      let len = length-append a b in
      record {
        put = length a + g.put;
        first = subst (λ t. WritesFirst contents old new (a ++ t) (length a + g.put)) (append-nil b)
            (WritesFirst-more contents old mid new a b [] g.put one g.first);
        fewer = omega (arith, fewer, len);
        counts = λ few.
            let x : after ≡ before + length a = h.1 (omega (arith, few)) in
            let y : last ≡ after + g.put = g.counts (omega (arith, few, x)) in
            omega (arith, x, y);
      }

  -- some of these bytes went out, whatever was to follow
  pub first_alone : (old new : Counted W) (a b : Text) (before after : ℕ) → PutsFirst contents old new a before after
      → PutsFirst contents old new (a ++ b) before after
  first_alone old new a b before after h =
      let fewer = h.fewer in
      let first = h.first in
      let within = first.within in
      record {
        put = h.put;
        first = record {
          appended = rw (take-append-le h.put a b within) first.appended;
          within = omega (arith, within, length-append a b);
          failed =
              first.failed;
        };
        fewer = omega (arith, fewer, length-append a b);
        counts = h.counts;
      }

  pub none_put : (w : Counted W) (count : ℕ) → PutsAll contents w w [] count count
  none_put w count = (record { appended = Appends-nil (contents (device_of w)); none_failed = refl }, λ few. omega arith)

  gathers_none : (w : Counted W) (buffer : Text) (count : ℕ) (failed : Bool) → GathersBy contents w w buffer [] count failed failed buffer count
  gathers_none w buffer count false = record {
    out = [];
    split = append-nil buffer;
    puts = none_put w count;
  }
  gathers_none w buffer count true = (refl, refl)

  -- what was in the buffer, and then two texts
  gathers_all : (old mid new : Counted W) (buffer still last a b : Text) (before after end : ℕ) → GathersAll contents old mid buffer a before still after
      → GathersAll contents mid new still b after last end → GathersAll contents old new buffer (a ++ b) before last end
  gathers_all old mid new buffer still last a b before after end h g = record {
    out = h.out ++ g.out;
    split = sym (append_assoc buffer a b) ∙ ap (λ t. t ++ b) h.split ∙ append_assoc h.out still b ∙ ap (λ t. h.out ++ t) g.split
        ∙ sym (append_assoc h.out g.out last);
    puts = all_all old mid new h.out g.out before after end h.puts g.puts;
  }

  gathers_first : (old mid new : Counted W) (buffer still a b : Text) (before after end : ℕ) → GathersAll contents old mid buffer a before still after
      → PutsFirst contents mid new (still ++ b) after end → PutsFirst contents old new (buffer ++ (a ++ b)) before end
  gathers_first old mid new buffer still a b before after end h g =
      let e : h.out ++ (still ++ b) ≡ buffer ++ (a ++ b) = sym (append_assoc h.out still b) ∙ ap (λ t. t ++ b) (sym h.split) ∙ append_assoc buffer a b in
      subst (λ t. PutsFirst contents old new t before end) e (all_first old mid new h.out (still ++ b) before after end h.puts g)

  gathers_both : (old mid new : Counted W) (buffer still last a b : Text) (before after end : ℕ) (f g h : Bool)
      → GathersBy contents old mid buffer a before f g still after → GathersBy contents mid new still b after g h last end
      → GathersBy contents old new buffer (a ++ b) before f h last end
  gathers_both old mid new buffer still last a b before after end false false false x y = gathers_all old mid new buffer still last a b before after end x y
  gathers_both old mid new buffer still last a b before after end false false true x y = gathers_first old mid new buffer still a b before after end x y
  gathers_both old mid new buffer still last a b before after end false true true x y =
      rw (y.0, y.1) (subst (λ t. PutsFirst contents old mid t before after) (append_assoc buffer a b) (first_alone old mid (buffer ++ a) b before after x))
  gathers_both old mid new buffer still last a b before after end false true false x y = absurd y
  gathers_both old mid new buffer still last a b before after end true true true x y = (y.0 ∙ x.0, y.1 ∙ x.1)
  gathers_both old mid new buffer still last a b before after end true true false x y = absurd y
  gathers_both old mid new buffer still last a b before after end true false h x y = absurd x

  pub gathers : IsSink (HasGathered contents)
  gathers = record {
    none = λ s. record { puts = gathers_none s.writer.now s.buffer.now.items s.count s.has_failed; same = refl; same_buffer = refl };
    both = λ a b c t u h g. record {
      puts = gathers_both a.writer.now b.writer.now c.writer.now a.buffer.now.items b.buffer.now.items c.buffer.now.items t u a.count b.count c.count
          a.has_failed b.has_failed c.has_failed h.puts g.puts;
      same = g.same ∙ h.same;
      same_buffer = g.same_buffer ∙ h.same_buffer;
    };
  }
