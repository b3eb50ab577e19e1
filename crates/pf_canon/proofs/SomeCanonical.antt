-- Each accepted text has a canonical text.
use Rattle.std.proofs.Common.{◌≡◌, ◌≢◌, ℕ, ◌+◌, ◌*◌, ◌≤◌, Bool, true, false, List, [], ◌∷◌, ◌++◌, length, refl, sym, ap, ◌∙◌, subst, arith}
use Rattle.std.specs.Prelude.{MatchBool, ◌==◌, flat_map}
use Rattle.std.proofs.lemmas.List.{append-nil, append_assoc, length-append}
use Rattle.pf_values.specs.declared.models.Model.{Model}
use Rattle.pf_values.specs.declared.limits.TheConstants.{MAX_TEXT_LEN}
use Rattle.pf_values.specs.meaning.Canonical.{IsCanonicalOf, item_spelling}
use Rattle.pf_values.specs.meaning.Items.{Item, Byte, Directive, IsAccepted, IsReadAs, Reads}
use Rattle.pf_values.specs.meaning.Normal.{silent}
use Rattle.pf_values.specs.meaning.Text.{Text}
use Rattle.pf_values.proofs.Alike.{alike_before, alike_refl, alike-printed}
use Rattle.pf_text.specs.CanonicalRuns.{silents}
use Rattle.pf_text.specs.History.{IsLiteral}
use Rattle.pf_text.proofs.CanonicalRunLemmas.{Reads-append, run_written}
use Rattle.pf_text.proofs.LiteralLemmas.{Reads-literals}
use Rattle.pf_probes.proofs.Unique.{one_canonical, own_canonical}
use Rattle.pf_canon.specs.Answers.{IsCanonicalFor, most_len}
use Rattle.pf_canon.specs.Making.{IsWritten}
use Rattle.pf_canon.proofs.MakingLemmas.{made_byte, made_canonical, made_more, made_settled}
use Rattle.pf_canon.proofs.OutputLemmas.{length-silents}
use Rattle.pf_canon.proofs.RestLemmas.{IsSettling, Settles, byte_settled, directive_settled}
use Rattle.pf_canon.proofs.TextLemmas.{most_len-append}
use Rattle.pf_canon.proofs.WrittenLemmas.{none_written}

some_byte : (t : Text) (byte : ℕ) → IsReadAs t (Byte byte) → byte ≢ 0
some_byte t byte h = go (byte == 37) refl h where
  go : (b : Bool) → (byte == 37) ≡ b → MatchBool b (t ≡ 37 ∷ 37 ∷ []) ((byte ≢ 0) × (t ≡ byte ∷ [])) → byte ≢ 0
  go true e h = λ zero. let no : false ≡ true = sym (ap (λ k. k == 37) zero) ∙ e in cc
  go false e h = h.0

-- the items that follow
module _ (model : Model) (out : Text) (held : ℕ) (before : List Item) where
  joined : (item : Item) (items : List Item) (here : Settles model out held before (item ∷ []))
      → Settles model (out ++ here.more) here.still (before ++ item ∷ []) items → Settles model out held before (item ∷ items)
  joined item items here rest = record {
    more = here.more ++ rest.more;
    still = rest.still;
    made = subst (λ t. IsSettling model t rest.still (before ++ item ∷ items) []) (append_assoc out here.more rest.more)
        (subst (λ l. IsSettling model ((out ++ here.more) ++ rest.more) rest.still l []) (append_assoc before (item ∷ []) items) rest.made);
    few = (let one = here.few in let more = rest.few in
        omega (arith, one, more, length-append here.more rest.more, most_len-append (item ∷ []) items));
  }

  none_settled : IsSettling model out held before [] → Settles model out held before []
  none_settled h = record {
    more = [];
    still = held;
    made = subst (λ u. IsSettling model u held (before ++ []) []) (sym (append-nil out))
        (subst (λ l. IsSettling model out held l []) (sym (append-nil before)) h);
    few = omega arith;
  }

settle : (model : Model) (out : Text) (held : ℕ) (before items : List Item) (t : Text) → Reads t items → IsSettling model out held before []
    → Settles model out held before items
settle model out held before [] t reads h = none_settled model out held before h
settle model out held before (Byte byte ∷ items) t reads h =
    let here = byte_settled model out held before byte (some_byte reads.0 byte reads.2) h in
    joined model out held before (Byte byte) items here
    (settle model (out ++ here.more) here.still (before ++ Byte byte ∷ []) items reads.1 reads.3 here.made)
settle model out held before (Directive s ∷ items) t reads h =
    let here = directive_settled model out held before s reads.2.1 h in
    joined model out held before (Directive s) items here
    (settle model (out ++ here.more) here.still (before ++ Directive s ∷ []) items reads.1 reads.3 here.made)

no_silent : (before : List Item) → [] ≢ before ++ Directive silent ∷ []
no_silent [] e = cc
no_silent (item ∷ before) e = cc

nothing_made : (model : Model) → IsSettling model [] 0 [] []
nothing_made model = record {
  others = [];
  alike = alike_refl model [];
  making = record {
    done = [];
    reads = refl;
    whole = refl;
    canonical = tt;
    open_end = no_silent;
    alike = alike-printed model [] []
        (alike_refl model []);
    kept = λ c. refl;
  };
}

-- a text that is read as items has a canonical text
pub some_canonical : (model : Model) (t : Text) (items : List Item) → Reads t items → (c : Text) × IsCanonicalOf model t c
some_canonical model t items reads =
    let all = settle model [] 0 [] items t reads (nothing_made model) in
    (_, (made_settled model _ all.still all.made.others all.made.making t items reads all.made.alike).canonical_is)

-- what the items of a text settle, which print as others that are written
pub record IsSettled (model : Model) (t out : Text) (held : ℕ) : Type 0 where
  pub items : List Item
  pub reads : Reads t items
  pub made : IsSettling model out held items []
  pub short : length out + 4 * held ≤ most_len items

module _ (model : Model) where
  pub settled_of : (t out : Text) (held : ℕ) → IsWritten model t out held → IsSettled model t out held
  settled_of t out held h = record {
    items = h.items;
    reads = h.reads;
    made = record { others = h.items; alike = alike_refl model h.items; making = h.made };
    short = h.short;
  }

  pub start_settled : IsSettled model [] [] 0
  start_settled = settled_of [] [] 0 (none_written model)

  -- more items
  pub settled_more : (t out : Text) (held : ℕ) (u : Text) (items : List Item) → IsSettled model t out held → Reads u items
      → (more : Text) × (still : ℕ) × IsSettled model (t ++ u) (out ++ more) still
  settled_more t out held u items h reads =
      let all = settle model out held h.items items u reads h.made in
      let few = all.few in (
        all.more,
        all.still,
        record {
          items = h.items ++ items;
          reads = Reads-append t u h.items items h.reads reads;
          made = all.made;
          short = omega (arith, h.short, few, length-append out all.more, most_len-append h.items items);
        },
      )

  -- an ordinary character
  pub settled_byte : (t out : Text) (held byte : ℕ) → IsSettled model t out held → IsLiteral byte → IsSettled model (t ++ byte ∷ []) (out ++ byte ∷ []) held
  settled_byte t out held byte h literal =
      let more = Byte byte ∷ [] in
      let with = made_more model out held h.made.others [] more h.made.making in
      let making = made_byte model out held byte (h.made.others ++ more) [] literal.1 with in
      record {
        items = h.items ++ more;
        reads = Reads-literals (byte ∷ []) t h.items h.reads (literal, tt);
        made = record {
          others = h.made.others ++ more;
          alike = alike_before model h.items h.made.others more h.made.alike;
          making = rw (run_written byte literal) at making;
        };
        short = omega (arith, h.short, length-append out (byte ∷ []), most_len-append h.items more);
      }

  -- all of a text
  pub settled_canonical : (t out : Text) (held : ℕ) → IsSettled model t out held → IsCanonicalOf model t (out ++ flat_map item_spelling (silents held))
  settled_canonical t out held h = made_canonical model out held h.made.others h.made.making t h.items h.reads h.made.alike

  pub settled_whole : (t out : Text) (held : ℕ) → length t ≤ MAX_TEXT_LEN → IsSettled model t out held
      → IsCanonicalFor model t (out ++ flat_map item_spelling (silents held))
  settled_whole t out held limit h =
      let last = flat_map item_spelling (silents held) in
      let is = settled_canonical t out held h in
      record {
        items = h.items;
        accepted = record { reads = h.reads; limit = limit };
        canonical_is = is;
        kept = λ own. one_canonical model t (out ++ last) t is (own_canonical model t own);
        few = omega (arith, h.short, length-append out last, length-silents held);
      }

-- an accepted text has a canonical text
pub accepted_canonical : (model : Model) (t : Text) → IsAccepted t → (c : Text) × IsCanonicalFor model t c
accepted_canonical model t (items, accepted) =
    let (out, held, all) = settled_more model [] [] 0 t items (start_settled model) accepted.reads in
    (_, settled_whole model t out held accepted.limit all)
