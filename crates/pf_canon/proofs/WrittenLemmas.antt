-- A canonical text that is put together from canonical runs and reduced directives.
use Rattle.std.proofs.Common.{◌≡◌, ℕ, ◌+◌, ◌*◌, ◌≤◌, List, [], ◌∷◌, ◌++◌, length, refl, sym, ap, ◌∙◌, subst, arith}
use Rattle.std.specs.List.{AllByRecursion}
use Rattle.std.specs.Prelude.{flat_map}
use Rattle.std.proofs.lemmas.List.{append-nil, append_assoc, length-append}
use Rattle.pf_values.specs.declared.limits.TheConstants.{MAX_TEXT_LEN}
use Rattle.pf_values.specs.declared.models.Model.{Model}
use Rattle.pf_values.specs.meaning.Items.{Item, Byte, Directive, IsReadAs, Reads}
use Rattle.pf_values.specs.Settled.{EndsInNoSilent}
use Rattle.pf_values.specs.meaning.Normal.{silent}
use Rattle.pf_values.specs.meaning.Specification.{Specification}
use Rattle.pf_values.specs.meaning.Text.{Text}
use Rattle.pf_text.specs.CanonicalRuns.{IsCanonicalItem, IsCanonicalRun, silents}
use Rattle.pf_text.specs.Walks.{AreItems, IsMadeOf, IsPassed, IsPassedRun, IsPercent}
use Rattle.pf_text.proofs.CanonicalRunLemmas.{Reads-append, Reads-canonical}
use Rattle.pf_text.proofs.Texts.{Reads-unique}
use Rattle.pf_text.proofs.WalkLemmas.{items_made}
use Rattle.pf_canon.specs.Answers.{IsCanonicalFor, most_len}
use Rattle.pf_values.specs.meaning.Canonical.{item_spelling}
use Rattle.pf_text.specs.History.{IsAfter}
use Rattle.pf_canon.specs.Making.{IsMaking, IsVerbatimAfter, IsWritten}
use Rattle.pf_canon.specs.Transducer.{IsThrough}
use Rattle.pf_canon.specs.declared.transducer.Transducer.{Transducer}
use Rattle.pf_canon.specs.declared.limits.TheConstants.{MAX_DIRECTIVE_LEN}
use Rattle.pf_values.proofs.Alike.{alike_refl, alike-printed}
use Rattle.pf_canon.proofs.MakingLemmas.{made_byte, made_more, made_run}
use Rattle.pf_canon.proofs.OutputLemmas.{length-silents}
use Rattle.pf_canon.proofs.TextLemmas.{most_len-append}
use Rattle.pf_canon.proofs.TransducerLemmas.{ended, run_is_short}

-- nothing is written yet
nothing_ends : EndsInNoSilent []
nothing_ends before e = omega (arith, ap length e, length-append before (Directive silent ∷ []))

nothing_made : (model : Model) → IsMaking model [] 0 [] []
nothing_made model = record {
  done = [];
  reads = refl;
  whole = refl;
  canonical = tt;
  open_end = nothing_ends;
  alike = alike-printed model [] [] (alike_refl model []);
  kept = λ is. refl;
}

pub none_written : (model : Model) → IsWritten model [] [] 0
none_written model = record { items = []; reads = refl; made = nothing_made model; few = omega arith; short = omega arith }

-- a canonical run is written as it is
pub run_written : (model : Model) (t out run : Text) (more : List Item) → IsWritten model t out 0 → IsCanonicalRun model run more
    → IsWritten model (t ++ run) (out ++ run) 0
run_written model t out run more h g =
    let start = subst (IsMaking model out 0 (h.items ++ more)) (sym (append-nil more)) (made_more model out 0 h.items [] more h.made) in
    record {
      items = h.items ++ more;
      reads = Reads-canonical model t run h.items more h.reads g;
      made = subst (λ u. IsMaking model (out ++ u) 0 (h.items ++ more) []) (sym g.whole) (made_run model more out (h.items ++ more) [] g.canonical start);
      few = omega arith;
      short = omega (arith, h.short, length-append out run, ap length g.whole, run_is_short model more g.canonical, most_len-append h.items more);
    }

-- literal bytes and `%%` are canonical
percents_canonical : (model : Model) (items : List Item) → AllByRecursion (IsPassed IsPercent) items → AllByRecursion (IsCanonicalItem model) items
percents_canonical model [] h = tt
percents_canonical model (Byte byte ∷ items) h = (h.0.0, percents_canonical model items h.1)
percents_canonical model (Directive s ∷ items) h = absurd h.0.1

-- and go out before the silent directives that wait
percents_made : (model : Model) (more : List Item) (out : Text) (held : ℕ) (items rest : List Item) → AllByRecursion (IsPassed IsPercent) more
    → IsMaking model out held items (more ++ rest) → IsMaking model (out ++ flat_map item_spelling more) held items rest
percents_made model [] out held items rest all h = rw append-nil h
percents_made model (Byte byte ∷ more) out held items rest all h =
    let next = percents_made model more (out ++ item_spelling (Byte byte)) held items rest all.1
    (made_byte model out held byte items (more ++ rest) all.0.0 h) in
    rw (← append_assoc out (item_spelling (Byte byte)) (flat_map item_spelling more)) next
percents_made model (Directive s ∷ more) out held items rest all h = absurd all.0.1

pub percents_written : (model : Model) (t out run : Text) (held : ℕ) (more : List Item) → IsWritten model t out held → IsPassedRun IsPercent run more
    → IsWritten model (t ++ run) (out ++ run) held
percents_written model t out run held more h g =
    let start = subst (IsMaking model out held (h.items ++ more)) (sym (append-nil more)) (made_more model out held h.items [] more h.made) in
    let canonical = percents_canonical model more g.passed in
    record {
      items = h.items ++ more;
      reads = Reads-canonical model t run h.items more h.reads (record { canonical = canonical; whole = g.whole });
      made = subst (λ u. IsMaking model (out ++ u) held (h.items ++ more) []) (sym g.whole)
          (percents_made model more out held (h.items ++ more) [] g.passed start);
      few = omega (arith, h.few, length-append t run);
      short = omega (arith, h.short, length-append out run, ap length g.whole, run_is_short model more canonical, most_len-append h.items more);
    }

pub percents_verbatim : (model : Model) (held : ℕ) (run : Text) → IsMadeOf (AreItems IsPercent) run → IsVerbatimAfter (IsWritten model) held run
percents_verbatim model held run made before out h = let items = items_made IsPercent run made in percents_written model before out run held items.0 h items.1

-- a directive is written as what it settles
pub directive_written : (model : Model) (t out bytes settled : Text) (held still : ℕ) (d : Specification) → IsWritten model t out held
    → IsReadAs bytes (Directive d) → still ≤ held + length bytes → length settled + 4 * still ≤ 4 * held + MAX_DIRECTIVE_LEN
    → ((items : List Item) → IsMaking model out held items (Directive d ∷ []) → IsMaking model (out ++ settled) still items [])
    → IsWritten model (t ++ bytes) (out ++ settled) still
directive_written model t out bytes settled held still d h reads few short settles =
    let more = Directive d ∷ [] in
    record {
      items = h.items ++ more;
      reads = Reads-append t bytes h.items more h.reads (bytes, [], reads, refl, sym (append-nil bytes));
      made = settles (h.items ++ more) (made_more model out held h.items [] more h.made);
      few = omega (arith, few, h.few, length-append t bytes);
      short = omega (arith, h.short, short, length-append out settled, most_len-append h.items more);
    }

-- all of a text is written, and then the silent directives that wait
pub all_written : (model : Model) (t out : Text) (held : ℕ) → length t ≤ MAX_TEXT_LEN → IsWritten model t out held
    → IsCanonicalFor model t (out ++ flat_map item_spelling (silents held))
all_written model t out held few h =
    let last = flat_map item_spelling (silents held) in
    let end = ended model t out held h.items h.reads h.made last refl in
    record {
      items = h.items;
      accepted = record { reads = h.reads; limit = few };
      canonical_is = end.1;
      kept = end.2;
      few = omega (arith, h.short, length-append out last, length-silents held);
    }

-- a canonical run is its own canonical text
pub verbatim_canonical : (model : Model) (t : Text) (items : List Item) → length t ≤ MAX_TEXT_LEN → IsCanonicalRun model t items → IsCanonicalFor model t t
verbatim_canonical model t items few h =
    subst (IsCanonicalFor model t) (append-nil t) (all_written model t t 0 few (run_written model [] [] t items (none_written model) h))

-- a transducer takes whole items as they are written after what it took before
pub written_through : (model : Model) (r new : Transducer) (t out text more : Text) (items others : List Item) → IsThrough model r t items out → Reads t items
    → new.model ≡ r.model → ((before out : Text) → IsWritten model before out r.silents → IsWritten model (before ++ text) (out ++ more) new.silents)
    → Reads text others → IsAfter new.scanner (t ++ text) (items ++ others) → IsThrough model new (t ++ text) (items ++ others) (out ++ more)
written_through model r new t out text more items others h reads same written more_reads after =
    let w = written t out (record { items = items; reads = reads; made = h.made; few = h.few; short = h.short }) in
    let e : w.items ≡ items ++ others = Reads-unique (t ++ text) w.items (items ++ others) w.reads (Reads-append t text items others reads more_reads) in
    record {
      model_is = same ∙ h.model_is;
      after = after;
      made = subst (λ i. IsMaking model (out ++ more) new.silents i []) e w.made;
      few = w.few;
      short = subst (λ i. length (out ++ more) + 4 * new.silents ≤ most_len i) e w.short;
    }
