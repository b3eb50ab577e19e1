-- What items settle, also where no code goes through them.
use Rattle.std.proofs.Common.{◌≡◌, ◌≢◌, ℕ, ◌+◌, ◌*◌, ◌≤◌, List, [], ◌∷◌, ◌++◌, length, replicate, refl, sym, ap, ◌∙◌, subst, arith}
use Rattle.std.specs.Prelude.{◌==◌, flat_map}
use Rattle.std.proofs.lemmas.List.{append-nil, append_assoc, length-append, length-replicate}
use Rattle.pf_values.specs.declared.models.Model.{Model}
use Rattle.pf_values.specs.meaning.Canonical.{item_spelling}
use Rattle.pf_values.specs.meaning.Defined.{IsDefined}
use Rattle.pf_values.specs.meaning.Items.{Item, Byte, Directive}
use Rattle.pf_values.specs.meaning.Specification.{Specification}
use Rattle.pf_values.specs.meaning.Spelling.{spelling_of}
use Rattle.pf_values.specs.meaning.Text.{Text, percent, space, zero_digit}
use Rattle.pf_values.proofs.Alike.{AreAlike, alike_after, alike_before, alike_refl, alike_trans, alike-printed, printed-alike}
use Rattle.pf_text.specs.CanonicalRuns.{silents}
use Rattle.pf_text.proofs.SpellingLemmas.{length-spelled}
use Rattle.pf_reduce.specs.declared.results.Core.{Core}
use Rattle.pf_reduce.specs.declared.results.Core.TheVariants as cores
use Rattle.pf_reduce.specs.declared.results.Reduced.{Reduced}
use Rattle.pf_reduce.specs.Reducing.{IsNormalCore, IsReducedTo}
use Rattle.pf_reduce.proofs.Reductions.{reduction}
use Rattle.pf_canon.specs.Answers.{most_len}
use Rattle.pf_canon.specs.Making.{IsMaking, TakesCore}
use Rattle.pf_canon.proofs.DirectiveLemmas.{reduction_made}
use Rattle.pf_canon.proofs.MakingLemmas.{made_byte, made_more}
use Rattle.pf_canon.proofs.OutputLemmas.{length-silents}
use Rattle.pf_canon.proofs.Printing.{reduced_alike, reduced_items}
use Rattle.pf_canon.proofs.TransducerLemmas.{byte_short}

-- Items are made that print as these do.
pub record IsSettling (model : Model) (out : Text) (held : ℕ) (items rest : List Item) : Type 0 where
  pub others : List Item
  pub alike : AreAlike model items others
  pub making : IsMaking model out held others rest

-- more items settle this after others
pub record Settles (model : Model) (out : Text) (held : ℕ) (before items : List Item) : Type 0 where
  pub more : Text
  pub still : ℕ
  pub made : IsSettling model (out ++ more) still (before ++ items) []
  pub few : length more + 4 * still ≤ 4 * held + most_len items

module _ (model : Model) (out : Text) (held : ℕ) where
  with_more : (items more : List Item) → IsSettling model out held items [] → IsSettling model out held (items ++ more) more
  with_more items more h = record {
    others = h.others ++ more;
    alike = alike_before model items h.others more h.alike;
    making = made_more model out held h.others [] more h.making;
  }

  -- a byte
  pub byte_settled : (items : List Item) (byte : ℕ) → byte ≢ 0 → IsSettling model out held items [] → Settles model out held items (Byte byte ∷ [])
  byte_settled items byte some h =
      let with = with_more items (Byte byte ∷ []) h in
      record {
        more = item_spelling (Byte byte);
        still = held;
        made = record { others = with.others; alike = with.alike; making = made_byte model out held byte with.others [] some with.making };
        few = omega (arith, byte_short byte (byte == percent));
      }

  -- what has been made, and what a directive is reduced to
  reduced : (items : List Item) (s : Specification) (r : Reduced) → IsReducedTo model s r → IsSettling model out held items (Directive s ∷ [])
      → IsSettling model out held items (reduced_items r ++ [])
  reduced items s r is h =
      let making = h.making in
      let now = making.done ++ (silents held ++ (reduced_items r ++ [])) in
      record {
        others = now;
        alike = alike_trans model items h.others now h.alike
            (alike_trans model h.others _ now (printed-alike model h.others _ making.alike)
            (alike_after model making.done _ _ (alike_after model (silents held) _ _ (alike_before model (Directive s ∷ []) (reduced_items r) []
            (reduced_alike model s r is)))));
        making = record {
          done = making.done;
          reads = making.reads;
          whole = making.whole;
          canonical = making.canonical;
          open_end = making.open_end;
          alike = alike-printed model now now (alike_refl model now);
          kept = λ c. refl;
        };
      }

  -- how a core goes out
  core_out : (core : Core) (zeroed : Text) → IsNormalCore model core → (cored : Text) × (still : ℕ) × (more : Text) × TakesCore core zeroed held cored still
      × (cored ≡ zeroed ++ more) × (length more + 4 * still ≤ 4 * held + 18)
  core_out cores.Silent zeroed is = (zeroed, held + 1, [], (refl, refl), sym (append-nil zeroed), omega arith)
  core_out (cores.Normal n) zeroed is =
      let more = flat_map item_spelling (silents held) ++ spelling_of n.specification in
      let normal = is.1 in (
        zeroed ++ more,
        0,
        more,
        (refl, refl),
        refl,
        omega (
          arith,
          length-append (flat_map item_spelling (silents held)) (spelling_of n.specification),
          length-silents held,
          length-spelled n.specification normal.defined,
        ),
      )

  pub directive_settled : (items : List Item) (s : Specification) → IsDefined s → IsSettling model out held items []
      → Settles model out held items (Directive s ∷ [])
  directive_settled items s defined h = one_more (reduction model s defined)
    where
      one_more : (r : Reduced) × IsReducedTo model s r → Settles model out held items (Directive s ∷ [])
      one_more (r, is) =
          let start = reduced (items ++ Directive s ∷ []) s r is (with_more items (Directive s ∷ []) h) in
          let padded = out ++ replicate r.spaces space in
          let zeroed = padded ++ replicate r.zeros zero_digit in
          let (cored, still, more, takes, core, few) = core_out r.core zeroed is.normal in
          let all = cored ++ replicate r.trail space in
          let text = replicate r.spaces space ++ (replicate r.zeros zero_digit ++ (more ++ replicate r.trail space)) in
          let whole : all ≡ out ++ text =
          ap (λ t. t ++ replicate r.trail space) core ∙ append_assoc zeroed more (replicate r.trail space)
          ∙ append_assoc padded (replicate r.zeros zero_digit) (more ++ replicate r.trail space)
          ∙ append_assoc out (replicate r.spaces space) (replicate r.zeros zero_digit ++ (more ++ replicate r.trail space)) in
          record {
            more = text;
            still = still;
            made = record {
              others = start.others;
              alike = start.alike;
              making = subst (λ t. IsMaking model t still start.others []) whole (reduction_made model s r out padded zeroed cored all held still start.others
                  [] is refl refl takes refl start.making);
            };
            few = omega (
              arith,
              few,
              is.few,
              length-append (replicate r.spaces space) (replicate r.zeros zero_digit ++ (more ++ replicate r.trail space)),
              length-append (replicate r.zeros zero_digit) (more ++ replicate r.trail space),
              length-append more (replicate r.trail space),
              length-replicate r.spaces space,
              length-replicate r.zeros zero_digit,
              length-replicate r.trail space,
            );
          }
