-- Stretches of a text, one after another.
use Rattle.std.proofs.Common.{◌≡◌, ◌≢◌, ℕ, zero, suc, ◌+◌, ◌-◌, ◌<◌, ◌≤◌, true, false, List, [], ◌∷◌, ◌++◌, drop, get_or, length, length-append, take, refl, sym, ap}
use Rattle.std.proofs.Common.{◌∙◌, arith, subst, Bool, ◌||◌}
use Rattle.std.specs.Prelude.{Some, None, ◌==◌, if◌then◌else◌}
use Rattle.std.specs.List.{AllByRecursion}
use Rattle.std.proofs.lemmas.Bool.{ne_eqb}
use Rattle.std.proofs.lemmas.Bool.Decides.{nat_tests}
use Rattle.std.proofs.lemmas.List.{append_assoc, append-nil, drop_all, drop_more, get_or-drop, length-drop, take_at, take_rest}
use Rattle.memchr.specs.Find.{Nowhere, Passes, is_byte2}
use Rattle.pf_values.specs.meaning.Items.{Byte, Directive as ProfileDirective, Item, Reads}
use Rattle.pf_values.specs.meaning.Text.{Text}
use Rattle.pf_text.proofs.CanonicalRunLemmas.{Reads-append}
use Rattle.pf_posix.specs.declared.opaque_directives.Opaque.{Opaque}
use Rattle.pf_posix.specs.declared.opaque_directives.Opaque.TheVariants.{Directive, Errno}
use Rattle.pf_posix.specs.declared.opaque_directives.OpaqueDirective.{OpaqueDirective}
use Rattle.pf_posix.specs.declared.specifications.Specification.{Specification}
use Rattle.pf_posix.specs.declared.stretches.Found.TheVariants as found
use Rattle.pf_posix.specs.Defined.{IsWholeDefined}
use Rattle.pf_posix.specs.Heads.{IsHead}
use Rattle.pf_posix.specs.Items.{Byte as WholeByte, Errno as WholeErrno, WholeItem, ReadsWhole, Specification as WholeDirective, errno}
use Rattle.pf_posix.specs.Opaque.{OpaqueErrno, OpaqueSpecification, SpellsOpaqueItem, is_opaque}
use Rattle.pf_posix.specs.OpaqueParts.{item_of_opaque, narrow, parts_of_opaque}
use Rattle.pf_posix.specs.PartsInText.{IsSpecificationAt, specification_read}
use Rattle.pf_posix.specs.Halts.{BeginsNoneAfter}
use Rattle.pf_posix.specs.declared.specifications.Numbering.TheVariants.{Undecided}
use Rattle.pf_posix.specs.Specifications.{WholeSpecification}
use Rattle.pf_posix.specs.Spelling.{SpellsWhole}
use Rattle.pf_posix.specs.Stretches.{Stretches, Last, Before, ReadsStretches}
use Rattle.pf_posix.specs.StretchesInText.{IsFound, push, push_all}
use Rattle.pf_posix.specs.Unnumbered.{IsUnnumbered}
use Rattle.pf_posix.proofs.KeptTypes.{flat, whole_reads, unnumbered}
use Rattle.pf_posix.proofs.Narrowed.{narrowed, reads_stretches}
use Rattle.pf_posix.proofs.DirectiveLemmas.{errno_split, percent_split, some_specification}
use Rattle.pf_posix.proofs.ItemsOnce.{HasText, first_item}
use Rattle.pf_posix.proofs.SpecificationsOnce.{parted, unnumbered_parts}
use Rattle.pf_posix.proofs.ReadOnce.{push_all-before, push_all-last, pushed_or, read_once, stretched, stretches_back}

-- a byte that doesn't end a run of literal ones
literal : (byte : ℕ) → is_byte2 37 0 byte ≢ true → ((byte == 0) ≡ false) × ((byte == 37) ≡ false)
literal byte h = go (byte == 37) (byte == 0) refl refl h where
  go : (a b : Bool) → (byte == 37) ≡ a → (byte == 0) ≡ b → (a || b) ≢ true → ((byte == 0) ≡ false) × ((byte == 37) ≡ false)
  go true b e f h = absurd (h refl)
  go false true e f h = absurd (h refl)
  go false false e f h = (f, e)

-- the rest of a text after its first item, which is before the stretches of the rest
record Rest (item : Item) (more : Text) (left : Stretches) : Type 0 where
  later : Stretches
  reads : ReadsStretches more later
  whole : left ≡ push item later

-- a text that begins with a byte, which is no NUL
byte_items : (byte : ℕ) (first more : Text) (items : List WholeItem) → HasText (WholeByte byte) first → ReadsWhole (first ++ more) items
    → AllByRecursion IsUnnumbered items → ((byte == 37) ≡ false → byte ≢ 0) × Rest (Byte byte) more (stretched items)
byte_items byte first more items text h u =
    let front = first_item (WholeByte byte) first more items text h in
    let left = subst (AllByRecursion IsUnnumbered) front.items_are u in (
      λ other. (rw other at front.spelled).0,
      record { later = stretched front.later; reads = reads_stretches more front.later front.reads left.1; whole = ap stretched front.items_are },
    )

-- what holds of the stretches that items make holds of those that a text is read as
flat_read : (P : Stretches → Type 0) (t : Text) (left : Stretches) → ReadsStretches t left
    → ((items : List WholeItem) → ReadsWhole t items → AllByRecursion IsUnnumbered items → P (stretched items)) → P left
flat_read P t left h go = subst P (stretches_back t left h) (go (flat left) (whole_reads t left h) (unnumbered t left h))

module _ (t : Text) where
  pub found_none : (from : ℕ) (left : Stretches) → ReadsStretches (drop from t) left → IsFound t from left (found.Items from)
  found_none from left h = ([], [], left, refl, h, refl, refl)

  push_all_append : (a b : List Item) (later : Stretches) → push_all (a ++ b) later ≡ push_all a (push_all b later)
  push_all_append [] b later = refl
  push_all_append (item ∷ a) b later = ap (push item) (push_all_append a b later)

  -- more items
  pub found_more : (from at stop : ℕ) (left : Stretches) → IsFound t from left (found.Items at)
      → ((later : Stretches) → ReadsStretches (drop at t) later → IsFound t at later (found.Items stop))
      → IsFound t from left (found.Items stop)
  found_more from at stop left h next =
      let g = next h.2 h.4 in (
        h.0 ++ g.0,
        h.1 ++ g.1,
        g.2,
        Reads-append h.1 g.1 h.0 g.0 h.3 g.3,
        g.4,
        h.5 ∙ ap (λ u. h.1 ++ u) g.5 ∙ sym (append_assoc h.1 g.1 (drop stop t)),
        h.6 ∙ ap (push_all h.0) g.6 ∙ sym (push_all_append h.0 g.0 g.2),
      )

  -- the bytes between two places
  taken : (from at : ℕ) (bytes : Text) → drop from t ≡ bytes ++ drop at t → from ≤ at → at ≤ length t → take (at - from) (drop from t) ≡ bytes
  taken from at bytes e low few =
      let long : length bytes ≡ at - from = omega (arith, low, few, ap length e, length-append bytes (drop at t), length-drop from t, length-drop at t) in
      ap (take (at - from)) e ∙ take_at bytes (drop at t) (at - from) long

  pub head_before : (from at stop : ℕ) (opaque : Opaque) (left : Stretches) → from ≤ at → at ≤ stop → stop ≤ length t
      → IsFound t from left (found.Items at)
      → ((later : Stretches) → ReadsStretches (drop at t) later → IsFound t at later (found.Opaque opaque stop))
      → IsHead t from left (record { end = at; opaque = Some opaque; after = stop })
  head_before from at stop opaque left low middle few h next =
      let g = next h.2 h.4 in
      let other = item_of_opaque opaque in
      let whole : left ≡ Before h.0 other g.1 = h.6 ∙ ap (push_all h.0) g.5 ∙ push_all-before h.0 other g.1 in
      let own = sym (taken from at h.1 h.5 low (omega (arith, middle, few))) in
      let bytes = sym (taken at stop g.0 g.4 middle few) in
      subst (λ l. IsHead t from l (record { end = at; opaque = Some opaque; after = stop })) (sym whole)
      (refl, subst (λ u. Reads u h.0) own h.3, subst (λ u. SpellsOpaqueItem u other) bytes g.2, g.3)

  pub head_last : (from at : ℕ) (left : Stretches) → from ≤ at → at ≤ length t → length t ≤ at → IsFound t from left (found.Items at)
      → IsHead t from left (record { end = at; opaque = None; after = at })
  head_last from at left low few over h =
      let none = drop_all at t over in
      let last : h.2 ≡ Last [] = read_once [] h.2 (Last []) (subst (λ u. ReadsStretches u h.2) none h.4) refl in
      let whole : left ≡ Last h.0 = h.6 ∙ ap (push_all h.0) last ∙ push_all-last h.0 in
      let own = sym (taken from at h.1 h.5 low few) in
      subst (λ l. IsHead t from l (record { end = at; opaque = None; after = at })) (sym whole)
      (refl, omega (arith, few, over), subst (λ u. Reads u h.0) own h.3)

  -- one literal byte
  one_byte : (at : ℕ) (left : Stretches) → at < length t → (get_or t at 0 == 37) ≡ false → ReadsStretches (drop at t) left
      → (get_or t at 0 ≢ 0) × Rest (Byte (get_or t at 0)) (drop (at + 1) t) left
  one_byte at left less other h =
      let byte = get_or t at 0 in
      let more = drop (at + 1) t in
      let text : byte ∷ [] ≡ (if byte == 37 then 37 ∷ 37 ∷ [] else byte ∷ []) = rw other refl in
      let r = flat_read (λ l. ((byte == 37) ≡ false → byte ≢ 0) × Rest (Byte byte) more l) (byte ∷ more) left
      (subst (λ u. ReadsStretches u left) (drop_more t at 0 less) h) (λ items g u. byte_items byte (byte ∷ []) more items text g u) in
      (r.0 other, r.1)

  found_byte : (at : ℕ) (left : Stretches) → at < length t → (get_or t at 0 == 37) ≡ false → ReadsStretches (drop at t) left
      → IsFound t at left (found.Items (at + 1))
  found_byte at left less other h =
      let r = one_byte at left less other h in
      let byte = get_or t at 0 in
      (Byte byte ∷ [], byte ∷ [], r.1.later, (byte ∷ [], [], rw other (r.0, refl), refl, refl), r.1.reads, drop_more t at 0 less, r.1.whole)

  found_bytes : (n at : ℕ) → at + n ≤ length t → ((k : ℕ) → k < n → is_byte2 37 0 (get_or t (at + k) 0) ≢ true) → (left : Stretches)
      → ReadsStretches (drop at t) left
      → IsFound t at left (found.Items (at + n))
  found_bytes zero at few plain left h = let same : at ≡ at + 0 = omega arith in subst (λ k. IsFound t at left (found.Items k)) same (found_none at left h)
  found_bytes (suc n) at few plain left h =
      let here : at + 0 ≡ at = omega arith in
      let there : at + 1 + n ≡ at + suc n = omega arith in
      let first : is_byte2 37 0 (get_or t at 0) ≢ true = subst (λ k. is_byte2 37 0 (get_or t k 0) ≢ true) here (plain 0 (omega arith)) in
      let other = (literal (get_or t at 0) first).1 in
      subst (λ k. IsFound t at left (found.Items k)) there
      (found_more at (at + 1) (at + 1 + n) left (found_byte at left (omega (arith, few)) other h)
      (found_bytes n (at + 1) (omega (arith, few))
      (λ k less. let next : at + suc k ≡ at + 1 + k = omega arith in subst (λ j. is_byte2 37 0 (get_or t j 0) ≢ true) next
      (plain (suc k) (omega (arith, less))))))

  -- a run that a search found
  pub found_run : (at n : ℕ) → at ≤ length t → n ≤ length (take (length t - at) (drop at t))
      → Nowhere (Passes (is_byte2 37 0) (take (length t - at) (drop at t))) 0 n
      → (left : Stretches) → ReadsStretches (drop at t) left → IsFound t at left (found.Items (at + n))
  found_run at n low few none =
      let rest = take_rest t at in
      let long = length-drop at t in
      let fits : n ≤ length (drop at t) = subst (λ u. n ≤ length u) rest few in
      found_bytes n at (omega (arith, fits, long, low))
      (λ k less. subst (λ x. is_byte2 37 0 x ≢ true) (ap (λ u. get_or u k 0) rest ∙ get_or-drop at t k 0) (none k (omega arith) less))

  -- in a text that is read, the search for `%` and NUL never stops at a NUL
  pub nothing_found : (at : ℕ) → at < length t → get_or t at 0 ≢ 37 → Passes (is_byte2 37 0) (take (length t - at) (drop at t)) 0 → (left : Stretches)
      → ReadsStretches (drop at t) left → ⊥
  nothing_found at less other passes left h =
      let byte = get_or t at 0 in
      let here : at + 0 ≡ at = omega arith in
      let same : get_or (take (length t - at) (drop at t)) 0 0 ≡ byte = ap (λ u. get_or u 0 0) (take_rest t at) ∙ get_or-drop at t 0 0
      ∙ ap (λ k. get_or t k 0) here in
      let test : is_byte2 37 0 byte ≡ true = ap (is_byte2 37 0) (sym same) ∙ passes in
      let no : (byte == 37) ≡ false = ne_eqb byte 37 other in
      (one_byte at left less no h).0 (grind (arith, nat_tests, test, no))

  -- `%%`
  pub found_percent : (at : ℕ) → get_or t at 0 ≡ 37 → (get_or t (at + 1) 0 == 37) ≡ true → at + 1 < length t → (left : Stretches)
      → ReadsStretches (drop at t) left
      → IsFound t at left (found.Items (at + 2))
  found_percent at first second less left h =
      let split = percent_split t at first second less in
      let r = flat_read (Rest (Byte 37) (drop (at + 2) t)) (37 ∷ 37 ∷ drop (at + 2) t) left (subst (λ u. ReadsStretches u left) split h)
      (λ items g u. (byte_items 37 (37 ∷ 37 ∷ []) (drop (at + 2) t) items refl g u).1) in
      (Byte 37 ∷ [], 37 ∷ 37 ∷ [], r.later, (37 ∷ 37 ∷ [], [], refl, refl, refl), r.reads, split, r.whole)

  -- `%m`
  pub found_errno : (at : ℕ) → get_or t at 0 ≡ 37 → (get_or t (at + 1) 0 == 109) ≡ true → at + 1 < length t → (left : Stretches)
      → ReadsStretches (drop at t) left
      → IsFound t at left (found.Opaque Errno (at + 2))
  found_errno at first second less left h =
      let split = errno_split t at first second less in
      let r = flat_read FirstErrno (errno ++ drop (at + 2) t) left (subst (λ u. ReadsStretches u left) split h) (λ items reads u.
      let front = first_item WholeErrno errno (drop (at + 2) t) items refl reads in
      let all = subst (AllByRecursion IsUnnumbered) front.items_are u in
      (stretched front.later, reads_stretches (drop (at + 2) t) front.later front.reads all.1, ap stretched front.items_are)) in
      (errno, r.0, refl, r.1, split, r.2) where
        FirstErrno : Stretches → Type 0
        FirstErrno made = (later : Stretches) × ReadsStretches (drop (at + 2) t) later × (made ≡ Before [] OpaqueErrno later)

  module _ (at : ℕ) (less : at < length t) (first : get_or t at 0 ≡ 37) (second : (get_or t (at + 1) 0 == 37) ≡ false)
      (letter : (get_or t (at + 1) 0 == 109) ≡ false) (left : Stretches) (h : ReadsStretches (drop at t) left) where
    pub no_specification : BeginsNoneAfter Undecided (drop at t) → ⊥
    no_specification g = some_specification t at less (flat left) (whole_reads (drop at t) left h) first second letter g

    module _ (read : Specification) (stop : ℕ) (g : IsSpecificationAt t at (read, stop)) where
      abbrev directive : OpaqueDirective
      directive = read.parts

      abbrev s : WholeSpecification
      s = specification_read read

      abbrev bytes : Text
      bytes = take (stop - at) (drop at t)

      -- the specification that was read, and the stretches after it
      record FirstDirective (made : Stretches) : Type 0 where
        later : Stretches
        defined : IsWholeDefined s
        unnumbered_is : s.position ≡ None
        reads : ReadsStretches (drop stop t) later
        whole : made ≡ pushed_or (is_opaque s) s later

      split : drop at t ≡ bytes ++ drop stop t
      split = parted t at stop (omega (arith, g.some))

      there : FirstDirective left
      there = flat_read FirstDirective (bytes ++ drop stop t) left (subst (λ u. ReadsStretches u left) split h) (λ items reads u.
          let front = first_item (WholeDirective s) bytes (drop stop t) items g.spelled reads in
          let all = subst (AllByRecursion IsUnnumbered) front.items_are u in
          record {
            later = stretched front.later;
            defined = front.spelled.1;
            unnumbered_is = all.0;
            reads = reads_stretches (drop stop t) front.later front.reads all.1;
            whole = ap stretched front.items_are;
          })

      same : s ≡ parts_of_opaque directive
      same = sym (unnumbered_parts bytes read g.spelled there.unnumbered_is)

      pub found_opaque : is_opaque (parts_of_opaque directive) ≡ true → IsFound t at left (found.Opaque (Directive directive) stop)
      found_opaque o = (
        bytes,
        there.later,
        record {
          spelled = subst (SpellsWhole bytes) same g.spelled;
          defined = subst IsWholeDefined same there.defined;
          unnumbered = refl;
          opaque = o;
        },
        there.reads,
        split,
        there.whole ∙ ap (λ b. pushed_or b s there.later) (ap is_opaque same ∙ o) ∙ ap (λ x. Before [] (OpaqueSpecification x) there.later) same,
      )

      pub found_directive : is_opaque (parts_of_opaque directive) ≡ false → IsFound t at left (found.Items stop)
      found_directive o =
          let opaque : is_opaque s ≡ false = ap is_opaque same ∙ o in (
            ProfileDirective (narrow s) ∷ [],
            bytes,
            there.later,
            (bytes, [], narrowed bytes s g.spelled there.defined there.unnumbered_is opaque, refl, sym (append-nil bytes)),
            there.reads,
            split,
            there.whole ∙ ap (λ b. pushed_or b s there.later) opaque,
          )
