-- The front of a format in which no argument has a number.
use Rattle.std.proofs.Common.{◌≡◌, ◌≢◌, ℕ, ◌+◌, ◌-◌, ◌≤◌, List, [], ◌∷◌, ◌++◌, length, length-append, drop, get_or, map, take, refl, sym, ap, ◌∙◌, arith, inl, inr}
use Rattle.std.proofs.Common.{subst}
use Rattle.std.specs.Prelude.{Option, Some, None, MatchResult, IfOk, Result, Ok, Err, ◌<◌, option_map}
use Rattle.std.proofs.lemmas.Bool.Decides.{nat_tests}
use Rattle.std.specs.List.{AllByRecursion}
use Rattle.std.proofs.lemmas.List.{append-nil, length_push, length-drop, length-map, length-take-le, map-append, nil_from_length, take_all, take-append-drop}
use Rattle.pf_values.specs.declared.limits.TheConstants.{MAX_TEXT_LEN}
use Rattle.pf_values.specs.declared.lengths.Length.TheVariants as lengths
use Rattle.pf_values.specs.declared.models.Model.{Model}
use Rattle.pf_values.specs.declared.types.ArgType.{ArgType}
use Rattle.pf_values.specs.meaning.DataModel.{arg_type}
use Rattle.pf_values.specs.meaning.Flags.{no_flags}
use Rattle.pf_values.specs.meaning.Items.{Directive}
use Rattle.pf_values.specs.meaning.Text.{Text}
use Rattle.pf_text.specs.FoundDirectives.{IsFoundAt}
use Rattle.pf_text.specs.Walks.{BeginsNothing, HasPassed, HasPercent, IsPercent}
use Rattle.pf_text.specs.declared.specification.FoundDirective.{FoundDirective}
use Rattle.pf_text.specs.declared.walk.Walk.{Walk}
use Rattle.pf_text.proofs.WalkLemmas.{run_is_read, run_takes_none, two_bytes}
use Rattle.pf_posix.specs.declared.conversions.WholeConv.{WholeConv}
use Rattle.pf_posix.specs.declared.conversions.WholeLength.TheVariants.{Integer}
use Rattle.pf_posix.specs.declared.fetches.Fetch.{Fetch}
use Rattle.pf_posix.specs.declared.argument_types.PlainFront.{PlainFront}
use Rattle.pf_posix.specs.declared.specifications.Specification.{Specification as Read}
use Rattle.pf_posix.specs.declared.types.WholeArgType.{WholeArgType}
use Rattle.pf_posix.specs.declared.types.WholeArgType.TheVariants.{Profile}
use Rattle.pf_posix.specs.Defined.{undefined_of}
use Rattle.pf_posix.specs.Items.{Byte, Errno, WholeItem, ReadsWhole, Specification, IsWholeReadAs, errno_letter, fetched}
use Rattle.pf_posix.specs.Laws.{HasCount, filled}
use Rattle.pf_posix.specs.Letters.{conversion_of}
use Rattle.pf_posix.specs.OpaqueParts.{bare, parts_of_opaque}
use Rattle.pf_posix.specs.PartsInText.{specification_read}
use Rattle.pf_posix.specs.Endings.{end_refusal}
use Rattle.pf_posix.specs.Halts.{IsDefinedAt, IsHalt, IsRefusedIn}
use Rattle.pf_posix.specs.declared.specifications.Numbering.{Numbering}
use Rattle.pf_posix.specs.declared.specifications.Refused.{Refused}
use Rattle.pf_text.specs.declared.refusals.Refusal.{Refusal}
use Rattle.pf_text.proofs.RefusalLemmas.{take_between}
use Rattle.pf_posix.proofs.FrontRefusals.{IsRefused, agreed_plain, end_refused, halt_refused_plain, whole_item}
use Rattle.pf_posix.specs.Plain.{HasPlainItems, HasTypeAt, IsPlain, IsPlainFront, IsPut, IsPutAt, numbering_after}
use Rattle.pf_posix.specs.Readings.{wanted_types}
use Rattle.pf_posix.specs.Refusals.{IsWholeRefusedAt, numbering_of}
use Rattle.pf_posix.specs.StretchesInText.{HasPartsAt}
use Rattle.pf_posix.specs.Specifications.{Amount, Given, Fetched, WholeSpecification, conversion_letter, modifier_letters}
use Rattle.pf_posix.specs.Spelling.{SpellsWhole, SpellsWholePrecision, SpellsWholeWidth}
use Rattle.pf_posix.specs.Types.{conversion_type, fetch, fetches, star_fetches, widened}
use Rattle.pf_posix.proofs.Bounds.{all_append}
use Rattle.pf_posix.proofs.Growing.{finishes}
use Rattle.pf_posix.proofs.KeptTypes.{items_free, whole_append, fetched_here, fetches_here, item_of, read_here, reads_here, whole_of}
use Rattle.pf_posix.proofs.LetterLemmas.{byte_of_conversion, letter_tests}
use Rattle.pf_posix.proofs.ListLemmas.{filled_none}
use Rattle.pf_posix.proofs.SpecificationsOnce.{same_there, unnumbered_parts}
use Rattle.pf_posix.proofs.GoodFronts.{fetched_append}
use Rattle.pf_posix.proofs.Steps.{Opened, finish, numbers_by, specification_by}

-- a directive of the profile, and a conversion alone
pub typed_profile : (model : Model) (t : Text) (at : ℕ) (found : FoundDirective) (wanted : ArgType) → IsFoundAt t at found
    → wanted ≡ arg_type model found.directive → HasTypeAt model t at (Profile wanted, found.stop)
typed_profile model t at found wanted h e =
    record {
      s = whole_of found.directive;
      plain = record {
        some = h.some;
        within = h.within;
        spelled = read_here (take (found.stop - at) (drop at t)) (Directive found.directive) h.read;
        unnumbered = refl;
      };
      fetches_are = fetches_here model found.directive h.read.1 ∙ ap (λ w. fetch None (Profile w) ∷ []) (sym e);
    }

abbrev bare_of : WholeConv → WholeSpecification
bare_of conversion = specification_by (numbers_by None no_flags None None) (Integer lengths.None) conversion

pub bare_spelled : (t : Text) (at : ℕ) (conversion : WholeConv) → HasPercent t at → conversion_of (get_or t (at + 1) 0) ≡ Some conversion
    → SpellsWhole (take (at + 2 - at) (drop at t)) (bare_of conversion)
bare_spelled t at conversion h known =
    let letter = conversion_letter conversion in
    let two : 2 ≡ at + 2 - at = omega arith in
    let text : 37 ∷ letter ∷ [] ≡ take (at + 2 - at) (drop at t) =
    sym (two_bytes t at h ∙ ap (λ b. 37 ∷ b ∷ []) (byte_of_conversion (get_or t (at + 1) 0) conversion known)) ∙ ap (λ n. take n (drop at t)) two in
    subst (λ u. SpellsWhole u (bare_of conversion)) text
    (finishes Opened (37 ∷ []) letter (bare_of conversion) refl (ap (finish Opened) (letter_tests conversion).sign_is))

-- so it is the specification at its offset
pub bare_at : (t : Text) (at : ℕ) (conversion : WholeConv) → HasPercent t at → conversion_of (get_or t (at + 1) 0) ≡ Some conversion
    → HasPartsAt t at (bare conversion, at + 2)
bare_at t at conversion h known = (
  record {
    position = None;
    flags_start = at + 1;
    flags_stop = at + 1;
    parts = bare conversion;
    stars = record { width = None; width_stop = at; precision = None; precision_stop = at };
  },
  record { some = omega arith; within = omega (arith, h.0); spelled = bare_spelled t at conversion h known },
  refl,
)

pub typed_bare : (model : Model) (t : Text) (at : ℕ) (wanted : WholeArgType) → HasPercent t at
    → Some wanted ≡ option_map (conversion_type model (Integer lengths.None)) (conversion_of (get_or t (at + 1) 0)) → HasTypeAt model t at (wanted, at + 2)
typed_bare model t at wanted h e = go (conversion_of (get_or t (at + 1) 0)) refl e where
  go : (found : Option WholeConv) → conversion_of (get_or t (at + 1) 0) ≡ found → Some wanted ≡ option_map (conversion_type model (Integer lengths.None)) found
      → HasTypeAt model t at (wanted, at + 2)
  go None known e = cc
  go (Some conversion) known e =
      let same : wanted ≡ conversion_type model (Integer lengths.None) conversion = cc in
      let defined : undefined_of (bare_of conversion) ≡ None = grind arith in
      record {
        s = bare_of conversion;
        plain = record {
          some = omega arith;
          within = omega (arith, h.0);
          spelled = (bare_spelled t at conversion h known, defined);
          unnumbered = refl;
        };
        fetches_are = ap (λ k. fetch None k ∷ []) (sym same);
      }

-- its type is put
pub typed_put : (model : Model) (t : Text) (at : ℕ) (wanted : WholeArgType) (stop : ℕ) (old new : List WholeArgType) (count : ℕ)
    → HasTypeAt model t at (wanted, stop)
    → ((first before : List WholeArgType) → old ≡ filled first before → count ≡ length before → new ≡ filled first (before ++ wanted ∷ []))
    → length new ≡ length old → IsPutAt model t at old new count (record { at = stop; count = count + 1 })
typed_put model t at wanted stop old new count h puts long =
    let same : fetched model (Specification h.s ∷ []) ≡ fetch None wanted ∷ [] = append-nil (fetches model h.s) ∙ h.fetches_are in
    record {
      item = Specification h.s;
      plain = h.plain;
      more = ap (λ l. count + length l) (sym same);
      put = λ first before e c. puts first before e c ∙ ap (λ l. filled first (before ++ wanted_types l)) (sym same);
      same_length = long;
    }

-- and so are those of another specification
pub plain_there : (t : Text) (at : ℕ) (numbering : Numbering) (read : Read) (stop : ℕ) → IsDefinedAt t at numbering (read, stop) → read.position ≡ None
    → IsPlain t at stop (Specification (parts_of_opaque read.parts))
plain_there t at numbering read stop h e =
    let text = take (stop - at) (drop at t) in
    let same = unnumbered_parts text read h.is.read.spelled e in
    record {
      some = h.is.read.some;
      within = h.is.read.within;
      spelled = (subst (SpellsWhole text) (sym same) h.is.read.spelled, ap undefined_of same ∙ h.defined);
      unnumbered = refl;
    }

-- a numbered one is the only one there
pub numbered_there : (t : Text) (at : ℕ) (numbering : Numbering) (read : Read) (stop : ℕ) → IsDefinedAt t at numbering (read, stop) → (n : ℕ)
    → read.position ≡ Some n → (found : Read × ℕ) → IsDefinedAt t at numbering found → found.0.position ≢ None
numbered_there t at numbering read stop h n e found k none =
    let size = found.1 - at in
    let same = same_there t at (read, stop) h.is.read (take size (drop at t)) (drop size (drop at t)) (specification_read found.0) k.is.read.spelled
    (sym (take-append-drop size (drop at t))) in
    let no : Some n ≡ None = sym e ∙ ap (λ s. s.position) same.0 ∙ none in
    cc

-- where none begins
pub none_there : (t : Text) (at : ℕ) (numbering : Numbering) (refused : Refused) → IsRefusedIn t at numbering refused → (found : Read × ℕ)
    → IsDefinedAt t at numbering found → found.0.position ≢ None
none_there t at numbering refused h found k e = h.none (take (found.1 - at) (drop at t)) (drop (found.1 - at) (drop at t)) (specification_read found.0)
    k.is.read.spelled (sym (take-append-drop (found.1 - at) (drop at t))) k.is.follows k.defined

-- a specification fetches no more arguments than it has bytes
star_bytes : (t : Text) (position : Option ℕ) (width : Option Amount) → SpellsWholeWidth t position width → length (star_fetches width) ≤ length t
star_bytes t position None h = omega arith
star_bytes t position (Some (Given n)) h = omega arith
star_bytes t position (Some (Fetched number)) h = omega (arith, ap length h.whole)

point_bytes : (t : Text) (position : Option ℕ) (precision : Option Amount) → SpellsWholePrecision t position precision
    → length (star_fetches precision) ≤ length t
point_bytes t position None h = omega arith
point_bytes t position (Some (Given n)) h = omega arith
point_bytes t position (Some (Fetched number)) h = omega (arith, ap length h.2, ap length h.1.whole)

fetches_few : (model : Model) (t : Text) (s : WholeSpecification) → SpellsWhole t s → length (fetches model s) ≤ length t
fetches_few model t s h =
    let p = h.before_is in
    let w = p.before_is in
    omega (
      arith,
      ap length h.whole,
      length_push (h.before ++ modifier_letters s.modifier) (conversion_letter s.conversion),
      length-append h.before (modifier_letters s.modifier),
      ap length p.whole,
      length-append p.before p.text,
      ap length w.whole,
      length-append w.before w.text,
      star_bytes w.text s.position s.width w.width_is,
      point_bytes p.text s.position s.precision p.precision_is,
      length_push (star_fetches s.width ++ star_fetches s.precision) (fetch s.position (conversion_type model s.modifier s.conversion)),
      length-append (star_fetches s.width) (star_fetches s.precision),
    )

-- `%m`
pub plain_errno : (t : Text) (at : ℕ) → HasPercent t at → get_or t (at + 1) 0 ≡ errno_letter → IsPlain t at (at + 2) Errno
plain_errno t at h letter =
    let two : 2 ≡ at + 2 - at = omega arith in
    record {
      some = omega arith;
      within = omega (arith, h.0);
      spelled = ap (λ n. take n (drop at t)) (sym two) ∙ two_bytes t at h ∙ ap (λ b. 37 ∷ b ∷ []) letter;
      unnumbered = tt;
    }

pub errno_put : (model : Model) (t : Text) (at : ℕ) (old : List WholeArgType) (count : ℕ) → HasPercent t at → get_or t (at + 1) 0 ≡ errno_letter
    → IsPutAt model t at old old count (record { at = at + 2; count = count })
errno_put model t at old count h letter =
    record {
      item = Errno;
      plain = plain_errno t at h letter;
      more = omega arith;
      put = λ first before e c. e ∙ ap (filled first) (sym (append-nil before));
      same_length = refl;
    }

-- types were put if and only if an item was read
module _ (model : Model) (t : Text) (at : ℕ) (old new : List WholeArgType) (count : ℕ) (read : PlainFront) where
  pub was_put : IsPut model t at old new count read → read.at ≢ at → IsPutAt model t at old new count read
  was_put (inl h) other = absurd (other h.0)
  was_put (inr h) other = h

  pub none_put : IsPut model t at old new count read → read.at ≡ at
      → (read.count ≡ count) × (new ≡ old) × (get_or t (at + 1) 0 ≢ errno_letter)
      × ((found : Read × ℕ) → IsDefinedAt t at (numbering_after count) found → found.0.position ≢ None)
  none_put (inl h) same = (h.1, h.2, h.3, h.4)
  none_put (inr h) same = absurd (omega (arith, h.plain.some, same))

item_few : (model : Model) (t : Text) (item : WholeItem) → IsWholeReadAs t item → length (fetched model (item ∷ [])) ≤ length t
item_few model t (Byte byte) h = omega arith
item_few model t Errno h = omega arith
item_few model t (Specification s) h = subst (λ l. length l ≤ length t) (sym (append-nil (fetches model s))) (fetches_few model t s h.0)

pub put_few : (model : Model) (t : Text) (at : ℕ) (old new : List WholeArgType) (count stop after : ℕ)
    → IsPutAt model t at old new count (record { at = stop; count = after }) → count ≤ at → after ≤ stop
put_few model t at old new count stop after h few =
    let text = take (stop - at) (drop at t) in
    let long = length-take-le (stop - at) (drop at t) (omega (arith, h.plain.within, length-drop at t)) in
    omega (arith, few, h.more, h.plain.some, long, item_few model text h.item h.plain.spelled)

pub no_front : (model : Model) (t : Text) (old : List WholeArgType) → IsPlainFront model t 0 old old 0
no_front model t old = record { plain = record { items = []; reads = refl; unnumbered = tt; count_is = refl }; front = sym (filled_none old) }

-- what a walk has passed takes no argument
pub passed_more : (model : Model) (before after : Walk) (items : List WholeItem) → HasPassed IsPercent before after
    → ReadsWhole (take before.at before.text.now) items → before.at ≤ length before.text.now
    → (more : List WholeItem) × ReadsWhole (take after.at after.text.now) more × (fetched model more ≡ fetched model items) × (after.at ≤ length after.text.now)
passed_more model before after items h reads low =
    let t = after.text.now in
    let bytes = take (after.at - before.at) (drop before.at t) in
    let passed = run_is_read IsPercent bytes h.items h.run in
    let more = items ++ map item_of h.items in
    let none : fetched model (map item_of h.items) ≡ [] =
    fetched_here model bytes h.items passed ∙ ap (map (λ w. fetch None (widened w))) (run_takes_none model h.items h.run.passed) in (
      more,
      subst (λ u. ReadsWhole u more) (sym (take_between t before.at after.at h.from)) (whole_append (take before.at t) bytes items (map item_of h.items)
          (subst (λ u. ReadsWhole (take before.at u) items) (sym h.text) reads) (reads_here bytes h.items passed)),
      fetched_append model items (map item_of h.items) ∙ ap (λ l. fetched model items ++ l) none ∙ append-nil (fetched model items),
      omega (arith, h.within, low, ap length h.text),
    )

-- how the next specifications are numbered
plain_numbering : (fs : List Fetch) → AllByRecursion (λ f. f.number ≡ None) fs → numbering_of fs ≡ numbering_after (length fs)
plain_numbering [] h = refl
plain_numbering (f ∷ fs) h = grind (arith, nat_tests, h.0)

module _ (model : Model) (old new : List WholeArgType) (count : ℕ) where
  pub front_walked : (before after : Walk) → HasPassed IsPercent before after → IsPlainFront model before.text.now before.at old new count
      → before.at ≤ length before.text.now → IsPlainFront model after.text.now after.at old new count × (after.at ≤ length after.text.now)
  front_walked before after h front low =
      let more = passed_more model before after front.plain.items h front.plain.reads low in (
        record {
          plain = record {
            items = more.0;
            reads = more.1;
            unnumbered = subst (AllByRecursion (λ f. f.number ≡ None)) (sym more.2) front.plain.unnumbered;
            count_is = front.plain.count_is ∙ ap length (sym more.2);
          };
          front = front.front ∙ ap (λ l. filled old (wanted_types l)) (sym more.2);
        },
        more.3,
      )

module _ (model : Model) (t : Text) (at : ℕ) (old new : List WholeArgType) (count : ℕ) (h : IsPlainFront model t at old new count) where
  abbrev seen : List Fetch
  seen = fetched model h.plain.items

  -- an item more
  pub front_put : (more : List WholeArgType) (stop after : ℕ) → IsPutAt model t at new more count (record { at = stop; count = after })
      → IsPlainFront model t stop old more after
  front_put more stop after p =
      let own = fetched model (p.item ∷ []) in
      let items = h.plain.items ++ p.item ∷ [] in
      let text = take (stop - at) (drop at t) in
      let same : fetched model items ≡ seen ++ own = fetched_append model h.plain.items (p.item ∷ []) in
      let long = length-append seen own in
      record {
        plain = record {
          items = items;
          reads = whole_item t at stop h.plain.items p.item (omega (arith, p.plain.some)) h.plain.reads p.plain.spelled;
          unnumbered = subst (AllByRecursion (λ f. f.number ≡ None)) (sym same)
              (all_append (λ f. f.number ≡ None) seen own h.plain.unnumbered
              (items_free model text (p.item ∷ []) (text, [], p.plain.spelled, refl, sym (append-nil text)) (p.plain.unnumbered, tt)));
          count_is = omega (arith, p.more, h.plain.count_is, ap length same, long);
        };
        front =
            p.put old (wanted_types seen) h.front (h.plain.count_is ∙ sym (length-map seen (λ g. g.wanted)))
            ∙ ap (filled old) (sym (map-append (λ g. g.wanted) seen own) ∙ ap wanted_types (sym same));
      }

  -- the end of the text
  pub front_whole : length t ≤ at → length t ≤ MAX_TEXT_LEN → HasCount model t old new count
  front_whole end few =
      record {
        types = wanted_types seen;
        accepted = record {
          items = h.plain.items;
          reads = subst (λ u. ReadsWhole u h.plain.items) (take_all at t end) h.plain.reads;
          limit = few;
          types_are = inl (record { unnumbered = h.plain.unnumbered; types_are = refl });
        };
        count_is = h.plain.count_is ∙ sym (length-map seen (λ g. g.wanted));
        front = h.front;
      }

  -- where nothing begins
  pub front_ended : length t ≤ MAX_TEXT_LEN → at < length t → BeginsNothing t at → IsRefused model t (end_refusal t at)
  front_ended few less nothing = end_refused model t at h.plain.items few h.plain.reads (agreed_plain seen h.plain.unnumbered) less nothing

  -- and where something else does
  pub front_others : (last : List WholeArgType) (r : Result ℕ Refusal)
      → MatchResult r (λ count. HasCount model t new last count) (λ refusal. IsWholeRefusedAt model t refusal.kind refusal.at) → IfOk r (λ _. count ≡ 0)
      → MatchResult r (λ count. HasCount model t old last count) (λ refusal. IsWholeRefusedAt model t refusal.kind refusal.at)
  front_others last (Ok n) k none =
      let nothing = nil_from_length seen (sym h.plain.count_is ∙ none) in
      subst (λ l. HasCount model t l last n) (h.front ∙ ap (λ l. filled old (wanted_types l)) nothing ∙ filled_none old) k
  front_others last (Err refusal) k none = k

-- a specification that is rejected after items without numbers
pub plain_refused : (model : Model) (t : Text) (at count : ℕ) (refused : Refused) → HasPlainItems model t at count → length t ≤ MAX_TEXT_LEN → at ≤ length t
    → IsRefusedIn t at (numbering_after count) refused → IsRefused model t refused.refusal
plain_refused model t at count refused h few low k =
    let seen = fetched model h.items in
    let numbering : numbering_after count ≡ numbering_of seen = ap numbering_after h.count_is ∙ sym (plain_numbering seen h.unnumbered) in
    halt_refused_plain model t at h.items few h.reads k.position k.own refused.refusal h.unnumbered
    (subst (λ n. IsHalt t at n k.position k.own refused.refusal) numbering k.halt)
