-- A format whose arguments are numbered, read one specification after another.
use Rattle.std.proofs.Common.{◌+◌, get_or, ◌≡◌, ℕ, ◌<◌, ◌≤◌, true, List, [], ◌∷◌, ◌++◌, length, take, refl, sym, ap, ap₂, ◌∙◌, arith, subst, inl, inr, Err, Ok, Result}
use Rattle.std.specs.Prelude.{Option, Some, None, ◌⊎◌, MatchResult, is_some}
use Rattle.std.specs.List.{AllByRecursion}
use Rattle.std.proofs.lemmas.List.{append-nil, append_assoc, take_all}
use Rattle.pf_values.specs.declared.limits.TheConstants.{MAX_TEXT_LEN}
use Rattle.pf_values.specs.declared.models.Model.{Model}
use Rattle.pf_values.specs.declared.refusals.RefusalKind.TheVariants.{MissingArgument}
use Rattle.pf_values.specs.meaning.Text.{Text}
use Rattle.pf_text.specs.Walks.{BeginsNothing, HasPassed, HasPercent, IsPercent}
use Rattle.pf_text.specs.declared.refusals.Refusal.{Refusal}
use Rattle.pf_text.specs.declared.walk.Walk.{Walk}
use Rattle.pf_posix.specs.declared.fetches.Fetch.{Fetch}
use Rattle.pf_posix.specs.declared.numbered.Table.{Table}
use Rattle.pf_posix.specs.declared.specifications.Numbering.TheVariants.{Numbered, Undecided}
use Rattle.pf_posix.specs.declared.specifications.Refused.{Refused}
use Rattle.pf_posix.specs.declared.specifications.Specification.{Specification as Read}
use Rattle.pf_posix.specs.declared.specifications.Stars.{Stars}
use Rattle.pf_posix.specs.declared.types.WholeArgType.{WholeArgType}
use Rattle.pf_posix.specs.Beginnings.{IsUndecided}
use Rattle.pf_posix.specs.Endings.{end_refusal}
use Rattle.pf_posix.specs.Halts.{FollowsBy, HasStar, HasStars, IsDefinedAt, IsHalt, IsRefusedIn, IsStarAt, one_fetch}
use Rattle.pf_posix.specs.Items.{Errno, errno_letter, WholeItem, ReadsWhole, Specification, fetched}
use Rattle.pf_posix.specs.Laws.{HasCount, filled}
use Rattle.pf_posix.specs.PartsInText.{specification_read}
use Rattle.pf_posix.specs.Readings.{conflicts, listed}
use Rattle.pf_posix.specs.Refusals.{AreAgreed, HasGap, IsWholeRefusedAt, numbering_by, numbering_of}
use Rattle.pf_posix.specs.Specifications.{WholeSpecification}
use Rattle.pf_posix.specs.Tables.{HasConflict, HaveOneType, IsConflict, IsNumberedFirst, Keeps, KeepsSpecification, KeepsStars, TableHolds, of_stars}
use Rattle.pf_posix.specs.Types.{AreNumbered, IsFetched, conversion_type, fetch, fetches, int_type, star_fetches}
use Rattle.pf_posix.proofs.Bounds.{all_append, items_within}
use Rattle.pf_posix.proofs.FrontRefusals.{IsRefused, agreed_by, end_refused, halt_refused, halt_refused_plain, last_conflict, star_conflict, undecided_own}
use Rattle.pf_posix.proofs.FrontRefusals.{whole_item}
use Rattle.pf_posix.proofs.PlainFrontLemmas.{plain_errno, passed_more}
use Rattle.pf_posix.proofs.GoodFronts.{Taken, fetched_append}
use Rattle.pf_posix.proofs.Agreeing.{length_listed, numbered_types}
use Rattle.pf_posix.proofs.Unique.{missing}

-- the text up to an offset is items whose arguments are numbered, and are in a table
pub record IsTabledTo (model : Model) (t : Text) (at : ℕ) (table : Table) : Type 0 where
  pub items : List WholeItem
  pub reads : ReadsWhole (take at t) items
  pub within : at ≤ length t
  pub some : numbering_of (fetched model items) ≡ Numbered
  pub numbered : AllByRecursion (λ g. numbering_by g.number ≡ Numbered) (fetched model items)
  pub holds : TableHolds table (fetched model items)

abbrev pub AreAllNumbered : List Fetch → Type 0
AreAllNumbered seen = AllByRecursion (λ g. numbering_by g.number ≡ Numbered) seen

-- one more specification was taken, or it conflicts with the others
abbrev pub IsAdded : Model → Text → ℕ → Table → Result (Unit {0}) Refusal → Type 0
IsAdded model t stop new r = MatchResult r (λ _. IsTabledTo model t stop new) (IsRefused model t)

follows_numbered : (o : Option ℕ) → FollowsBy Numbered o → is_some o ≡ true
follows_numbered o h = grind arith

one_numbered : (o : Option ℕ) (type : WholeArgType) → AreAllNumbered (one_fetch o type)
one_numbered None type = tt
one_numbered (Some n) type = (refl, tt)

stars_numbered : (stars : Stars) → AreAllNumbered (of_stars stars)
stars_numbered stars = all_append _ (one_fetch stars.width int_type) (one_fetch stars.precision int_type) (one_numbered stars.width int_type)
    (one_numbered stars.precision int_type)

some_numbered : (fs : List Fetch) (o : Option ℕ) (type : WholeArgType) → is_some o ≡ true → AreAllNumbered (fs ++ one_fetch o type)
    → numbering_of (fs ++ one_fetch o type) ≡ Numbered
some_numbered fs None type e all = cc
some_numbered [] (Some n) type e all = refl
some_numbered (g ∷ fs) (Some n) type e all = all.0

-- items whose arguments are numbered, and are in a table
module _ (model : Model) (t : Text) (at : ℕ) (items : List WholeItem) (short : length t ≤ MAX_TEXT_LEN) (reads : ReadsWhole (take at t) items)
    (numbered : AreAllNumbered (fetched model items)) where
  abbrev seen : List Fetch
  seen = fetched model items

  agreed_with : (own : List Fetch) → AreAllNumbered own → HaveOneType (seen ++ own) → AreAgreed (seen ++ own)
  agreed_with own h one = agreed_by (seen ++ own) Numbered (all_append _ seen own numbered h) one

  -- a `*` conflicts with them
  one_refused : (position number : Option ℕ) (stop : ℕ) (own : List Fetch) (refusal : Refusal)
      → (is_some position ≡ true → FollowsBy (numbering_of seen) position) → AreAllNumbered own → HaveOneType (seen ++ own)
      → HasStar t at position number stop own → IsConflict (seen ++ own) number int_type stop refusal
      → IsRefused model t refusal
  one_refused position number stop own refusal follows h one has k =
      let star : IsStarAt t at stop k.0 position own = subst (λ o. HasStar t at position o stop own) k.1 has in
      subst (IsRefused model t) (sym k.3) (star_conflict model t at items short reads position own stop k.0 star (agreed_with own h one)
      (follows star.digits.numbered) k.2)

  stars_refused : (position : Option ℕ) (stars : Stars) (own : List Fetch) (refusal : Refusal)
      → (is_some position ≡ true → FollowsBy (numbering_of seen) position) → HaveOneType seen → HasStars t at position stars own
      → HasConflict seen stars refusal → IsRefused model t refusal
  stars_refused position stars own refusal follows one has (inl k) =
      one_refused position stars.width stars.width_stop [] refusal follows tt (subst HaveOneType (sym (append-nil seen)) one) has.width
      (subst (λ l. IsConflict l stars.width int_type stars.width_stop refusal) (sym (append-nil seen)) k)
  stars_refused position stars own refusal follows one has (inr k) =
      one_refused position stars.precision stars.precision_stop (one_fetch stars.width int_type) refusal follows (one_numbered stars.width int_type) k.0
      has.precision k.1

  -- one more specification
  module _ (read : Read) (stop : ℕ) (h : IsDefinedAt t at (numbering_of seen) (read, stop)) (some : is_some read.position ≡ true) (old : Table)
      (holds : TableHolds old seen) where
    abbrev s : WholeSpecification
    s = specification_read read

    abbrev type : WholeArgType
    type = conversion_type model read.parts.modifier read.parts.conversion

    abbrev before : List Fetch
    before = seen ++ of_stars read.stars

    own_is : star_fetches s.width ++ star_fetches s.precision ≡ of_stars read.stars
    own_is = h.is.stars.own_is some

    kept : (new : Table) → TableHolds new (before ++ one_fetch read.position type) → IsTabledTo model t stop new
    kept new k =
        let all : AreAllNumbered (before ++ one_fetch read.position type) = all_append _ before (one_fetch read.position type)
        (all_append _ seen (of_stars read.stars) numbered (stars_numbered read.stars)) (one_numbered read.position type) in
        record {
          items = items ++ Specification s ∷ [];
          reads = whole_item t at stop items (Specification s) (omega (arith, h.is.read.some)) reads (h.is.read.spelled, h.defined);
          within = h.is.read.within;
          some = ap numbering_of more_is ∙ some_numbered before read.position type some all;
          numbered = subst AreAllNumbered (sym more_is) all;
          holds = subst (TableHolds new) (sym more_is) k;
        } where
          last_is : (o : Option ℕ) → is_some o ≡ true → fetch o type ∷ [] ≡ one_fetch o type
          last_is o e = grind arith

          more_is : fetched model (items ++ Specification s ∷ []) ≡ before ++ one_fetch read.position type
          more_is =
              fetched_append model items (Specification s ∷ [])
              ∙ ap (λ l. seen ++ l) (append-nil (fetches model s) ∙ ap₂ (λ (a b : List Fetch). a ++ b) own_is (last_is read.position some))
              ∙ sym (append_assoc seen (of_stars read.stars) (one_fetch read.position type))

    refused_so : (refusal : Refusal) → HasConflict seen read.stars refusal ⊎ (HaveOneType before × IsConflict before read.position type stop refusal)
        → IsRefused model t refusal
    refused_so refusal (inl k) =
        stars_refused read.position read.stars (star_fetches s.width ++ star_fetches s.precision) refusal (λ e. h.is.follows) holds.one_type h.is.stars k
    refused_so refusal (inr (one, place)) =
        subst (IsRefused model t) (sym place.3) (last_conflict model t at items short reads read stop h
        (subst (λ l. AreAgreed (seen ++ l)) (sym own_is) (agreed_with (of_stars read.stars) (stars_numbered read.stars) one))
        (subst (λ l. conflicts (seen ++ l) (fetch read.position type) ≡ true) (sym own_is)
        (subst (λ o. conflicts before (fetch o type) ≡ true) (sym place.1) place.2)))

    pub added : (r : Result (Unit {0}) Refusal) (new : Table) → KeepsSpecification model old read stop r new → IsAdded model t stop new r
    added (Ok done) new k = kept new (k seen holds)
    added (Err refusal) new k = refused_so refusal (k seen holds)

-- after numbered specifications
module _ (model : Model) (t : Text) (at : ℕ) (table : Table) (h : IsTabledTo model t at table) (short : length t ≤ MAX_TEXT_LEN) where
  abbrev there : List Fetch
  there = fetched model h.items

  agreed_there : AreAgreed there
  agreed_there = agreed_by there Numbered h.numbered h.holds.one_type

  pub next_added : (read : Read) (stop : ℕ) → IsDefinedAt t at Numbered (read, stop) → (r : Result (Unit {0}) Refusal) (new : Table)
      → KeepsSpecification model table read stop r new → IsAdded model t stop new r
  next_added read stop d r new k =
      added model t at h.items short h.reads h.numbered read stop (subst (λ n. IsDefinedAt t at n (read, stop)) (sym h.some) d)
      (follows_numbered read.position d.is.follows) table h.holds r new k

  -- `%m`
  pub errno_tabled : HasPercent t at → get_or t (at + 1) 0 ≡ errno_letter → IsTabledTo model t (at + 2) table
  errno_tabled p letter =
      let plain = plain_errno t at p letter in
      let same : fetched model (h.items ++ Errno ∷ []) ≡ there = fetched_append model h.items (Errno ∷ []) ∙ append-nil there in
      record {
        items = h.items ++ Errno ∷ [];
        reads = whole_item t at (at + 2) h.items Errno (omega arith) h.reads plain.spelled;
        within = plain.within;
        some = ap numbering_of same ∙ h.some;
        numbered = subst AreAllNumbered (sym same) h.numbered;
        holds = subst (TableHolds table) (sym same) h.holds;
      }

  -- one that is rejected
  module _ (refused : Refused) (k : IsRefusedIn t at Numbered refused) where
    halts_there : HaveOneType (there ++ of_stars refused.stars) → IsRefused model t refused.refusal
    halts_there one =
        halt_refused model t at h.items short h.reads k.position k.own refused.refusal (agreed k.halt.follows)
        (subst (λ n. IsHalt t at n k.position k.own refused.refusal) (sym h.some) k.halt) where
          agreed : IsUndecided k.halt.part ⊎ FollowsBy Numbered k.position → AreAgreed (there ++ k.own)
          agreed (inl u) = subst (λ l. AreAgreed (there ++ l)) (sym (undecided_own k.halt.part k.position k.own u k.halt.begun))
              (subst AreAgreed (sym (append-nil there)) agreed_there)
          agreed (inr f) = subst (λ l. AreAgreed (there ++ l)) (sym (k.stars.own_is (follows_numbered k.position f)))
              (agreed_with model t at h.items short h.reads h.numbered (of_stars refused.stars) (stars_numbered refused.stars) one)

    pub next_refused : (r : Result (Unit {0}) Refusal) (new : Table) → KeepsStars table refused.stars r new
        → MatchResult r (λ _. IsRefused model t refused.refusal) (IsRefused model t)
    next_refused (Ok done) new s = halts_there (s there h.holds).one_type
    next_refused (Err refusal) new s =
        stars_refused model t at h.items short h.reads h.numbered k.position refused.stars k.own refusal (λ e. inr (grind (arith, h.some, e)))
        h.holds.one_type k.stars (s there h.holds)

  -- where nothing begins
  pub table_ended : at < length t → BeginsNothing t at → IsRefused model t (end_refusal t at)
  table_ended less nothing = end_refused model t at h.items short h.reads agreed_there less nothing

  -- and at the end
  module _ (end : length t ≤ at) where
    taken : Taken model t there
    taken = record {
      items = h.items;
      reads = subst (λ u. ReadsWhole u h.items) (take_all at t end) h.reads;
      seen_are = refl;
      agreed = agreed_there;
      limit = short;
    }

    pub finished : (old new : List WholeArgType) → ((index : ℕ) → index < table.count → IsFetched index there)
        → ((seen : List Fetch) → TableHolds table seen → new ≡ filled old (listed seen 0 table.count)) → HasCount model t old new table.count
    unfolding taken
    finished old new all front =
        let count = h.holds.count in
        record {
          types = listed there 0 table.count;
          accepted = record {
            items = h.items;
            reads = taken.reads;
            limit = short;
            types_are = inr (subst (λ n. AreNumbered there (listed there 0 n)) (sym count)
                (numbered_types there agreed_there (items_within model (take at t) h.items h.reads) h.numbered (λ p less. all p (omega (arith, less, count)))));
          };
          count_is = sym (length_listed there 0 table.count);
          front = front there h.holds;
        }

    pub gap_refused : (refusal : Refusal) → refusal ≡ record { kind = MissingArgument; at = at } → HasGap there → IsRefused model t refusal
    gap_refused refusal e gap =
        let place : at ≡ length t = omega (arith, end, h.within) in
        subst (IsRefused model t) (sym e) (subst (IsWholeRefusedAt model t MissingArgument) (sym place) (missing model t there taken gap))

-- the walk goes on
pub tabled_walked : (model : Model) (before after : Walk) (table : Table) → HasPassed IsPercent before after
    → IsTabledTo model before.text.now before.at table → IsTabledTo model after.text.now after.at table
tabled_walked model before after table p h =
    let more = passed_more model before after h.items p h.reads h.within in
    record {
      items = more.0;
      reads = more.1;
      within = more.3;
      some = ap numbering_of more.2 ∙ h.some;
      numbered = subst AreAllNumbered (sym more.2) h.numbered;
      holds = subst (TableHolds table) (sym more.2) h.holds;
    }

-- the first specification
module _ (model : Model) (t : Text) (at : ℕ) (first : IsNumberedFirst model t at) (short : length t ≤ MAX_TEXT_LEN) where
  none_yet : Undecided ≡ numbering_of (fetched model first.items)
  none_yet = ap numbering_of (sym first.nothing)

  pub first_added : (read : Read) (stop : ℕ) → IsDefinedAt t at Undecided (read, stop) → (old : Table) → TableHolds old [] → (r : Result (Unit {0}) Refusal)
      (new : Table) → KeepsSpecification model old read stop r new → IsAdded model t stop new r
  first_added read stop h old holds r new k =
      added model t at first.items short first.reads (subst AreAllNumbered (sym first.nothing) tt) read stop
      (subst (λ n. IsDefinedAt t at n (read, stop)) none_yet h) (first.numbered (read, stop) h) old (subst (TableHolds old) (sym first.nothing) holds) r new k

  pub first_refused : (refused : Refused) → at ≤ length t → IsRefusedIn t at Undecided refused → IsRefused model t refused.refusal
  first_refused refused low h =
      halt_refused_plain model t at first.items short first.reads h.position h.own refused.refusal
      (subst (AllByRecursion (λ f. f.number ≡ None)) (sym first.nothing) tt) (subst (λ n. IsHalt t at n h.position h.own refused.refusal) none_yet h.halt)

-- the last argument of a specification
pub add_last : (seen : List Fetch) (stars : Stars) (position : Option ℕ) (wanted type : WholeArgType) (stop : ℕ) (old new : Table)
    (r : Result (Unit {0}) Refusal) → TableHolds old (seen ++ of_stars stars) → wanted ≡ type → Keeps old position wanted stop r new
    → MatchResult r (λ _. TableHolds new ((seen ++ of_stars stars) ++ one_fetch position type)) (λ refusal. HasConflict seen stars refusal
    ⊎ (HaveOneType (seen ++ of_stars stars) × IsConflict (seen ++ of_stars stars) position type stop refusal))
add_last seen stars position wanted type stop old new (Ok done) holds e k =
    subst (λ w. TableHolds new ((seen ++ of_stars stars) ++ one_fetch position w)) e (k (seen ++ of_stars stars) holds)
add_last seen stars position wanted type stop old new (Err refusal) holds e k =
    inr (holds.one_type, subst (λ w. IsConflict (seen ++ of_stars stars) position w stop refusal) e (k (seen ++ of_stars stars) holds))
