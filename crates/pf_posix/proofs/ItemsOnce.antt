-- A text begins with one item at most, and is read as items in one way.
use Rattle.std.proofs.Common.{◌≡◌, ◌≢◌, ℕ, Bool, true, false, List, [], ◌∷◌, ◌++◌, length, length-append, refl, sym, ap, ◌∙◌, arith, subst}
use Rattle.std.specs.Prelude.{◌==◌, MatchBool, if◌then◌else◌}
use Rattle.std.proofs.lemmas.Bool.Decides.{nat_tests}
use Rattle.pf_values.specs.meaning.Text.{Text}
use Rattle.pf_posix.specs.Items.{Byte, Errno, WholeItem, ReadsWhole, Specification, IsWholeReadAs, errno}
use Rattle.pf_posix.specs.Specifications.{WholeSpecification}
use Rattle.pf_posix.specs.Spelling.{SpellsWhole}
use Rattle.pf_posix.proofs.OneState.{some_spelled}
use Rattle.pf_posix.proofs.SpecificationsOnce.{begins_known, specification_once}
use Rattle.pf_posix.proofs.Steps.{sign_of}

abbrev spelled_byte : ℕ → Text
spelled_byte byte = if byte == 37 then 37 ∷ 37 ∷ [] else byte ∷ []

-- the text of an item, which need not be defined
abbrev pub HasText : WholeItem → Text → Type 0
HasText (Byte byte) t = t ≡ spelled_byte byte
HasText (Specification s) t = SpellsWhole t s
HasText Errno t = t ≡ errno

pub text_there : (t : Text) (item : WholeItem) → IsWholeReadAs t item → HasText item t
text_there t (Specification s) h = h.0
text_there t Errno h = h
text_there t (Byte byte) h = go (byte == 37) h where
  go : (b : Bool) → MatchBool b (t ≡ 37 ∷ 37 ∷ []) ((byte ≢ 0) × (t ≡ byte ∷ [])) → t ≡ (if b then 37 ∷ 37 ∷ [] else byte ∷ [])
  go true h = h
  go false h = h.1

same_byte : (x y : ℕ) (r q : Text) → spelled_byte x ++ r ≡ spelled_byte y ++ q → (x ≡ y) × (r ≡ q)
same_byte x y r q e = go (x == 37) (y == 37) refl refl e where
  go : (b c : Bool) → (x == 37) ≡ b → (y == 37) ≡ c → (if b then 37 ∷ 37 ∷ [] else x ∷ []) ++ r ≡ (if c then 37 ∷ 37 ∷ [] else y ∷ []) ++ q → (x ≡ y) × (r ≡ q)
  go true true h g e = (grind (arith, nat_tests, h, g), cc)
  go true false h g e = let first : 37 ≡ y = cc in let no : true ≡ false = ap (λ k. k == 37) first ∙ g in cc
  go false true h g e = let first : x ≡ 37 = cc in let no : false ≡ true = sym h ∙ ap (λ k. k == 37) first in cc
  go false false h g e = (cc, cc)

-- a byte that begins with `%` is `%%`; a specification and `%m` go on in other ways
pub percent_twice : (x : ℕ) (rest more : Text) → spelled_byte x ++ rest ≡ 37 ∷ more → more ≡ 37 ∷ rest
percent_twice x rest more e = go (x == 37) refl e where
  go : (b : Bool) → (x == 37) ≡ b → (if b then 37 ∷ 37 ∷ [] else x ∷ []) ++ rest ≡ 37 ∷ more → more ≡ 37 ∷ rest
  go true h e = cc
  go false h e = let first : x ≡ 37 = cc in let no : false ≡ true = sym h ∙ ap (λ k. k == 37) first in cc

no_specification : (x : ℕ) (rest first more : Text) (s : WholeSpecification) → SpellsWhole first s → spelled_byte x ++ rest ≢ first ++ more
no_specification x rest first more s h e =
    let parts = begins_known first s h in
    let twice = percent_twice x rest _ (e ∙ ap (λ u. u ++ more) parts.3) in
    let second : parts.0 ≡ 37 = cc in
    parts.2 (ap sign_of second)

-- no specification begins with `%m`
pub errno_alone : (rest first more : Text) (s : WholeSpecification) → SpellsWhole first s → errno ++ rest ≢ first ++ more
errno_alone rest first more s h e =
    let parts = begins_known first s h in
    let whole : errno ++ rest ≡ 37 ∷ (parts.0 ∷ parts.1) ++ more = e ∙ ap (λ u. u ++ more) parts.3 in
    let second : parts.0 ≡ 109 = cc in
    parts.2 (ap sign_of second)

byte_no_errno : (x : ℕ) (rest more : Text) → spelled_byte x ++ rest ≢ errno ++ more
byte_no_errno x rest more e = let twice = percent_twice x rest _ e in absurd (grind (arith, twice))

pub item_once : (a b : WholeItem) (first rest other more : Text) → HasText a first → HasText b other → first ++ rest ≡ other ++ more → (a ≡ b) × (rest ≡ more)
item_once (Byte x) (Byte y) first rest other more h g e =
    let same = same_byte x y rest more (sym (ap (λ u. u ++ rest) h) ∙ e ∙ ap (λ u. u ++ more) g) in (ap Byte same.0, same.1)
item_once (Byte x) (Specification s) first rest other more h g e = absurd (no_specification x rest other more s g (sym (ap (λ u. u ++ rest) h) ∙ e))
item_once (Specification s) (Byte y) first rest other more h g e = absurd (no_specification y more first rest s h (sym (ap (λ u. u ++ more) g) ∙ sym e))
item_once Errno Errno first rest other more h g e =
    let same : errno ++ rest ≡ errno ++ more = sym (ap (λ u. u ++ rest) h) ∙ e ∙ ap (λ u. u ++ more) g in (refl, cc)
item_once (Byte x) Errno first rest other more h g e =
    absurd (byte_no_errno x rest more (sym (ap (λ u. u ++ rest) h) ∙ e ∙ ap (λ u. u ++ more) g))
item_once Errno (Byte y) first rest other more h g e =
    absurd (byte_no_errno y more rest (sym (ap (λ u. u ++ more) g) ∙ sym e ∙ ap (λ u. u ++ rest) h))
item_once Errno (Specification s) first rest other more h g e = absurd (errno_alone rest other more s g (sym (ap (λ u. u ++ rest) h) ∙ e))
item_once (Specification s) Errno first rest other more h g e = absurd (errno_alone more first rest s h (sym (ap (λ u. u ++ more) g) ∙ sym e))
item_once (Specification s) (Specification p) first rest other more h g e =
    let same = specification_once first other rest more s p h g e in (ap Specification same.0, same.1)

some_text : (item : WholeItem) (first rest : Text) → HasText item first → first ++ rest ≢ []
some_text (Specification s) first rest h e = omega (arith, ap length e, length-append first rest, some_spelled first s h)
some_text Errno first rest h e = let no : errno ++ rest ≡ [] = sym (ap (λ u. u ++ rest) h) ∙ e in cc
some_text (Byte x) first rest h e = go (x == 37) (sym (ap (λ u. u ++ rest) h) ∙ e) where
  go : (b : Bool) → (if b then 37 ∷ 37 ∷ [] else x ∷ []) ++ rest ≢ []
  go true e = cc
  go false e = cc

-- a text that begins with an item is read as this item and others
pub record BeginsWith (item : WholeItem) (more : Text) (items : List WholeItem) : Type 0 where
  pub first : Text
  pub later : List WholeItem
  pub items_are : items ≡ item ∷ later
  pub spelled : IsWholeReadAs first item
  pub reads : ReadsWhole more later

pub first_item : (item : WholeItem) (first more : Text) (items : List WholeItem) → HasText item first → ReadsWhole (first ++ more) items
    → BeginsWith item more items
first_item item first more [] h reads = absurd (some_text item first more h reads)
first_item item first more (i ∷ items) h reads =
    let same = item_once i item reads.0 reads.1 first more (text_there reads.0 i reads.2) h (sym reads.4) in
    record {
      first = reads.0;
      later = items;
      items_are = ap (λ x. x ∷ items) same.0;
      spelled = subst (IsWholeReadAs reads.0) same.0 reads.2;
      reads = subst (λ u. ReadsWhole u items) same.1 reads.3;
    }

pub items_once : (t : Text) (a b : List WholeItem) → ReadsWhole t a → ReadsWhole t b → a ≡ b
items_once t [] [] h g = refl
items_once t [] (i ∷ b) h g = absurd (some_text i g.0 g.1 (text_there g.0 i g.2) (sym g.4 ∙ h))
items_once t (i ∷ a) b h g =
    let front = first_item i h.0 h.1 b (text_there h.0 i h.2) (subst (λ u. ReadsWhole u b) h.4 g) in
    ap (λ l. i ∷ l) (items_once h.1 a front.later h.3 front.reads) ∙ sym front.items_are
