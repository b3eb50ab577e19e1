-- Where no fault is found, a required argument of the subcommand has a value.
use Rattle.std.proofs.Common.{arith, ◌≡◌, ◌∙◌, ◌+◌, ◌++◌, ◌&&◌, ◌||◌, ℕ, List, [], ◌∷◌, Bool, cond, true, false, not, Option, Some, None, is_some, refl, sym, ap, ap₂}
use Rattle.std.proofs.Common.{find, drop, length, min, nat_lt, option_map, unwrap_or, zero, suc}
use Rattle.std.specs.Prelude.{encode_utf8, option_and_then, slice_get}
use Rattle.std.specs.List.{fold, list_all, list_any}
use Rattle.std.specs.Option.{option_map_or}
use Rattle.std.specs.Str.{bytes_eq, chars}
use Rattle.std.proofs.lemmas.List.Folds.{list_all-append}
use Rattle.std.proofs.lemmas.Slice.Eq.{bytes_eq-Decides}
use Rattle.clap.specs.Facts.{explicit_source, unwrap_or_range}
use Rattle.clap.specs.Faults.{bundle_fault, bundle_step_fault, defaults_fault, entered_fault, fault_of, flag_word_fault, flags_fault, level_fault, long_fault}
use Rattle.clap.specs.Faults.{option_fault, other_fault, positional_fault, react_fault, settle_fault, short_fault, step_fault, stray_fault, turn_fault}
use Rattle.clap.specs.Faults.{use_fault, walk_fault, word_fault}
use Rattle.clap.specs.Kinds.{Kinds, check_kinds, or_else, range_kinds}
use Rattle.clap.specs.Lexer.{long_of, short_of}
use Rattle.clap.specs.Matches.{count_text}
use Rattle.clap.specs.Simple.{App, Shape, argument_words, built, entered, label_of, names_of, rows_at, subcommand_of}
use Rattle.clap.specs.Takes.{is_given}
use Rattle.clap.specs.Walk.{Held, Names, Outcome, Row, Rule, Step, Text, Waiting, Walk, action_of, after_flag, after_step, answers_to, arg_by_id, arg_by_index}
use Rattle.clap.specs.Walk.{arg_by_long, arg_by_short, at_row, attached_value, bundle_met, bundle_step, count_of, default_rows, done, finished, first_of}
use Rattle.clap.specs.Walk.{flag_met, has_row, idle, is_pending, long_met, long_or_other, more_values, most_values, new_count, next, nothing_held, option}
use Rattle.clap.specs.Walk.{option_met, option_word, plain, plain_word, positional, pushed, reacted, reading_by, refused, settled, settled_rows, short_met}
use Rattle.clap.specs.Walk.{short_or_plain, subcommand, subcommand_met, subcommand_or_other, takes_several, takes_values, to_positional, trailing, used}
use Rattle.clap.specs.Walk.{used_as, used_by_id, value, values_or_missing, waits, walk, walk_from, walked, walked_from, with_count, with_default, with_values}
use Rattle.clap.specs.Walk.{without, word_met}
use Rattle.clap.specs.declared.builder.action.ArgAction.{ArgAction}
use Rattle.clap.specs.declared.builder.action.ArgAction.TheVariants as action
use Rattle.clap.specs.declared.builder.value_parser.Reading.{Reading}
use Rattle.clap.specs.declared.error.kind.ErrorKind.TheVariants.{InvalidValue, TooManyValues}
use Rattle.clap.specs.declared.parser.matches.ValueSource.{ValueSource}
use Rattle.clap.specs.declared.parser.matches.ValueSource.TheVariants.{CommandLine, DefaultValue}
use Rattle.clap.proofs.WalkLemmas.{both}

-- ---- what the shape of the subcommand asks

-- an argument with this id takes a value at each use
abbrev pub wants_value : Text → Rule → Bool
wants_value id a = not (bytes_eq a.id id) || nat_lt 0 (unwrap_or_range a.range).start_inclusive

-- a subcommand of this name has a required argument with this id, which takes a value
abbrev pub requires_value : Text → Text → Shape → Bool
requires_value name id s = not (bytes_eq s.name name)
    || (list_any (λ a. bytes_eq a.id id && a.required) s.rules && list_all (wants_value id) s.rules)

-- ---- small steps

-- where both steps find nothing, each does
neither : (a b : Kinds) → or_else a b ≡ [] → (a ≡ []) × (b ≡ [])
neither [] b e = (refl, e)
neither (k ∷ ks) b e = absurd (cc)

-- what is found passes a test that all pass
found_passes : {X : Type 0} (p test : X → Bool) (xs : List X) → list_all p xs ≡ true → option_map_or p (find test xs) true ≡ true
found_passes p test [] e = refl
found_passes p test (x ∷ xs) e = go (test x) (found_passes p test xs (both _ _ e).1)
  where
    go : (b : Bool) → option_map_or p (find test xs) true ≡ true → option_map_or p (cond b (Some x) (find test xs)) true ≡ true
    go true rest = (both _ _ e).0
    go false rest = rest

implied : (a b : Bool) → (not a || b) ≡ true → a ≡ true → b ≡ true
implied a b e g = grind arith

-- ---- rows

-- a row with this id has a value
abbrev row_has : Text → Row → Bool
row_has id r = not (bytes_eq r.id id) || is_some (slice_get r.values 0)

abbrev HasValues : Text → List Row → Type 0
HasValues id rows = list_all (row_has id) rows ≡ true

-- a test of each row holds after a change of one row, or a new row
at_row_has : (p : Row → Bool) (key : Text) (change : Row → List Row) (missing : List Row) → ((r : Row) → p r ≡ true → list_all p (change r) ≡ true)
    → list_all p missing ≡ true → (rows : List Row) → list_all p rows ≡ true → list_all p (at_row key change missing rows) ≡ true
at_row_has p key change missing changed added [] e = added
at_row_has p key change missing changed added (r ∷ rs) e = go (bytes_eq r.id key) (at_row_has p key change missing changed added rs (both _ _ e).1)
  where
    go : (b : Bool) → list_all p (at_row key change missing rs) ≡ true → list_all p (cond b (change r ++ rs) (r ∷ at_row key change missing rs)) ≡ true
    go true rest = list_all-append p (change r) rs ∙ ap₂ (λ x y. x && y) (changed r (both _ _ e).0) (both _ _ e).1
    go false rest = ap₂ (λ x y. x && y) (both _ _ e).0 rest

longer : (b : Bool) (xs ys : List Text) → (not b || is_some (slice_get xs 0)) ≡ true → ((not b || is_some (slice_get (xs ++ ys) 0)) && true) ≡ true
longer false xs ys e = refl
longer true [] ys e = absurd (cc)
longer true (x ∷ xs) ys e = refl

alone : (b : Bool) → b ≡ true → (b && true) ≡ true
alone b e = grind arith

filled : (b : Bool) → (not b || true) ≡ true
filled b = grind arith

module _ (id : Text) where
  with_values_has : (key : Text) (how : Reading) (s : ValueSource) (values : List Text) (rows : List Row)
      → (not (bytes_eq key id) || is_some (slice_get values 0)) ≡ true → HasValues id rows → HasValues id (with_values key how s values rows)
  with_values_has key how s values rows some has =
      at_row_has (row_has id) key (more_values s values) _ (λ r e. longer (bytes_eq r.id id) r.values values e) (alone _ some) rows has

  with_count_has : (key : Text) (how : Reading) (s : ValueSource) (n : ℕ) (rows : List Row) → HasValues id rows → HasValues id (with_count key how s n rows)
  with_count_has key how s n rows has =
      at_row_has (row_has id) key (new_count s n) _ (λ r e. longer (bytes_eq r.id id) r.values (count_text n ∷ []) e)
      (alone _ (filled (bytes_eq key id))) rows has

  without_has : (key : Text) (rows : List Row) → HasValues id rows → HasValues id (without key rows)
  without_has key rows has = at_row_has (row_has id) key (λ _. []) [] (λ r e. refl) refl rows has

  used_as_has : (x : ArgAction) (key : Text) (how : Reading) (values : List Text) (rows : List Row)
      → (not (bytes_eq key id) || is_some (slice_get values 0)) ≡ true → HasValues id rows → HasValues id (used_as x key how values rows)
  used_as_has action.Set key how values rows some has = with_values_has key how _ values _ some (without_has key rows has)
  used_as_has action.SetTrue key how values rows some has = with_values_has key how _ values _ some (without_has key rows has)
  used_as_has action.SetFalse key how values rows some has = with_values_has key how _ values _ some (without_has key rows has)
  used_as_has action.Append key how values rows some has = with_values_has key how _ values rows some has
  used_as_has action.Count key how [] rows some has = with_count_has key how CommandLine (min (count_of key rows + 1) 255) (without key rows)
      (without_has key rows has)
  used_as_has action.Count key how (v ∷ vs) rows some has = with_values_has key how _ (v ∷ vs) _ some (without_has key rows has)
  used_as_has action.Help key how values rows some has = has
  used_as_has action.HelpShort key how values rows some has = has
  used_as_has action.HelpLong key how values rows some has = has
  used_as_has action.Version key how values rows some has = has

  -- a use with no fault gives a value
  enough : (b : Bool) (a : Rule) (values : List Text) (most : ℕ) → (not b || nat_lt 0 (unwrap_or_range a.range).start_inclusive) ≡ true
      → range_kinds (unwrap_or_range a.range).start_inclusive most (length values) ≡ [] → (not b || is_some (slice_get (values_or_missing a values) 0)) ≡ true
  enough false a values most wants e = refl
  enough true a (v ∷ vs) most wants e = refl
  enough true a [] most wants e = absurd (go (nat_lt 0 (unwrap_or_range a.range).start_inclusive) _ wants e)
    where
      go : (t : Bool) (rest : Kinds) → t ≡ true → cond (t && true) (InvalidValue ∷ []) rest ≡ [] → ⊥
      go true rest t e = cc
      go false rest t e = cc

  used_has : (again : Bool) (a : Rule) (values : List Text) (rows : List Row) → wants_value id a ≡ true → use_fault again a values rows ≡ []
      → HasValues id rows → HasValues id (used a values rows)
  used_has again a values rows wants e has =
      let ranged = (neither (range_kinds (unwrap_or_range a.range).start_inclusive (most_values a) (length values)) _ e).0 in
      used_as_has (action_of a) a.id (reading_by a) (values_or_missing a values) rows (enough (bytes_eq a.id id) a values (most_values a) wants ranged) has

  defaults_have : (rules : List Rule) (rows : List Row) → HasValues id rows → HasValues id (fold with_default rows rules)
  defaults_have [] rows has = has
  defaults_have (a ∷ rest) rows has = defaults_have rest (with_default rows a) (go (has_row a.id rows) a.defaults)
    where
      go : (b : Bool) (defaults : List Text) → HasValues id (cond b rows (default_rows a.id (reading_by a) defaults rows))
      go true defaults = has
      go false [] = has
      go false (v ∷ vs) = with_values_has a.id (reading_by a) DefaultValue (v ∷ vs) rows (filled (bytes_eq a.id id)) has

  -- what is given has a value
  given_has : (rows : List Row) → is_given id rows ≡ true → HasValues id rows → is_some (first_of id rows) ≡ true
  given_has [] e has = absurd (cc)
  given_has (r ∷ rs) e has = go (bytes_eq r.id id) e (both _ _ has).0 (λ given. given_has rs given (both _ _ has).1)
    where
      go : (b : Bool) → option_map_or (λ x. explicit_source x.source) (cond b (Some r) (find (λ x. bytes_eq x.id id) rs)) false ≡ true
          → (not b || is_some (slice_get r.values 0)) ≡ true → (is_given id rs ≡ true → is_some (first_of id rs) ≡ true)
          → is_some (option_and_then (λ x. slice_get x.values 0) (cond b (Some r) (find (λ x. bytes_eq x.id id) rs))) ≡ true
      go true given some rest = some
      go false given some rest = rest given

-- ---- the walk

module _ (id : Text) (c : List Rule) (again : Bool) (wants : list_all (wants_value id) c ≡ true) where
  settled_has : (h : Held) → settle_fault c again h ≡ [] → HasValues id h.rows → HasValues id (settled c h).rows
  settled_has h e has = go h.pending e
    where
      by_id : (o : Option Rule) (values : List Text) → option_map_or (wants_value id) o true ≡ true
          → option_map_or (λ a. use_fault again a values h.rows) o [] ≡ []
          → HasValues id (used_by_id o values h.rows)
      by_id None values w e = has
      by_id (Some a) values w e = used_has id again a values h.rows w e has

      go : (p : Option (Text × List Text)) → option_map_or (λ p. option_map_or (λ a. use_fault again a p.1 h.rows) (arg_by_id c p.0) []) p [] ≡ []
          → HasValues id (settled_rows c p h.rows)
      go None e = has
      go (Some p) e = by_id (arg_by_id c p.0) p.1 (found_passes (wants_value id) _ c wants) e

  reacted_has : (a : Rule) (values : List Text) (h : Held) → wants_value id a ≡ true → react_fault c again a values h ≡ [] → HasValues id h.rows
      → HasValues id (reacted c a values h).rows
  reacted_has a values h w e has =
      let parts = neither (settle_fault c again h) _ e in
      used_has id again a values (settled c h).rows w parts.1 (settled_has h parts.0 has)

  option_has : (a : Rule) (v : Option Text) (h : Held) → wants_value id a ≡ true → option_fault c again a v h ≡ [] → HasValues id h.rows
      → HasValues id (option_met c a v h).0.rows
  option_has a None h w e has = settled_has h e has
  option_has a (Some v) h w e has = reacted_has a (v ∷ []) h w e has

  long_has : (o : Option Rule) (v : Option Text) (h : Held) → option_map_or (wants_value id) o true ≡ true → long_fault c again o v h ≡ [] → HasValues id h.rows
      → HasValues id (long_met c o v h).0.rows
  long_has None v h w e has = has
  long_has (Some a) v h w e has = go (takes_values a) v e
    where
      go : (b : Bool) (v : Option Text)
          → cond b (option_fault c again a v h) (cond (is_some v) (TooManyValues ∷ []) (react_fault c again a [] h)) ≡ []
          → HasValues id (cond b (option_met c a v h) (flag_met c a v h)).0.rows
      go true v e = option_has a v h w e has
      go false None e = reacted_has a [] h w e has
      go false (Some v) e = has

  short_has : (o : Option Rule) (rest : Text) (h : Held) (fault : Held → Kinds) (after : Held → Held × Outcome)
      → ((k : Held) → fault k ≡ [] → HasValues id k.rows → HasValues id (after k).0.rows)
      → option_map_or (wants_value id) o true ≡ true → short_fault c again o rest h fault ≡ [] → HasValues id h.rows
      → HasValues id (short_met c o rest h after).0.rows
  short_has None rest h fault after further w e has = has
  short_has (Some a) rest h fault after further w e has = go (takes_values a) e
    where
      go : (b : Bool) → cond b (option_fault c again a (attached_value rest) h) (or_else (react_fault c again a [] h) (fault (reacted c a [] h))) ≡ []
          → HasValues id (cond b (option_met c a (attached_value rest) h) (after (reacted c a [] h))).0.rows
      go true e = option_has a (attached_value rest) h w e has
      go false e =
          let parts = neither (react_fault c again a [] h) _ e in
          further (reacted c a [] h) parts.1 (reacted_has a [] h w parts.0 has)

  flag_has : (x : Option ℕ) (flags : Text) (skip : ℕ) (so_far : Outcome) (h : Held) (fault : Text → ℕ → Held → Kinds)
      (after : Text → ℕ → Outcome → Held → Held × Outcome)
      → ((rest : Text) (n : ℕ) (o : Outcome) (k : Held) → fault rest n k ≡ [] → HasValues id k.rows → HasValues id (after rest n o k).0.rows)
      → bundle_step_fault c again x flags skip h fault ≡ [] → HasValues id h.rows → HasValues id (bundle_step c x flags skip so_far h after).0.rows
  flag_has None flags skip so_far h fault after further e has = has
  flag_has (Some x) flags zero so_far h fault after further e has =
      let rest = drop (length (encode_utf8 x)) flags in
      short_has (arg_by_short c x) rest h (fault rest 0) (after rest 0 done) (further rest 0 done) (found_passes (wants_value id) _ c wants) e has
  flag_has (Some x) flags (suc skip) so_far h fault after further e has = further (drop (length (encode_utf8 x)) flags) skip so_far h e has

  flags_have : (k : ℕ) (flags : Text) (skip : ℕ) (so_far : Outcome) (h : Held) → flags_fault c again k flags skip h ≡ [] → HasValues id h.rows
      → HasValues id (bundle_met c k flags skip so_far h).0.rows
  unfolding bundle_met flags_fault
  flags_have zero flags skip so_far h e has = has
  flags_have (suc k) flags skip so_far h e has =
      flag_has (slice_get (chars flags) 0) flags skip so_far h (flags_fault c again k) (bundle_met c k) (flags_have k) e has

  plain_has : (waiting : Waiting) (word : Text) (h : Held) → HasValues id h.rows → HasValues id (plain_word c waiting word h).0.rows
  plain_has idle word h has = has
  plain_has positional word h has = has
  plain_has (option key) word h has = go (arg_by_id c key)
    where
      go : (o : Option Rule) → HasValues id (option_word o key word h).0.rows
      go None = has
      go (Some a) = has

  after_flag_has : (waiting : Waiting) (word : Text) (h : Held) (o : Outcome) → HasValues id h.rows → HasValues id (after_flag c waiting word h o).0.rows
  after_flag_has waiting word h done has = has
  after_flag_has waiting word h (waits key) has = has
  after_flag_has waiting word h plain has = plain_has waiting word h has
  after_flag_has waiting word h refused has = plain_has waiting word h has

  flag_word_has : (o : Option (Text × Option Text)) (waiting : Waiting) (word : Text) (h : Held) → flag_word_fault c again o word h ≡ [] → HasValues id h.rows
      → HasValues id (long_or_other c waiting word o h).0.rows
  flag_word_has (Some p) waiting word h e has =
      after_flag_has waiting word _ _ (long_has (arg_by_long c p.0) p.1 h (found_passes (wants_value id) _ c wants) e has)
  flag_word_has None waiting word h e has = go (short_of word) e
    where
      go : (o : Option Text) → option_map_or (λ flags. bundle_fault c again flags h) o [] ≡ [] → HasValues id (short_or_plain c waiting word o h).0.rows
      go None e = plain_has waiting word h has
      go (Some flags) e = after_flag_has waiting word _ _ (flags_have (length flags) flags h.skip plain (record h { skip = 0 }) e has)

-- ---- a subcommand's level

module _ (id : Text) (s : Shape) (wants : list_all (wants_value id) s.rules ≡ true) where
  word_has : (names : Names) (is_trailing : Bool) (waiting : Waiting) (position : ℕ) (word : Text) (h : Held)
      → word_fault s names is_trailing waiting word h ≡ []
      → HasValues id h.rows → HasValues id (word_met s.rules names is_trailing waiting position word h).0.rows
  word_has names true waiting position word h e has = has
  word_has names false waiting position word h e has = go (subcommand_met names waiting word) e
    where
      other : (b : Bool) → cond b [] (flag_word_fault s.rules s.args_override_self (long_of word) word h) ≡ []
          → HasValues id (cond b (h, trailing position) (long_or_other s.rules waiting word (long_of word) h)).0.rows
      other true e = has
      other false e = flag_word_has id s.rules s.args_override_self wants (long_of word) waiting word h e has

      go : (o : Option Text) → other_fault s o word h ≡ [] → HasValues id (subcommand_or_other s.rules o waiting position word h).0.rows
      go (Some name) e = has
      go None e = other (bytes_eq word (45 ∷ 45 ∷ [])) e

  after_has : (w : Walk) (word : Text) (h : Held) (step : Step) → step_fault s w.position h step ≡ [] → HasValues id h.rows
      → HasValues id (after_step s.rules word w h step).held.rows
  after_has w word h (next waiting) e has = has
  after_has w word h (trailing position) e has = has
  after_has w word h (subcommand name) e has = has
  after_has w word h value e has = go (arg_by_index s.rules w.position) e
    where
      held : (a : Rule) (b : Bool) → cond b [] (settle_fault s.rules s.args_override_self h) ≡ []
          → HasValues id (pushed a.id word (cond b h (settled s.rules h))).rows
      held a true e = has
      held a false e = settled_has id s.rules s.args_override_self wants h e has

      go : (o : Option Rule) → option_map_or (λ a. positional_fault s.rules s.args_override_self a h) o (stray_fault s) ≡ []
          → HasValues id (to_positional s.rules o word w h).held.rows
      go None e = has
      go (Some a) e = held a (is_pending a h.pending && takes_several a) e

  turn_has : (names : Names) (w : Walk) (word : Text) → turn_fault s names w word ≡ [] → HasValues id w.held.rows
      → HasValues id (walked s.rules names w word).held.rows
  unfolding walked
  turn_has names w word e has = go w.stopped e
    where
      go : (o : Option (Text × List Text))
          → cond (is_some o) [] (or_else (word_fault s names w.is_trailing w.waiting word w.held)
          (step_fault s w.position (word_met s.rules names w.is_trailing w.waiting w.position word w.held).0
          (word_met s.rules names w.is_trailing w.waiting w.position word w.held).1)) ≡ []
          → HasValues id (walked_from s.rules names o w word).held.rows
      go (Some p) e = has
      go None e =
          let parts = neither (word_fault s names w.is_trailing w.waiting word w.held) _ e in
          after_has w word _ _ parts.1 (word_has names w.is_trailing w.waiting w.position word w.held parts.0 has)

  walk_has : (names : Names) (words : List Text) (w : Walk) → walk_fault s names w words ≡ [] → HasValues id w.held.rows
      → HasValues id (fold (walked s.rules names) w words).held.rows
  unfolding walk_fault
  walk_has names [] w e has = has
  walk_has names (word ∷ rest) w e has =
      let parts = neither (turn_fault s names w word) _ e in
      walk_has names rest (walked s.rules names w word) parts.1 (turn_has names w word parts.0 has)

-- the last checks miss no argument
unmet : (help sub missing : Bool) → check_kinds help sub missing ≡ [] → missing ≡ false
unmet help sub missing e = grind arith

-- with no subcommand below, nothing lifts what is required
negated : (negates missing : Bool) → (not (negates && false) && missing) ≡ false → missing ≡ false
negated negates missing e = grind arith

-- what is required is given
required_is_given : (id : Text) (rows : List Row) (rules : List Rule) → list_any (λ a. a.required && not (is_given a.id rows)) rules ≡ false
    → list_any (λ a. bytes_eq a.id id && a.required) rules ≡ true → is_given id rows ≡ true
required_is_given id rows [] none some = absurd (cc)
required_is_given id rows (a ∷ rest) none some = go (bytes_eq a.id id) a.required (is_given a.id rows) refl refl none some (required_is_given id rows rest)
  where
    go : (same required given : Bool) → bytes_eq a.id id ≡ same → is_given a.id rows ≡ given
        → ((required && not given) || list_any (λ x. x.required && not (is_given x.id rows)) rest) ≡ false
        → ((same && required) || list_any (λ x. bytes_eq x.id id && x.required) rest) ≡ true
        → (list_any (λ x. x.required && not (is_given x.id rows)) rest ≡ false → list_any (λ x. bytes_eq x.id id && x.required) rest ≡ true
        → is_given id rows ≡ true)
        → is_given id rows ≡ true
    go true true true same given none some further = ap (λ key. is_given key rows) (sym ((bytes_eq-Decides a.id id).0 same)) ∙ given
    go true true false same given none some further = absurd (cc)
    go true false given same is none some further = further none some
    go false true true same given none some further = further none some
    go false true false same given none some further = absurd (cc)
    go false false given same is none some further = further none some

-- a level with no subcommand below has a value for what it requires
level_has : (id : Text) (s : Shape) (words : List Text) → list_any (λ a. bytes_eq a.id id && a.required) s.rules ≡ true
    → list_all (wants_value id) s.rules ≡ true
    → level_fault s [] nothing_held words false [] ≡ [] → is_some (first_of id (rows_at s words).1) ≡ true
level_has id s words required wants e =
    let end = (walk s.rules [] nothing_held words).held in
    let walking = neither (walk_fault s [] (walk_from nothing_held) words) _ e in
    let settling = neither (settle_fault s.rules s.args_override_self end) _ walking.1 in
    let defaulting = neither (defaults_fault (settled s.rules end).rows s.rules) _ settling.1 in
    let rows = finished s.rules end in
    let missing = list_any (λ (a : Rule). a.required && not (is_given a.id rows)) s.rules in
    let none = negated s.subcommand_negates_reqs missing (unmet _ _ _ defaulting.1) in
    let walk_end = walk_has id s wants [] words (walk_from nothing_held) walking.0 refl in
    let has = defaults_have id s.rules (settled s.rules end).rows (settled_has id s.rules s.args_override_self wants end settling.0 walk_end) in
    given_has id rows (required_is_given id rows s.rules none required) has

-- where no fault is found, the subcommand's required argument has a value
pub required_has_value : (a : App) (words : List Text) (name id : Text) (rows : List Row) → list_all (requires_value name id) (built a).subs ≡ true
    → fault_of a words ≡ []
    → subcommand_of a words ≡ Some (name, rows) → is_some (first_of id rows) ≡ true
required_has_value a words name id rows requires no_fault asked =
    let b = built a in
    let stop = (walk b.top.rules (names_of b) nothing_held (argument_words a words)).stopped in
    let below = (neither (entered_fault b stop) _ (neither (walk_fault b.top (names_of b) (walk_from nothing_held) (argument_words a words)) _ no_fault).1).0 in
    go stop below asked
  where
    at : (o : Option Shape) (rest : List Text) → option_map_or (requires_value name id) o true ≡ true
        → option_map_or (λ s. level_fault s [] nothing_held rest false []) o [] ≡ [] → option_map (λ s. rows_at s rest) o ≡ Some (name, rows)
        → is_some (first_of id rows) ≡ true
    at None rest requires e asked = absurd (cc)
    at (Some s) rest requires e asked =
        let same : rows_at s rest ≡ (name, rows) = ap (λ (o : Option (Text × List Row)). unwrap_or o (name, rows)) asked in
        let named = (bytes_eq-Decides s.name name).1 (ap (λ (p : Text × List Row). p.0) same) in
        let parts = both (list_any (λ (x : Rule). bytes_eq x.id id && x.required) s.rules) _ (implied (bytes_eq s.name name) _ requires named) in
        ap (λ (p : Text × List Row). is_some (first_of id p.1)) (sym same) ∙ level_has id s rest parts.0 parts.1 e

    go : (stop : Option (Text × List Text)) → entered_fault (built a) stop ≡ [] → entered (built a) stop ≡ Some (name, rows) → is_some (first_of id rows) ≡ true
    go None e asked = absurd (cc)
    go (Some p) e asked = at (find (λ s. answers_to p.0 (label_of s)) (built a).subs) p.1
        (found_passes (requires_value name id) _ (built a).subs requires) e asked

asked_for : (has required : Bool) → (not has && required) ≡ false → required ≡ true → has ≡ true
asked_for has required e g = grind arith

wanted : (help sub missing : Bool) → check_kinds help sub missing ≡ [] → sub ≡ false
wanted help sub missing e = grind arith

-- where no fault is found, a subcommand that is required is named
pub required_is_named : (a : App) (words : List Text) → (built a).top.subcommand_required ≡ true → fault_of a words ≡ []
    → is_some (subcommand_of a words) ≡ true
required_is_named a words required no_fault =
    let b = built a in
    let end = walk b.top.rules (names_of b) nothing_held (argument_words a words) in
    let walking = neither (walk_fault b.top (names_of b) (walk_from nothing_held) (argument_words a words)) _ no_fault in
    let entering = neither (entered_fault b end.stopped) _ walking.1 in
    let settling = neither (settle_fault b.top.rules b.top.args_override_self end.held) _ entering.1 in
    let defaulting = neither (defaults_fault (settled b.top.rules end.held).rows b.top.rules) _ settling.1 in
    asked_for (is_some (entered b end.stopped)) b.top.subcommand_required (wanted _ _ _ defaulting.1) required
