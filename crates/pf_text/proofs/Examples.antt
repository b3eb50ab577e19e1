-- Texts that are rejected, each by the whole definition, whose reason the automaton computes. docs/DEFINITIONS.md goes through them.
use Rattle.std.proofs.Common.{◌≡◌, ◌≢◌, ℕ, ◌<◌, ◌≤◌, List, [], ◌∷◌, ◌++◌, length, codes, refl, sym, subst, arith, append_assoc, Ok, Err}
use Rattle.std.proofs.lemmas.List.{append-nil}
use Rattle.pf_values.specs.declared.limits.TheConstants.{MAX_TEXT_LEN}
use Rattle.pf_values.specs.declared.refusals.RefusalKind.{RefusalKind}
use Rattle.pf_values.specs.declared.refusals.RefusalKind.TheVariants.{NulByte, Truncated, Unexpected, BadPercent, Star, Numbered, WidthTooLarge, Float, Wide}
use Rattle.pf_values.specs.declared.refusals.RefusalKind.TheVariants.{AltUndefined}
use Rattle.pf_values.specs.meaning.Items.{Item}
use Rattle.pf_values.specs.meaning.Refusals.{IsRefusedAt}
use Rattle.pf_values.specs.meaning.Text.{Text}
use Rattle.pf_text.specs.declared.scanner.Step.{Step}
use Rattle.pf_text.specs.Stages.{State}
use Rattle.pf_text.specs.Stages.{Between}
use Rattle.pf_text.specs.History.{with_step}
use Rattle.pf_text.specs.States.{Next, next}
use Rattle.pf_text.proofs.Complete.{On}
use Rattle.pf_text.proofs.Refusing.{refused_at, truncated_at}
use Rattle.pf_text.proofs.Runs.{moved, run, run-refused}
use Rattle.pf_text.proofs.Sound.{Judges, LeadsTo, judge}
use Rattle.pf_text.proofs.Texts.{IsStepped, start, stepped}

step_behind : (b : ℕ) (u t : Text) (items : List Item) (state : State) (r : State × List Item) (n : Next) → next state b ≡ n → IsStepped t items state
    → run (moved items n) u ≡ Ok r
    → ((q : State) (step : Step) → IsStepped (t ++ b ∷ []) (with_step items step) q → run (On (with_step items step) q) u ≡ Ok r
    → IsStepped ((t ++ b ∷ []) ++ u) r.1 r.0)
    → IsStepped (t ++ b ∷ u) r.1 r.0
step_behind b u t items state r (Ok p) same h e next_step =
    let leads : LeadsTo h.part b p.0 p.1 = subst (Judges h.part b) same (judge state h.part b h.at) in
    subst (λ x. IsStepped x r.1 r.0) (append_assoc t (b ∷ []) u) (next_step p.0 p.1 (stepped t h.part items b h.splits p.0 p.1 leads) e)
step_behind b u t items state r (Err kind) same h e next_step = let refused = run-refused kind u in absurd (cc)

-- what the automaton computes of a text, the text has
behind : (u t : Text) (items : List Item) (state : State) (r : State × List Item) → IsStepped t items state → run (On items state) u ≡ Ok r
    → IsStepped (t ++ u) r.1 r.0
behind [] t items state r h e =
    let same : (state, items) ≡ r = cc in
    let P : State × List Item → Type 0 = λ q. IsStepped (t ++ []) q.1 q.0 in
    subst P same (subst (λ x. IsStepped x items state) (sym (append-nil t)) h)
behind (b ∷ u) t items state r h e = step_behind b u t items state r (next state b) refl h e
    (λ q step now rest. behind u (t ++ b ∷ []) (with_step items step) q r now rest)

nothing : IsStepped [] [] Between
nothing = record { part = []; splits = record { whole = []; reads = refl; split = refl }; at = refl }

refused_behind : (t : Text) (byte : ℕ) (more : Text) (q : State × List Item) (kind : RefusalKind) → run start t ≡ Ok q → next q.0 byte ≡ Err kind
    → length t < MAX_TEXT_LEN → IsRefusedAt (t ++ byte ∷ more) kind (length t)
refused_behind t byte more q kind e refused small =
    let h = behind t [] [] Between q nothing e in
    refused_at t h.part q.1 q.0 h.splits h.at byte kind refused more small

truncated_behind : (t : Text) (q : State × List Item) → run start t ≡ Ok q → q.0 ≢ Between → length t ≤ MAX_TEXT_LEN → IsRefusedAt t Truncated (length t)
truncated_behind t q e inside small =
    let h = behind t [] [] Between q nothing e in
    truncated_at t h.part q.1 q.0 h.splits h.at inside small

-- `%5` and NUL: 1 at 2
zero_byte : IsRefusedAt (codes "%5" ++ 0 ∷ []) NulByte 2
zero_byte = refused_behind (codes "%5") 0 [] _ NulByte refl refl (omega arith)

-- `100%`: 2 at 4
cut_short : IsRefusedAt (codes "100%") Truncated 4
cut_short = truncated_behind (codes "100%") _ refl (λ e. cc) (omega arith)

-- `%y`: 3 at 1
no_conversion : IsRefusedAt (codes "%y") Unexpected 1
no_conversion = refused_behind (codes "%") 121 [] _ Unexpected refl refl (omega arith)

-- `%5%`: 4 at 2
percent_inside : IsRefusedAt (codes "%5%") BadPercent 2
percent_inside = refused_behind (codes "%5") 37 [] _ BadPercent refl refl (omega arith)

-- `%*d`: 5 at 1
star_for_width : IsRefusedAt (codes "%*d") Star 1
star_for_width = refused_behind (codes "%") 42 (codes "d") _ Star refl refl (omega arith)

-- `%1$d`: 6 at 2
numbered : IsRefusedAt (codes "%1$d") Numbered 2
numbered = refused_behind (codes "%1") 36 (codes "d") _ Numbered refl refl (omega arith)

-- `%4096d`: 7 at 4
too_wide : IsRefusedAt (codes "%4096d") WidthTooLarge 4
too_wide = refused_behind (codes "%409") 54 (codes "d") _ WidthTooLarge refl refl (omega arith)

-- `%5Ld`: 9 at 2
long_double : IsRefusedAt (codes "%5Ld") Float 2
long_double = refused_behind (codes "%5") 76 (codes "d") _ Float refl refl (omega arith)

-- `%#lc`: 12 at 3
wide_char : IsRefusedAt (codes "%#lc") Wide 3
wide_char = refused_behind (codes "%#l") 99 [] _ Wide refl refl (omega arith)

-- `%#'d`: 13 at 3
no_alternative_form : IsRefusedAt (codes "%#'d") AltUndefined 3
no_alternative_form = refused_behind (codes "%#'") 100 [] _ AltUndefined refl refl (omega arith)
