-- Which of two texts is rejected. That the first one's refusal comes first is this project's own.
use Rattle.std.specs.Prelude.{ℕ}
use Rattle.pf_values.specs.declared.refusals.RefusalKind.{RefusalKind}
use Rattle.pf_values.specs.meaning.Text.{Text}
use Rattle.pf_text.specs.declared.refusals.Refusal.{Refusal}
use Rattle.pf_text.specs.declared.refusals.Side.{Side}
use Rattle.pf_text.specs.declared.refusals.Side.TheVariants.{First, Second}

-- the first text is rejected, or it is accepted and the second rejected
abbrev pub RefusesOne : (Text → Type 0) → (Text → RefusalKind → ℕ → Type 0) → Text → Text → Side
    → Refusal → Type 0
RefusesOne Accepts Refuses first second First refusal = Refuses first refusal.kind refusal.at
RefusesOne Accepts Refuses first second Second refusal =
    Accepts first × Refuses second refusal.kind refusal.at
