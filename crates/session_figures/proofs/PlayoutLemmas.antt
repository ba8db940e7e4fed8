-- What a step tells of the playout is what the history says.
use Rattle.std.proofs.Common.{◌≡◌, ℕ, ◌-◌, List, ◌∷◌, ap, ◌∙◌}
use Rattle.receiver_rules.specs.declared.limits.Limits.{Limits}
use Rattle.request_rules.specs.Steps.{Step, buffer_history, effective_time}
use Rattle.session_figures.specs.declared.playout.Standing.{Standing}
use Rattle.session_figures.specs.Amounts.{playout_by, restarts_by}
use Rattle.session_figures.specs.Playout.{playout_between, standing_of}

-- what a step tells is what the history says
pub playout_is : (limits : Limits) (history : List Step) (step : Step) (before after : Standing) (delay waited restarts : ℕ)
    → before ≡ standing_of limits (buffer_history history) → after ≡ standing_of limits (buffer_history (step ∷ history))
    → delay ≡ limits.playout_delay → waited ≡ effective_time (step ∷ history) - effective_time history → restarts ≡ restarts_by limits history step
    → playout_between before after delay waited restarts ≡ playout_by limits history step
playout_is limits history step before after delay waited restarts a b d w r =
    ap (λ (s : Standing). playout_between s after delay waited restarts) a
    ∙ ap (λ (s : Standing). playout_between (standing_of limits (buffer_history history)) s delay waited restarts) b
    ∙ ap (λ (n : ℕ). playout_between (standing_of limits (buffer_history history)) (standing_of limits (buffer_history (step ∷ history))) n waited restarts) d
    ∙ ap (λ (n : ℕ). playout_between (standing_of limits (buffer_history history)) (standing_of limits (buffer_history (step ∷ history))) limits.playout_delay n restarts) w
    ∙ ap (λ (n : ℕ). playout_between (standing_of limits (buffer_history history)) (standing_of limits (buffer_history (step ∷ history))) limits.playout_delay (effective_time (step ∷ history) - effective_time history) n) r
