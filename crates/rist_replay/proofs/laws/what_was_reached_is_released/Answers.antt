-- The release set of the rules, over the records of a capture.
use Rattle.std.proofs.Common.{ap, ◌∙◌, ◌∷◌}
use Rattle.std.specs.List.{concat}
use Rattle.receiver_rules.specs.Steps.{end_step}
use Rattle.receiver_rules.specs.History.{released_payloads}
use Rattle.receiver_rules.proofs.SentLemmas as sent
use Rattle.rist_replay.proofs.laws.what_was_reached_is_released.Goals as goal

pub returns : goal.returns
returns c session limits p run rs some stays is steady honest =
    ap (λ h. concat (released_payloads limits (end_step ∷ h))) is ∙ ap concat (sent.release_set limits p run steady some stays honest)
