-- The release set of the rules, over the records of a capture.
use Rattle.std.proofs.Common.{ap, ◌∙◌, ◌∷◌}
use Rattle.std.specs.List.{concat}
use Rattle.receiver_rules.specs.Steps.{end_step}
use Rattle.receiver_rules.specs.History.{released_payloads}
use Rattle.receiver_rules.proofs.SentEpochsLemmas as sent
use Rattle.rist_replay.proofs.laws.what_was_reached_is_released_epoch_after_epoch.Goals as goal

pub returns : goal.returns
returns c session limits streams run rs some is steady are =
    ap (λ h. concat (released_payloads limits (end_step ∷ h))) is ∙ ap concat (sent.release_set limits streams run steady some are)
