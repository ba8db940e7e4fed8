-- What was played out, epoch by epoch.
use Rattle.std.specs.Prelude.{List, [], ◌∷◌, ◌++◌}
use Rattle.std.specs.List.{filter}
use Rattle.receiver_rules.specs.declared.limits.Limits.{Limits}
use Rattle.receiver_rules.specs.Steps.{Step}
use Rattle.receiver_rules.specs.Packets.{Packet, Moment, is_played_out, by_number}
use Rattle.receiver_rules.specs.Epochs.{Epoch, epochs_of}
use Rattle.receiver_rules.specs.History.{current_moment}

-- the kept packets of each epoch that is over, by rising number, the oldest epoch first
abbrev pub playouts_over : List Epoch → List (List Packet)
playouts_over [] = []
playouts_over (epoch ∷ earlier) = playouts_over earlier ++ by_number epoch.accepted ∷ []

-- and behind them those of the newest epoch that were played out at a moment
abbrev pub playouts_at : List Epoch → Moment → List (List Packet)
playouts_at [] moment = []
playouts_at (current ∷ earlier) moment =
    playouts_over earlier ++ filter (is_played_out current.accepted moment) (by_number current.accepted) ∷ []

-- what was played out of each epoch of a history
abbrev pub playouts_of : Limits → List Step → List (List Packet)
playouts_of limits history = playouts_at (epochs_of limits history) (current_moment history)
