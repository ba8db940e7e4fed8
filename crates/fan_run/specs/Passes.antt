-- What is a worker's own in a run over several flows.
use Rattle.std.specs.Prelude.{◌≡◌, ℕ, length}
use Rattle.turn_lock.specs.declared.pass.Pass.{Pass}
use Rattle.rist_fan.specs.declared.fan.Fan.{Fan}
use Rattle.rist_fan.specs.Seen.{FanStep}
use Rattle.fan_desk.specs.declared.tunnel_desk.RowPass.{RowPass}

-- its pass
abbrev pub pass_of : {N K : Type 0} → RowPass N K → Pass FanStep (Fan K)
pass_of own = own.pass

-- a worker has memory for what a step comes to at each of so many places
abbrev pub HasRooms : {N K : Type 0} → ℕ → RowPass N K → Type 0
HasRooms places own = length own.came.items ≡ places
