-- The turns of a side worker: one moment of its clock, and one aside.
use Rattle.std.specs.Prelude.{◌≡◌, ◌<◌, ℕ, ◌+◌, ◌-◌, ◌^◌, ◌==◌, min, nat_le, nat_lt, List, [], ◌∷◌, length, Bool, false}
use Rattle.std.specs.Prelude.{if◌then◌else◌, Option, None, Some}
use Rattle.std.specs.Option.{option_map}
use Rattle.outside_net.specs.Streams.{later, IsFirst}
use Rattle.rist_desk.specs.declared.beside.Side.{Side}
use Rattle.rist_desk.specs.declared.beside.Side.TheVariants as sides
use Rattle.rist_desk.specs.declared.worker.ServingLimits.{ServingLimits}
use Rattle.rist_desk.specs.Turns.{is_idle, from}
use Rattle.rist_gateway.specs.declared.found.Found.{Found}
use Rattle.rist_gateway.specs.declared.side_worker.SideEnded.{SideEnded}
use Rattle.rist_gateway.specs.declared.side_worker.SideEnded.TheVariants as ends
use Rattle.rist_gateway.specs.declared.side_worker.SideWorker.{SideWorker}

-- so many puts were found, at a moment: the first ones, or more than before
abbrev pub found_with : Option Found → ℕ → ℕ → Option Found
found_with None moment puts = Some (record { puts = puts; since = moment })
found_with (Some found) moment puts =
    if nat_lt found.puts puts then Some (record { puts = puts; since = moment }) else Some found

-- after one more turn
abbrev pub found_after : Option Found → ℕ → Side → Option Found
found_after found moment (sides.Took puts) = found_with found moment puts
found_after found moment (sides.Quiet puts) = found_with found moment puts
found_after found moment sides.End = found
found_after found moment sides.Failed = found
found_after found moment (sides.Bad bad) = found

-- how many turns there were since the sink was put to, after one more, by what was found before it and after it
abbrev pub still_after : ℕ → Option Found → Option Found → ℕ
still_after still None found = 0
still_after still (Some before) None = 0
still_after still (Some before) (Some found) =
    if before.puts == found.puts then min (still + 1) (2 ^ 64 - 1) else 0

-- how long a side worker waits before its next turn, in microseconds: longer once nothing was put for so many turns
abbrev pub pause_micros : ℕ → ℕ
pause_micros still = if nat_lt still 2000 then 500 else 5000

-- nothing was put for so long, where that matters
abbrev pub is_quiet : ℕ → Option Found → ℕ → Bool
is_quiet idle None moment = false
is_quiet idle (Some found) moment = is_idle idle found.since moment

-- why a turn is the last, if it is
abbrev pub end_by : Side → Bool → Bool → Option SideEnded
end_by (sides.Took puts) last quiet = if last then Some ends.Turns else if quiet then Some ends.Idle else None
end_by (sides.Quiet puts) last quiet = if last then Some ends.Turns else if quiet then Some ends.Idle else None
end_by sides.End last quiet = Some ends.End
end_by sides.Failed last quiet = Some ends.Failed
end_by (sides.Bad bad) last quiet = Some (ends.Bad bad)

-- ---- turns, by what their asides came to, the newest first

-- what was found up to them, where the clock gives these moments
abbrev pub found_by : (ℕ → ℕ) → List Side → Option Found
found_by moments [] = None
found_by moments (side ∷ before) = found_after (found_by moments before) (moments (length before)) side

-- why the last of them is the last, if it is
abbrev pub end_at : ServingLimits → (ℕ → ℕ) → Side → List Side → Option SideEnded
end_at limits moments side before =
    end_by side (nat_le limits.turns (length before + 1))
    (is_quiet limits.idle (found_by moments (side ∷ before)) (moments (length before)))

-- none of them is the last
abbrev pub AllGoOn : ServingLimits → (ℕ → ℕ) → List Side → Type 0
AllGoOn limits moments [] = Unit {0}
AllGoOn limits moments (side ∷ before) = AllGoOn limits moments before × (end_at limits moments side before ≡ None)

-- each of them is what a look came to, on this link and at the moment of its turn
abbrev pub AreLooks : (ℕ → ℕ → Side → Type 0) → ℕ → (ℕ → ℕ) → List Side → Type 0
AreLooks looks link moments [] = Unit {0}
AreLooks looks link moments (side ∷ before) =
    AreLooks looks link moments before × looks (moments (length before)) link side

-- A side worker of a link made turns up to one that was the last, of which each took one moment and made one aside: a
-- look at that link, at that moment.
pub record IsSideServed (looks : ℕ → ℕ → Side → Type 0) (link : ℕ) (limits : ServingLimits) (moments : ℕ → ℕ)
    (end : SideEnded) (left : Option (ℕ → ℕ)) : Type 0 where
  pub before : List Side
  pub last : Side
  pub looked : AreLooks looks link moments (last ∷ before)
  pub within : length before < limits.turns
  pub going : AllGoOn limits moments before
  pub ends : end_at limits moments last before ≡ Some end
  pub took : left ≡ Some (from (length before + 1) moments)

-- a side worker ended
pub record ServesSide {C P : Type 0} (looks : ℕ → ℕ → Side → Type 0) (moments : C → Option (ℕ → ℕ))
    (limits : ServingLimits) (old new : SideWorker C P) : Type 0 where
  pub end : SideEnded
  pub ended : new.end ≡ Some end
  pub link : new.link ≡ old.link
  pub served : (told : ℕ → ℕ) → moments old.clock ≡ Some told
      → IsSideServed looks old.link limits told end (moments new.clock)

-- ---- one turn

-- a turn, of whatever its aside came to: a look at the link, at the next moment
pub record SideTurn (looks : ℕ → ℕ → Side → Type 0) (link : ℕ) (m n : Option (ℕ → ℕ)) (idle : ℕ) (last : Bool)
    (found now : Option Found) (result : Option SideEnded) : Type 0 where
  pub side : Side
  pub moment : ℕ
  pub first : IsFirst m moment
  pub looked : looks moment link side
  pub moments : n ≡ option_map later m
  pub found_is : now ≡ found_after found moment side
  pub result_is : result ≡ end_by side last (is_quiet idle now moment)

-- after so many turns, none of which was the last
pub record IsSideGoing (looks : ℕ → ℕ → Side → Type 0) (link : ℕ) (limits : ServingLimits) (moments : ℕ → ℕ)
    (made : ℕ) (left : Option (ℕ → ℕ)) (found : Option Found) : Type 0 where
  pub sides : List Side
  pub count : length sides ≡ made
  pub looked : AreLooks looks link moments sides
  pub going : AllGoOn limits moments sides
  pub took : left ≡ Some (from made moments)
  pub found_is : found ≡ found_by moments sides
