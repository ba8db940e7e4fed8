-- The made script (this profile): in each slot of a millisecond a payload is sent, where one is left, the clocks tick,
-- and the datagrams are carried that are due.
use Rattle.std.specs.Prelude.{◌≡◌, ◌≤◌, ℕ, ◌+◌, ◌*◌, ◌==◌, List, [], ◌∷◌, ◌++◌, length, map, reverse, get_or, zero, suc}
use Rattle.std.specs.Prelude.{Bool, true, false, ◌&&◌, nat_lt, if◌then◌else◌}
use Rattle.std.specs.List.{range_with_len, flat_map, filter}
use Rattle.made_script.specs.declared.draws.Way.{Way}
use Rattle.made_script.specs.declared.draws.Way.TheVariants.{Forward, Backward}
use Rattle.made_script.specs.declared.draws.Due.{Due}
use Rattle.made_script.specs.declared.draws.Held.{Held}
use Rattle.made_script.specs.declared.draws.Script.{Script}
use Rattle.made_script.specs.Payload.{made_payload}
use Rattle.made_script.specs.Draws.{Drawn, DrawsState, IsDrawn, nothing_drawn, draw}
use Rattle.world_rules.specs.declared.moves.Move.{Move}
use Rattle.world_rules.specs.declared.moves.Move.TheVariants.{Send, Carry, CarryBack, SenderTick, Tick, End}
use Rattle.world_rules.specs.World.{Setup, Course, links_of, forward_on, MakesAll}
use Rattle.rist_world.specs.World.{WireState, none}

-- a slot begins so many microseconds after the first one
abbrev pub micros_of : ℕ → ℕ
micros_of slot = 1000 * slot

-- how many slots a script has
abbrev pub slot_count : Script → ℕ
slot_count script = script.count + 1100

-- two ways are the same
abbrev pub is_same_way : Way → Way → Bool
is_same_way Forward Forward = true
is_same_way Forward Backward = false
is_same_way Backward Forward = false
is_same_way Backward Backward = true

-- a datagram is due in a slot on a link
abbrev pub is_due : Way → ℕ → ℕ → Due → Bool
is_due way link slot due = (is_same_way way due.way && (due.link == link)) && (due.slot == slot)

-- the move that carries it
abbrev pub carry_by : Way → ℕ → ℕ → ℕ → Move
carry_by Forward link place micros = Carry link place micros
carry_by Backward link place micros = CarryBack link place micros

-- the moves of a link that carry what is due in a slot, by place
abbrev pub carries_on : Way → ℕ → ℕ → List Due → List Move
carries_on way link slot dues =
    map (λ (due : Due). carry_by way link due.place (micros_of slot)) (filter (is_due way link slot) dues)

-- the moves that carry what is due in a slot, link by link
abbrev pub carries : Way → ℕ → ℕ → List Due → List Move
carries way links slot dues = flat_map (λ link. carries_on way link slot dues) (range_with_len 0 links)

-- the move that sends a slot's payload, where one is left
abbrev pub sends : Script → ℕ → List Move
sends script slot = if nat_lt slot script.count then Send (micros_of slot) (made_payload slot) ∷ [] else []

-- the receiver's clock ticks for each link
abbrev pub ticks : ℕ → ℕ → List Move
ticks links slot = map (λ link. Tick link (micros_of slot)) (range_with_len 0 links)

-- the moves of a slot, in their order
abbrev pub slot_moves : Script → ℕ → List Due → List Move
slot_moves script slot dues =
    (((sends script slot ++ SenderTick (micros_of slot) ∷ []) ++ carries Forward script.links slot dues)
    ++ ticks script.links slot)
    ++ carries Backward script.links slot dues

-- the moves from the beginning of a slot up to the next; behind the last slot stands the end
abbrev pub moves_at : Script → ℕ → List Due → List Move
moves_at script slot dues =
    if nat_lt slot (slot_count script) then slot_moves script slot dues else End (micros_of slot) ∷ []

-- how many datagrams the sender has put on a link
abbrev pub forward_count : Setup → Course → ℕ → ℕ
forward_count setup course link = if nat_lt link (links_of setup) then length (forward_on setup course link) else 0

-- how many the receiver has put on it
abbrev pub backward_count : Course → ℕ → ℕ
backward_count course link = length (get_or course.backward link [])

-- how many a link in memory holds
abbrev pub held_on : List WireState → ℕ → ℕ
held_on wires link = if nat_lt link (length wires) then length (get_or wires link none).put else 0

-- how many datagrams the first four links hold; a script goes over no more
abbrev pub held_in : Setup → Course → Held
held_in setup course = record {
  forward = map (forward_count setup course) (range_with_len 0 4);
  backward = map (backward_count course) (range_with_len 0 4);
}

-- One slot more: its moves are made, and what was put in it draws its words.
pub record OneSlot (script : Script) (setup : Setup) (slot : ℕ) (Before : List Move → Drawn → Course → Type 0)
    (moves : List Move) (drawn : Drawn) (to : Course) : Type 0 where
  pub earlier : List Move
  pub known : Drawn
  pub from : Course
  pub before : Before earlier known from
  pub makes : MakesAll setup (reverse (moves_at script slot known.dues)) from to
  pub moves_are : moves ≡ reverse (moves_at script slot known.dues) ++ earlier
  pub drawn_are : drawn ≡ draw script slot (held_in setup to) known

-- the first so many slots of a script, made from a course on: their moves, the newest first, what was drawn, and the
-- course that they lead to
abbrev pub AreSlots : Script → Setup → Course → ℕ → List Move → Drawn → Course → Type 0
AreSlots script setup from zero moves drawn to = ((moves ≡ []) × (drawn ≡ nothing_drawn)) × (to ≡ from)
AreSlots script setup from (suc slot) moves drawn to =
    OneSlot script setup slot (AreSlots script setup from slot) moves drawn to

-- moves, the newest first, that from a course on lead to another, are the made script: all its slots, and the end
pub record IsMadeScript (script : Script) (setup : Setup) (from : Course) (moves : List Move)
    (to : Course) : Type 0 where
  pub earlier : List Move
  pub drawn : Drawn
  pub last : Course
  pub slots : AreSlots script setup from (slot_count script) earlier drawn last
  pub makes : MakesAll setup (End (micros_of (slot_count script)) ∷ []) last to
  pub moves_are : moves ≡ End (micros_of (slot_count script)) ∷ earlier

-- what is kept of a made script: the draws, and the moves that are left of the slot that is on
pub record MadeState : Type 0 where
  pub draws : DrawsState
  pub queue : List Move

-- A made script has given these moves: those of the slots before, and of the slot that is on all but the ones that are
-- left.
pub record HasGiven (made : MadeState) (setup : Setup) (from : Course) (moves : List Move) (to : Course) : Type 0 where
  pub earlier : List Move
  pub drawn : Drawn
  pub begun : Course
  pub done : List Move
  pub within : made.draws.slot ≤ slot_count made.draws.script
  pub slots : AreSlots made.draws.script setup from made.draws.slot earlier drawn begun
  pub draws : IsDrawn made.draws drawn
  pub split : moves_at made.draws.script made.draws.slot drawn.dues ≡ done ++ made.queue
  pub makes : MakesAll setup (reverse done) begun to
  pub moves_are : moves ≡ reverse done ++ earlier
