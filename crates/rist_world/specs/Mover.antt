-- What gives the moves of a script, one after another.
use Rattle.std.specs.Prelude.{◌<◌, ◌^◌, List, length, reverse, [], ◌∷◌, Option, None, Some}
use Rattle.world_rules.specs.declared.moves.Move.{Move}
use Rattle.world_rules.specs.World.{Setup, Course, Makes, MakesAll}
use Rattle.rist_world.specs.World.{WorldState, IsWorldAfter}

-- a mover has given no move yet
abbrev pub HasGivenNone : (Setup → Course → List Move → Course → Type 0) → Type 0
HasGivenNone given = (setup : Setup) (from : Course) → given setup from [] from

-- Where a mover gives a move, it has given that too, whatever course the move leads to; where it gives none, all was
-- given.
abbrev pub IsNext : (script given : Setup → Course → List Move → Course → Type 0) → Setup → Course → List Move → Course
    → Option Move → Type 0
IsNext script given setup from moves to None = script setup from moves to
IsNext script given setup from moves to (Some move) =
    (after : Course) → Makes setup move to after → given setup from (move ∷ moves) after

-- A mover is asked for its next move in a world that the moves given so far have made: where it has a script and has
-- given such moves of it before, and after.
pub record GivesNext (script given script_after given_after : Setup → Course → List Move → Course → Type 0)
    (world : WorldState) (next : Option Move) : Type 0 where
  pub same : (setup : Setup) (from to : Course) (moves : List Move) → script_after setup from moves to
      → script setup from moves to
  pub gives : (setup : Setup) (from to : Course) (moves : List Move) → given setup from moves to
      → IsWorldAfter setup world to
      → IsNext script given_after setup from moves to next

-- moves, the oldest first, lead from a course to another, are fewer than 2^27, and are a whole script
pub record MakesScript (script : Setup → Course → List Move → Course → Type 0) (setup : Setup) (from : Course)
    (moves : List Move) (to : Course) : Type 0 where
  pub makes : MakesAll setup (reverse moves) from to
  pub few : length moves < 2 ^ 27
  pub whole : script setup from (reverse moves) to
