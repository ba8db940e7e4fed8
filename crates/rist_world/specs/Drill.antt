-- What came of a script.
use Rattle.std.specs.Prelude.{◌≡◌, ◌<◌, ◌^◌, ℕ, List, length, reverse, drop, Option}
use Rattle.psk_seal.specs.Sealer.{SealerState}
use Rattle.receiver_rules.specs.History.{released_payloads, released_bytes}
use Rattle.request_rules.specs.Steps.{buffer_history}
use Rattle.sha2.specs.Sha256.{sha256}
use Rattle.world_rules.specs.Reached.{PlaysReached}
use Rattle.world_rules.specs.declared.moves.Move.{Move}
use Rattle.world_rules.specs.Flows.{flows_of}
use Rattle.world_rules.specs.Short.{IsShort}
use Rattle.world_rules.specs.World.{Setup, Course, IsSetup, IsSealerOf, links_of, beginning, MakesAll}
use Rattle.rist_world.specs.declared.counts.Counts.{Counts}
use Rattle.rist_world.specs.World.{AreAllTaken}
use Rattle.rist_world.specs.Counted.{Counted}

-- what the receiver of a course released is what was reached, epoch after epoch, by rising number, and nothing else
abbrev pub IsExact : Setup → Course → Type 0
IsExact setup course =
    PlaysReached setup.control.limits setup.session.width (flows_of setup.flow setup.first course.work.history)
    (drop 1 (buffer_history course.steps)) (released_payloads setup.control.limits (buffer_history course.steps))

-- Moves, the oldest first, fewer than 2^27, were made from the beginning on: all those of a script, and memory lasted:
-- no link failed to take what the sender wrote on it. The counts are those of what was made, and the digest is that of
-- all that the receiver released. Where the moves are a short script, that is what was reached, and nothing else.
pub record Drilled (setup : Setup) (near far : Option SealerState)
    (script : Setup → Course → List Move → Course → Type 0) (moves : List Move) (counts : Counts)
    (hash : List ℕ) : Type 0 where
  pub course : Course
  pub makes : MakesAll setup (reverse moves) (beginning near far (links_of setup)) course
  pub few : length moves < 2 ^ 27
  pub follows : script setup (beginning near far (links_of setup)) (reverse moves) course
  pub taken : AreAllTaken setup course
  pub counted : Counted setup course counts
  pub digest : hash ≡ sha256 (released_bytes setup.control.limits (buffer_history course.steps))
  pub exact : IsSetup setup → IsSealerOf setup.session near → IsShort setup.session.width (reverse moves)
      → IsExact setup course
