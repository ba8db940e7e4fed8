-- A part of a run: what it leaves of sender, progress, source and links.
use Rattle.std.specs.Prelude.{◌≡◌, ◌≤◌, ◌-◌, ◌^◌, ℕ, List, length, map, Option, Result}
use Rattle.std.specs.List.{range_with_len}
use Rattle.outside_net.specs.Links.{Answer}
use Rattle.outside_net.specs.Links.{LinkTells}
use Rattle.rist_sender.specs.Sender.{SenderState, IsSenderAfter}
use Rattle.rist_send.specs.declared.progress.Progress.{Progress}
use Rattle.rist_send.specs.declared.progress.Stage.{Stage}
use Rattle.rist_send.specs.declared.progress.Stage.TheVariants.{Reading, Ended}
use Rattle.rist_send.specs.declared.fault.SendFault.{SendFault}
use Rattle.rist_send.specs.declared.settings.SendSettings.{SendSettings}
use Rattle.rist_send.specs.Run.{Setup, Run, setup_of}
use Rattle.rist_send.specs.Turns.{ReadsInTurn}
use Rattle.rist_sender.specs.Served.{AreServed}
use Rattle.rist_send.specs.Served.{Outside}

-- the place of the next piece is no more than 2^40
abbrev pub IsPlace : Stage → Type 0
IsPlace (Reading k) = k ≤ 2 ^ 40
IsPlace (Ended moment) = Unit {0}

-- the outside where a part of a run doesn't come to its clock, nor to its source
abbrev pub with_source : Run → Option (List ℕ) → Option (List (List ℕ)) → List (Option (ℕ → Answer)) → Outside
with_source run octets payloads answers =
    record { moments = run.moments; octets = octets; payloads = payloads; answers = answers }

-- the outside of a run whose links have these answers still to give
abbrev pub with_links : Run → List (Option (ℕ → Answer)) → Outside
with_links run answers =
    record { moments = run.moments; octets = run.octets; payloads = run.payloads; answers = answers }

-- sender, progress and outside are at what a run has come to
pub record IsAt (s : SenderState) (p : Progress) (outside : Outside) (run : Run) : Type 0 where
  pub sender : IsSenderAfter s run.work
  pub progress : run.progress ≡ p
  pub moments : run.moments ≡ outside.moments
  pub octets : run.octets ≡ outside.octets
  pub payloads : run.payloads ≡ outside.payloads
  pub answers : run.answers ≡ outside.answers

-- a part of a run comes to a run of which P holds
pub record Moves {L : Type 0} (line : LinkTells L) (old new : SenderState) (progress : Progress) (outside : Outside)
    (was is : List L) (from : Run) (P : Run → Type 0) : Type 0 where
  pub to : Run
  pub fact : P to
  pub stands : IsAt new progress outside to
  pub given : AreServed line old.flow old.session from.work.history to.work.history was is

-- a part of a run that comes neither to its clock nor to its source: from where a run has come to, it comes to a run of
-- which P holds
abbrev pub MovesBy : {L : Type 0} → LinkTells L → SenderState → SenderState → Progress → Progress → List L → List L
    → (Setup → Run → Run → Type 0) → Type 0
MovesBy line old new before after was is P =
    (settings : SendSettings) (from : Run) → IsAt old before (with_links from (map line.reads was)) from
    → Moves line old new after (with_links from (map line.reads is)) was is from
    (P (setup_of settings old (length was)) from)

-- the links before one were read: whatever the reads of the others leave, the reads of all leave
abbrev pub ReadsBefore : Setup → ℕ → Run → Run → Type 0
ReadsBefore setup link from to =
    (result : Result Unit SendFault) (last : Run)
    → ReadsInTurn setup (range_with_len link (setup.links - link)) result to last
    → ReadsInTurn setup (range_with_len 0 setup.links) result from last
