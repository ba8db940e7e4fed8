-- What a run leaves of its sender, its clock, its source and its links.
use Rattle.std.specs.Prelude.{◌≡◌, ℕ, List, [], Option}
use Rattle.outside_net.specs.Links.{Answer}
use Rattle.outside_net.specs.Links.{LinkTells}
use Rattle.rist_sender.specs.Calls.{Work}
use Rattle.rist_sender.specs.Sender.{SenderState, IsSenderAfter}
use Rattle.rist_sender.specs.Served.{AreServed}
use Rattle.rist_send.specs.Run.{Run, no_progress}

-- what a clock, a source, by its octets or by its payloads, and the reads of links have still to give, where they tell it
pub record Outside : Type 0 where
  pub moments : Option (ℕ → ℕ)
  pub octets : Option (List ℕ)
  pub payloads : Option (List (List ℕ))
  pub answers : List (Option (ℕ → Answer))

-- a run of which no turn was made
abbrev pub new_run : Work → Outside → Run
new_run work outside = record {
  work = work;
  sent = [];
  progress = no_progress;
  moments = outside.moments;
  octets = outside.octets;
  payloads = outside.payloads;
  answers = outside.answers;
}

-- A run came to something of which P holds. The sender stands for its work; clock, source and links have given just
-- what it took; and each link was given just the datagrams of its work.
pub record Runs {L : Type 0} (line : LinkTells L) (old new : SenderState) (outside : Outside) (was is : List L)
    (from : Work)
    (P : Run → Type 0) : Type 0 where
  pub to : Run
  pub fact : P to
  pub stands : IsSenderAfter new to.work
  pub moments : to.moments ≡ outside.moments
  pub octets : to.octets ≡ outside.octets
  pub payloads : to.payloads ≡ outside.payloads
  pub answers : to.answers ≡ outside.answers
  pub given : AreServed line old.flow old.session from.history to.work.history was is
