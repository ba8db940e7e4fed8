-- what the turns so far did
use Rattle.std.proofs.Common.{◌≡◌, ◌≤◌, ◌-◌, length, map}
use Rattle.rist_sender.specs.Calls.{Work}
use Rattle.rist_sender.specs.Sender.{IsSenderAfter, StaysSet}
use Rattle.rist_send.specs.Run.{setup_of}
use Rattle.rist_send.specs.Sending.{TurnsOn}
use Rattle.rist_send.specs.Served.{new_run}
use Rattle.rist_send.specs.Waiting.{IsNeverReady}
use Rattle.rist_send.specs.declared.progress.Stage.TheVariants.{Reading}
use Rattle.rist_send.specs.Inside.Moves.{Moves, IsPlace}
use Rattle.rist_send.proofs.sending.send.Given as goal

abbrev pub invariant-loop-count : goal.invariant-loop-count
invariant-loop-count g l = record {
  within : l.count ≤ l.settings.turns;
  place : IsPlace l.progress.stage;
  same : length l.links ≡ length l.fn.links;
  set : StaysSet l.fn.sender l.sender;
  opener : l.opener ≡ l.fn.opener;
  faults : g.S.Source.faults l.source ≡ g.S.Source.faults l.fn.source;
  never : IsNeverReady (g.S.LiveSource.ready l.fn.source) → IsNeverReady (g.S.LiveSource.ready l.source) × (l.progress.stage ≡ Reading 0);
  does : (from : Work) → IsSenderAfter l.fn.sender from
      → Moves (record { taken = g.L.Link.taken; knows = g.L.Link.knows; faults = g.L.Link.faults; reads = g.L.Link.reads; ends = g.L.Link.ends })
      l.fn.sender l.sender l.progress (record { moments = g.C.Clock.moments l.clock; octets = g.S.Source.remaining l.source; payloads = g.S.LiveSource.payloads l.source; answers = map g.L.Link.reads l.links }) l.fn.links l.links
      (new_run from (record { moments = g.C.Clock.moments l.fn.clock; octets = g.S.Source.remaining l.fn.source; payloads = g.S.LiveSource.payloads l.fn.source; answers = map g.L.Link.reads l.fn.links }))
      (TurnsOn (setup_of l.settings l.fn.sender (length l.fn.links)) l.count
      (new_run from (record { moments = g.C.Clock.moments l.fn.clock; octets = g.S.Source.remaining l.fn.source; payloads = g.S.LiveSource.payloads l.fn.source; answers = map g.L.Link.reads l.fn.links })));
}

abbrev pub decreases-loop-count : goal.decreases-loop-count
decreases-loop-count g l = l.settings.turns - l.count
