-- what the reads of the links so far did
use Rattle.std.proofs.Common.{◌≡◌, length, map}
use Rattle.rist_sender.specs.Sender.{StaysSet}
use Rattle.rist_send.specs.declared.settings.SendSettings.{SendSettings}
use Rattle.rist_send.specs.Run.{Run, setup_of}
use Rattle.rist_send.specs.Inside.Moves.{IsAt, Moves, ReadsBefore, with_links}
use Rattle.rist_send.proofs.reading.read_links.Given as goal

abbrev pub invariant-loop-link : goal.invariant-loop-link
invariant-loop-link g l = record {
  same : length l.links ≡ length l.initial.links;
  set : StaysSet l.initial.sender l.sender;
  opener : l.opener ≡ l.initial.opener;
  stage : l.progress.stage ≡ l.initial.progress.stage;
  does : (settings : SendSettings) (from : Run) → IsAt l.initial.sender l.initial.progress (with_links from (map g.L.Link.reads l.initial.links)) from
      → Moves (record { taken = g.L.Link.taken; knows = g.L.Link.knows; faults = g.L.Link.faults; reads = g.L.Link.reads; ends = g.L.Link.ends })
      l.initial.sender l.sender l.progress (with_links from (map g.L.Link.reads l.links)) l.initial.links l.links from
      (ReadsBefore (setup_of settings l.initial.sender (length l.initial.links)) l.link from);
}
