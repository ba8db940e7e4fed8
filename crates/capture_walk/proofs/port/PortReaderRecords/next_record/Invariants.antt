-- the frames that were read carry nothing to the port
use Rattle.std.proofs.Common.{◌≡◌, ◌≤◌, ◌-◌, ◌^◌, ℕ, List, Option, false}
use Rattle.capture_file.specs.Capture.{Record}
use Rattle.capture_walk.specs.Inside.Frames.{HasReadPort}
use Rattle.capture_walk.proofs.port.PortReaderRecords.next_record.Given as goal

abbrev pub invariant-loop-head : goal.invariant-loop-head
invariant-loop-head g l = record {
  kept : (first : Option (List ℕ)) (done : List Record) → HasReadPort first l.initial.self done → HasReadPort first l.self done;
  running : l.self.frames.spent ≡ false;
  profile : l.self.profile ≡ l.initial.self.profile;
  port : l.self.port ≡ l.initial.self.port;
  place : l.initial.self.frames.at ≤ l.self.frames.at;
  faults : l.self.frames.faults ≡ l.initial.self.frames.faults;
}

abbrev pub decreases-loop-head : goal.decreases-loop-head
decreases-loop-head g l = 2 ^ 40 - l.self.frames.at
