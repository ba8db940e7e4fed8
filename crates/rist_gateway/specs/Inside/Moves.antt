-- A part of a call on the sending end: what it leaves of sender, clock and links.
use Rattle.std.specs.Prelude.{◌≡◌, ℕ, List, length, map, Result}
use Rattle.outside_net.specs.Links.{LinkTells}
use Rattle.rist_sender.specs.Sender.{SenderState, IsSenderAfter, rules_of}
use Rattle.sender_rules.specs.declared.send_bad.SendBad.{SendBad}
use Rattle.rist_sender.specs.Served.{AreServed}
use Rattle.rist_gateway.specs.Course.{Setup, Passed, Course, SendsOn}

-- what a sender over so many links is set to
abbrev pub setup_with : SenderState → ℕ → Setup
setup_with s links = record { rules = rules_of s; session = s.session; links = links }

-- sender, links and what has passed are as far as this
pub record IsFar {L : Type 0} (line : LinkTells L) (s : SenderState) (passed : Passed) (links : List L)
    (course : Course) : Type 0 where
  pub sender : IsSenderAfter s course.work
  pub passed_is : course.passed ≡ passed
  pub answers : course.answers ≡ map line.reads links

-- from as far as that they have come to something of which this holds
pub record Goes {L : Type 0} (line : LinkTells L) (old new : SenderState) (passed : Passed) (was is : List L)
    (from : Course)
    (P : Course → Type 0) : Type 0 where
  pub to : Course
  pub fact : P to
  pub stands : IsFar line new passed is to
  pub given : AreServed line old.flow old.session from.work.history to.work.history was is

-- a part of a call, whatever has passed: from as far as that, sender and links come to something of which this holds
abbrev pub GoesBy : {L : Type 0} → LinkTells L → SenderState → SenderState → List L → List L
    → (Setup → Course → Course → Type 0) → Type 0
GoesBy line old new was is P =
    (passed : Passed) (from : Course) → IsFar line old passed was from
    → Goes line old new passed was is from (P (setup_with old (length was)) from)

-- the parts before these octets were sent: whatever the sending of the rest leaves, the sending of the piece leaves
abbrev pub SendsBefore : Setup → List ℕ → List ℕ → Course → Course → Type 0
SendsBefore setup piece rest from to =
    (result : Result Unit SendBad) (last : Course) → SendsOn setup rest result to last
    → SendsOn setup piece result from last
