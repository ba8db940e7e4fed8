-- The parts of a worker, and a worker as far as it tells.
use Rattle.std.specs.Prelude.{◌≡◌, ℕ, List, Option, None}
use Rattle.rist_wire.specs.declared.session.Session.{Session}
use Rattle.rist_desk.specs.declared.step.Step.{Step}
use Rattle.rist_desk.specs.declared.worker.Worker.{Worker}
use Rattle.rist_desk.specs.Serving.{TraceTells}
use Rattle.desk_run.specs.declared.seats.Seat.{Seat}

-- its link
abbrev pub link_of : {L C U : Type 0} → Worker L C U → L
link_of w = w.link

-- its clock
abbrev pub clock_of : {L C U : Type 0} → Worker L C U → C
clock_of w = w.clock

-- its opener's session
abbrev pub opener_of : {L C U : Type 0} → Worker L C U → Session
opener_of w = w.opener

-- what is its own
abbrev pub trace_of : {L C U : Type 0} → Worker L C U → U
trace_of w = w.trace

-- what it has beside its link and its clock
abbrev pub seat_of : {L C U : Type 0} → Worker L C U → Seat U
seat_of w = record { opener = w.opener; trace = w.trace }

-- a worker that has not ended
abbrev pub is_unended : {L C U : Type 0} → Worker L C U → Type 0
is_unended w = w.end ≡ None

-- what a trace tells
pub record ToldTrace : Type 0 where
  pub list : Option (List Step)
  pub seen : Option (List Step)
  pub limit : Option ℕ

-- a trace that tells just that
abbrev pub told_trace : TraceTells ToldTrace
told_trace = record { list = λ t. t.list; seen = λ t. t.seen; limit = λ t. t.limit }

-- a worker as far as it tells: in place of its trace what this tells
abbrev pub told_by : {L C U : Type 0} → TraceTells U → Worker L C U → Worker L C ToldTrace
told_by tells w = record {
  link = w.link;
  clock = w.clock;
  opener = w.opener;
  trace = record { list = tells.list w.trace; seen = tells.seen w.trace; limit = tells.limit w.trace };
  end = w.end;
}
