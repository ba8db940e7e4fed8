-- The receivers that made their step, and those that have not yet.
use Rattle.std.proofs.Common.{◌≡◌, ◌<◌, ◌≤◌, ◌+◌, ℕ, length}
use Rattle.std.specs.Prelude.{slice_index_or}
use Rattle.rist_fan.specs.declared.flow.Came.{Came}
use Rattle.rist_fan.specs.Fan.{StepsFlow}
use Rattle.rist_fan.specs.Seen.{is_for, told_for}
use Rattle.rist_fan.proofs.stepping.step_more.Given as goal

abbrev pub invariant-loop-v : goal.invariant-loop-v
invariant-loop-v g l = record {
  flows : length l.more ≡ length l.initial.more;
  room : length l.came ≡ length l.initial.came;
  done : (v : ℕ) (d : _) (e : Came) → v < l.v → StepsFlow g.K.Sink.contents g.K.Sink.faults (told_for (is_for l.place (v + 1)) l.told) (slice_index_or l.initial.more v d) (slice_index_or l.more v d)
      (slice_index_or l.initial.came (v + 1) e) (slice_index_or l.came (v + 1) e);
  rest : (v : ℕ) (d : _) → l.v ≤ v → slice_index_or l.more v d ≡ slice_index_or l.initial.more v d;
  rooms : (v : ℕ) (e : Came) → l.v ≤ v → slice_index_or l.came (v + 1) e ≡ slice_index_or l.initial.came (v + 1) e;
  first : (e : Came) → slice_index_or l.came 0 e ≡ slice_index_or l.initial.came 0 e;
}
