-- The name of this run's sending end.
use Rattle.std.specs.Prelude.{[], None, Some}
use Rattle.outside_net.specs.Scripts.{ScriptState, answers_of, knows_in, moments_of}
use Rattle.rist_gateway.specs.Onward.{onward_of, passed_of}
use Rattle.test_runs.proofs.onward.in_memory.Given as goal

abbrev pub ghosts-forwarded : goal.ghosts-forwarded
ghosts-forwarded a =
    record {
      first = onward_of (record { reads = λ (l : ScriptState). Some (answers_of l.reads l.script); taken = λ (l : ScriptState). Some l.taken; knows = λ (l : ScriptState). knows_in l.known; ends = λ (l : ScriptState). l.ends; faults = λ (l : ScriptState). l.faults }) a.sender a.opener a.links.items (passed_of (Some (moments_of a.clock)) []) 0 0 None None;
    }
