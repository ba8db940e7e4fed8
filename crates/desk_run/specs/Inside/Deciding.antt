-- What became of the end.
use Rattle.std.specs.Prelude.{List, [], ◌∷◌, Bool, true, false, Result, Ok, Err}
use Rattle.outside_net.specs.declared.trace.Full.{Full}
use Rattle.rist_ends.specs.declared.outcome.Answer.{Answer}
use Rattle.rist_desk.specs.declared.step.Step.{Step}
use Rattle.rist_desk.specs.Legal.{is_fault}
use Rattle.rist_desk.specs.Desk.{is_cut_off}
use Rattle.desk_run.specs.declared.deciding.Last.{Last}
use Rattle.desk_run.specs.declared.deciding.Last.TheVariants as lasts

-- a write failed in the last step, the newest standing first
abbrev pub has_fault : List Step → Bool
has_fault [] = false
has_fault (s ∷ before) = is_fault s.mark

-- what became of the end, where the write that it was cut off by failed; else as it stands
abbrev pub last_by : Bool → Last → Last
last_by true otherwise = lasts.Failed
last_by false otherwise = otherwise

-- a write failed in it or before it; else it was told, or there was no room for it
abbrev pub last_of : Bool → Result Answer Full → Last
last_of failed (Ok answer) = last_by (is_cut_off answer) lasts.Told
last_of failed (Err full) = last_by failed lasts.Full

-- a write failed
abbrev pub has_failed : Last → Bool
has_failed lasts.Told = false
has_failed lasts.Failed = true
has_failed lasts.Full = false
