-- a level higher
use Rattle.deadline_index.proofs.levels.+set_entry.Given as goal

abbrev pub decreases-set_entry : goal.decreases-set_entry
decreases-set_entry l = l.levels
