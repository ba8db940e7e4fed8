use Rattle.deadline_index.proofs.levels.+least_of.Given as goal

-- proposed from what the function passes where it calls itself
abbrev pub decreases-least_of : goal.decreases-least_of
decreases-least_of l = l.levels
