use Rattle.program_parents.proofs.+parents_again.Given as goal

-- how many times more
abbrev pub decreases-parents_again : goal.decreases-parents_again
decreases-parents_again l = l.more
