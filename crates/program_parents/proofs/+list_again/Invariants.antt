use Rattle.program_parents.proofs.+list_again.Given as goal

-- how many times more
abbrev pub decreases-list_again : goal.decreases-list_again
decreases-list_again l = l.more
