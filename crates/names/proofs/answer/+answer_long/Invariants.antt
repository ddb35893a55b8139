use Rattle.names.proofs.answer.+answer_long.Given as goal

-- how many times more
abbrev pub decreases-answer_long : goal.decreases-answer_long
decreases-answer_long l = l.more
