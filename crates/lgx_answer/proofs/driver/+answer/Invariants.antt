use Rattle.lgx_answer.proofs.driver.+answer.Given as goal

abbrev pub decreases-answer : goal.decreases-answer
decreases-answer g l = g.W.FileCommand.left l.command
