use Rattle.spec_story.proofs.Stories.{stories_go_on, ticks_add_one, others_add_none, ticks_are_numbers}
use Rattle.spec_story.proofs.laws.stories_go_on.Goals as goal

pub returns-clause-prefix : goal.returns-clause-prefix
returns-clause-prefix c = stories_go_on

pub returns-clause-ticks : goal.returns-clause-ticks
returns-clause-ticks c = ticks_add_one

pub returns-clause-others : goal.returns-clause-others
returns-clause-others c = others_add_none

pub returns-clause-numbers : goal.returns-clause-numbers
returns-clause-numbers c = ticks_are_numbers
