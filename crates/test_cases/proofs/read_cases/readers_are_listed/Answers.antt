-- Both lists are computed; that of the valid project is the whole one by the law of what the others read.
use Rattle.std.proofs.Common.{refl}
use Rattle.test_cases.specs.TaskRuns.{inhibited_event}
use Rattle.test_cases.proofs.read_cases.readers_are_listed.Goals as goal

pub returns-clause-xic : goal.returns-clause-xic
returns-clause-xic c = refl

pub returns-clause-ons : goal.returns-clause-ons
returns-clause-ons c = refl

pub returns-clause-no_others : goal.returns-clause-no_others
returns-clause-no_others c g program n s is_program is_site none on now first frames flags x y alike =
    c.others_read_nothing.ensures inhibited_event g program n s 1 on now first frames flags x y c.project_is_valid.ensures is_program is_site none alike
