-- By the first place that passes.
use Rattle.lgx_question.proofs.SeenLines.{first_lines_are_seen, no_line_is_seen}
use Rattle.lgx_question.proofs.laws.lines_are_seen.Goals as goal

pub returns-clause-first : goal.returns-clause-first
returns-clause-first c = first_lines_are_seen

pub returns-clause-none : goal.returns-clause-none
returns-clause-none c = no_line_is_seen
