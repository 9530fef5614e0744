use Rattle.lgx_answer.proofs.TextLines.{next_line, one_line}
use Rattle.cmd_link.proofs.lines.LinkLines.next_line.Goals as goal

pub returns-clause-one : goal.returns-clause-one
returns-clause-one c = λ is.
    one_line _ _ _ _ _ _ c.deref.ensures.value c.clear.ensures.items c.in_ok-extend_from_slice.ensures.items c.line_length-count.ensures.line

pub returns-clause-more : goal.returns-clause-more
returns-clause-more c = λ is.
    next_line _ _ _ _ _ _ c.deref.ensures.value c.clear.ensures.items c.in_ok-extend_from_slice.ensures.items
