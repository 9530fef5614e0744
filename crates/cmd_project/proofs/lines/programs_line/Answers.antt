use Rattle.std.proofs.Common.{Ok, ap, ◌∙◌}
use Rattle.lgx_edit.specs.Texts.{program_of}
use Rattle.cmd_project.specs.TextPlan.{program_lines}
use Rattle.cmd_project.specs.TextLeft.{program_left}
use Rattle.cmd_project.proofs.TextLefts.{line_of_first, none_of_first, program_start}
use Rattle.cmd_project.proofs.lines.programs_line.Goals as goal

pub returns-then-made-clause-more : goal.returns-then-made-clause-more
returns-then-made-clause-more c = λ done.
    let programs = c.args.programs.now in
    let at = c.loop-at.at in
    let q = c.index-programs-at.result in
    let from = program_left c.loop-at.place in
    let next = program_left c.program_line.new.place in
    let more = c.in_ok-made.ensures.more (ap (λ b. Ok b) c.if-made.true) in
    c.loop-at.invariant
    ∙ line_of_first program_of from next program_lines programs at q c.program_line.new.line.items c.loop-at-test.true c.index-programs-at.is more

pub loop-at-preserved : goal.loop-at-preserved
loop-at-preserved c =
    let programs = c.args.programs.now in
    let at = c.loop-at.at in
    let q = c.index-programs-at.result in
    let from = program_left c.loop-at.place in
    let start = program_left (record { routine = 0; line = 0 }) in
    let none = c.in_ok-made.ensures.none (ap (λ b. Ok b) c.if-made.false) in
    c.loop-at.invariant
    ∙ none_of_first program_of from start program_lines programs at q c.loop-at-test.true c.index-programs-at.is none program_start
