use Rattle.std.proofs.Common.{rules, ◌≡◌, ◌≤◌, length, sym, ◌∙◌, ap, arith}
use Rattle.spec_text.specs.JournalText.{joined}
use Rattle.spec_project.specs.Projects.{project_of}
use Rattle.lgx_audit.specs.TraceText.{end_line}
use Rattle.cmd_trace.specs.TraceLeft.{TraceView, file_left}
use Rattle.cmd_trace.proofs.Going.{last_line}
use Rattle.cmd_trace.proofs.trace_lines.TraceLinesLines.line.Goals as goal

pub returns-then-self-runs-clause-more : goal.returns-then-self-runs-clause-more
returns-then-self-runs-clause-more c e =
    let l = c.self.inside in
    let all : length (joined l.journal.events) ≤ l.run = (let a = c.if-self-runs.true in let b = c.runs.ensures in omega arith) in
    let line : c.extend_from_slice.new.self.items ≡ end_line = search rules in
    sym (ap (λ (v : TraceView). v.text) c.self.view_is)
    ∙ ap (λ b. file_left (project_of l.file.items) l.journal.events l.controller.spent b) c.if-self.false
    ∙ last_line l.file.items l.names.items l.controller l.journal.events l.run l.done c.self.invariant c.extend_from_slice.new.self.items all line
