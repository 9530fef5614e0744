use Rattle.std.proofs.Common.{rules, ◌≡◌, sym, ◌∙◌}
use Rattle.std.proofs.lemmas.Grind.{common_steps}
use Rattle.std.proofs.Common.{arith}
use Rattle.lgx_sched.specs.TableView.{ready_at}
use Rattle.lgx_sched.specs.Represents.{IsInLine}
use Rattle.lgx_sched.proofs.InLine.{if_some, none_from, ready_in_line, ready_none}
use Rattle.lgx_sched.proofs.table.TaskTable.ready.Goals as goal

pub returns-clause-in_line : goal.returns-clause-in_line
returns-clause-in_line c =
    let at : c.get.result ≡ ready_at c.args.self.now c.args.priority c.args.i = first_of (search rules, grind (arith, common_steps)) in
    λ s st. if_some c.get.result (IsInLine s c.args.priority c.args.i) (λ t e. ready_in_line c.args.self.now s c.args.priority c.args.i t c.requires.0 st (sym at ∙ e))

pub returns-clause-none : goal.returns-clause-none
returns-clause-none c =
    let at : c.get.result ≡ ready_at c.args.self.now c.args.priority c.args.i = first_of (search rules, grind (arith, common_steps)) in
    λ s st n. ready_none c.args.self.now s c.args.priority c.args.i c.requires.0 st (sym at ∙ none_from c.get.result n)
