use Rattle.std.proofs.Common.{map}
use Rattle.lgx_steps.specs.PartsView.{view_of}
use Rattle.spec_machine.specs.State.{State, dropped}
use Rattle.spec_machine.specs.declared.reply.Mode.TheVariants.{Faulted}
use Rattle.spec_tables.specs.Tasks.{stop}
use Rattle.lgx_steps.proofs.Regions.{at_most-stop}
use Rattle.lgx_steps.proofs.States.{with-table, with-mode, with-noted}
use Rattle.lgx_steps.proofs.parts.ControllerParts.major_fault.Goals as goal

pub returns-clause-represents : goal.returns-clause-represents
returns-clause-represents c = λ n s h.
    let s₁ : State = record s { progress = map dropped s.progress } in
    let v₁ = view_of c.leave_scans.new.self in
    let h₁ = c.leave_scans.ensures.represents n s h in
    let s₂ : State = record s₁ { table = stop s.table } in
    let v₂ = record v₁ { table = c.stop.new.self } in
    let h₂ = with-table n v₁ s₁ h₁ c.stop.new.self (stop s.table) (c.stop.ensures.represents s.table h₁.table) c.stop.ensures.defs (at_most-stop n s.table) in
    let h₃ = with-mode n v₂ s₂ h₂ Faulted in
    with-noted n (record v₂ { mode = Faulted }) (record s₂ { mode = Faulted }) h₃ c.note.new.self c.args.fault (c.note.ensures.holds s.faults h₃.faults)
