use Rattle.std.proofs.Common.{map}
use Rattle.lgx_steps.specs.PartsView.{view_of}
use Rattle.spec_machine.specs.declared.reply.Mode.TheVariants as mode
use Rattle.spec_machine.specs.State.{State, dropped}
use Rattle.spec_tables.specs.Tasks.{stop}
use Rattle.lgx_steps.proofs.Regions.{at_most-stop}
use Rattle.lgx_steps.proofs.States.{with-table, with-mode}
use Rattle.lgx_steps.proofs.parts.ControllerParts.stop.Goals as goal

pub returns-clause-gives : goal.returns-clause-gives
returns-clause-gives c = λ n s h.
    let s₁ : State = record s { progress = map dropped s.progress } in
    let v₁ = view_of c.leave_scans.new.self in
    let h₁ = c.leave_scans.ensures.represents n s h in
    let s₂ : State = record s₁ { table = stop s.table } in
    let v₂ = record v₁ { table = c.stop.new.self } in
    let h₂ = with-table n v₁ s₁ h₁ c.stop.new.self (stop s.table) (c.stop.ensures.represents s.table h₁.table) c.stop.ensures.defs (at_most-stop n s.table) in
    record { answers = c.replied.ensures; represents = with-mode n v₂ s₂ h₂ mode.Program }
