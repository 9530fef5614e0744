use Rattle.std.proofs.Common.{ℕ, ap, ◌∙◌}
use Rattle.lgx_steps.specs.PartsView.{view_of}
use Rattle.spec_tables.specs.Tasks.{rotate, expired}
use Rattle.lgx_steps.proofs.Regions.{at_most-rotate}
use Rattle.lgx_steps.proofs.States.{with-table}
use Rattle.lgx_steps.proofs.Ticking.{gives-expired, gives-unexpired}
use Rattle.lgx_steps.proofs.parts.ControllerParts.watch_and_release.Goals as goal

pub major_fault-requires : goal.major_fault-requires
major_fault-requires c =
    let r = with-table c.requires.events (view_of c.args.self.now) c.requires.state c.requires.represents c.rotate.new.self (rotate c.requires.state.table) (c.rotate.ensures.represents c.requires.state.table c.requires.represents.table) c.rotate.ensures.defs (at_most-rotate c.requires.events c.requires.state.table c.requires.represents.sane.regions) in
    record { live = record { events = c.requires.events; state = record c.requires.state { table = rotate c.requires.state.table }; room = c.requires.room; represents = r } }

pub release_due-requires : goal.release_due-requires
release_due-requires c =
    let r = with-table c.requires.events (view_of c.args.self.now) c.requires.state c.requires.represents c.rotate.new.self (rotate c.requires.state.table) (c.rotate.ensures.represents c.requires.state.table c.requires.represents.table) c.rotate.ensures.defs (at_most-rotate c.requires.events c.requires.state.table c.requires.represents.sane.regions) in
    record { events = c.requires.events; state = record c.requires.state { table = rotate c.requires.state.table }; room = c.requires.room; represents = r }

pub returns-in-Some-clause-gives : goal.returns-in-Some-clause-gives
returns-in-Some-clause-gives c = λ n s h.
    let h₁ = with-table n (view_of c.args.self.now) s h c.rotate.new.self (rotate s.table) (c.rotate.ensures.represents s.table h.table) c.rotate.ensures.defs (at_most-rotate n s.table h.sane.regions) in
    gives-expired n _ (record s { table = rotate s.table }) c.expired.result c.in-Some.t c.args.self.now.tick c.in-Some.is (c.expired.ensures.represents (rotate s.table) h₁.table ∙ ap (λ (i : ℕ). expired i (rotate s.table)) h.tick) h.tick (c.major_fault.ensures.represents n _ h₁)

pub returns-in-None-clause-gives : goal.returns-in-None-clause-gives
returns-in-None-clause-gives c = λ n s h.
    let h₁ = with-table n (view_of c.args.self.now) s h c.rotate.new.self (rotate s.table) (c.rotate.ensures.represents s.table h.table) c.rotate.ensures.defs (at_most-rotate n s.table h.sane.regions) in
    gives-unexpired n _ (record s { table = rotate s.table }) c.expired.result c.release_due.result c.in-None.is (c.expired.ensures.represents (rotate s.table) h₁.table ∙ ap (λ (i : ℕ). expired i (rotate s.table)) h.tick) (c.release_due.ensures.gives n _ h₁)
