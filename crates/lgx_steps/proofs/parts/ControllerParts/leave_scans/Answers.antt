use Rattle.std.proofs.Common.{◌≡◌, ◌<◌, ◌≤◌, List, length, sym, ap, ◌∙◌, subst}
use Rattle.lgx_steps.specs.PartsView.{view_of}
use Rattle.spec_tables.specs.declared.task.TaskDef.{TaskDef}
use Rattle.spec_machine.specs.State.{State}
use Rattle.lgx_sched.specs.TableView.{TableView}
use Rattle.lgx_steps.specs.Represents.{RepresentsState}
use Rattle.lgx_steps.proofs.Leaving.{left_before, left-next, left-all, left_at}
use Rattle.lgx_steps.proofs.Reading.{many-tasks, list-some}
use Rattle.lgx_steps.proofs.parts.ControllerParts.leave_scans.Goals as goal

pub leave_scan-requires-clause-live : goal.leave_scan-requires-clause-live
leave_scan-requires-clause-live c = c.loop-t.invariant.live

pub leave_scan-requires-clause-known : goal.leave_scan-requires-clause-known
leave_scan-requires-clause-known c =
    let l = c.loop-t.invariant.live in
    let in_table : c.loop-t.t < length c.args.self.now.table.defs = subst (λ k. c.loop-t.t < k) c.len-t-end.ensures.value c.loop-t-test.true in
    subst (λ k. c.loop-t.t < k) (many-tasks l.events (view_of c.loop-t.self) l.state l.represents) (subst (λ (w : TableView). c.loop-t.t < length w.defs) (sym c.loop-t.invariant.table) in_table)

pub leave_scan-requires-clause-left : goal.leave_scan-requires-clause-left
leave_scan-requires-clause-left c =
    let l = c.loop-t.invariant.live in
    let in_table : c.loop-t.t < length c.args.self.now.table.defs = subst (λ k. c.loop-t.t < k) c.len-t-end.ensures.value c.loop-t-test.true in
    list-some l.events (view_of c.loop-t.self) l.state l.represents c.loop-t.t
    (subst (λ k. c.loop-t.t < k) (many-tasks l.events (view_of c.loop-t.self) l.state l.represents) (subst (λ (w : TableView). c.loop-t.t < length w.defs) (sym c.loop-t.invariant.table) in_table))

pub loop-t-preserved : goal.loop-t-preserved
loop-t-preserved c =
    let l = c.loop-t.invariant.live in
    record {
      live = record { events = l.events; state = left_at l.state c.loop-t.t 0; room = l.room; represents = c.leave_scan.ensures.represents l.events l.state l.represents };
      represents = λ n s h.
          let r = c.leave_scan.ensures.represents n (left_before s c.loop-t.t) (c.loop-t.invariant.represents n s h) in
          let in_table : c.loop-t.t < length c.args.self.now.table.defs = subst (λ k. c.loop-t.t < k) c.len-t-end.ensures.value c.loop-t-test.true in
          let within : c.loop-t.t < length s.progress = subst (λ k. c.loop-t.t < k) (ap (λ (ds : List TaskDef). length ds) h.table.defs ∙ (h.sane.tasks ∙ sym h.sane.progresses)) in_table in
          subst (λ (x : State). RepresentsState n (view_of c.leave_scan.new.self) x) (left-next s c.loop-t.t within) r;
      table = c.leave_scan.ensures.table ∙ c.loop-t.invariant.table;
      tick = c.leave_scan.ensures.tick ∙ c.loop-t.invariant.tick;
      image = c.leave_scan.ensures.image ∙ c.loop-t.invariant.image;
    }

pub returns-clause-represents : goal.returns-clause-represents
returns-clause-represents c = λ n s h.
    let many : c.len-t-end.result ≡ length s.progress = c.len-t-end.ensures.value ∙ (ap (λ (ds : List TaskDef). length ds) h.table.defs ∙ (h.sane.tasks ∙ sym h.sane.progresses)) in
    subst (λ (x : State). RepresentsState n (view_of c.loop-t.self) x) (left-all s c.loop-t.t (subst (λ k. k ≤ c.loop-t.t) many c.loop-t-test.false)) (c.loop-t.invariant.represents n s h)
