use Rattle.std.proofs.Common.{◌≡◌, ◌<◌, ◌≤◌, ◌+◌, ℕ, List, length, refl, sym, ap, ◌∙◌, subst, arith}
use Rattle.lgx_steps.specs.PartsView.{view_of}
use Rattle.spec_machine.specs.State.{State, progress_of, programs_of}
use Rattle.spec_tables.specs.Tasks.{region_clear, finish}
use Rattle.lgx_sched.specs.TableView.{TableView}
use Rattle.lgx_sched.specs.Represents.{RepresentsTable as RepresentsTable}
use Rattle.lgx_steps.specs.Represents.{RepresentsState}
use Rattle.lgx_steps.proofs.Leaving.{left_at}
use Rattle.lgx_steps.proofs.Regions.{at_most-region, at_most-finish}
use Rattle.lgx_steps.proofs.Reading.{list-read, ended-read, in-table}
use Rattle.lgx_steps.proofs.AfterEffects.{ended-more, ended-last}
use Rattle.lgx_steps.proofs.States.{with-table}
use Rattle.lgx_steps.proofs.parts.ControllerParts.end_scan.Goals as goal

pub finish-requires-clause-known : goal.finish-requires-clause-known
finish-requires-clause-known c =
    let l = c.requires.live in
    subst (λ (w : TableView). c.args.t < length w.defs) (sym c.leave_scan-else-ended-programs.ensures.table)
    (in-table l.events (view_of c.args.self.now) l.state l.represents c.args.t c.requires.known)

pub returns-then-ended-programs-clause-represents : goal.returns-then-ended-programs-clause-represents
returns-then-ended-programs-clause-represents c = λ k s h.
    let v = view_of c.args.self.now in
    let t = c.args.t in
    let l = c.requires.known in
    let ended = ended-read k v s h t l c.index.result.now _ c.index.ensures in
    let list = list-read k v s h t l c.as_slice.result.now c.index-as_slice-t.result c.index-as_slice-t.result c.as_slice.ensures c.index-as_slice-t.is refl in
    let many : c.len-programs.result ≡ length (programs_of s t) = c.len-programs.ensures ∙ ap (λ (ns : List ℕ). length ns) list in
    let e : c.index.result.now.ended + 1 ≡ (progress_of s t).ended + 1 = ap (λ i. i + 1) ended in
    let more : (progress_of s t).ended + 1 < length (programs_of s t) = subst (λ i. i < length (programs_of s t)) e (subst (λ i. c.index.result.now.ended + 1 < i) many c.if-ended-programs.true) in
    let s₁ : State = left_at s t ((progress_of s t).ended + 1) in
    let w = view_of c.leave_scan.new.self in
    let h₁ : RepresentsState k w s₁ = subst (λ i. RepresentsState k w (left_at s t i)) e (c.leave_scan.ensures.represents k s h) in
    let h₂ = with-table k w s₁ h₁ c.region_clear.new.self (region_clear t s.table) (c.region_clear.ensures.represents s.table h₁.table) c.region_clear.ensures.defs (at_most-region k 0 s.table t h.sane.regions (omega arith)) in
    ended-more k _ s t more h₂

pub returns-else-ended-programs-clause-represents : goal.returns-else-ended-programs-clause-represents
returns-else-ended-programs-clause-represents c = λ k s h.
    let v = view_of c.args.self.now in
    let t = c.args.t in
    let l = c.requires.known in
    let ended = ended-read k v s h t l c.index.result.now _ c.index.ensures in
    let list = list-read k v s h t l c.as_slice.result.now c.index-as_slice-t.result c.index-as_slice-t.result c.as_slice.ensures c.index-as_slice-t.is refl in
    let many : c.len-programs.result ≡ length (programs_of s t) = c.len-programs.ensures ∙ ap (λ (ns : List ℕ). length ns) list in
    let e : c.index.result.now.ended + 1 ≡ (progress_of s t).ended + 1 = ap (λ i. i + 1) ended in
    let last : length (programs_of s t) ≤ (progress_of s t).ended + 1 = subst (λ i. length (programs_of s t) ≤ i) e (subst (λ i. i ≤ c.index.result.now.ended + 1) many c.if-ended-programs.false) in
    let s₁ : State = left_at s t 0 in
    let w = view_of c.leave_scan-else-ended-programs.new.self in
    let h₁ = c.leave_scan-else-ended-programs.ensures.represents k s h in
    let now : c.leave_scan-else-ended-programs.new.self.tick ≡ s.tick = h₁.tick in
    let r : RepresentsTable c.finish.new.table (finish t s.tick s.table) = subst (λ i. RepresentsTable c.finish.new.table (finish t i s.table)) now (c.finish.ensures.represents s.table h₁.table) in
    let h₂ = with-table k w s₁ h₁ c.finish.new.table (finish t s.tick s.table) r c.finish.ensures.defs (at_most-finish k s.table t s.tick h.sane.regions) in
    ended-last k _ s t last h₂
