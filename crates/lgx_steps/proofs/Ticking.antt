-- The steps of a tick.
use Rattle.std.proofs.Common.{◌≡◌, ℕ, ◌+◌, zero, suc, List, [], ◌∷◌, length, Bool, true, false, if◌then◌else◌, Option, Some, None, refl, sym, ap, ◌∙◌, subst, arith}
use Rattle.std.specs.Prelude.{fold}
use Rattle.std.specs.List.{range_with_len}
use Rattle.spec_tables.specs.declared.fault.TheConstants.{TASK_FAULT, WATCHDOG}
use Rattle.spec_tables.specs.declared.fault.Severity.TheVariants.{Major}
use Rattle.spec_tables.specs.declared.task.Release.{Release}
use Rattle.spec_tables.specs.Tasks.{Table, due, expired, rotate}
use Rattle.spec_machine.specs.declared.answer.TickReport.{TickReport}
use Rattle.spec_machine.specs.declared.reply.Mode.{Mode}
use Rattle.spec_machine.specs.State.{State, Answered}
use Rattle.spec_machine.specs.Releases.{release_task, task_fault, major_fault}
use Rattle.spec_machine.specs.Ticks.{quiet, noted, after_release, release_if_due, release_due, after_watchdogs, in_run, in_mode}
use Rattle.lgx_sched.specs.Represents.{RepresentsTable as RepresentsTable}
use Rattle.lgx_sched.specs.QuietTicks.{IsQuietAt}
use Rattle.lgx_steps.specs.declared.parts.Released.{Released}
use Rattle.lgx_steps.specs.PartsView.{PartsView}
use Rattle.lgx_steps.specs.Represents.{RepresentsState}
use Rattle.lgx_steps.specs.Gives.{ViewGives, ReleaseGives}
use Rattle.lgx_steps.proofs.Regions.{at_most-rotate}
use Rattle.lgx_steps.proofs.States.{with-table}

pub fold-more : {B : Type 0} (f : B → ℕ → B) (x : B) (a n : ℕ) → fold f x (range_with_len a (n + 1)) ≡ f (fold f x (range_with_len a n)) (a + n)
fold-more f x a zero = ap (λ i. f x i) (plus a)
  where
    plus : (b : ℕ) → b ≡ b + 0
    plus b = omega arith
fold-more f x a (suc n) = subst (λ i. fold f x (range_with_len a i) ≡ f (fold f x (range_with_len a (suc n))) (a + suc n)) (next n)
    (fold-more f (f x a) (a + 1) n ∙ ap (λ i. f (fold f (f x a) (range_with_len (a + 1) n)) i) (there a n))
  where
    next : (j : ℕ) → suc (j + 1) ≡ suc j + 1
    next j = omega arith

    there : (b j : ℕ) → (b + 1) + j ≡ b + suc j
    there b j = omega arith

-- a task that is due was released
pub gives-due : (n : ℕ) (v : PartsView) (s : State) (t now : ℕ) (report report' : TickReport) (r : Released) → now ≡ s.tick → due t now s.table ≡ true → ReleaseGives n v r (release_task t s) → report' ≡ noted t report r.answer
    → ViewGives n v report' (release_if_due (record { state = s; answer = report }) t)
gives-due n v s t now report report' r e is_due g is =
    let here : Answered TickReport = record { state = s; answer = report } in
    let due' : due t s.tick s.table ≡ true = subst (λ i. due t i s.table ≡ true) e is_due in
    subst (λ (b : Bool). ViewGives n v report' (if b then after_release t report (release_task t s) else here)) (sym due')
    (record { answers = is ∙ ap (λ (a : Release). noted t report a) g.answer; represents = g.represents })

-- one that isn't due wasn't
pub gives-not_due : (n : ℕ) (v : PartsView) (s : State) (t now : ℕ) (report : TickReport) → now ≡ s.tick → due t now s.table ≡ false → RepresentsState n v s → ViewGives n v report (release_if_due (record { state = s; answer = report }) t)
gives-not_due n v s t now report e not_due h =
    let here : Answered TickReport = record { state = s; answer = report } in
    let due' : due t s.tick s.table ≡ false = subst (λ i. due t i s.table ≡ false) e not_due in
    subst (λ (b : Bool). ViewGives n v report (if b then after_release t report (release_task t s) else here)) (sym due') (record { answers = refl; represents = h })

-- the tasks below t, and then t
pub gives-more : (n : ℕ) (v w : PartsView) (r r' : TickReport) (t : ℕ) (start : Answered TickReport) → ViewGives n v r (fold release_if_due start (range_with_len 0 t))
    → ((m : ℕ) (s' : State) → RepresentsState m v s' → ViewGives m w r' (release_if_due (record { state = s'; answer = r }) t)) → ViewGives n w r' (fold release_if_due start (range_with_len 0 (t + 1)))
gives-more n v w r r' t start g f =
    let x : Answered TickReport = fold release_if_due start (range_with_len 0 t) in
    let here : ViewGives n w r' (release_if_due (record { state = x.state; answer = r }) t) = f n x.state g.represents in
    let at : ViewGives n w r' (release_if_due x t) = subst (λ (q : TickReport). ViewGives n w r' (release_if_due (record { state = x.state; answer = q }) t)) g.answers here in
    let zero_more : 0 + t ≡ t = omega arith in
    subst (λ (y : Answered TickReport). ViewGives n w r' y) (sym (fold-more release_if_due start 0 t ∙ ap (λ i. release_if_due x i) zero_more)) at

-- ---- the watchdogs

pub gives-expired : (n : ℕ) (v : PartsView) (s : State) (o : Option ℕ) (t now : ℕ) → o ≡ Some t → o ≡ expired s.tick s.table → now ≡ s.tick → RepresentsState n v (major_fault (record { severity = Major; kind = TASK_FAULT; code = WATCHDOG; task = t; program = None; tick = now }) s)
    → ViewGives {A = TickReport} n v (record { watchdog = Some t; released = 0; overlapped = 0 }) (after_watchdogs s (expired s.tick s.table))
gives-expired n v s o t now is e now_is r =
    subst (λ (x : Option ℕ). ViewGives {A = TickReport} n v (record { watchdog = Some t; released = 0; overlapped = 0 }) (after_watchdogs s x)) (sym is ∙ e)
    (record { answers = refl; represents = subst (λ i. RepresentsState n v (major_fault (record (task_fault s Major WATCHDOG t) { tick = i }) s)) now_is r })

pub gives-unexpired : (n : ℕ) (v : PartsView) (s : State) (o : Option ℕ) (r : TickReport) → o ≡ None → o ≡ expired s.tick s.table → ViewGives n v r (release_due s) → ViewGives n v r (after_watchdogs s (expired s.tick s.table))
gives-unexpired n v s o r is e g = subst (λ (x : Option ℕ). ViewGives n v r (after_watchdogs s x)) (sym is ∙ e) g

-- ---- ticks that find nothing

-- if none of them is due, none is released
none-due : (x : Answered TickReport) → ((t : ℕ) → due t x.state.tick x.state.table ≡ false) → (ts : List ℕ) → fold release_if_due x ts ≡ x
none-due x not_due [] = refl
none-due x not_due (t ∷ ts) = ap (λ (y : Answered TickReport). fold release_if_due y ts) (ap (λ (b : Bool). if b then after_release t x.answer (release_task t x.state) else x) (not_due t)) ∙ none-due x not_due ts

pub gives-quiet : (n : ℕ) (v : PartsView) (s : State) (now : ℕ) (r : TickReport) → RepresentsState n v s → now ≡ s.tick → ((T : Table) → RepresentsTable v.table T → IsQuietAt now v.table T) → r ≡ quiet → ViewGives n v r (in_run s)
gives-quiet n v s now r h e quiet_at is =
    let T : Table = rotate s.table in
    let s' : State = record s { table = T } in
    let table : RepresentsTable v.table T = (quiet_at s.table h.table).rotate in
    let q : IsQuietAt s.tick v.table T = subst (λ i. IsQuietAt i v.table T) e (quiet_at T table) in
    let nothing : release_due s' ≡ record { state = s'; answer = quiet } = none-due (record { state = s'; answer = quiet }) q.due (range_with_len 0 (length T.defs)) in
    gives-unexpired n v s' None r refl (sym q.expired)
    (subst (λ (y : Answered TickReport). ViewGives n v r y) (sym nothing) (record { answers = is; represents = with-table n v s h v.table T table refl (at_most-rotate n s.table h.sane.regions) }))

-- ---- the mode

pub gives-in_mode : (n : ℕ) (v : PartsView) (s : State) (m m' : Mode) (r : TickReport) → m ≡ s.mode → m ≡ m' → ViewGives n v r (in_mode m' s) → ViewGives n v r (in_mode s.mode s)
gives-in_mode n v s m m' r e is g = subst (λ (x : Mode). ViewGives n v r (in_mode x s)) (sym is ∙ e) g
