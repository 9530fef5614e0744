-- Each step leaves a table, which represents the list that the definition gives.
use Rattle.std.proofs.Common.{◌≡◌, ℕ, ◌+◌, ◌<◌, Bool, true, false, IfSome, List, [], length, get_or, set, drop, Option, Some, None, option_map, is_some, refl, sym, ap, ◌∙◌, subst, if◌then◌else◌}
use Rattle.std.specs.List.{slice_get}
use Rattle.std.proofs.lemmas.Bool.{false≢true, eq-eqb}
use Rattle.spec_base.specs.declared.limits.TheConstants.{MAX_TASKS}
use Rattle.spec_tables.specs.declared.task.TaskDef.{TaskDef}
use Rattle.spec_tables.specs.Tasks.{TaskState, Table, state_of, task, no_task, or_else, chosen, is_open, is_up, put_up, put_up_if, release_answer, release, release_some, to_back, unless_open, rotate, with_rank, finish, is_continuous}
use Rattle.spec_tables.specs.declared.task.Release.{Release}
use Rattle.spec_tables.specs.declared.task.Release.TheVariants.{Released, Overlap, Inhibited}
use Rattle.lgx_sched.specs.declared.active.ActiveTask.{ActiveTask}
use Rattle.lgx_sched.specs.TableView.{TableView, up_of, def_of, queue_at, place_of, has_open, front_of, next_task, answer_of, pushed, popped, enqueued, enqueued_if, dequeued, rotated}
use Rattle.lgx_sched.specs.Represents.{without_rank, RepresentsTable, IsSound, IsTable, is_it}
use Rattle.spec_base.proofs.Lists.{value_of_some}
use Rattle.lgx_sched.proofs.Chosen.{state_as_up, next_task-chosen, open_as_up}
use Rattle.std.proofs.lemmas.List.{get_or-set_same}
use Rattle.lgx_sched.proofs.Steps.{place_fits, lowered, represents-down, represents-up, represents-last}
use Rattle.lgx_sched.proofs.Sound.{head-next, up-head, task-head, room-last, sound-up, sound-down, sound-last}

-- what is down in the table is down in the list
pub down_too : (v : TableView) (s : Table) (t : ℕ) → RepresentsTable v s → up_of v t ≡ None → state_of s t ≡ None
down_too v s t h e = go (state_of s t) (sym (state_as_up v s h t) ∙ e)
  where
    go : (o : Option TaskState) → option_map without_rank o ≡ None → o ≡ None
    go None e' = refl
    go (Some u) e' = absurd (cc)

-- ---- up

pub represents-put_up : (v : TableView) (s : Table) (t now : ℕ) → IsSound v → RepresentsTable v s → t < length v.defs → up_of v t ≡ None → RepresentsTable (enqueued t now v) (put_up t now s)
represents-put_up v s t now sound h l down =
    represents-up v s v.open_task t (record { start = now; rank = s.next; region_count = 0; cps_open = false }) sound h l (down_too v s t h down) refl

pub table-up : (v : TableView) (t now : ℕ) → IsTable v → t < length v.defs → up_of v t ≡ None → IsTable (enqueued t now v)
table-up v t now is l down =
    (sound-up v t now is.0 l down, (put_up t now is.1.0, represents-put_up v is.1.0 t now is.0 is.1.1 l down))

-- ---- down

pub represents-take_out : (v : TableView) (s : Table) (t : ℕ) → IsSound v → RepresentsTable v s → next_task v ≡ Some t → RepresentsTable (dequeued t v) (lowered t s)
represents-take_out v s t sound h next =
    let head = head-next v s t sound h next in
    represents-down v s None t sound h (task-head v s t sound h head) head

pub table-down : (v : TableView) (t : ℕ) → IsTable v → next_task v ≡ Some t → IsTable (dequeued t v)
table-down v t is next =
    (sound-down v is.1.0 t is.0 is.1.1 next, (lowered t is.1.0, represents-take_out v is.1.0 t is.0 is.1.1 next))

-- ---- last in line

pub next-front : (v : TableView) (t : ℕ) → v.open_task ≡ None → front_of v.queues ≡ Some t → next_task v ≡ Some t
next-front v t none front = ap (λ (o : Option ℕ). or_else o (front_of v.queues)) none ∙ front

pub represents-put_last : (v : TableView) (s : Table) (t : ℕ) → IsSound v → RepresentsTable v s → v.open_task ≡ None → front_of v.queues ≡ Some t → RepresentsTable (rotated t v) (to_back t s)
represents-put_last v s t sound h none front =
    let next = next-front v t none front in
    let head = head-next v s t sound h next in
    let x = value_of_some (state_of s t) (up-head v s t h head) in
    subst (λ (o : Option TaskState). RepresentsTable (rotated t v) (record s { states = set s.states t (with_rank s.next o); next = s.next + 1 })) (sym x.1)
    (represents-last v s t x.0 sound h (sound-down v s t sound h next) (task-head v s t sound h head) head x.1)

pub table-last : (v : TableView) (t : ℕ) → IsTable v → v.open_task ≡ None → front_of v.queues ≡ Some t → IsTable (rotated t v)
table-last v t is none front =
    (sound-last v is.1.0 t is.0 is.1.1 none (head-next v is.1.0 t is.0 is.1.1 (next-front v t none front)), (to_back t is.1.0, represents-put_last v is.1.0 t is.0 is.1.1 none front))

-- ---- as the code finds them: the queues after the calls

pub up_from : (v : TableView) (t now p : ℕ) (qs : List (List ℕ)) → IsTable v → t < length v.defs → up_of v t ≡ None → p ≡ place_of v t → qs ≡ pushed v.queues p t → IsTable (record { defs = v.defs; ups = set v.ups t (Some (record { start = now; region_count = 0; cps_open = false })); queues = qs; open_task = v.open_task; run_since = v.run_since })
up_from v t now p qs is l down place pushed_is =
    subst (λ (x : List (List ℕ)). IsTable (record { defs = v.defs; ups = set v.ups t (Some (record { start = now; region_count = 0; cps_open = false })); queues = x; open_task = v.open_task; run_since = v.run_since }))
    (ap (λ i. pushed v.queues i t) (sym place) ∙ sym pushed_is) (table-up v t now is l down)

pub down_from : (v : TableView) (t p : ℕ) (qs : List (List ℕ)) → IsTable v → next_task v ≡ Some t → p ≡ place_of v t → qs ≡ popped v.queues p → IsTable (record { defs = v.defs; ups = set v.ups t None; queues = qs; open_task = None; run_since = v.run_since })
down_from v t p qs is next place popped_is =
    subst (λ (x : List (List ℕ)). IsTable (record { defs = v.defs; ups = set v.ups t None; queues = x; open_task = None; run_since = v.run_since }))
    (ap (λ i. popped v.queues i) (sym place) ∙ sym popped_is) (table-down v t is next)

pub last_from : (v : TableView) (t p : ℕ) (qs rs : List (List ℕ)) → IsTable v → v.open_task ≡ None → front_of v.queues ≡ Some t → p ≡ place_of v t → qs ≡ popped v.queues p → rs ≡ pushed qs p t → IsTable (record { defs = v.defs; ups = v.ups; queues = rs; open_task = v.open_task; run_since = v.run_since })
last_from v t p qs rs is none front place popped_is pushed_is =
    subst (λ (x : List (List ℕ)). IsTable (record { defs = v.defs; ups = v.ups; queues = x; open_task = v.open_task; run_since = v.run_since }))
    (ap (λ i. pushed (popped v.queues i) i t) (sym place) ∙ (ap (λ (x : List (List ℕ)). pushed x p t) (sym popped_is) ∙ sym pushed_is)) (table-last v t is none front)

-- ---- what the calls need of the task

pub known_task : (v : TableView) (t : ℕ) → IsTable v → next_task v ≡ Some t → t < length v.defs
known_task v t is next = task-head v is.1.0 t is.0 is.1.1 (head-next v is.1.0 t is.0 is.1.1 next)

-- the task that is to run is one of the table's
pub known_next : (v : TableView) (o : Option ℕ) → IsTable v → o ≡ next_task v → IfSome o (λ t. t < length v.defs)
known_next v None is e = tt
known_next v (Some t) is e = known_task v t is (sym e)

pub room_for_last : (v : TableView) (t p : ℕ) (qs : List (List ℕ)) → IsTable v → v.open_task ≡ None → front_of v.queues ≡ Some t → p ≡ place_of v t → qs ≡ popped v.queues p → length (get_or qs p []) < MAX_TASKS
room_for_last v t p qs is none front place popped_is =
    let next = next-front v t none front in
    let head = head-next v is.1.0 t is.0 is.1.1 next in
    let fits : p < length v.queues = subst (λ i. i < length v.queues) (sym place) (place_fits v is.0 t (known_task v t is next)) in
    subst (λ (q : List ℕ). length q < MAX_TASKS) (sym (ap (λ (x : List (List ℕ)). get_or x p []) popped_is ∙ get_or-set_same v.queues p (drop 1 (queue_at v p)) [] fits))
    (room-last v t p is.0 (subst (λ i. slice_get (queue_at v i) 0 ≡ Some t) (sym place) head))

pub known_front : (v : TableView) (t : ℕ) → IsTable v → v.open_task ≡ None → front_of v.queues ≡ Some t → t < length v.defs
known_front v t is none front = known_task v t is (next-front v t none front)

-- ---- the calls by their definitions

is_up_as : (v : TableView) (s : Table) (t : ℕ) → RepresentsTable v s → is_up s t ≡ is_some (up_of v t)
is_up_as v s t h = go (state_of s t) ∙ ap (λ (o : Option ActiveTask). is_some o) (sym (state_as_up v s h t))
  where
    go : (o : Option TaskState) → is_some o ≡ is_some (option_map without_rank o)
    go None = refl
    go (Some u) = refl

-- the answer by the list
pub answer_is : (v : TableView) (s : Table) (t : ℕ) → RepresentsTable v s → answer_of (def_of v t) (up_of v t) ≡ release_answer s t
answer_is v s t h =
    ap (λ (ds : List TaskDef). answer_of (get_or ds t no_task) (up_of v t)) h.defs
    ∙ ap (λ b. if (task s t).inhibited then Inhibited else (if b then Overlap else Released)) (sym (is_up_as v s t h))

not_released : (b : Bool) → Released ≡ (if b then Inhibited else Overlap) → ⊥
not_released true e = absurd (cc)
not_released false e = absurd (cc)

-- what is released was down
pub released_down : (d : TaskDef) (u : Option ActiveTask) → Released ≡ answer_of d u → u ≡ None
released_down d None e = refl
released_down d (Some x) e = absurd (not_released d.inhibited e)

pub represents-release : (v : TableView) (s : Table) (t now : ℕ) (a : Release) → IsSound v → RepresentsTable v s → t < length v.defs → a ≡ answer_of (def_of v t) (up_of v t) → RepresentsTable (enqueued_if a t now v) (release t now s)
represents-release v s t now a sound h l e =
    subst (λ x. RepresentsTable (enqueued_if a t now v) (put_up_if x t now s)) (e ∙ answer_is v s t h) (go a e)
  where
    go : (a : Release) → a ≡ answer_of (def_of v t) (up_of v t) → RepresentsTable (enqueued_if a t now v) (put_up_if a t now s)
    go Released e = represents-put_up v s t now sound h l (released_down (def_of v t) (up_of v t) e)
    go Overlap e = h
    go Inhibited e = h

pub open_is : (v : TableView) (s : Table) (t : ℕ) → IsSound v → RepresentsTable v s → is_open (state_of s t) ≡ is_it v.open_task t
open_is v s t sound h = open_as_up (state_of s t) ∙ (ap has_open (sym (state_as_up v s h t)) ∙ sound.alone t)

pub represents-rotate : (v : TableView) (s : Table) (t : ℕ) → IsSound v → RepresentsTable v s → v.open_task ≡ None → front_of v.queues ≡ Some t → RepresentsTable (rotated t v) (rotate s)
represents-rotate v s t sound h none front =
    let is_chosen : chosen s ≡ Some t = sym (next_task-chosen v s sound h) ∙ next-front v t none front in
    subst (λ o. RepresentsTable (rotated t v) (unless_open o s)) (sym is_chosen)
    (subst (λ b. RepresentsTable (rotated t v) (if b then s else to_back t s)) (sym (open_is v s t sound h ∙ ap (λ o. is_it o t) none))
    (represents-put_last v s t sound h none front))

pub represents-rotate_none : (v : TableView) (s : Table) → IsSound v → RepresentsTable v s → v.open_task ≡ None → front_of v.queues ≡ None → RepresentsTable v (rotate s)
represents-rotate_none v s sound h none front =
    subst (λ o. RepresentsTable v (unless_open o s)) (sym (sym (next_task-chosen v s sound h) ∙ (ap (λ (o : Option ℕ). or_else o (front_of v.queues)) none ∙ front))) h

represents-rotate_at : (v : TableView) (s : Table) (o : Option ℕ) → IsSound v → RepresentsTable v s → v.open_task ≡ o → is_some o ≡ true → RepresentsTable v (rotate s)
represents-rotate_at v s None sound h e w = absurd (false≢true w)
represents-rotate_at v s (Some t) sound h e w =
    subst (λ o. RepresentsTable v (unless_open o s)) (sym (sym (next_task-chosen v s sound h) ∙ ap (λ (o : Option ℕ). or_else o (front_of v.queues)) e))
    (subst (λ b. RepresentsTable v (if b then s else to_back t s)) (sym (open_is v s t sound h ∙ (ap (λ o. is_it o t) e ∙ eq-eqb t t refl))) h)

pub represents-rotate_open : (v : TableView) (s : Table) → IsSound v → RepresentsTable v s → is_some v.open_task ≡ true → RepresentsTable v (rotate s)
represents-rotate_open v s sound h w = represents-rotate_at v s v.open_task sound h refl w

kind_is : (v : TableView) (s : Table) (t : ℕ) → RepresentsTable v s → is_continuous (task s t).kind ≡ is_continuous (def_of v t).kind
kind_is v s t h = ap (λ (xs : List TaskDef). is_continuous (get_or xs t no_task).kind) (sym h.defs)

-- the task is down, and then released if it is the continuous one
pub represents-finish : (v w : TableView) (s : Table) (t now : ℕ) → IsTable v → RepresentsTable v s → next_task v ≡ Some t → is_continuous (def_of v t).kind ≡ true → ((x : Table) → RepresentsTable (dequeued t v) x → RepresentsTable w (release t now x)) → RepresentsTable w (finish t now s)
represents-finish v w s t now is h next continuous released =
    subst (λ b. RepresentsTable w (release_some (if b then Some t else None) now (lowered t s))) (sym (kind_is v s t h ∙ continuous))
    (released (lowered t s) (represents-take_out v s t is.0 h next))

pub represents-finish_other : (v : TableView) (s : Table) (t now : ℕ) → IsTable v → RepresentsTable v s → next_task v ≡ Some t → is_continuous (def_of v t).kind ≡ false → RepresentsTable (dequeued t v) (finish t now s)
represents-finish_other v s t now is h next other =
    subst (λ b. RepresentsTable (dequeued t v) (release_some (if b then Some t else None) now (lowered t s))) (sym (kind_is v s t h ∙ other))
    (represents-take_out v s t is.0 h next)
