-- The other calls by their definitions.
use Rattle.std.proofs.Common.{◌≡◌, ℕ, ◌+◌, ◌-◌, ◌<◌, ◌≤◌, zero, suc, Bool, true, false, cond, ◌||◌, List, [], ◌∷◌, length, get_or, set, map, replicate, drop, Option, Some, None, option_map, is_some, refl, sym, ap, ◌∙◌, subst, arith}
use Rattle.std.specs.Prelude.{option_and_then, if◌then◌else◌}
use Rattle.std.specs.List.{list_any, position_from, zip}
use Rattle.std.proofs.lemmas.Bool.{false≢true, ne_eqb}
use Rattle.std.proofs.lemmas.List.{at_drop_more, at_drop_all}
use Rattle.std.proofs.lemmas.Slice.Zip.{length-zip, get_or-zip}
use Rattle.spec_tables.specs.declared.task.TaskDef.{TaskDef}
use Rattle.spec_tables.specs.declared.task.Release.TheVariants.{Released, Overlap, Inhibited}
use Rattle.spec_tables.specs.Tasks.{TaskState, Table, state_of, no_task, is_open, has_open_cps, held, region_count, with_region_count, set_region, region_up, region_down, region_clear, with_cps_open, set_copy, is_continuous, expired, has_expired, task, release_answer, release, release_some, if_released, released_at_run, start, stop}
use Rattle.lgx_sched.specs.declared.active.ActiveTask.{ActiveTask}
use Rattle.lgx_sched.specs.TableView.{TableView, up_of, def_of, answer_of, has_cps, task_if_open, has_run_out, next_task, with_active, all_down}
use Rattle.lgx_sched.specs.Represents.{without_rank, RepresentsTable, IsSound, IsTable, is_it}
use Rattle.spec_base.proofs.Lists.{value_of_some}
use Rattle.spec_tables.proofs.StateLists.{found}
use Rattle.lgx_sched.proofs.Chosen.{state_as_up}
use Rattle.lgx_sched.proofs.Steps.{represents-changed, represents-none, nothing}
use Rattle.lgx_sched.proofs.Sound.{head-next, up-head, sound-with, sound-none}
use Rattle.lgx_sched.proofs.Tables.{known_task, open_is}

-- ---- the chosen task's regions and CPS

pub chosen_up : (v : TableView) (t : ℕ) → IsTable v → next_task v ≡ Some t → (u : ActiveTask) × (up_of v t ≡ Some u)
chosen_up v t is next =
    let s = is.1.0 in
    let x = value_of_some (state_of s t) (up-head v s t is.1.1 (head-next v s t is.0 is.1.1 next)) in
    (without_rank x.0, state_as_up v s is.1.1 t ∙ ap (option_map without_rank) x.1)

pub state_from : (v : TableView) (s : Table) (t : ℕ) (u : ActiveTask) → RepresentsTable v s → up_of v t ≡ Some u → (y : TaskState) × (state_of s t ≡ Some y) × (u ≡ without_rank y)
state_from v s t u h e = go (state_of s t) (sym (state_as_up v s h t) ∙ e)
  where
    go : (o : Option TaskState) → option_map without_rank o ≡ Some u → (y : TaskState) × (o ≡ Some y) × (u ≡ without_rank y)
    go None e' = absurd (cc)
    go (Some y) e' = (y, refl, cc)

pub table-with : (v : TableView) (t : ℕ) (u : ActiveTask) → IsTable v → next_task v ≡ Some t → IsTable (with_active t u v)
table-with v t u is next =
    let s = is.1.0 in
    let x = value_of_some (state_of s t) (up-head v s t is.1.1 (head-next v s t is.0 is.1.1 next)) in
    let y : TaskState = record { start = u.start; rank = x.0.rank; region_count = u.region_count; cps_open = u.cps_open } in (
      sound-with v s t u is.0 is.1.1 next,
      (record s { states = set s.states t (Some y) }, represents-changed v s (task_if_open t u) t x.0 y is.0 is.1.1 (known_task v t is next) x.1 refl),
    )

pub with_from : (v : TableView) (t : ℕ) (u : ActiveTask) (o : Option ℕ) → IsTable v → next_task v ≡ Some t → o ≡ task_if_open t u → IsTable (record { defs = v.defs; ups = set v.ups t (Some u); queues = v.queues; open_task = o; run_since = v.run_since })
with_from v t u o is next e =
    subst (λ (p : Option ℕ). IsTable (record { defs = v.defs; ups = set v.ups t (Some u); queues = v.queues; open_task = p; run_since = v.run_since })) (sym e) (table-with v t u is next)

represents-set_region : (v : TableView) (s : Table) (t n : ℕ) (u : ActiveTask) → IsTable v → RepresentsTable v s → next_task v ≡ Some t → up_of v t ≡ Some u → RepresentsTable (with_active t (record u { region_count = n }) v) (set_region t n s)
represents-set_region v s t n u is h next e =
    let y = state_from v s t u h e in
    let l = known_task v t is next in
    subst (λ (o : Option TaskState). RepresentsTable (with_active t (record u { region_count = n }) v) (record s { states = set s.states t (with_region_count n o) })) (sym y.1)
    (subst (λ (w : ActiveTask). RepresentsTable (with_active t (record w { region_count = n }) v) (record s { states = set s.states t (Some (record y.0 { region_count = n })) })) (sym y.2)
    (represents-changed v s (task_if_open t (record (without_rank y.0) { region_count = n })) t y.0 (record y.0 { region_count = n }) is.0 h l y.1 refl))

region_is : (v : TableView) (s : Table) (t : ℕ) (u : ActiveTask) → RepresentsTable v s → up_of v t ≡ Some u → region_count (state_of s t) ≡ u.region_count
region_is v s t u h e =
    let y = state_from v s t u h e in
    ap region_count y.1 ∙ ap (λ (w : ActiveTask). w.region_count) (sym y.2)

pub represents-region_up : (v w : TableView) (s : Table) (t : ℕ) (u : ActiveTask) → IsTable v → RepresentsTable v s → next_task v ≡ Some t → up_of v t ≡ Some u → w ≡ with_active t (record u { region_count = u.region_count + 1 }) v → RepresentsTable w (region_up t s)
represents-region_up v w s t u is h next e is_w =
    subst (λ (x : TableView). RepresentsTable x (region_up t s)) (sym is_w)
    (subst (λ n. RepresentsTable (with_active t (record u { region_count = u.region_count + 1 }) v) (set_region t (n + 1) s)) (sym (region_is v s t u h e)) (represents-set_region v s t (u.region_count + 1) u is h next e))

pub represents-region_down : (v w : TableView) (s : Table) (t : ℕ) (u : ActiveTask) → IsTable v → RepresentsTable v s → next_task v ≡ Some t → up_of v t ≡ Some u → w ≡ with_active t (record u { region_count = u.region_count - 1 }) v → RepresentsTable w (region_down t s)
represents-region_down v w s t u is h next e is_w =
    subst (λ (x : TableView). RepresentsTable x (region_down t s)) (sym is_w)
    (subst (λ n. RepresentsTable (with_active t (record u { region_count = u.region_count - 1 }) v) (set_region t (n - 1) s)) (sym (region_is v s t u h e)) (represents-set_region v s t (u.region_count - 1) u is h next e))

pub represents-region_clear : (v w : TableView) (s : Table) (t : ℕ) (u : ActiveTask) → IsTable v → RepresentsTable v s → next_task v ≡ Some t → up_of v t ≡ Some u → w ≡ with_active t (record u { region_count = 0 }) v → RepresentsTable w (region_clear t s)
represents-region_clear v w s t u is h next e is_w =
    subst (λ (x : TableView). RepresentsTable x (region_clear t s)) (sym is_w) (represents-set_region v s t 0 u is h next e)

pub represents-set_copy : (v w : TableView) (s : Table) (t : ℕ) (b : Bool) (u : ActiveTask) → IsTable v → RepresentsTable v s → next_task v ≡ Some t → up_of v t ≡ Some u → w ≡ with_active t (record u { cps_open = b }) v → RepresentsTable w (set_copy t b s)
represents-set_copy v w s t b u is h next e is_w =
    let y = state_from v s t u h e in
    let l = known_task v t is next in
    subst (λ (x : TableView). RepresentsTable x (set_copy t b s)) (sym is_w)
    (subst (λ (o : Option TaskState). RepresentsTable (with_active t (record u { cps_open = b }) v) (record s { states = set s.states t (with_cps_open b o) })) (sym y.1)
    (subst (λ (x : ActiveTask). RepresentsTable (with_active t (record x { cps_open = b }) v) (record s { states = set s.states t (Some (record y.0 { cps_open = b })) })) (sym y.2)
    (represents-changed v s (task_if_open t (record (without_rank y.0) { cps_open = b })) t y.0 (record y.0 { cps_open = b }) is.0 h l y.1 refl)))

-- ---- held

or_right : (a b : Bool) → a || b ≡ false → b ≡ false
or_right true b e = absurd (false≢true (sym e))
or_right false b e = e

no_cps : (o : Option TaskState) → is_open o ≡ false → has_open_cps o ≡ false
no_cps None e = refl
no_cps (Some u) e = or_right _ _ e

none_has : (us : List (Option TaskState)) → ((k : ℕ) → has_open_cps (get_or us k None) ≡ false) → list_any has_open_cps us ≡ false
none_has [] h = refl
none_has (u ∷ us) h = ap (λ b. b || list_any has_open_cps us) (h 0) ∙ none_has us (λ k. h (suc k))

only_one : (us : List (Option TaskState)) (o : ℕ) → ((k : ℕ) → (k ≡ o → ⊥) → has_open_cps (get_or us k None) ≡ false) → list_any has_open_cps us ≡ has_open_cps (get_or us o None)
only_one [] o h = refl
only_one (u ∷ us) zero h = ap (λ b. has_open_cps u || b) (none_has us (λ k. h (suc k) (suc_zero k))) ∙ or_false (has_open_cps u)
  where
    suc_zero : (i : ℕ) → suc i ≡ 0 → ⊥
    suc_zero i e = omega arith

    or_false : (b : Bool) → b || false ≡ b
    or_false true = refl
    or_false false = refl
only_one (u ∷ us) (suc o) h = ap (λ b. b || list_any has_open_cps us) (h 0 (zero_suc o)) ∙ only_one us o (λ k ne. h (suc k) (λ e. ne (same_suc k o e)))
  where
    zero_suc : (i : ℕ) → 0 ≡ suc i → ⊥
    zero_suc i e = omega arith

    same_suc : (i j : ℕ) → suc i ≡ suc j → i ≡ j
    same_suc i j e = omega arith

cps_as_up : (o : Option TaskState) → has_open_cps o ≡ has_cps (option_map without_rank o)
cps_as_up None = refl
cps_as_up (Some u) = refl

pub held-none : (v : TableView) (s : Table) → IsSound v → RepresentsTable v s → v.open_task ≡ None → held s ≡ false
held-none v s sound h none = none_has s.states (λ k. no_cps (state_of s k) (open_is v s k sound h ∙ ap (λ o. is_it o k) none))

pub held-some : (v : TableView) (s : Table) (t : ℕ) → IsSound v → RepresentsTable v s → v.open_task ≡ Some t → held s ≡ has_cps (up_of v t)
held-some v s t sound h one =
    only_one s.states t (λ k ne. no_cps (state_of s k) (open_is v s k sound h ∙ (ap (λ o. is_it o k) one ∙ ne_eqb t k (λ e. ne (sym e)))))
    ∙ (cps_as_up (state_of s t) ∙ ap has_cps (sym (state_as_up v s h t)))

-- the open task is one of the table
pub open_task_known : (v : TableView) (t : ℕ) → IsTable v → v.open_task ≡ Some t → t < length v.defs
open_task_known v t is one = known_task v t is (ap (λ (o : Option ℕ). next_task (record v { open_task = o })) one)

-- ---- expired

expired_as : (now n : ℕ) (ds : List TaskDef) (us : List (Option TaskState)) → position_from (λ t. has_run_out now t.0 t.1) n (zip ds (map (option_map without_rank) us)) ≡ position_from (λ t. has_expired now t.0 t.1) n (zip ds us)
expired_as now n [] us = refl
expired_as now n (d ∷ ds) [] = refl
expired_as now n (d ∷ ds) (None ∷ us) = expired_as now (n + 1) ds us
expired_as now n (d ∷ ds) (Some u ∷ us) = ap (λ o. cond (has_expired now d (Some u)) (Some n) o) (expired_as now (n + 1) ds us)

abbrev pub first_run_out : ℕ → List TaskDef → List (Option ActiveTask) → Option ℕ
first_run_out now ds us = position_from (λ t. has_run_out now t.0 t.1) 0 (zip ds us)

pub represents-expired : (v : TableView) (s : Table) (now : ℕ) → RepresentsTable v s → first_run_out now v.defs v.ups ≡ expired now s
represents-expired v s now h =
    ap (λ (xs : List TaskDef). first_run_out now xs v.ups) h.defs ∙ (ap (first_run_out now s.defs) h.ups ∙ expired_as now 0 s.defs s.states)

-- ---- start and stop

pub table-none : (v : TableView) (ran : ℕ) → IsTable v → IsTable (record (all_down v) { run_since = ran })
table-none v ran is = (sound-none v ran is.0, (record (stop is.1.0) { run_since = ran }, represents-none v is.1.0 ran is.1.1))

pub none_from : (v : TableView) (ran : ℕ) (us : List (Option ActiveTask)) (qs : List (List ℕ)) → IsTable v → us ≡ replicate (length v.ups) None → qs ≡ map (λ q. []) v.queues → IsTable (record { defs = v.defs; ups = us; queues = qs; open_task = None; run_since = ran })
none_from v ran us qs is ups queues =
    subst (λ (x : List (Option ActiveTask)). IsTable (record { defs = v.defs; ups = x; queues = qs; open_task = None; run_since = ran })) (sym ups)
    (subst (λ (x : List (List ℕ)). IsTable (record (all_down v) { queues = x; run_since = ran })) (sym queues) (table-none v ran is))

pub represents-stop : (v w : TableView) (s : Table) → RepresentsTable v s → w ≡ record (all_down v) { run_since = v.run_since } → RepresentsTable w (stop s)
represents-stop v w s h is_w =
    subst (λ (x : TableView). RepresentsTable x (stop s)) (sym is_w)
    (subst (λ n. RepresentsTable (record (all_down v) { run_since = v.run_since }) (record (stop s) { run_since = n })) h.run_since (represents-none v s v.run_since h))

abbrev pub first_continuous : List TaskDef → Option ℕ
first_continuous ds = position_from (λ d. is_continuous d.kind) 0 ds

pub continuous_bound : (ds : List TaskDef) (t : ℕ) → first_continuous ds ≡ Some t → t < length ds
continuous_bound ds t e = (found (λ (d : TaskDef). is_continuous d.kind) no_task ds t e).0

-- all are down, and then the continuous task is released
pub represents-start_some : (v w : TableView) (s : Table) (now t : ℕ) → RepresentsTable v s → first_continuous v.defs ≡ Some t → ((x : Table) → RepresentsTable (record (all_down v) { run_since = now }) x → RepresentsTable w (release t now x)) → RepresentsTable w (start now s)
represents-start_some v w s now t h first released =
    subst (λ (o : Option ℕ). RepresentsTable w (release_some o now (record (stop s) { run_since = now }))) (sym (ap first_continuous (sym h.defs) ∙ first))
    (released (record (stop s) { run_since = now }) (represents-none v s now h))

-- the answer that a release has once all are down
answer_at_run : (v : TableView) (s : Table) (t : ℕ) → RepresentsTable v s → answer_of (def_of v t) None ≡ release_answer (stop s) t
answer_at_run v s t h =
    ap (λ (ds : List TaskDef). answer_of (get_or ds t no_task) None) h.defs
    ∙ ap (λ o. if (task s t).inhibited then Inhibited else (if is_some o then Overlap else Released)) (sym (nothing s.states t))

pub represents-released_at_run : (v : TableView) (s : Table) (t : ℕ) (o : Option ℕ) → RepresentsTable v s → first_continuous v.defs ≡ Some t → o ≡ if_released (answer_of (def_of v t) None) t → o ≡ released_at_run s
represents-released_at_run v s t o h first e =
    e
    ∙ (ap (λ a. if_released a t) (answer_at_run v s t h)
    ∙ ap (λ (p : Option ℕ). option_and_then (λ k. if_released (release_answer (stop s) k) k) p) (sym (ap first_continuous (sym h.defs) ∙ first)))

pub represents-start_none : (v w : TableView) (s : Table) (now : ℕ) → RepresentsTable v s → first_continuous v.defs ≡ None → w ≡ record (all_down v) { run_since = now } → RepresentsTable w (start now s)
represents-start_none v w s now h first is_w =
    subst (λ (x : TableView). RepresentsTable x (start now s)) (sym is_w)
    (subst (λ (o : Option ℕ). RepresentsTable (record (all_down v) { run_since = now }) (release_some o now (record (stop s) { run_since = now }))) (sym (ap first_continuous (sym h.defs) ∙ first))
    (represents-none v s now h))

-- ---- the walk for the first that has run out

-- one task on
run_out_at : (now t : ℕ) (ds : List TaskDef) (us : List (Option ActiveTask)) (d : TaskDef) (u : Option ActiveTask) (b : Bool) → t < length ds → length us ≡ length ds → position_from (λ p. has_run_out now p.0 p.1) t (drop t (zip ds us)) ≡ first_run_out now ds us → has_run_out now (get_or ds t d) (get_or us t u) ≡ b → cond b (Some t) (position_from (λ p. has_run_out now p.0 p.1) (t + 1) (drop (t + 1) (zip ds us))) ≡ first_run_out now ds us
run_out_at now t ds us d u b l many inv e =
    let n = length-zip ds us in
    let later = position_from (λ p. has_run_out now p.0 p.1) (t + 1) (drop (t + 1) (zip ds us)) in
    let pair : get_or (zip ds us) t (d, u) ≡ (get_or ds t d, get_or us t u) = get_or-zip ds us t (d, u) l (omega arith) in
    ap (λ x. cond x (Some t) later) (sym e)
    ∙ (ap (λ p. cond (has_run_out now p.0 p.1) (Some t) later) (sym pair)
    ∙ (sym (at_drop_more (position_from (λ p. has_run_out now p.0 p.1) t) (zip ds us) t (d, u) (omega arith)) ∙ inv))

pub run_out_found : (now t : ℕ) (ds : List TaskDef) (us : List (Option ActiveTask)) (d : TaskDef) (u : Option ActiveTask) → t < length ds → length us ≡ length ds → position_from (λ p. has_run_out now p.0 p.1) t (drop t (zip ds us)) ≡ first_run_out now ds us → has_run_out now (get_or ds t d) (get_or us t u) ≡ true → Some t ≡ first_run_out now ds us
run_out_found now t ds us d u l many inv e = run_out_at now t ds us d u true l many inv e

pub run_out_later : (now t : ℕ) (ds : List TaskDef) (us : List (Option ActiveTask)) (d : TaskDef) (u : Option ActiveTask) → t < length ds → length us ≡ length ds → position_from (λ p. has_run_out now p.0 p.1) t (drop t (zip ds us)) ≡ first_run_out now ds us → has_run_out now (get_or ds t d) (get_or us t u) ≡ false → position_from (λ p. has_run_out now p.0 p.1) (t + 1) (drop (t + 1) (zip ds us)) ≡ first_run_out now ds us
run_out_later now t ds us d u l many inv e = run_out_at now t ds us d u false l many inv e

pub run_out_end : (now t : ℕ) (ds : List TaskDef) (us : List (Option ActiveTask)) → length ds ≤ t → length us ≡ length ds → position_from (λ p. has_run_out now p.0 p.1) t (drop t (zip ds us)) ≡ first_run_out now ds us → None ≡ first_run_out now ds us
run_out_end now t ds us l many inv =
    let n = length-zip ds us in
    sym (at_drop_all (position_from (λ p. has_run_out now p.0 p.1) t) (zip ds us) t (omega arith)) ∙ inv

pub none_of : {X : Type 0} (o : Option X) → is_some o ≡ false → o ≡ None
none_of None e = refl
none_of (Some x) e = absurd (false≢true (sym e))
