-- A task that is alone in its queue: its turn passes to itself, and the continuous one starts where it stands.
use Rattle.std.proofs.Common.{◌≡◌, ℕ, ◌<◌, Bool, true, false, ◌&&◌, List, [], ◌∷◌, ◌++◌, length, get_or, set, drop, Option, Some, None, refl, sym, ap, ◌∙◌, subst, arith, if◌then◌else◌}
use Rattle.std.specs.Prelude.{not, is_none}
use Rattle.std.specs.List.{slice_get}
use Rattle.std.proofs.lemmas.Bool.{false≢true, eqb-true}
use Rattle.std.proofs.lemmas.Option.{none-some, same_Some}
use Rattle.std.proofs.lemmas.List.{get_or-set_same, set-set, set-get_or}
use Rattle.spec_tables.specs.declared.task.TaskDef.{TaskDef}
use Rattle.spec_tables.specs.declared.task.Release.TheVariants.{Released, Inhibited}
use Rattle.spec_tables.specs.Tasks.{Table, chosen, is_continuous, rotate, release, finish}
use Rattle.lgx_sched.specs.declared.active.ActiveTask.{ActiveTask}
use Rattle.lgx_sched.specs.TableView.{TableView, up_of, def_of, queue_at, place_of, front_of, next_task, answer_of, pushed, popped, enqueued, dequeued, with_active, restarted, is_alone, runs_again}
use Rattle.lgx_sched.specs.Represents.{RepresentsTable, IsSound, IsTable}
use Rattle.lgx_sched.proofs.Chosen.{next_task-chosen}
use Rattle.lgx_sched.proofs.Steps.{place_fits}
use Rattle.lgx_sched.proofs.Sound.{head-next, sound-down, sound-with}
use Rattle.lgx_sched.proofs.Tables.{known_task, next-front, represents-release, represents-rotate, represents-finish}

-- ---- its own place in the queue

single_turned : (q : List ℕ) (t : ℕ) → slice_get q 0 ≡ Some t → length q ≡ 1 → drop 1 q ++ t ∷ [] ≡ q
single_turned [] t e l = absurd (none-some t e)
single_turned (u ∷ []) t e l = ap (λ x. x ∷ []) (sym (same_Some u t e))
single_turned (u ∷ (w ∷ q)) t e l = absurd (omega arith)

turned : (qs : List (List ℕ)) (p t : ℕ) → p < length qs → slice_get (get_or qs p []) 0 ≡ Some t → length (get_or qs p []) ≡ 1 → pushed (popped qs p) p t ≡ qs
turned qs p t within first single =
    ap (λ q. set (popped qs p) p (q ++ t ∷ [])) (get_or-set_same qs p (drop 1 (get_or qs p [])) [] within)
    ∙ (set-set qs p (drop 1 (get_or qs p [])) (drop 1 (get_or qs p []) ++ t ∷ [])
    ∙ (ap (λ q. set qs p q) (single_turned (get_or qs p []) t first single)
    ∙ set-get_or qs p []))

-- the chosen task goes from the front of its queue to its end, and the queues are the same
pub alone_turned : (v : TableView) (t : ℕ) → IsTable v → next_task v ≡ Some t → is_alone v t ≡ true → pushed (popped v.queues (place_of v t)) (place_of v t) t ≡ v.queues
alone_turned v t is next alone =
    turned v.queues (place_of v t) t (place_fits v is.0 t (known_task v t is next)) (head-next v is.1.0 t is.0 is.1.1 next) (eqb-true (length (queue_at v (place_of v t))) 1 alone)

pub represents-rotate_alone : (v : TableView) (s : Table) (t : ℕ) → IsTable v → RepresentsTable v s → v.open_task ≡ None → front_of v.queues ≡ Some t → is_alone v t ≡ true → RepresentsTable v (rotate s)
represents-rotate_alone v s t is h none front alone =
    subst (λ (qs : List (List ℕ)). RepresentsTable (record v { queues = qs }) (rotate s)) (alone_turned v t is (next-front v t none front) alone)
    (represents-rotate v s t is.0 h none front)

-- ---- the continuous task starts once more

pub record RunsAgain (v : TableView) (t : ℕ) : Type 0 where
  pub continuous : is_continuous (def_of v t).kind ≡ true
  pub allowed : (def_of v t).inhibited ≡ false
  pub none_open : v.open_task ≡ None
  pub alone : is_alone v t ≡ true

pub runs_again-parts : (v : TableView) (t : ℕ) → runs_again v t ≡ true → RunsAgain v t
runs_again-parts v t e = parts (is_continuous (def_of v t).kind) (def_of v t).inhibited v.open_task (is_alone v t) refl refl refl refl e
  where
    parts : (c i : Bool) (o : Option ℕ) (a : Bool) → is_continuous (def_of v t).kind ≡ c → (def_of v t).inhibited ≡ i → v.open_task ≡ o → is_alone v t ≡ a → c && (not i && (is_none o && a)) ≡ true → RunsAgain v t
    parts true false None true ec ei eo ea w = record { continuous = ec; allowed = ei; none_open = eo; alone = ea }
    parts true false None false ec ei eo ea w = absurd (false≢true w)
    parts true false (Some x) a ec ei eo ea w = absurd (false≢true w)
    parts true true o a ec ei eo ea w = absurd (false≢true w)
    parts false i o a ec ei eo ea w = absurd (false≢true w)

abbrev pub started : ℕ → ActiveTask
started now = record { start = now; region_count = 0; cps_open = false }

pub restarted-with : (v : TableView) (t now : ℕ) → runs_again v t ≡ true → with_active t (started now) v ≡ restarted t now v
restarted-with v t now again =
    ap (λ (o : Option ℕ). record (restarted t now v) { open_task = o }) (sym (runs_again-parts v t again).none_open)

-- nothing changes if it is as it starts
pub restarted-same : (v : TableView) (t now : ℕ) → up_of v t ≡ Some (started now) → v ≡ restarted t now v
restarted-same v t now e =
    ap (λ (us : List (Option ActiveTask)). record v { ups = us }) (sym (ap (λ (o : Option ActiveTask). set v.ups t o) (sym e) ∙ set-get_or v.ups t None))

-- to take it out and to put it last is to start it where it stands
restarted-last : (v : TableView) (t now : ℕ) → IsTable v → next_task v ≡ Some t → runs_again v t ≡ true → enqueued t now (dequeued t v) ≡ restarted t now v
restarted-last v t now is next again =
    let w = runs_again-parts v t again in
    ap (λ (us : List (Option ActiveTask)). record (enqueued t now (dequeued t v)) { ups = us }) (set-set v.ups t None (Some (started now)))
    ∙ (ap (λ (qs : List (List ℕ)). record (restarted t now v) { queues = qs; open_task = None }) (alone_turned v t is next w.alone)
    ∙ ap (λ (o : Option ℕ). record (restarted t now v) { open_task = o }) (sym w.none_open))

released : (d : TaskDef) → d.inhibited ≡ false → Released ≡ answer_of d None
released d e = ap (λ b. if b then Inhibited else Released) (sym e)

pub represents-finish_again : (v : TableView) (s : Table) (t now : ℕ) → IsTable v → RepresentsTable v s → next_task v ≡ Some t → runs_again v t ≡ true → RepresentsTable (restarted t now v) (finish t now s)
represents-finish_again v s t now is h next again =
    let w = runs_again-parts v t again in
    let l = known_task v t is next in
    let l' : t < length v.ups = subst (λ n. t < n) (sym is.0.as_many) l in
    represents-finish v (restarted t now v) s t now is h next w.continuous (λ x k.
    subst (λ (y : TableView). RepresentsTable y (release t now x)) (restarted-last v t now is next again)
    (represents-release (dequeued t v) x t now Released (sound-down v s t is.0 h next) k l
    (released (def_of v t) w.allowed ∙ ap (λ (o : Option ActiveTask). answer_of (def_of v t) o) (sym (get_or-set_same v.ups t None None l')))))

pub chosen-finish_again : (v : TableView) (s : Table) (t now : ℕ) → IsTable v → RepresentsTable v s → next_task v ≡ Some t → runs_again v t ≡ true → chosen (finish t now s) ≡ Some t
chosen-finish_again v s t now is h next again =
    sym (next_task-chosen (restarted t now v) (finish t now s)
    (subst (λ (y : TableView). IsSound y) (restarted-with v t now again) (sound-with v s t (started now) is.0 h next))
    (represents-finish_again v s t now is h next again)) ∙ next
