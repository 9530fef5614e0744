-- Ticks at which the table has nothing to do.
use Rattle.std.proofs.Common.{◌≡◌, ℕ, ◌+◌, ◌<◌, suc, Bool, true, false, cond, ◌&&◌, List, [], ◌∷◌, length, get_or, set, Option, Some, None, is_some, inl, inr, refl, sym, ap, ◌∙◌, subst, arith, if◌then◌else◌}
use Rattle.std.specs.Prelude.{nat_le, nat_lt}
use Rattle.std.specs.List.{position_from, zip}
use Rattle.std.proofs.lemmas.Bool.{cases_eq, cases_lt}
use Rattle.std.proofs.lemmas.Bool.Decides.{nat_tests}
use Rattle.std.proofs.lemmas.List.{get_or_default, get_or_past, get_or-set_same, get_or-set_other}
use Rattle.spec_tables.specs.declared.task.TaskDef.{TaskDef}
use Rattle.spec_tables.specs.Tasks.{Table, no_task, due, rotate, task}
use Rattle.lgx_sched.specs.declared.active.ActiveTask.{ActiveTask}
use Rattle.lgx_sched.specs.TableView.{TableView, up_of, def_of, front_of, has_run_out}
use Rattle.lgx_sched.specs.Represents.{RepresentsTable, IsTable}
use Rattle.lgx_sched.specs.QuietTicks.{is_due, IsIdle, alone_if, keeps_turn, IsQuiet, kept_until, IsQuietAt}
use Rattle.lgx_sched.proofs.Chosen.{within, same_length, front-some, up_at_front}
use Rattle.lgx_sched.proofs.Tables.{represents-rotate_none, represents-rotate_open}
use Rattle.lgx_sched.proofs.Calls.{represents-expired}
use Rattle.lgx_sched.proofs.Again.{represents-rotate_alone}

-- ---- one task

-- a later start runs out no earlier
later_in_time : (n : ℕ) (d : TaskDef) (o u : ActiveTask) → nat_le o.start u.start ≡ true → has_run_out n d (Some o) ≡ false → has_run_out n d (Some u) ≡ false
later_in_time n d o u later in_time = grind (arith, nat_tests)

-- one task more of the lists is idle
pub idle_more : (n run_since t : ℕ) (ds : List TaskDef) (us : List (Option ActiveTask)) (d : TaskDef) (u : Option ActiveTask) → t < length ds → length us ≡ length ds → IsIdle n run_since (get_or ds t d) (get_or us t u) → IsIdle n run_since (get_or ds t no_task) (get_or us t None)
idle_more n run_since t ds us d u l many h =
    subst (λ (x : TaskDef). IsIdle n run_since x (get_or us t None)) (get_or_default ds t d no_task l)
    (subst (λ (x : Option ActiveTask). IsIdle n run_since (get_or ds t d) x) (get_or_default us t u None (omega arith)) h)

-- ---- a table's quiet ticks

pub quiet-none : (v : TableView) (after : ℕ) → IsQuiet v after 0
quiet-none v after = record { idle = λ n t a b. absurd (omega arith); turn = λ n a b. absurd (omega arith) }

-- one task has another state
pub quiet-with : (v : TableView) (t after until kept : ℕ) (open_task : Option ℕ) (o : Option ActiveTask) (u : ActiveTask) → t < length v.ups → o ≡ up_of v t → kept ≡ kept_until until o u → IsQuiet v after until → IsQuiet (record { defs = v.defs; ups = set v.ups t (Some u); queues = v.queues; open_task = open_task; run_since = v.run_since }) after kept
quiet-with v t after until kept open_task o u l was e q = subst (λ n. IsQuiet new after n) (sym e) (by_old o was)
  where
    new : TableView
    new = record { defs = v.defs; ups = set v.ups t (Some u); queues = v.queues; open_task = open_task; run_since = v.run_since }

    by_start : (x : ActiveTask) (b : Bool) → Some x ≡ up_of v t → nat_le x.start u.start ≡ b → IsQuiet new after (if b then until else 0)
    by_start x false was' e' = quiet-none new after
    by_start x true was' e' = record {
      idle = λ n k a b within. record {
        in_time = elim (cases_eq k t) [
          | inl k_t ↦ subst (λ i. has_run_out n (def_of v i) (get_or (set v.ups t (Some u)) i None) ≡ false) (sym k_t)
              (ap (λ (y : Option ActiveTask). has_run_out n (def_of v t) y) (get_or-set_same v.ups t (Some u) None l)
              ∙ later_in_time n (def_of v t) x u e' (ap (λ (y : Option ActiveTask). has_run_out n (def_of v t) y) was' ∙ (q.idle n t a b (subst (λ i. i < length v.defs) k_t within)).in_time))
          | inr ne ↦ ap (λ (y : Option ActiveTask). has_run_out n (def_of v k) y) (get_or-set_other v.ups t k (Some u) None ne) ∙ (q.idle n k a b within).in_time
        ];
        not_due = (q.idle n k a b within).not_due;
      };
      turn = q.turn;
    }

    by_old : (y : Option ActiveTask) → y ≡ up_of v t → IsQuiet new after (kept_until until y u)
    by_old None was' = quiet-none new after
    by_old (Some x) was' = by_start x (nat_le x.start u.start) was' refl

-- ---- what a quiet tick finds

pub front-known : (v : TableView) (t : ℕ) → IsTable v → front_of v.queues ≡ Some t → t < length v.defs
front-known v t is e =
    let s = is.1.0 in
    let f = front-some v.queues t e in
    subst (λ n. t < n) (same_length v s is.0 is.1.1 ∙ sym (ap (λ (xs : List TaskDef). length xs) is.1.1.defs))
    (within s.states t (up_at_front v s is.1.1 t f.0 f.1).0)

none_runs_out : (n i : ℕ) (ds : List TaskDef) (us : List (Option ActiveTask)) → ((t : ℕ) → t < length ds → has_run_out n (get_or ds t no_task) (get_or us t None) ≡ false) → position_from (λ p. has_run_out n p.0 p.1) i (zip ds us) ≡ None
none_runs_out n i [] us h = refl
none_runs_out n i (d ∷ ds) [] h = refl
none_runs_out n i (d ∷ ds) (u ∷ us) h =
    ap (λ b. cond b (Some i) (position_from (λ p. has_run_out n p.0 p.1) (i + 1) (zip ds us))) (h 0 (omega arith))
    ∙ none_runs_out n (i + 1) ds us (λ t l. h (suc t) (omega arith))

turn_kept : (v : TableView) (s : Table) → IsTable v → RepresentsTable v s → keeps_turn v ≡ true → RepresentsTable v (rotate s)
turn_kept v s is h keeps = by_open v.open_task refl
  where
    by_front : v.open_task ≡ None → (o : Option ℕ) → front_of v.queues ≡ o → alone_if v o ≡ true → RepresentsTable v (rotate s)
    by_front none None front e = represents-rotate_none v s is.0 h none front
    by_front none (Some t) front e = represents-rotate_alone v s t is h none front e

    by_open : (o : Option ℕ) → v.open_task ≡ o → RepresentsTable v (rotate s)
    by_open None none = by_front none (front_of v.queues) refl keeps
    by_open (Some t) some = represents-rotate_open v s is.0 h (ap (λ (x : Option ℕ). is_some x) some)

due_as : (v : TableView) (s : Table) (t now : ℕ) → RepresentsTable v s → due t now s ≡ is_due now v.run_since (def_of v t).kind
due_as v s t now h =
    ap (λ r. is_due now r (task s t).kind) (sym h.run_since)
    ∙ ap (λ (xs : List TaskDef). is_due now v.run_since (get_or xs t no_task).kind) (sym h.defs)

pub quiet_at : (v : TableView) (s : Table) (after until now : ℕ) → IsTable v → IsQuiet v after until → RepresentsTable v s → nat_lt after now && nat_lt now until ≡ true → IsQuietAt now v s
quiet_at v s after until now is q h inside =
    let above : after < now = grind (arith, nat_tests) in
    let below : now < until = grind (arith, nat_tests) in
    record {
      expired = sym (represents-expired v s now h) ∙ none_runs_out now 0 v.defs v.ups (λ t l. (q.idle now t above below l).in_time);
      due = λ t. due_as v s t now h ∙ elim (cases_lt t (length v.defs)) [
        | inl l ↦ (q.idle now t above below l).not_due
        | inr past ↦ ap (λ (d : TaskDef). is_due now v.run_since d.kind) (get_or_past v.defs t no_task past) ∙ never (nat_lt v.run_since now)
      ];
      rotate = turn_kept v s is h (q.turn now above below);
    }
  where
    never : (b : Bool) → b && false ≡ false
    never true = refl
    never false = refl
