-- A table that was just made.
use Rattle.std.proofs.Common.{◌≡◌, ℕ, ◌+◌, ◌<◌, ◌≤◌, zero, suc, List, [], ◌∷◌, length, get_or, map, replicate, Option, None, option_map, refl, sym, ap, ◌∙◌, subst}
use Rattle.std.specs.List.{All}
use Rattle.std.proofs.lemmas.Bool.{false≢true}
use Rattle.std.proofs.lemmas.List.{length-replicate}
use Rattle.std.proofs.lemmas.List.Elements.{All-nil}
use Rattle.spec_base.specs.declared.limits.TheConstants.{MAX_TASKS, LEAST_PRIORITY}
use Rattle.spec_tables.specs.declared.task.TaskDef.{TaskDef}
use Rattle.spec_tables.specs.Tasks.{TaskState, state_of, task, no_task}
use Rattle.lgx_sched.specs.declared.active.ActiveTask.{ActiveTask}
use Rattle.lgx_sched.specs.TableView.{TableView, has_open}
use Rattle.lgx_sched.specs.Represents.{without_rank, IsUpAt, IsQueueOf, RepresentsTable, IsTable, HasPeriod, none_up}
use Rattle.lgx_sched.proofs.Steps.{IsUp}
use Rattle.lgx_sched.proofs.Sound.{no_ups, all_none, count_none}

abbrev pub fresh : List TaskDef → TableView
fresh ds = record { defs = ds; ups = replicate (length ds) None; queues = replicate LEAST_PRIORITY []; open_task = None; run_since = 0 }

abbrev pub downs : ℕ → List (Option TaskState)
downs n = replicate n None

abbrev pub no_queues : ℕ → List (List ℕ)
no_queues n = replicate n []

no_state : (n t : ℕ) → get_or (downs n) t None ≡ None
no_state zero t = refl
no_state (suc n) zero = refl
no_state (suc n) (suc t) = no_state n t

no_queue : (n t : ℕ) → get_or (no_queues n) t [] ≡ []
no_queue zero t = refl
no_queue (suc n) zero = refl
no_queue (suc n) (suc t) = no_queue n t

ups_down : (n : ℕ) → no_ups n ≡ map (option_map without_rank) (downs n)
ups_down zero = refl
ups_down (suc n) = ap (λ xs. None ∷ xs) (ups_down n)

pub represents-fresh : (ds : List TaskDef) (next : ℕ) → RepresentsTable (fresh ds) (none_up ds next)
represents-fresh ds next =
    let no_one : (k : ℕ) → IsUp (state_of (none_up ds next) k) → ⊥ = λ k w. false≢true (subst IsUp (no_state (length ds) k) w) in
    record {
      defs = refl;
      ups = ups_down (length ds);
      run_since = refl;
      below = λ k w. absurd (no_one k w);
      differ = λ k i wk wi e. absurd (no_one k wk);
      queues = λ p. subst (λ q. IsQueueOf (state_of (none_up ds next)) (λ t. (task (none_up ds next) t).priority) (p + 1) q) (sym (no_queue LEAST_PRIORITY p))
          (record { each = All-nil (IsUpAt (state_of (none_up ds next)) (λ t. (task (none_up ds next) t).priority) (p + 1)); all = λ k w. absurd (no_one k w.0); by_rank = tt });
    }

pub table-fresh : (ds : List TaskDef) → length ds ≤ MAX_TASKS → All (λ d. (0 < d.priority) × (d.priority ≤ LEAST_PRIORITY)) ds → All (λ d. HasPeriod d.kind) ds → IsTable (fresh ds)
table-fresh ds few priorities periods = (
  record {
    few = few;
    as_many = length-replicate (length ds) None;
    queue_each = refl;
    priorities = λ t l. priorities t no_task l;
    periods = λ t l. periods t no_task l;
    alone = λ t. ap has_open (all_none (length ds) t);
    first = tt;
    room = sym (count_none (length ds));
  },
  (none_up ds 0, represents-fresh ds 0),
)

pub fresh_from : (ds es : List TaskDef) (us : List (Option ActiveTask)) (qs : List (List ℕ)) → es ≡ ds → us ≡ replicate (length ds) None → qs ≡ replicate LEAST_PRIORITY [] → fresh ds ≡ record { defs = es; ups = us; queues = qs; open_task = None; run_since = 0 }
fresh_from ds es us qs e u q =
    ap (λ (x : List (List ℕ)). record { defs = ds; ups = replicate (length ds) None; queues = x; open_task = None; run_since = 0 }) (sym q)
    ∙ (ap (λ (x : List (Option ActiveTask)). record { defs = ds; ups = x; queues = qs; open_task = None; run_since = 0 }) (sym u)
    ∙ ap (λ (x : List TaskDef). record { defs = x; ups = us; queues = qs; open_task = None; run_since = 0 }) (sym e))
