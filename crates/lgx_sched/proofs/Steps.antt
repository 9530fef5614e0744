-- What each step of the table does to the list that it represents.
use Rattle.std.proofs.Common.{◌≡◌, ℕ, ◌+◌, ◌-◌, ◌<◌, ◌≤◌, zero, suc, List, [], ◌∷◌, ◌++◌, length, get_or, set, drop, map, replicate, Option, Some, None, option_map, inl, inr, IsTrue, is_some, refl, sym, ap, ◌∙◌, subst, arith}
use Rattle.std.specs.List.{slice_get}
use Rattle.std.proofs.lemmas.Bool.{cases_eq, false≢true}
use Rattle.std.proofs.lemmas.List.Elements.{All-nil}
use Rattle.std.proofs.lemmas.Option.{none-some, same_Some}
use Rattle.std.proofs.lemmas.List.{get_or-set_same, get_or-set_other, set-set, set-get_or, map-set}
use Rattle.spec_base.specs.declared.limits.TheConstants.{LEAST_PRIORITY}
use Rattle.spec_tables.specs.declared.task.TaskDef.{TaskDef}
use Rattle.spec_tables.specs.Tasks.{TaskState, Table, state_of, task, no_task, stop}
use Rattle.lgx_sched.specs.declared.active.ActiveTask.{ActiveTask}
use Rattle.lgx_sched.specs.TableView.{TableView, up_of, def_of, queue_at, place_of, pushed, popped, all_down}
use Rattle.lgx_sched.specs.Represents.{rank_of, without_rank, IsUpAt, IsQueueOf, RepresentsTable, IsSound}
use Rattle.lgx_sched.proofs.Queues.{same_queue, other_queue, queue-push, queue-pop}
use Rattle.lgx_sched.proofs.Chosen.{same_length, state_as_up}
use Rattle.spec_base.proofs.Numbers.{one_more}

abbrev pub IsUp : Option TaskState → Type 0
IsUp o = IsTrue (is_some o)

-- the task is the first of its queue
abbrev pub IsHead : TableView → ℕ → Type 0
IsHead v t = slice_get (queue_at v (place_of v t)) 0 ≡ Some t

pub starts_with : (q : List ℕ) (t : ℕ) → slice_get q 0 ≡ Some t → q ≡ t ∷ drop 1 q
starts_with [] t e = absurd (none-some t e)
starts_with (u ∷ us) t e = ap (λ x. x ∷ us) (same_Some u t e)

-- the place of a task's queue by the list
pub place_is : (v : TableView) (s : Table) → RepresentsTable v s → (t : ℕ) → place_of v t ≡ (task s t).priority - 1
place_is v s h t = ap (λ (xs : List TaskDef). (get_or xs t no_task).priority - 1) h.defs

pub priority_is : (v : TableView) (s : Table) → IsSound v → RepresentsTable v s → (t : ℕ) → t < length v.defs → (task s t).priority ≡ place_of v t + 1
priority_is v s sound h t l =
    let positive : 0 < (task s t).priority = subst (λ (xs : List TaskDef). 0 < (get_or xs t no_task).priority) h.defs ((sound.priorities t l).0) in
    one_more ((task s t).priority) positive ∙ ap (λ n. n + 1) (sym (place_is v s h t))

pub place_fits : (v : TableView) → IsSound v → (t : ℕ) → t < length v.defs → place_of v t < length v.queues
place_fits v sound t l = subst (λ n. place_of v t < n) (sym sound.queue_each) (below ((def_of v t).priority) (sound.priorities t l))
  where
    below : (n : ℕ) → (0 < n) × (n ≤ LEAST_PRIORITY) → n - 1 < LEAST_PRIORITY
    below n b = omega (arith, b.0, b.1)

pub fits_states : (v : TableView) (s : Table) → IsSound v → RepresentsTable v s → (t : ℕ) → t < length v.defs → t < length s.states
fits_states v s sound h t l = subst (λ n. t < n) (ap (λ (xs : List TaskDef). length xs) h.defs ∙ sym (same_length v s sound h)) l

-- ---- the first task of its queue goes down

abbrev pub lowered : ℕ → Table → Table
lowered t s = record s { states = set s.states t None }

pub represents-down : (v : TableView) (s : Table) (o : Option ℕ) (t : ℕ) → IsSound v → RepresentsTable v s → t < length v.defs → IsHead v t → RepresentsTable (record v { ups = set v.ups t None; queues = popped v.queues (place_of v t); open_task = o }) (lowered t s)
represents-down v s o t sound h l head =
    let l' = fits_states v s sound h t l in
    let pr : ℕ → ℕ = λ k. (task s k).priority in
    let here : state_of (lowered t s) t ≡ None = get_or-set_same s.states t None None l' in
    let same : (k : ℕ) → (k ≡ t → ⊥) → state_of (lowered t s) k ≡ state_of s k = λ k ne. get_or-set_other s.states t k None None ne in
    let apart : (k : ℕ) → IsUp (state_of (lowered t s) k) → k ≡ t → ⊥ = λ k w e. false≢true (subst IsUp (ap (λ i. state_of (lowered t s) i) e ∙ here) w) in
    let was : (k : ℕ) → IsUp (state_of (lowered t s) k) → state_of (lowered t s) k ≡ state_of s k = λ k w. same k (apart k w) in
    let p = place_of v t in
    let fits = place_fits v sound t l in
    record {
      defs = h.defs;
      ups = ap (λ (xs : List (Option ActiveTask)). set xs t None) h.ups ∙ sym (map-set (option_map without_rank) s.states t None);
      run_since = h.run_since;
      below = λ k w. subst (λ x. rank_of x < s.next) (sym (was k w)) (h.below k (subst IsUp (was k w) w));
      differ = λ k i wk wi e. h.differ k i (subst IsUp (was k wk) wk) (subst IsUp (was i wi) wi) (sym (ap rank_of (was k wk)) ∙ (e ∙ ap rank_of (was i wi)));
      queues = λ k. elim (cases_eq k p) [
        | inl e ↦ subst (λ i. IsQueueOf (state_of (lowered t s)) pr (i + 1) (get_or (popped v.queues p) i [])) (sym e)
            (subst (λ q. IsQueueOf (state_of (lowered t s)) pr (p + 1) q) (sym (get_or-set_same v.queues p (drop 1 (queue_at v p)) [] fits))
            (queue-pop (state_of s) (state_of (lowered t s)) pr t (p + 1) (drop 1 (queue_at v p)) same here
            (subst (λ q. IsQueueOf (state_of s) pr (p + 1) q) (starts_with (queue_at v p) t head) (h.queues p))))
        | inr ne ↦ subst (λ q. IsQueueOf (state_of (lowered t s)) pr (k + 1) q) (sym (get_or-set_other v.queues p k (drop 1 (queue_at v p)) [] ne))
            (other_queue (state_of s) (state_of (lowered t s)) pr t (k + 1) (queue_at v k) same (λ e. ne (cancel k p (pr t) e (priority_is v s sound h t l))) (h.queues k))
      ];
    }
  where
    cancel : (i j n : ℕ) → n ≡ i + 1 → n ≡ j + 1 → i ≡ j
    cancel i j n e e' = omega arith

-- ---- a task comes up after all others

abbrev pub raised : ℕ → TaskState → Table → Table
raised t u s = record s { states = set s.states t (Some u); next = s.next + 1 }

pub represents-up : (v : TableView) (s : Table) (o : Option ℕ) (t : ℕ) (u : TaskState) → IsSound v → RepresentsTable v s → t < length v.defs → state_of s t ≡ None → u.rank ≡ s.next → RepresentsTable (record v { ups = set v.ups t (Some (without_rank u)); queues = pushed v.queues (place_of v t) t; open_task = o }) (raised t u s)
represents-up v s o t u sound h l down rank =
    let l' = fits_states v s sound h t l in
    let pr : ℕ → ℕ = λ k. (task s k).priority in
    let new = state_of (raised t u s) in
    let here : new t ≡ Some u = get_or-set_same s.states t (Some u) None l' in
    let same : (k : ℕ) → (k ≡ t → ⊥) → new k ≡ state_of s k = λ k ne. get_or-set_other s.states t k (Some u) None ne in
    let here_rank : rank_of (new t) ≡ s.next = ap rank_of here ∙ rank in
    let p = place_of v t in
    let pr_t : pr t ≡ p + 1 = priority_is v s sound h t l in
    let fits = place_fits v sound t l in
    let old_below : (k : ℕ) → (k ≡ t → ⊥) → IsUp (new k) → rank_of (new k) < s.next = λ k ne w. subst (λ x. rank_of x < s.next) (sym (same k ne)) (h.below k (subst IsUp (same k ne) w)) in
    record {
      defs = h.defs;
      ups = ap (λ (xs : List (Option ActiveTask)). set xs t (Some (without_rank u))) h.ups ∙ sym (map-set (option_map without_rank) s.states t (Some u));
      run_since = h.run_since;
      below = λ k w. elim (cases_eq k t) [
        | inl e ↦ at_most (rank_of (new k)) s.next (ap (λ i. rank_of (new i)) e ∙ here_rank)
        | inr ne ↦ less (rank_of (new k)) s.next (old_below k ne w)
      ];
      differ = λ k i wk wi e. elim (cases_eq k t) [
        | inl k_t ↦ elim (cases_eq i t) [
          | inl i_t ↦ k_t ∙ sym i_t
          | inr ne ↦ absurd (clash (rank_of (new i)) s.next (old_below i ne wi) (sym e ∙ (ap (λ j. rank_of (new j)) k_t ∙ here_rank)))
        ]
        | inr nk ↦ elim (cases_eq i t) [
          | inl i_t ↦ absurd (clash (rank_of (new k)) s.next (old_below k nk wk) (e ∙ (ap (λ j. rank_of (new j)) i_t ∙ here_rank)))
          | inr ni ↦ h.differ k i (subst IsUp (same k nk) wk) (subst IsUp (same i ni) wi) (sym (ap rank_of (same k nk)) ∙ (e ∙ ap rank_of (same i ni)))
        ]
      ];
      queues = λ k. elim (cases_eq k p) [
        | inl e ↦ subst (λ i. IsQueueOf new pr (i + 1) (get_or (pushed v.queues p t) i [])) (sym e)
            (subst (λ q. IsQueueOf new pr (p + 1) q) (sym (get_or-set_same v.queues p (queue_at v p ++ t ∷ []) [] fits))
            (subst (λ i. IsQueueOf new pr i (queue_at v p ++ t ∷ [])) pr_t
            (queue-push (state_of s) new pr t u (queue_at v p) same down here
            (λ i w. subst (λ n. rank_of (state_of s i) < n) (sym rank) (h.below i w))
            (subst (λ i. IsQueueOf (state_of s) pr i (queue_at v p)) (sym pr_t) (h.queues p)))))
        | inr ne ↦ subst (λ q. IsQueueOf new pr (k + 1) q) (sym (get_or-set_other v.queues p k (queue_at v p ++ t ∷ []) [] ne))
            (other_queue (state_of s) new pr t (k + 1) (queue_at v k) same (λ e. ne (cancel k p (pr t) e pr_t)) (h.queues k))
      ];
    }
  where
    cancel : (i j n : ℕ) → n ≡ i + 1 → n ≡ j + 1 → i ≡ j
    cancel i j n e e' = omega arith

    at_most : (a b : ℕ) → a ≡ b → a < b + 1
    at_most a b e = omega arith

    less : (a b : ℕ) → a < b → a < b + 1
    less a b e = omega arith

    clash : (a b : ℕ) → a < b → a ≡ b → ⊥
    clash a b l e = omega arith

-- ---- a state changes and keeps its rank

pub represents-changed : (v : TableView) (s : Table) (o : Option ℕ) (t : ℕ) (x u : TaskState) → IsSound v → RepresentsTable v s → t < length v.defs → state_of s t ≡ Some x → u.rank ≡ x.rank → RepresentsTable (record v { ups = set v.ups t (Some (without_rank u)); open_task = o }) (record s { states = set s.states t (Some u) })
represents-changed v s o t x u sound h l was rank =
    let l' = fits_states v s sound h t l in
    let s' : Table = record s { states = set s.states t (Some u) } in
    let here : state_of s' t ≡ Some u = get_or-set_same s.states t (Some u) None l' in
    let ranks : (k : ℕ) → rank_of (state_of s' k) ≡ rank_of (state_of s k) = λ k. elim (cases_eq k t) [
      | inl e ↦ ap (λ i. rank_of (state_of s' i)) e ∙ (ap rank_of here ∙ (rank ∙ (sym (ap rank_of was) ∙ sym (ap (λ i. rank_of (state_of s i)) e))))
      | inr ne ↦ ap rank_of (get_or-set_other s.states t k (Some u) None ne)
    ] in
    let ups : (k : ℕ) → is_some (state_of s' k) ≡ is_some (state_of s k) = λ k. elim (cases_eq k t) [
      | inl e ↦ ap (λ i. is_some (state_of s' i)) e ∙ (ap (λ y. is_some y) here ∙ (sym (ap (λ y. is_some y) was) ∙ sym (ap (λ i. is_some (state_of s i)) e)))
      | inr ne ↦ ap (λ y. is_some y) (get_or-set_other s.states t k (Some u) None ne)
    ] in
    let back : (k : ℕ) → IsUp (state_of s' k) → IsUp (state_of s k) = λ k w. subst IsTrue (ups k) w in
    record {
      defs = h.defs;
      ups = ap (λ (xs : List (Option ActiveTask)). set xs t (Some (without_rank u))) h.ups ∙ sym (map-set (option_map without_rank) s.states t (Some u));
      run_since = h.run_since;
      below = λ k w. subst (λ n. n < s.next) (sym (ranks k)) (h.below k (back k w));
      differ = λ k i wk wi e. h.differ k i (back k wk) (back i wi) (sym (ranks k) ∙ (e ∙ ranks i));
      queues = λ k. same_queue (state_of s) (state_of s') (λ i. (task s i).priority) (k + 1) (queue_at v k)
          (λ i w. ((subst IsTrue (sym (ups i)) w.0, w.1), ranks i)) (λ i w. (back i w.0, w.1)) (h.queues k);
    }

-- ---- the first task of its queue goes to its end

pub represents-last : (v : TableView) (s : Table) (t : ℕ) (x : TaskState) → IsSound v → RepresentsTable v s → IsSound (record v { ups = set v.ups t None; queues = popped v.queues (place_of v t); open_task = None }) → t < length v.defs → IsHead v t → state_of s t ≡ Some x → RepresentsTable (record v { queues = pushed (popped v.queues (place_of v t)) (place_of v t) t }) (raised t (record x { rank = s.next }) s)
represents-last v s t x sound h sound' l head was =
    let u : TaskState = record x { rank = s.next } in
    let down = represents-down v s None t sound h l head in
    let here : state_of (lowered t s) t ≡ None = get_or-set_same s.states t None None (fits_states v s sound h t l) in
    let up = represents-up (record v { ups = set v.ups t None; queues = popped v.queues (place_of v t); open_task = None }) (lowered t s) v.open_task t u sound' down l here refl in
    let states_are : set (set s.states t None) t (Some u) ≡ set s.states t (Some u) = set-set s.states t None (Some u) in
    let up_is : up_of v t ≡ Some (without_rank u) = state_as_up v s h t ∙ ap (option_map without_rank) was in
    let ups_are : set (set v.ups t None) t (Some (without_rank u)) ≡ v.ups =
    set-set v.ups t None (Some (without_rank u)) ∙ (ap (λ y. set v.ups t y) (sym up_is) ∙ set-get_or v.ups t None) in
    let qs = pushed (popped v.queues (place_of v t)) (place_of v t) t in
    subst (λ (xs : List (Option ActiveTask)). RepresentsTable (record v { ups = xs; queues = qs }) (raised t u s)) ups_are
    (subst (λ (xs : List (Option TaskState)). RepresentsTable (record v { ups = set (set v.ups t None) t (Some (without_rank u)); queues = qs }) (record s { states = xs; next = s.next + 1 })) states_are up)

-- ---- every task goes down

abbrev no_states : List (Option TaskState) → List (Option TaskState)
no_states us = map (λ u. None) us

abbrev no_ups : List (Option ActiveTask) → List (Option ActiveTask)
no_ups us = replicate (length us) None

abbrev no_queues : List (List ℕ) → List (List ℕ)
no_queues qs = map (λ q. []) qs

pub nothing : (us : List (Option TaskState)) (t : ℕ) → get_or (no_states us) t None ≡ None
nothing [] t = refl
nothing (u ∷ us) zero = refl
nothing (u ∷ us) (suc t) = nothing us t

empty : (qs : List (List ℕ)) (k : ℕ) → get_or (no_queues qs) k [] ≡ []
empty [] k = refl
empty (q ∷ qs) zero = refl
empty (q ∷ qs) (suc k) = empty qs k

none_twice : (us : List (Option TaskState)) → no_ups (map (option_map without_rank) us) ≡ map (option_map without_rank) (no_states us)
none_twice [] = refl
none_twice (u ∷ us) = ap (λ xs. None ∷ xs) (none_twice us)

pub represents-none : (v : TableView) (s : Table) (ran : ℕ) → RepresentsTable v s → RepresentsTable (record (all_down v) { run_since = ran }) (record (stop s) { run_since = ran })
represents-none v s ran h =
    let no_one : (k : ℕ) → IsUp (state_of (stop s) k) → ⊥ = λ k w. false≢true (subst IsUp (nothing s.states k) w) in
    record {
      defs = h.defs;
      ups = ap no_ups h.ups ∙ none_twice s.states;
      run_since = refl;
      below = λ k w. absurd (no_one k w);
      differ = λ k i wk wi e. absurd (no_one k wk);
      queues = λ p. subst (λ q. IsQueueOf (state_of (stop s)) (λ t. (task s t).priority) (p + 1) q) (sym (empty v.queues p))
          (record { each = All-nil (IsUpAt (state_of (stop s)) (λ t. (task s t).priority) (p + 1)); all = λ k w. absurd (no_one k w.0); by_rank = tt });
    }
