-- What is true of every table stays true at each step.
use Rattle.std.proofs.Common.{◌≡◌, ℕ, ◌+◌, ◌-◌, ◌*◌, ◌<◌, ◌≤◌, zero, suc, Bool, true, false, cond, List, [], ◌∷◌, ◌++◌, length, get_or, set, drop, map, replicate, Option, Some, None, IfSome, option_map, inl, inr, is_some, refl, sym, ap, ◌∙◌, subst, arith, if◌then◌else◌, count_by, sum_by}
use Rattle.std.specs.List.{slice_get, All}
use Rattle.std.proofs.lemmas.Bool.{cases_eq, cases_lt, false≢true, eq-eqb, ne_eqb}
use Rattle.std.proofs.lemmas.List.{get_or-set_same, get_or-set_other, length-set, get_or_past, length-append, length-map, length-replicate}
use Rattle.std.proofs.lemmas.List.Folds.{sum_by-replicate}
use Rattle.std.proofs.lemmas.List.Elements.{All-head}
use Rattle.std.proofs.lemmas.Option.{same_Some}
use Rattle.spec_base.specs.declared.limits.TheConstants.{MAX_TASKS}
use Rattle.std.proofs.lemmas.List.Sums.{sum_by-set, sum_by-cons, get_or-le-sum_by, count_by-le-length}
use Rattle.spec_tables.specs.declared.task.TaskDef.{TaskDef}
use Rattle.spec_tables.specs.Tasks.{TaskState, Table, state_of, task, or_else}
use Rattle.lgx_sched.specs.declared.active.ActiveTask.{ActiveTask}
use Rattle.lgx_sched.specs.TableView.{TableView, up_of, queue_at, place_of, has_open, front_of, next_task, pushed, popped, enqueued, dequeued, rotated, with_active, all_down}
use Rattle.lgx_sched.specs.Represents.{without_rank, IsUpAt, RepresentsTable, IsSound, is_it}
use Rattle.lgx_sched.proofs.Chosen.{within, same_length, front-some, up_at_front, state_as_up}
use Rattle.lgx_sched.proofs.Steps.{IsUp, IsHead, starts_with, place_is, place_fits}

-- ---- the task that is to run

-- it is the first of its queue
pub head-by : (v : TableView) (s : Table) (t : ℕ) (o : Option ℕ) → IsSound v → RepresentsTable v s → v.open_task ≡ o → or_else o (front_of v.queues) ≡ Some t → IsHead v t
head-by v s t None sound h is e =
    let f = front-some v.queues t e in
    let p = f.0 in
    let pr : (task s t).priority ≡ p + 1 = (up_at_front v s h t p f.1).1 in
    let p_is : place_of v t ≡ p = place_is v s h t ∙ less_one ((task s t).priority) p pr in
    subst (λ i. slice_get (queue_at v i) 0 ≡ Some t) (sym p_is) (ap (λ q. slice_get q 0) f.1.starts)
  where
    less_one : (n p' : ℕ) → n ≡ p' + 1 → n - 1 ≡ p'
    less_one n p' e' = omega arith
head-by v s t (Some o) sound h is e =
    let first : IfSome (Some o) (λ k. slice_get (queue_at v (place_of v k)) 0 ≡ Some k) = subst (λ x. IfSome x (λ k. slice_get (queue_at v (place_of v k)) 0 ≡ Some k)) is sound.first in
    subst (λ k. slice_get (queue_at v (place_of v k)) 0 ≡ Some k) (same_Some o t e) first

pub head-next : (v : TableView) (s : Table) (t : ℕ) → IsSound v → RepresentsTable v s → next_task v ≡ Some t → IsHead v t
head-next v s t sound h e = head-by v s t v.open_task sound h refl e

pub up-head : (v : TableView) (s : Table) (t : ℕ) → RepresentsTable v s → IsHead v t → IsUp (state_of s t)
up-head v s t h head =
    let up : ℕ → Type 0 = IsUpAt (state_of s) (λ k. (task s k).priority) (place_of v t + 1) in
    (All-head up t _ (subst (λ q. All up q) (starts_with (queue_at v (place_of v t)) t head) ((h.queues (place_of v t)).each))).0

pub task-head : (v : TableView) (s : Table) (t : ℕ) → IsSound v → RepresentsTable v s → IsHead v t → t < length v.defs
task-head v s t sound h head =
    subst (λ n. t < n) (same_length v s sound h ∙ sym (ap (λ (xs : List TaskDef). length xs) h.defs)) (within s.states t (up-head v s t h head))

-- nothing else has something open
only_mine : (o : Option ℕ) (qs : List (List ℕ)) (t k : ℕ) → or_else o (front_of qs) ≡ Some t → (k ≡ t → ⊥) → is_it o k ≡ false
only_mine None qs t k e ne = refl
only_mine (Some o) qs t k e ne = ne_eqb o k (λ o_k. ne (sym o_k ∙ same_Some o t e))

-- ---- room

length_le_sum : (qs : List (List ℕ)) (p : ℕ) → length (get_or qs p []) ≤ sum_by (λ (q : List ℕ). length q) qs
length_le_sum qs p = elim (cases_lt p (length qs)) [
  | inl l ↦ get_or-le-sum_by (λ (q : List ℕ). length q) qs p [] l
  | inr past ↦ subst (λ n. n ≤ sum_by (λ (q : List ℕ). length q) qs) (sym (ap (λ (q : List ℕ). length q) (get_or_past qs p [] past))) (least (sum_by (λ (q : List ℕ). length q) qs))
]
  where
    least : (n : ℕ) → 0 ≤ n
    least n = omega arith

count_is : (us : List (Option ActiveTask)) (t : ℕ) (x : Option ActiveTask) → t < length us → count_by is_some (set us t x) + cond (is_some (get_or us t None)) 1 0 ≡ count_by is_some us + cond (is_some x) 1 0
count_is us t x l = sum_by-set (λ (o : Option ActiveTask). cond (is_some o) 1 0) us t x None l

-- a queue has room for a task that is down
pub room-up : (v : TableView) (t p : ℕ) → IsSound v → t < length v.defs → up_of v t ≡ None → length (queue_at v p) < MAX_TASKS
room-up v t p sound l down =
    let l' : t < length v.ups = subst (λ n. t < n) (sym sound.as_many) l in
    let fresh : Option ActiveTask = Some (record { start = 0; region_count = 0; cps_open = false }) in
    let one : count_by is_some (set v.ups t fresh) + 0 ≡ count_by is_some v.ups + 1 = subst (λ (o : Option ActiveTask). count_by is_some (set v.ups t fresh) + cond (is_some o) 1 0 ≡ count_by is_some v.ups + 1) down (count_is v.ups t fresh l') in
    let most = count_by-le-length is_some (set v.ups t fresh) in
    let len = length-set v.ups t fresh in
    let sum = length_le_sum v.queues p in
    let room = sound.room in
    let as_many = sound.as_many in
    let few = sound.few in
    omega arith

pub room-last : (v : TableView) (t p : ℕ) → IsSound v → slice_get (queue_at v p) 0 ≡ Some t → length (drop 1 (queue_at v p)) < MAX_TASKS
room-last v t p sound head =
    let sum = length_le_sum v.queues p in
    let most = count_by-le-length is_some v.ups in
    let room = sound.room in
    let as_many = sound.as_many in
    let few = sound.few in
    let len : length (queue_at v p) ≡ suc (length (drop 1 (queue_at v p))) = ap (λ (q : List ℕ). length q) (starts_with (queue_at v p) t head) in
    omega arith

-- ---- a push and a pop

sum_set : (qs : List (List ℕ)) (p : ℕ) (q : List ℕ) → p < length qs → sum_by (λ (x : List ℕ). length x) (set qs p q) + length (get_or qs p []) ≡ sum_by (λ (x : List ℕ). length x) qs + length q
sum_set qs p q l = sum_by-set (λ (x : List ℕ). length x) qs p q [] l

sum-pushed : (qs : List (List ℕ)) (p t : ℕ) → p < length qs → sum_by (λ (x : List ℕ). length x) (pushed qs p t) ≡ sum_by (λ (x : List ℕ). length x) qs + 1
sum-pushed qs p t l =
    let s = sum_set qs p (get_or qs p [] ++ t ∷ []) l in
    let n = length-append (get_or qs p []) (t ∷ []) in
    omega arith

sum-popped : (qs : List (List ℕ)) (p t : ℕ) → p < length qs → slice_get (get_or qs p []) 0 ≡ Some t → sum_by (λ (x : List ℕ). length x) (popped qs p) + 1 ≡ sum_by (λ (x : List ℕ). length x) qs
sum-popped qs p t l head =
    let s = sum_set qs p (drop 1 (get_or qs p [])) l in
    let n : length (get_or qs p []) ≡ suc (length (drop 1 (get_or qs p []))) = ap (λ (q : List ℕ). length q) (starts_with (get_or qs p []) t head) in
    omega arith

-- a push changes no first task
first-pushed : (qs : List (List ℕ)) (p t k o : ℕ) → slice_get (get_or qs k []) 0 ≡ Some o → slice_get (get_or (pushed qs p t) k []) 0 ≡ Some o
first-pushed qs p t k o e = elim (cases_eq k p) [
  | inl k_p ↦ elim (cases_lt p (length qs)) [
    | inl l ↦ subst (λ i. slice_get (get_or (pushed qs p t) i []) 0 ≡ Some o) (sym k_p)
        (ap (λ q. slice_get q 0) (get_or-set_same qs p (get_or qs p [] ++ t ∷ []) [] l) ∙ kept (get_or qs p []) (subst (λ i. slice_get (get_or qs i []) 0 ≡ Some o) k_p e))
    | inr past ↦ absurd (none_some o (sym (ap (λ q. slice_get q 0) (get_or_past qs k [] (subst (λ i. length qs ≤ i) (sym k_p) past))) ∙ e))
  ]
  | inr ne ↦ ap (λ q. slice_get q 0) (get_or-set_other qs p k (get_or qs p [] ++ t ∷ []) [] ne) ∙ e
]
  where
    none_some : (x : ℕ) → None ≡ Some x → ⊥
    none_some x e' = cc

    kept : (q : List ℕ) → slice_get q 0 ≡ Some o → slice_get (q ++ t ∷ []) 0 ≡ Some o
    kept [] e' = absurd (none_some o e')
    kept (x ∷ xs) e' = e'

up_too : (o : Option ActiveTask) (x : Option TaskState) → o ≡ option_map without_rank x → IsUp x → is_some o ≡ true
up_too o None e w = absurd (false≢true w)
up_too o (Some x) e w = ap (λ (y : Option ActiveTask). is_some y) e

-- ---- the steps

pub sound-up : (v : TableView) (t now : ℕ) → IsSound v → t < length v.defs → up_of v t ≡ None → IsSound (enqueued t now v)
sound-up v t now sound l down =
    let l' : t < length v.ups = subst (λ n. t < n) (sym sound.as_many) l in
    let fresh : Option ActiveTask = Some (record { start = now; region_count = 0; cps_open = false }) in
    record {
      few = sound.few;
      as_many = length-set v.ups t fresh ∙ sound.as_many;
      queue_each = length-set v.queues (place_of v t) (queue_at v (place_of v t) ++ t ∷ []) ∙ sound.queue_each;
      priorities = sound.priorities;
      periods = sound.periods;
      alone = λ k. elim (cases_eq k t) [
        | inl e ↦ ap (λ i. has_open (get_or (set v.ups t fresh) i None)) e ∙ (ap has_open (get_or-set_same v.ups t fresh None l') ∙ (sym (ap has_open down) ∙ (sound.alone t ∙ ap (λ i. is_it v.open_task i) (sym e))))
        | inr ne ↦ ap has_open (get_or-set_other v.ups t k fresh None ne) ∙ sound.alone k
      ];
      first = pushed_first v.open_task sound.first;
      room =
          let sum = sum-pushed v.queues (place_of v t) t (place_fits v sound t l) in
          let one : count_by is_some (set v.ups t fresh) + 0 ≡ count_by is_some v.ups + 1 = subst (λ (o : Option ActiveTask). count_by is_some (set v.ups t fresh) + cond (is_some o) 1 0 ≡ count_by is_some v.ups + 1) down (count_is v.ups t fresh l') in
          let room = sound.room in
          omega arith;
    }
  where
    pushed_first : (o : Option ℕ) → IfSome o (λ k. slice_get (queue_at v (place_of v k)) 0 ≡ Some k) → IfSome o (λ k. slice_get (get_or (pushed v.queues (place_of v t) t) (place_of v k) []) 0 ≡ Some k)
    pushed_first None h = h
    pushed_first (Some k) h = first-pushed v.queues (place_of v t) t (place_of v k) k h

pub sound-down : (v : TableView) (s : Table) (t : ℕ) → IsSound v → RepresentsTable v s → next_task v ≡ Some t → IsSound (dequeued t v)
sound-down v s t sound h next =
    let head = head-next v s t sound h next in
    let l = task-head v s t sound h head in
    let l' : t < length v.ups = subst (λ n. t < n) (sym sound.as_many) l in
    record {
      few = sound.few;
      as_many = length-set v.ups t None ∙ sound.as_many;
      queue_each = length-set v.queues (place_of v t) (drop 1 (queue_at v (place_of v t))) ∙ sound.queue_each;
      priorities = sound.priorities;
      periods = sound.periods;
      alone = λ k. elim (cases_eq k t) [
        | inl e ↦ ap (λ i. has_open (get_or (set v.ups t None) i None)) e ∙ ap has_open (get_or-set_same v.ups t None None l')
        | inr ne ↦ ap has_open (get_or-set_other v.ups t k None None ne) ∙ (sound.alone k ∙ only_mine v.open_task v.queues t k next ne)
      ];
      first = tt;
      room =
          let sum = sum-popped v.queues (place_of v t) t (place_fits v sound t l) head in
          let is_up : is_some (up_of v t) ≡ true = up_too (up_of v t) (state_of s t) (state_as_up v s h t) (up-head v s t h head) in
          let one : count_by is_some (set v.ups t None) + 1 ≡ count_by is_some v.ups + 0 = subst (λ b. count_by is_some (set v.ups t None) + cond b 1 0 ≡ count_by is_some v.ups + 0) is_up (count_is v.ups t None l') in
          let room = sound.room in
          omega arith;
    }

pub sound-last : (v : TableView) (s : Table) (t : ℕ) → IsSound v → RepresentsTable v s → v.open_task ≡ None → IsHead v t → IsSound (rotated t v)
sound-last v s t sound h none head =
    let l = task-head v s t sound h head in
    let p = place_of v t in
    let fits = place_fits v sound t l in
    let qs = popped v.queues p in
    let same_len : length qs ≡ length v.queues = length-set v.queues p (drop 1 (queue_at v p)) in
    record {
      few = sound.few;
      as_many = sound.as_many;
      queue_each = length-set qs p (get_or qs p [] ++ t ∷ []) ∙ (same_len ∙ sound.queue_each);
      priorities = sound.priorities;
      periods = sound.periods;
      alone = sound.alone;
      first = subst (λ o. IfSome o (λ k. slice_get (get_or (pushed qs p t) (place_of v k) []) 0 ≡ Some k)) (sym none) tt;
      room =
          let pop = sum-popped v.queues p t fits head in
          let push = sum-pushed qs p t (subst (λ n. p < n) (sym same_len) fits) in
          let room = sound.room in
          omega arith;
    }

pub sound-with : (v : TableView) (s : Table) (t : ℕ) (u : ActiveTask) → IsSound v → RepresentsTable v s → next_task v ≡ Some t → IsSound (with_active t u v)
sound-with v s t u sound h next =
    let head = head-next v s t sound h next in
    let l = task-head v s t sound h head in
    let l' : t < length v.ups = subst (λ n. t < n) (sym sound.as_many) l in
    record {
      few = sound.few;
      as_many = length-set v.ups t (Some u) ∙ sound.as_many;
      queue_each = sound.queue_each;
      priorities = sound.priorities;
      periods = sound.periods;
      alone = λ k. elim (cases_eq k t) [
        | inl e ↦ ap (λ i. has_open (get_or (set v.ups t (Some u)) i None)) e ∙ (ap has_open (get_or-set_same v.ups t (Some u) None l') ∙ mine (has_open (Some u)) k (sym e))
        | inr ne ↦ ap has_open (get_or-set_other v.ups t k (Some u) None ne) ∙ (sound.alone k ∙ (only_mine v.open_task v.queues t k next ne ∙ other (has_open (Some u)) k ne))
      ];
      first = head_if (has_open (Some u)) head;
      room =
          let is_up : is_some (up_of v t) ≡ true = up_too (up_of v t) (state_of s t) (state_as_up v s h t) (up-head v s t h head) in
          let one : count_by is_some (set v.ups t (Some u)) + 1 ≡ count_by is_some v.ups + 1 = subst (λ b. count_by is_some (set v.ups t (Some u)) + cond b 1 0 ≡ count_by is_some v.ups + 1) is_up (count_is v.ups t (Some u) l') in
          let room = sound.room in
          omega arith;
    }
  where
    mine : (b : Bool) (k : ℕ) → t ≡ k → b ≡ is_it (if b then Some t else None) k
    mine true k e = sym (eq-eqb t k e)
    mine false k e = refl

    other : (b : Bool) (k : ℕ) → (k ≡ t → ⊥) → false ≡ is_it (if b then Some t else None) k
    other true k ne = sym (ne_eqb t k (λ e. ne (sym e)))
    other false k ne = refl

    head_if : (b : Bool) → IsHead v t → IfSome (if b then Some t else None) (λ k. slice_get (queue_at v (place_of v k)) 0 ≡ Some k)
    head_if true x = x
    head_if false x = tt

abbrev no_queues : List (List ℕ) → List (List ℕ)
no_queues qs = map (λ q. []) qs

sum_empty : (qs : List (List ℕ)) → sum_by (λ (q : List ℕ). length q) (no_queues qs) ≡ 0
sum_empty [] = refl
sum_empty (q ∷ qs) = sum_by-cons (λ (x : List ℕ). length x) [] (no_queues qs) ∙ none (sum_by (λ (x : List ℕ). length x) (no_queues qs)) (sum_empty qs)
  where
    none : (n : ℕ) → n ≡ 0 → 0 + n ≡ 0
    none n e = omega arith

-- the states of so many tasks that are all down
abbrev pub no_ups : ℕ → List (Option ActiveTask)
no_ups n = replicate n None

pub count_none : (n : ℕ) → count_by (λ (o : Option ActiveTask). is_some o) (no_ups n) ≡ 0
count_none n = sum_by-replicate (λ (o : Option ActiveTask). cond (is_some o) 1 0) n None ∙ times n
  where
    times : (m : ℕ) → m * 0 ≡ 0
    times m = omega arith

pub all_none : (n t : ℕ) → get_or (no_ups n) t None ≡ None
all_none zero t = refl
all_none (suc n) zero = refl
all_none (suc n) (suc t) = all_none n t

pub sound-none : (v : TableView) (ran : ℕ) → IsSound v → IsSound (record (all_down v) { run_since = ran })
sound-none v ran sound = record {
  few = sound.few;
  as_many = length-replicate (length v.ups) None ∙ sound.as_many;
  queue_each = length-map v.queues (λ q. []) ∙ sound.queue_each;
  priorities = sound.priorities;
  periods = sound.periods;
  alone = λ k. ap has_open (all_none (length v.ups) k);
  first = tt;
  room = sum_empty v.queues ∙ sym (count_none (length v.ups));
}
