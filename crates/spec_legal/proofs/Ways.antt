-- The second part of the turn law: at a tick a task gives way to the others of its priority.
use Rattle.std.proofs.Common.{◌≡◌, ℕ, ◌+◌, ◌<◌, ◌≤◌, inl, inr, Bool, true, false, cond, List, [], ◌∷◌, length, map, Option, Some, None, refl, sym, ◌∙◌, ap, subst, arith, eqb-true}
use Rattle.std.specs.Prelude.{nat_eq, nat_lt, not, ◌&&◌, ◌||◌, replicate, slice_index_or}
use Rattle.std.specs.List.{list_any, list_all}
use Rattle.std.proofs.Math.Numerals.{one-add}
use Rattle.std.proofs.lemmas.Bool.{and_from, and_parts, or_left, or_right, cases_eq, eqb-false, false≢true, false_from_ne_true, not-true, not_from_false, lt-ltb}
use Rattle.std.proofs.lemmas.List.Sums.{take_while-cons}
use Rattle.spec_tables.specs.Tasks.{TaskState, state_of, task, chosen, is_open as open_state}
use Rattle.spec_machine.specs.declared.answer.What.{What}
use Rattle.spec_machine.specs.declared.answer.What.TheVariants as what
use Rattle.spec_machine.specs.declared.answer.Moment.{Moment}
use Rattle.spec_machine.specs.declared.event.Event.{Event}
use Rattle.spec_machine.specs.declared.event.Event.TheVariants as events
use Rattle.spec_machine.specs.declared.event.Action.{Action}
use Rattle.spec_machine.specs.Project.{Project}
use Rattle.spec_machine.specs.ProcessorStep.{processor_step}
use Rattle.spec_machine.specs.State.{State, start}
use Rattle.spec_machine.specs.Machine.{step}
use Rattle.spec_machine.specs.ValidProject.{IsValidProject}
use Rattle.spec_machine.proofs.OrderlyTables.{only_chosen}
use Rattle.spec_schedule.specs.Counting.{Counted, uncounted, Numbers, unedited, is_open, is_task, stepping, steps_here, edited_all, CountedTask, counted_tasks, CountedEvent}
use Rattle.spec_schedule.specs.Legal.{no_task, priority_of, at, higher_up, is_tick, before_tick, stays_up, is_other_up, others_went, gives_turn, is_turn, is_action, after_actions, after_tick, way_given, gives_way}
use Rattle.spec_schedule.specs.TraceView.{audit_tasks, table_of, seen, step_seen}
use Rattle.spec_reach.proofs.Changes.{TaskView, view_of, Change, Stays, Rotates, GoesDown, ComesUp, Restarts, Begins, Goes, Ends, changed, TakesTurn, Makes}
use Rattle.spec_reach.proofs.First.{NewRank, turn_ranked, after_event}
use Rattle.spec_reach.proofs.Least.{IsLeastUp, chosen_is, none_chosen}
use Rattle.spec_reach.proofs.Reached.{happens, known_at}
use Rattle.spec_legal.specs.LegalRuns.{RunsGiveWay}
use Rattle.spec_legal.proofs.Along.{places_from, place, IsPlace, first_place, place_next, counts_next, places_after, each_along}
use Rattle.spec_legal.proofs.CountedLists.{some_passes, passes_some}
use Rattle.spec_legal.proofs.Mirrors.{table_length}
use Rattle.spec_legal.proofs.Priority.{step_of_chosen, within_tasks, within_defs, same_priority, counted_open, counted_up, up_counted}
use Rattle.spec_legal.proofs.Ranks.{downs, downs_next, stays_up_at, IsLeading, chosen_is_leading}
use Rattle.spec_legal.proofs.Turns.{not_tick, steps_no_tick, Follows, follows_next, follows_first}

-- ---- kinds of events

step_no_tick : (m : Moment) (w : What) → is_tick (step_seen m w) ≡ false
step_no_tick m what.Idle = refl
step_no_tick m (what.Began t n v) = refl
step_no_tick m (what.Ran t n) = refl
step_no_tick m (what.Copied t n) = refl
step_no_tick m (what.Left t n ended) = refl

step_no_action : (m : Moment) (w : What) → is_action (step_seen m w) ≡ false
step_no_action m what.Idle = refl
step_no_action m (what.Began t n v) = refl
step_no_action m (what.Ran t n) = refl
step_no_action m (what.Copied t n) = refl
step_no_action m (what.Left t n ended) = refl

seen_tick : (p : Project) (s : State) (e : Event) → is_tick (seen p (step s e).answer) ≡ true → e ≡ events.Tick
seen_tick p s events.Cpu h = let m = (processor_step s).answer in absurd (false≢true (sym (step_no_tick m m.what) ∙ h))
seen_tick p s events.Tick h = refl
seen_tick p s (events.Act lane a) h = absurd (false≢true h)

seen_action : (p : Project) (s : State) (e : Event) → is_action (seen p (step s e).answer) ≡ true → (lane : ℕ) × (a : Action) × (e ≡ events.Act lane a)
seen_action p s events.Cpu h = let m = (processor_step s).answer in absurd (false≢true (sym (step_no_action m m.what) ∙ h))
seen_action p s events.Tick h = absurd (false≢true h)
seen_action p s (events.Act lane a) h = (lane, a, refl)

action_no_tick : (e : Event) (lane : ℕ) (a : Action) → e ≡ events.Act lane a → e ≡ events.Tick → ⊥
action_no_tick e lane a is tick = let f : events.Act lane a ≡ events.Tick → ⊥ = λ x. cc in f (sym is ∙ tick)

-- ---- a task that has given way to another

-- u is up with t's priority and a lesser rank, and t has nothing open, unless u has gone down more often than that
pub record GaveWay (s : State) (t u : ℕ) : Type 0 where
  pub state : TaskState
  pub up : state_of s.table u ≡ Some state
  pub less : (v : TaskState) → state_of s.table t ≡ Some v → state.rank < v.rank
  pub closed : open_state (state_of s.table t) ≡ false

pub record Trails (s : State) (cs : List Counted) (t u since : ℕ) : Type 0 where
  pub low : since ≤ downs cs u
  pub way : downs cs u ≡ since → GaveWay s t u

closed_none : (o : Option TaskState) → ((v : TaskState) → o ≡ Some v → open_state (Some v) ≡ false) → open_state o ≡ false
closed_none None h = refl
closed_none (Some v) h = h v refl

module _ (p : Project) (valid : IsValidProject p) (t u : ℕ) (within : u < length p.tasks) where
  -- t isn't chosen as long as it gave way to u
  not_chosen : (s : State) (cs : List Counted) → IsPlace p s cs → GaveWay s t u → (task s.table t).priority ≡ (task s.table u).priority → chosen s.table ≡ Some t → ⊥
  not_chosen s cs h g same c =
      elim (chosen_is s.table t c) [
        | inl o ↦ false≢true (sym g.closed ∙ o)
        | inr l ↦ (let a = (l.leads u g.state (within_defs p valid s cs h u within) g.up).1 same in let b = g.less l.state l.up in absurd (omega arith))
      ]

  gave_way_next : (s : State) (e : Event) (cs : List Counted) → IsPlace p s cs → (e ≡ events.Tick → ⊥) → GaveWay s t u → (task s.table t).priority ≡ (task s.table u).priority → downs (counts_next p valid s e cs) u ≡ downs cs u → GaveWay (step s e).state t u
  gave_way_next s e cs h no_tick g same d =
      let known = known_at p s h.reached in
      let w = stays_up_at p valid s e cs h u g.state g.up (λ k. no_tick k.tick) d in
      let r = w.same in
      record {
        state = w.state;
        up = w.up;
        less = λ v k.
            elim (after_event p s e t v known k) [
              | inl x ↦ (let a = g.less x.before x.was in let b = x.same in omega arith)
              | inr x ↦ (let a = known.orderly.below u g.state g.up in let b = x.above in omega arith)
            ];
        closed = closed_none (state_of (step s e).state.table t) (λ v k.
            elim (after_event p s e t v known k) [
              | inl x ↦ false_from_ne_true (open_state (Some v)) (λ o.
                  elim (x.opens o) [
                    | inl b ↦ false≢true (sym g.closed ∙ (ap open_state x.was ∙ b))
                    | inr c ↦ not_chosen s cs h g same c
                  ])
              | inr x ↦ x.closed
            ]);
      }

  pub trails_next : (s : State) (e : Event) (cs : List Counted) (since : ℕ) → IsPlace p s cs → (e ≡ events.Tick → ⊥) → (task s.table t).priority ≡ (task s.table u).priority → Trails s cs t u since → Trails (step s e).state (counts_next p valid s e cs) t u since
  trails_next s e cs since h no_tick same f =
      let g = downs_next p valid s e cs h u within in
      let l = f.low in
      record {
        low = omega arith;
        way = λ d. gave_way_next s e cs h no_tick (f.way (omega arith)) same (omega arith);
      }

  -- ---- at the tick

  turn_taken : (s : State) (x : Change) (v : TaskState) → Makes s events.Tick t x → TakesTurn s events.Tick t → (w : TaskState) → state_of s.table t ≡ Some w → (changed x (view_of s t)).state ≡ Some v → NewRank s v
  turn_taken s x v m turn w up k = go x m k
    where
      no_step : {A : Type 0} → events.Tick ≡ events.Cpu → A
      no_step e = absurd (let f : events.Tick ≡ events.Cpu → ⊥ = λ y. cc in f e)

      go : (y : Change) → Makes s events.Tick t y → (changed y (view_of s t)).state ≡ Some v → NewRank s v
      go Stays m k = absurd (m turn)
      go (Rotates n) m k = turn_ranked s t n (state_of s.table t) v m.1 turn.closed k
      go GoesDown m k = absurd (cc k)
      go (ComesUp now rank) m k = absurd (cc (up, m.0))
      go (Restarts now rank) m k = no_step m.0.step
      go (Begins scan) m k = no_step m.0.step
      go (Goes mark scan) m k = no_step m.0.step
      go Ends m k = no_step m.0.step

  trails_first : (s : State) (cs : List Counted) → IsPlace p s cs → TakesTurn s events.Tick t → (u ≡ t → ⊥) → (w : TaskState) → state_of s.table u ≡ Some w → Trails (step s events.Tick).state (counts_next p valid s events.Tick cs) t u (downs cs u)
  trails_first s cs h turn ne w up = record {
    low = downs_next p valid s events.Tick cs h u within;
    way = λ d.
        (let known = known_at p s h.reached in
        let a = stays_up_at p valid s events.Tick cs h u w up (λ k. ne (cc (k.chosen, turn.chosen))) d in
        let c = chosen_is_leading p valid s cs h t turn.chosen in
        let x = happens p s events.Tick t known (within_tasks p valid s cs h t c.state c.up) in
        let r = a.same in
        let fresh : (v : TaskState) → state_of (step s events.Tick).state.table t ≡ Some v → NewRank s v = λ v k. turn_taken s x.change v x.makes turn c.state c.up (sym (ap (λ (y : TaskView). y.state) x.view) ∙ k) in
        record {
          state = a.state;
          up = a.up;
          less = λ v k. (let y = (fresh v k).above in let z = known.orderly.below u w up in omega arith);
          closed = closed_none (state_of (step s events.Tick).state.table t) (λ v k. (fresh v k).closed);
        });
  }

-- ---- after the tick

-- u was up at place k with t's priority, and isn't t
pub record IsRival (p : Project) (t : ℕ) (k : CountedEvent) (u : ℕ) : Type 0 where
  pub within : u < length p.tasks
  pub up : (at k u).up ≡ true
  pub same : (slice_index_or (audit_tasks p.tasks p.schedule) u no_task).priority ≡ priority_of (table_of p) t
  pub differs : u ≡ t → ⊥

module _ (p : Project) (valid : IsValidProject p) (t : ℕ) (at_t : t < length p.tasks) (k : CountedEvent) where
  -- t has given way to every other
  abbrev pub AllTrail : State → List Counted → Type 0
  AllTrail s cs = (u : ℕ) → IsRival p t k u → Trails s cs t u (at k u).downs

  same_prio : (s : State) (cs : List Counted) (u : ℕ) → IsPlace p s cs → IsRival p t k u → (task s.table t).priority ≡ (task s.table u).priority
  same_prio s cs u h o = sym (same_priority p valid s cs h t at_t) ∙ (sym o.same ∙ same_priority p valid s cs h u o.within)

  all_trail_next : (s : State) (e : Event) (cs : List Counted) → IsPlace p s cs → (e ≡ events.Tick → ⊥) → AllTrail s cs → AllTrail (step s e).state (counts_next p valid s e cs)
  all_trail_next s e cs h no_tick f u o = trails_next p valid t u o.within s e cs (at k u).downs h no_tick (same_prio s cs u h o) (f u o)

  none_other : (s : State) (e : Event) (cs : List Counted) (ns : List Numbers) → IsPlace p s cs → AllTrail s cs → chosen s.table ≡ Some t → list_any (is_other_up (table_of p) t k (place p s cs ns e)) (counted_tasks (table_of p).tasks k.tasks) ≡ true → ⊥
  none_other s e cs ns h f c found =
      let y = place p s cs ns e in
      let x = some_passes (is_other_up (table_of p) t k y) 0 (audit_tasks p.tasks p.schedule) k.tasks found in
      let u = x.place in
      let q = and_parts (at k u).up _ x.passes in
      let same = nat_eq (slice_index_or (audit_tasks p.tasks p.schedule) u no_task).priority (priority_of (table_of p) t) in
      let r = and_parts (same && not (nat_eq (0 + u) t)) (stays_up (0 + u) k y) q.1 in
      let z = and_parts same (not (nat_eq (0 + u) t)) r.0 in
      let n : 0 + u ≡ u = omega arith in
      let o : IsRival p t k u = record {
        within = (let a = x.within in let b = table_length p valid in omega arith);
        up = q.0;
        same = eqb-true (slice_index_or (audit_tasks p.tasks p.schedule) u no_task).priority (priority_of (table_of p) t) z.0;
        differs = λ e. eqb-false (0 + u) t (not-true (nat_eq (0 + u) t) z.1) (omega arith);
      } in
      let d : (at k u).downs ≡ (at y u).downs = subst (λ i. (at k i).downs ≡ (at y i).downs) n (eqb-true (at k (0 + u)).downs (at y (0 + u)).downs r.1) in
      not_chosen p valid t u o.within s cs h ((f u o).way (sym d)) (same_prio s cs u h o) c

  -- a step of t
  is_step_of : (o : Option ℕ) → is_task t o ≡ true → o ≡ Some t
  is_step_of None h = absurd (false≢true h)
  is_step_of (Some v) h = ap (λ n. Some n) (eqb-true v t h)

  abbrev keeps_way : CountedEvent → Bool
  keeps_way z = not (steps_here z.event t) || others_went (table_of p) t k z

  way_here : (s : State) (e : Event) (cs : List Counted) (ns : List Numbers) → IsPlace p s cs → AllTrail s cs → keeps_way (place p s cs ns e) ≡ true
  way_here s e cs ns h f = go (is_task t (stepping (seen p (step s e).answer))) refl
    where
      others : Bool
      others = list_any (is_other_up (table_of p) t k (place p s cs ns e)) (counted_tasks (table_of p).tasks k.tasks)

      go : (b : Bool) → is_task t (stepping (seen p (step s e).answer)) ≡ b → (not b || not others) ≡ true
      go false is = or_left true (not others) refl
      go true is = or_right false (not others) (not_from_false others (false_from_ne_true others (none_other s e cs ns h f (step_of_chosen p s e t (is_step_of (stepping (seen p (step s e).answer)) is)))))

  module _ (s : State) (e : Event) (cs : List Counted) (ns : List Numbers) (h : IsPlace p s cs) (f : AllTrail s cs) (rest : List CountedEvent) (known : AllTrail (step s e).state (counts_next p valid s e cs) → list_all keeps_way (before_tick rest) ≡ true) where
    abbrev y : CountedEvent
    y = place p s cs ns e

    cut : (b : Bool) → is_tick (seen p (step s e).answer) ≡ b → before_tick (y ∷ rest) ≡ cond (not b) (y ∷ before_tick rest) []
    cut b tick = take_while-cons (λ z. not (is_tick z.event)) y rest ∙ ap (λ (c : Bool). cond (not c) (y ∷ before_tick rest) []) tick

    abbrev AllKeep : List CountedEvent → Type 0
    AllKeep zs = list_all keeps_way zs ≡ true

    pub by_tick : (b : Bool) → is_tick (seen p (step s e).answer) ≡ b → AllKeep (before_tick (y ∷ rest))
    by_tick true tick = subst AllKeep (sym (cut true tick)) refl
    by_tick false tick =
        subst AllKeep (sym (cut false tick))
        (and_from (keeps_way y) (list_all keeps_way (before_tick rest)) (way_here s e cs ns h f) (known (all_trail_next s e cs h (not_tick p s e tick) f)))

  pub all_keep : (s : State) (es : List Event) (cs : List Counted) (ns : List Numbers) → IsPlace p s cs → AllTrail s cs → gives_turn (table_of p) t k (places_from p s cs ns es) ≡ true
  all_keep s [] cs ns h f = refl
  all_keep s (e ∷ es) cs ns h f =
      by_tick s e cs ns h f (places_after p valid s e es cs ns)
      (λ g. all_keep (step s e).state es (counts_next p valid s e cs) (edited_all (seen p (step s e).answer) ns) (place_next p valid s e cs h) g)
      (is_tick (seen p (step s e).answer)) refl

-- ---- up to the tick

-- no other task than t has something open
abbrev pub OthersClosed : State → ℕ → Type 0
OthersClosed s t = (q : ℕ) (v : TaskState) → state_of s.table q ≡ Some v → open_state (Some v) ≡ true → q ≡ t

module _ (p : Project) (valid : IsValidProject p) (t : ℕ) (at_t : t < length p.tasks) (x : CountedEvent) where
  -- t leads its priority, is closed, and no task of higher priority is up: so it is chosen
  leader_chosen : (s : State) (cs : List Counted) (ns : List Numbers) (e : Event) → IsPlace p s cs → IsLeading s.table t → OthersClosed s t → is_open (slice_index_or cs t uncounted) ≡ false → higher_up (table_of p) (place p s cs ns e) t ≡ false → chosen s.table ≡ Some t
  leader_chosen s cs ns e h lead others closed none = go (chosen s.table) refl
    where
      t_closed : open_state (state_of s.table t) ≡ false
      t_closed = sym (counted_open p valid s cs h t at_t) ∙ closed

      -- a task of higher priority would be seen
      not_higher : (c : ℕ) (v : TaskState) → state_of s.table c ≡ Some v → (task s.table c).priority < (task s.table t).priority → ⊥
      not_higher c v up less =
          let l = within_tasks p valid s cs h c v up in
          let a = same_priority p valid s cs h c l in
          let b = same_priority p valid s cs h t at_t in
          let m = table_length p valid in
          let test : CountedTask → Bool = λ u. u.counts.up && nat_lt u.task.priority (priority_of (table_of p) t) in
          let here = and_from (slice_index_or cs c uncounted).up (nat_lt (slice_index_or (audit_tasks p.tasks p.schedule) c no_task).priority (priority_of (table_of p) t)) (up_counted p valid s cs h c v up) (lt-ltb (slice_index_or (audit_tasks p.tasks p.schedule) c no_task).priority (priority_of (table_of p) t) (omega arith)) in
          false≢true (sym none ∙ passes_some test 0 (audit_tasks p.tasks p.schedule) cs c (h.mirrors.many ∙ sym m) (omega arith) here)

      by_least : (c : ℕ) → chosen s.table ≡ Some c → IsLeastUp s.table c → c ≡ t
      by_least c is l =
          let a = l.leads t lead.state (within_defs p valid s cs h t at_t) lead.up in
          elim (cases_eq (task s.table c).priority (task s.table t).priority) [
            | inl same ↦
                (let b = a.1 same in
                let d = lead.leads c l.state l.up (sym same) in
                (known_at p s h.reached).orderly.differ c t l.state lead.state l.up lead.up (omega arith))
            | inr ne ↦ absurd (not_higher c l.state l.up (let b = a.0 in omega arith))
          ]

      by_open : (c : ℕ) (o : Option TaskState) → state_of s.table c ≡ o → open_state o ≡ true → c ≡ t
      by_open c None g o = absurd (false≢true o)
      by_open c (Some v) g o = others c v g o

      go : (o : Option ℕ) → chosen s.table ≡ o → o ≡ Some t
      go None is = absurd (none_chosen s.table t lead.state is (within_defs p valid s cs h t at_t) lead.up)
      go (Some c) is =
          ap (λ n. Some n) (elim (chosen_is s.table c is) [
            | inl o ↦ by_open c (state_of s.table c) refl o
            | inr l ↦ by_least c is l
          ])

  turn_given : (s : State) (cs : List Counted) (ns : List Numbers) (es : List Event) → IsPlace p s cs → Follows s cs t (at x t).downs → OthersClosed s t → is_turn (table_of p) t x (place p s cs ns events.Tick) ≡ true → gives_turn (table_of p) t (place p s cs ns events.Tick) (places_after p valid s events.Tick es cs ns) ≡ true
  turn_given s cs ns es h f others turn =
      let k = place p s cs ns events.Tick in
      let q = and_parts (stays_up t x k && not (is_open (at k t))) (not (higher_up (table_of p) k t)) turn in
      let r = and_parts (stays_up t x k) (not (is_open (at k t))) q.0 in
      let lead = f.leads (sym (eqb-true (at x t).downs (at k t).downs r.0)) in
      let closed = not-true (is_open (at k t)) r.1 in
      let c = leader_chosen s cs ns events.Tick h lead others closed (not-true (higher_up (table_of p) k t) q.1) in
      let known = known_at p s h.reached in
      let takes : TakesTurn s events.Tick t = record { tick = refl; mode = known.orderly.in_run t lead.state lead.up; chosen = c; closed = sym (counted_open p valid s cs h t at_t) ∙ closed } in
      all_keep p valid t at_t k (step s events.Tick).state es (counts_next p valid s events.Tick cs) (edited_all (seen p (step s events.Tick).answer) ns) (place_next p valid s events.Tick cs h)
      (λ u o. (let v = counted_up p valid s cs h u o.within o.up in trails_first p valid t u o.within s cs h takes o.differs v.0 v.1))

  -- what is open after an action was so before
  others_next : (s : State) (e : Event) (cs : List Counted) (lane : ℕ) (a : Action) → e ≡ events.Act lane a → IsPlace p s cs → OthersClosed s t → OthersClosed (step s e).state t
  others_next s e cs lane a is h others q v g o =
      let known = known_at p s h.reached in
      let l = within_tasks p valid (step s e).state (counts_next p valid s e cs) (place_next p valid s e cs h) q v g in
      let y = happens p s e q known l in
      go y.change y.makes (sym (ap (λ (z : TaskView). z.state) y.view) ∙ g)
    where
      no_step : {A : Type 0} → e ≡ events.Cpu → A
      no_step k = absurd (let f : events.Act lane a ≡ events.Cpu → ⊥ = λ y. cc in f (sym is ∙ k))

      go : (c : Change) → Makes s e q c → (changed c (view_of s q)).state ≡ Some v → q ≡ t
      go Stays m k = others q v k o
      go (Rotates n) m k = absurd (action_no_tick e lane a is m.0.tick)
      go GoesDown m k = absurd (cc k)
      go (ComesUp now rank) m k = absurd (false≢true (ap open_state k ∙ o))
      go (Restarts now rank) m k = no_step m.0.step
      go (Begins scan) m k = no_step m.0.step
      go (Goes mark scan) m k = no_step m.0.step
      go Ends m k = no_step m.0.step

  module _ (s : State) (e : Event) (es : List Event) (cs : List Counted) (ns : List Numbers) (h : IsPlace p s cs) (f : Follows s cs t (at x t).downs) (others : OthersClosed s t) (known : Follows (step s e).state (counts_next p valid s e cs) t (at x t).downs → OthersClosed (step s e).state t → after_tick (table_of p) t x (after_actions (places_after p valid s e es cs ns)) ≡ true) where
    abbrev here : CountedEvent
    here = place p s cs ns e

    abbrev later : List CountedEvent
    later = places_after p valid s e es cs ns

    at_tick : (tick turn : Bool) → is_tick here.event ≡ tick → is_turn (table_of p) t x here ≡ turn → (not (tick && turn) || gives_turn (table_of p) t here later) ≡ true
    at_tick false turn is can = refl
    at_tick true false is can = refl
    at_tick true true is can =
        (subst (λ (z : Event). is_turn (table_of p) t x (place p s cs ns z) ≡ true → gives_turn (table_of p) t (place p s cs ns z) (places_after p valid s z es cs ns) ≡ true) (sym (seen_tick p s e is)) (turn_given s cs ns es h f others) can)

    pub by_action : (b : Bool) → is_action here.event ≡ b → after_tick (table_of p) t x (after_actions (here ∷ later)) ≡ true
    by_action true is =
        let a = seen_action p s e is in
        rw (is, one-add) (known (follows_next p valid t at_t s e cs (at x t).downs h (action_no_tick e a.0 a.1 a.2) f) (others_next s e cs a.0 a.1 a.2 h others))
    by_action false is = rw is (at_tick (is_tick here.event) (is_turn (table_of p) t x here) refl refl)

  pub up_to_tick : (s : State) (es : List Event) (cs : List Counted) (ns : List Numbers) → IsPlace p s cs → Follows s cs t (at x t).downs → OthersClosed s t → after_tick (table_of p) t x (after_actions (places_from p s cs ns es)) ≡ true
  up_to_tick s [] cs ns h f others = refl
  up_to_tick s (e ∷ es) cs ns h f others =
      by_action s e es cs ns h f others
      (λ g o. up_to_tick (step s e).state es (counts_next p valid s e cs) (edited_all (seen p (step s e).answer) ns) (place_next p valid s e cs h) g o)
      (is_action (seen p (step s e).answer)) refl

-- ---- along a run

-- after a step of t no other task has something open
others_first : (p : Project) (valid : IsValidProject p) (s : State) (e : Event) (cs : List Counted) (t : ℕ) → IsPlace p s cs → chosen s.table ≡ Some t → (e ≡ events.Tick → ⊥) → OthersClosed (step s e).state t
others_first p valid s e cs t h c no_tick q v g o =
    let known = known_at p s h.reached in
    elim (after_event p s e q v known g) [
      | inl r ↦ elim (r.opens o) [
        | inl b ↦ only_chosen s.mode s.table t q r.before known.orderly c r.was b
        | inr d ↦ (let k : Some q ≡ Some t = sym d ∙ c in cc k)
      ]
      | inr r ↦ absurd (false≢true (sym r.closed ∙ o))
    ]

way_at : (p : Project) (valid : IsValidProject p) (s : State) (e : Event) (es : List Event) (cs : List Counted) (ns : List Numbers) → IsPlace p s cs → (o : Option ℕ) → stepping (seen p (step s e).answer) ≡ o → way_given (table_of p) (place p s cs ns e) (places_after p valid s e es cs ns) o ≡ true
way_at p valid s e es cs ns h None k = refl
way_at p valid s e es cs ns h (Some t) k =
    let f = follows_first p valid s e cs t h k in
    up_to_tick p valid t f.0 (place p s cs ns e) (step s e).state es (counts_next p valid s e cs) (edited_all (seen p (step s e).answer) ns) (place_next p valid s e cs h) f.1
    (others_first p valid s e cs t h (step_of_chosen p s e t k) (steps_no_tick p s e t k))

pub runs_give_way : RunsGiveWay
runs_give_way p journal valid =
    each_along p valid (gives_way (table_of p)) (λ s e es cs ns h. way_at p valid s e es cs ns h (stepping (seen p (step s e).answer)) refl) (start p) journal (map (λ d. uncounted) (audit_tasks p.tasks p.schedule)) (replicate (length p.programs) unedited)
    (first_place p valid)
