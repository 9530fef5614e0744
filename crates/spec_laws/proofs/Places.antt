-- What is counted back at each place of a run is what the machine has.
use Rattle.std.proofs.Common.{◌≡◌, ℕ, ◌+◌, ◌<◌, Bool, true, false, cond, List, [], ◌∷◌, length, map, Option, Some, None, refl, sym, ◌∙◌, ap, arith}
use Rattle.std.specs.Prelude.{◌&&◌, nat_eq, is_some, unwrap_or, replicate, slice_index_or}
use Rattle.std.proofs.lemmas.Bool.{and_from, eq-eqb, ne_eqb}
use Rattle.spec_tables.specs.Tasks.{TaskState, state_of, with_region_count, with_cps_open, with_rank}
use Rattle.spec_tables.proofs.StateLists.{chosen_up}
use Rattle.spec_machine.specs.declared.event.Event.{Event}
use Rattle.spec_machine.specs.declared.reply.Mode.TheVariants.{Program, Run}
use Rattle.spec_machine.specs.Machine.{step}
use Rattle.spec_machine.specs.Project.{Project}
use Rattle.spec_machine.specs.State.{State, start}
use Rattle.spec_machine.specs.ValidProject.{IsValidProject}
use Rattle.spec_schedule.specs.declared.trace.TraceMark.{TraceMark}
use Rattle.spec_schedule.specs.declared.trace.TraceMark.TheVariants.{Plain, Up, Down, Trigger, Copy, Sync, CopyEnd, SyncEnd}
use Rattle.spec_schedule.specs.Counting.{Counted, uncounted, marked, Numbers, unedited, edited_all, CountedEvent}
use Rattle.spec_schedule.specs.TraceView.{audit_tasks, seen}
use Rattle.spec_reach.proofs.Changes.{view_of, Change, Stays, Rotates, GoesDown, ComesUp, Restarts, Begins, Goes, Ends, marked_state, changed, counts_after, Makes}
use Rattle.spec_reach.proofs.Grows.{event_moves}
use Rattle.spec_reach.proofs.Reached.{happens, known_at, start_view}
use Rattle.spec_legal.specs.LegalRuns.{counted_run}
use Rattle.spec_legal.proofs.Along.{places_from, place, IsPlace, counts_next, place_next, first_place}
use Rattle.spec_legal.proofs.Mirrors.{counted_next}
use Rattle.spec_legal.proofs.Priority.{within_tasks, up_counted}
use Rattle.spec_laws.specs.CountedBack.{ticks_in, is_up_since, ticks_up, ticks_in_run, each_with_past}
use Rattle.spec_laws.proofs.Moves.{IsClock, clock_next, moves, ticks_on}

-- ---- a change that keeps the start

abbrev HasStart : Option TaskState → TaskState → Type 0
HasStart o v = (u : TaskState) × (o ≡ Some u) × (v.start ≡ u.start)

with_rank_start : (n : ℕ) (o : Option TaskState) (v : TaskState) → with_rank n o ≡ Some v → HasStart o v
with_rank_start n None v h = absurd (cc h)
with_rank_start n (Some u) v h = (u, refl, sym (ap (λ (o : Option TaskState). (unwrap_or o u).start) h))

region_start : (n : ℕ) (o : Option TaskState) (v : TaskState) → with_region_count n o ≡ Some v → HasStart o v
region_start n None v h = absurd (cc h)
region_start n (Some u) v h = (u, refl, sym (ap (λ (o : Option TaskState). (unwrap_or o u).start) h))

cps_start : (b : Bool) (o : Option TaskState) (v : TaskState) → with_cps_open b o ≡ Some v → HasStart o v
cps_start b None v h = absurd (cc h)
cps_start b (Some u) v h = (u, refl, sym (ap (λ (o : Option TaskState). (unwrap_or o u).start) h))

mark_start : (m : TraceMark) (o : Option TaskState) (v : TaskState) → marked_state m o ≡ Some v → HasStart o v
mark_start Plain o v h = (v, h, refl)
mark_start Up o v h = region_start _ o v h
mark_start Down o v h = region_start _ o v h
mark_start (Trigger t) o v h = (v, h, refl)
mark_start Copy o v h = (v, h, refl)
mark_start Sync o v h = cps_start true o v h
mark_start CopyEnd o v h = (v, h, refl)
mark_start SyncEnd o v h = cps_start false o v h

pub mark_downs : (m : TraceMark) (c : Counted) → (marked m c).downs ≡ c.downs
mark_downs Plain c = refl
mark_downs Up c = refl
mark_downs Down c = refl
mark_downs (Trigger t) c = refl
mark_downs Copy c = refl
mark_downs Sync c = refl
mark_downs CopyEnd c = refl
mark_downs SyncEnd c = refl

-- ---- a place of a run with its past

pub record Stands (p : Project) (s : State) (cs : List Counted) (past : List CountedEvent) : Type 0 where
  pub place : IsPlace p s cs
  pub ages : (t : ℕ) (u : TaskState) → state_of s.table t ≡ Some u → u.start + ticks_up t cs past ≡ s.tick
  pub clock : IsClock s (ticks_in_run past)

module _ (p : Project) (valid : IsValidProject p) where
  module _ (s : State) (e : Event) (cs : List Counted) (ns : List Numbers) (past : List CountedEvent) (h : Stands p s cs past) (t : ℕ) (v : TaskState) where
    abbrev here : CountedEvent
    here = place p s cs ns e

    abbrev later : State
    later = (step s e).state

    abbrev counts : List Counted
    counts = counts_next p valid s e cs

    abbrev was : Counted
    was = slice_index_or cs t uncounted

    abbrev now : Counted
    now = slice_index_or counts t uncounted

    abbrev IsAged : Type 0
    IsAged = v.start + ticks_up t counts (here ∷ past) ≡ later.tick

    kept : HasStart (state_of s.table t) v → now.downs ≡ was.downs → IsAged
    kept u d =
        let up = up_counted p valid s cs h.place t u.0 u.1 in
        let since = and_from was.up (nat_eq was.downs now.downs) up (eq-eqb was.downs now.downs (sym d)) in
        let old = h.ages t u.0 u.1 in
        let tick = ticks_on p s e in
        let start = u.2 in
        ap (λ b. v.start + cond b (ticks_in here.event + ticks_up t cs past) 0) since
        ∙ (let z : v.start + (ticks_in here.event + ticks_up t cs past) ≡ later.tick = omega arith in z)

    anew : v.start ≡ later.tick → is_up_since t counts here ≡ false → IsAged
    anew start none =
        ap (λ b. v.start + cond b (ticks_in here.event + ticks_up t cs past) 0) none ∙ (let z : v.start + 0 ≡ later.tick = omega arith in z)

    by_change : (c : Change) → t < length p.tasks → Makes s e t c → (changed c (view_of s t)).state ≡ Some v → now ≡ counts_after c was → IsAged
    by_change Stays l m g k = kept (v, g, refl) (ap (λ (c : Counted). c.downs) k)
    by_change (Rotates n) l m g k = kept (with_rank_start n (state_of s.table t) v g) (ap (λ (c : Counted). c.downs) k)
    by_change GoesDown l m g k = absurd (cc g)
    by_change (ComesUp tick rank) l m g k =
        anew (sym (ap (λ (o : Option TaskState). (unwrap_or o v).start) g) ∙ (m.1.start ∙ sym (event_moves s e).tick))
        (ap (λ b. b && nat_eq was.downs now.downs) ((h.place.mirrors.shows t l).up ∙ ap is_some m.0))
    by_change (Restarts tick rank) l m g k =
        let u = chosen_up s.table t m.0.chosen in
        let up = up_counted p valid s cs h.place t u.0 u.1 in
        let more : now.downs ≡ was.downs + 1 = ap (λ (c : Counted). c.downs) k ∙ ap (λ b. cond b (was.downs + 1) was.downs) up in
        anew (sym (ap (λ (o : Option TaskState). (unwrap_or o v).start) g) ∙ (m.1.start ∙ sym (event_moves s e).tick))
        (ap (λ b. b && nat_eq was.downs now.downs) up ∙ ne_eqb was.downs now.downs (λ q. (omega arith)))
    by_change (Begins scan) l m g k = kept (v, g, refl) (ap (λ (c : Counted). c.downs) k)
    by_change (Goes mark scan) l m g k = kept (mark_start mark (state_of s.table t) v g) (ap (λ (c : Counted). c.downs) k ∙ mark_downs mark was)
    by_change Ends l m g k = kept (region_start 0 (state_of s.table t) v g) (ap (λ (c : Counted). c.downs) k)

    aged : state_of later.table t ≡ Some v → IsAged
    aged g =
        let l = within_tasks p valid later counts (place_next p valid s e cs h.place) t v g in
        let known = known_at p s h.place.reached in
        let x = happens p s e t known l in
        by_change x.change l x.makes (sym (ap (λ w. w.state) x.view) ∙ g) (counted_next p valid s e cs t known h.place.mirrors l x)

  pub stands_next : (s : State) (e : Event) (cs : List Counted) (ns : List Numbers) (past : List CountedEvent) → Stands p s cs past → Stands p (step s e).state (counts_next p valid s e cs) (place p s cs ns e ∷ past)
  stands_next s e cs ns past h = record {
    place = place_next p valid s e cs h.place;
    ages = λ t v g. aged s e cs ns past h t v g;
    clock = clock_next s (step s e).state (place p s cs ns e) past (moves p s e) (ticks_on p s e) h.clock;
  }

  pub stands_first : Stands p (start p) (map (λ d. uncounted) (audit_tasks p.tasks p.schedule)) []
  stands_first = record {
    place = first_place p valid;
    ages = λ t u g. (let down : state_of (start p).table t ≡ None = ap (λ w. w.state) (start_view p t) in absurd (cc (sym down ∙ g)));
    clock = λ e. (let f : Program ≡ Run → ⊥ = λ x. cc in f e);
  }

  -- a test that holds at each place of a run, with its past
  pub all_with_past : (test : List CountedEvent → CountedEvent → Bool) → ((s : State) (e : Event) (cs : List Counted) (ns : List Numbers) (past : List CountedEvent) → Stands p s cs past → test past (place p s cs ns e) ≡ true) → (s : State) (es : List Event) (cs : List Counted) (ns : List Numbers) (past : List CountedEvent) → Stands p s cs past → each_with_past test past (places_from p s cs ns es) ≡ true
  all_with_past test each s [] cs ns past h = refl
  all_with_past test each s (e ∷ es) cs ns past h =
      and_from (test past (place p s cs ns e)) _ (each s e cs ns past h)
      (all_with_past test each (step s e).state es (counts_next p valid s e cs) (edited_all (seen p (step s e).answer) ns) (place p s cs ns e ∷ past) (stands_next s e cs ns past h))

  pub all_of_run : (test : List CountedEvent → CountedEvent → Bool) → ((s : State) (e : Event) (cs : List Counted) (ns : List Numbers) (past : List CountedEvent) → Stands p s cs past → test past (place p s cs ns e) ≡ true) → (journal : List Event) → each_with_past test [] (counted_run p journal) ≡ true
  all_of_run test each journal =
      all_with_past test each (start p) journal (map (λ d. uncounted) (audit_tasks p.tasks p.schedule)) (replicate (length p.programs) unedited) [] stands_first
