-- A lane's actions in the journal, by the counts of the lanes.
use Rattle.std.proofs.Common.{◌≡◌, ℕ, ◌<◌, ◌≤◌, inl, inr, true, cond, List, [], length, get_or, Option, Some, None, refl, sym, ◌∙◌, ap, subst, arith}
use Rattle.std.specs.Prelude.{sum, IsSomeAnd, IsTrue}
use Rattle.std.proofs.lemmas.Bool.{cases_lt, lt-ltb, le-ltb}
use Rattle.std.proofs.lemmas.List.{get_or_past}
use Rattle.spec_machine.specs.declared.event.Action.{Action}
use Rattle.spec_machine.specs.declared.event.Event.{Event}
use Rattle.spec_machine.specs.Events.{is_accept, steps_of}
use Rattle.spec_machine.specs.Project.{Project}
use Rattle.spec_text.specs.declared.script.Timed.{Timed}
use Rattle.spec_text.specs.Scripts.{Script}
use Rattle.spec_lanes.specs.Laws.{opening}
use Rattle.spec_lanes.specs.Turns.{lane_of, done_by, ticks_of, due_action, is_spent, IsAcceptAt}
use Rattle.spec_lanes.proofs.LaneLists.{did_long}
use Rattle.spec_lanes.proofs.Scripts.{count_is, lane_within, next_due}
use Rattle.spec_lanes.proofs.Serving.{none_is_left}
use Rattle.lgx_lanes.specs.Progress.{Progress, IsUnderWay}
use Rattle.lgx_lanes.specs.Seen.{done_in, IsSeen, HasSeen, front_view}
use Rattle.lgx_lanes.proofs.Numbers.{only_one}

done_within : (script : Script) (lane : ℕ) (events : List Event) → lane < length script.lanes → done_in script lane events ≡ done_by lane events
unfolding done_in
done_within script lane events lt = ap (λ b. cond b (done_by lane events) 0) (lt-ltb lane (length script.lanes) lt)

done_past : (script : Script) (lane : ℕ) (events : List Event) → length script.lanes ≤ lane → done_in script lane events ≡ 0
unfolding done_in
done_past script lane events ge = ap (λ b. cond b (done_by lane events) 0) (le-ltb lane (length script.lanes) ge)

-- no action of a lane was made, and no processor step
pub nothing_made : (project : Project) (script : Script) (p : Progress) → IsUnderWay project script p → p.events ≡ opening → (sum p.counts ≡ 0) × (steps_of p.events ≡ 0)
nothing_made project script p f opened =
    only_one (length p.events) (sum p.counts) (steps_of p.events) (ticks_of p.events) (ap (λ (es : List Event). length es) opened) f.events

module _ (project : Project) (script : Script) (p : Progress) (f : IsUnderWay project script p) where
  pub long : length p.counts ≡ length script.lanes
  long = did_long p.events p.counts script.lanes f.partial.lanes

  -- they are the lane's count
  pub counted : (lane : ℕ) → done_in script lane p.events ≡ get_or p.counts lane 0
  counted lane =
      elim (cases_lt lane (length script.lanes)) [
        | inl lt ↦ done_within script lane p.events lt ∙ count_is project script p.counts p.events f lane lt
        | inr ge ↦ done_past script lane p.events ge ∙ sym (get_or_past p.counts lane 0 (omega (arith, ge, long)))
      ]

  -- if nothing is to be done for the lane, they are all of its actions
  pub all_counted : (lane : ℕ) → due_action project script p.events lane ≡ None → is_spent project script p.events ≡ true → done_in script lane p.events ≡ length (lane_of script lane)
  all_counted lane none spent =
      elim (cases_lt lane (length script.lanes)) [
        | inl lt ↦ done_within script lane p.events lt ∙ (none_is_left project script p.counts p.events lane f none spent).all_made lt
        | inr ge ↦ done_past script lane p.events ge ∙ sym (ap (λ (list : List Timed). length list) (get_or_past script.lanes lane [] ge))
      ]

  -- if an accept is due, it stands after them
  pub accept_at : (lane : ℕ) → IsSomeAnd (due_action project script p.events lane) (λ action. IsTrue (is_accept action)) → IsAcceptAt script lane (done_in script lane p.events)
  accept_at lane due = go (due_action project script p.events lane) refl due
    where
      go : (o : Option Action) → due_action project script p.events lane ≡ o → IsSomeAnd o (λ action. IsTrue (is_accept action)) → IsAcceptAt script lane (done_in script lane p.events)
      go None is m = absurd m
      go (Some a) is m =
          let n = next_due project script p.events lane a is in
          let lt = lane_within script lane (done_by lane p.events) n.timed n.next in
          subst (λ k. IsAcceptAt script lane k) (sym (done_within script lane p.events lt))
          (subst (λ (o : Option Timed). IsSomeAnd o (λ t. IsTrue (is_accept t.action))) (sym n.next) (subst (λ (x : Action). IsTrue (is_accept x)) (sym n.is) m))

-- what is seen, with the number of a lane's actions in it
pub has_seen : (project : Project) (script : Script) (lane actions : ℕ) (events : List Event) → IsSeen project script events → done_in script lane events ≡ actions → HasSeen project script (front_view lane actions events)
has_seen project script lane actions events s own = record {
  counts = s.counts;
  served = s.served;
  own = sym own ∙ counted project script (record { counts = s.counts; events = events }) s.served lane;
}
