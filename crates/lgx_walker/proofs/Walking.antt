-- What an action and a step make of a walker.
use Rattle.std.proofs.Common.{◌≡◌, ℕ, ◌+◌, ◌%◌, ◌<◌, Bool, true, false, List, [], ◌∷◌, ◌++◌, length, get_or, Option, Some, None, sym, ◌∙◌, ap, subst, arith}
use Rattle.std.specs.Prelude.{IsTrue, nat_eq, slice_get}
use Rattle.spec_machine.specs.declared.event.Action.{Action}
use Rattle.spec_machine.specs.declared.event.Event.{Event}
use Rattle.spec_machine.specs.declared.event.Event.TheVariants.{Cpu, Tick, Act}
use Rattle.spec_machine.specs.Events.{steps_of}
use Rattle.spec_machine.specs.Machine.{step, run}
use Rattle.spec_machine.specs.Project.{Project}
use Rattle.spec_text.specs.Scripts.{Script, is_script}
use Rattle.spec_lanes.specs.Turns.{lane_of, done_by, ticks_of, due_action, is_spent, paced_step}
use Rattle.spec_lanes.specs.Served.{IsServed}
use Rattle.spec_lanes.specs.Laws.{with_one_more}
use Rattle.spec_lanes.proofs.Appended.{steps_on}
use Rattle.spec_lanes.proofs.Scripts.{lane_within, next_due}
use Rattle.spec_explore.specs.declared.question.Question.{Question}
use Rattle.spec_explore.specs.Questions.{holds_some, IsFirstLine, InWindow}
use Rattle.spec_explore.specs.Layers.{AreClear, IsOfLayer}
use Rattle.spec_explore.proofs.Layers.{paced_one}
use Rattle.spec_explore.proofs.Partials.{partial_journals_are_served}
use Rattle.lgx_core.specs.Represents.{StandsFor}
use Rattle.lgx_explore.specs.declared.node.Next.{Next}
use Rattle.lgx_explore.specs.declared.node.Next.TheVariants as next
use Rattle.lgx_explore.specs.declared.node.Stop.{Stop}
use Rattle.lgx_explore.specs.declared.node.Stop.TheVariants as stops
use Rattle.lgx_explore.specs.Shown.{IfShown, AnAction, AStep, ATick, IsAction}
use Rattle.lgx_explore.specs.Nodes.{StandsAlso, NodeShows, NoneIsDue, NoneIsStepped, IsActed, IsStepped}
use Rattle.lgx_walker.specs.declared.trail.Placed.{Placed}
use Rattle.lgx_walker.specs.declared.trail.Trail.{Trail}
use Rattle.lgx_walker.specs.declared.walker.Walker.{Walker}
use Rattle.lgx_walker.specs.Late.{SomeIsLate, NoneIsLate}
use Rattle.lgx_walker.specs.Lines.{step_events, StepShows}
use Rattle.lgx_walker.specs.Trails.{trail_of, act_of, with_action, journal_of}
use Rattle.lgx_walker.specs.Walks.{Watches, Walks, walked}
use Rattle.lgx_walker.proofs.Trailed.{one_action_more, one_step_more}
use Rattle.lgx_walker.proofs.Windows.{CountsAre, counts_are, action_leaves, action_stays, tick_leaves, step_stays}

-- a pair of what is the same
pairs : {A B : Type 0} {a c : A} {b d : B} → a ≡ c → b ≡ d → ◌≡◌ {A = A × B} (a, b) (c, d)
pairs e f k = (e k, f k)

-- the lane's due action as an event, by the counts
pub placed_act : (p : Project) (script : Script) (lane : ℕ) (counts : List ℕ) (journal : List Event) (action : Action) → CountsAre script counts journal → due_action p script journal lane ≡ Some action → act_of lane (slice_get (lane_of script lane) (get_or counts lane 0)) ≡ Act lane action ∷ []
placed_act p script lane counts journal action are due =
    let n = next_due p script journal lane action due in
    let within = lane_within script lane (done_by lane journal) n.timed n.next in
    ap (λ i. act_of lane (slice_get (lane_of script lane) i)) (are lane within)
    ∙ (ap (act_of lane) n.next ∙ ap (λ (a : Action). Act lane a ∷ []) n.is)

-- of what a stop shows, each time what follows
pub shown_by : (stop : Stop) {P Q : Next → ℕ → Type 0} → ((made : Next) (line : ℕ) → P made line → Q made line) → IfShown stop P → IfShown stop Q
shown_by (stops.Shown made line) f h = f made line h
shown_by stops.Limit f h = tt
shown_by stops.Memory f h = tt

-- ---- the same walker

pub stands_also : (walker other : Walker) → walker.trail.steps ≡ other.trail.steps → walker.trail.counts ≡ other.trail.counts → walker.watcher.controller ≡ other.watcher.controller → walker.watcher.places ≡ other.watcher.places → StandsAlso Walks walker other
stands_also walker other steps counts controller places p cs journal w = record {
  counts_are = counts ∙ w.counts_are;
  steps_are = steps ∙ w.steps_are;
  watches = record {
    places_are = places ∙ w.watches.places_are;
    stands_for = subst (λ c. StandsFor p journal c) (sym controller) w.watches.stands_for;
  };
}

module _ (script : Script) (q : Question) (proper : IsTrue (is_script script)) (before : Walker) where
  served_now : (p : Project) (k : ℕ) (counts : List ℕ) (journal : List Event) → IsOfLayer p script q k counts journal → Walks before p counts journal → IsServed p script counts journal
  served_now p k counts journal layer w = partial_journals_are_served p script counts journal w.watches.stands_for.valid proper layer.partial

  -- a lane's count is told by the walker's counts
  pub count_told : (p : Project) (k : ℕ) (counts : List ℕ) (journal : List Event) → IsOfLayer p script q k counts journal → Walks before p counts journal → CountsAre script before.trail.counts journal
  count_told p k counts journal layer w = subst (λ (cs : List ℕ). CountsAre script cs journal) (sym w.counts_are) (counts_are p script counts journal layer.partial)

  -- ---- an action

  module _ (lane : ℕ) where
    -- what the code's due action tells
    abbrev pub ToldDue : Option Action → Type 0
    ToldDue o = (p : Project) (journal : List Event) → Watches before.watcher p journal → (lane < length script.lanes → get_or before.trail.counts lane 0 ≡ done_by lane journal) → o ≡ due_action p script journal lane

    pub told_due : (o : Option Action) (done : ℕ) (counts : List ℕ) → counts ≡ before.trail.counts → done ≡ get_or counts lane 0 → ((p : Project) (journal : List Event) → StandsFor p journal before.watcher.controller → (lane < length script.lanes → done ≡ done_by lane journal) → o ≡ due_action p script journal lane) → ToldDue o
    told_due o done counts same is due p journal w told = due p journal w.stands_for (λ lt. is ∙ (ap (λ (cs : List ℕ). get_or cs lane 0) same ∙ told lt))

    -- of the counts of the trail with the action
    counts_on : (trail : Trail) (counts : List ℕ) → trail ≡ with_action before.trail lane → counts ≡ trail.counts → counts ≡ with_one_more before.trail.counts lane
    counts_on trail counts more same = same ∙ ap (λ (t : Trail). t.counts) more

    pub counted_late : (trail : Trail) (counts : List ℕ) → trail ≡ with_action before.trail lane → counts ≡ trail.counts → ((p : Project) (journal : List Event) → Watches before.watcher p journal → SomeIsLate q.within script counts (ticks_of journal)) → (p : Project) (journal : List Event) → Watches before.watcher p journal → SomeIsLate q.within script (with_one_more before.trail.counts lane) (ticks_of journal)
    counted_late trail counts more same late p journal w = subst (λ (cs : List ℕ). SomeIsLate q.within script cs (ticks_of journal)) (counts_on trail counts more same) (late p journal w)

    pub counted_in_time : (trail : Trail) (counts : List ℕ) → trail ≡ with_action before.trail lane → counts ≡ trail.counts → ((p : Project) (journal : List Event) → Watches before.watcher p journal → NoneIsLate q.within script counts (ticks_of journal)) → (p : Project) (journal : List Event) → Watches before.watcher p journal → NoneIsLate q.within script (with_one_more before.trail.counts lane) (ticks_of journal)
    counted_in_time trail counts more same none p journal w = subst (λ (cs : List ℕ). NoneIsLate q.within script cs (ticks_of journal)) (counts_on trail counts more same) (none p journal w)

    pub none_due : (o : Option Action) → o ≡ None → ToldDue o → NoneIsDue Walks script q before lane
    none_due o none told p k counts journal layer w action due window =
        absurd (let e : None ≡ Some action = sym none ∙ (told p journal w.watches (λ lt. count_told p k counts journal layer w lane lt) ∙ due) in cc e)

    due_is : (o : Option Action) (made : Action) → o ≡ Some made → ToldDue o → (p : Project) (k : ℕ) (counts : List ℕ) (journal : List Event) → IsOfLayer p script q k counts journal → Walks before p counts journal → due_action p script journal lane ≡ Some made
    due_is o made some told p k counts journal layer w = sym (told p journal w.watches (λ lt. count_told p k counts journal layer w lane lt)) ∙ some

    -- the counts after it
    counts_after : (counts : List ℕ) → before.trail.counts ≡ counts → with_one_more before.trail.counts lane ≡ with_one_more counts lane
    counts_after counts are = ap (λ (cs : List ℕ). with_one_more cs lane) are

    pub late_action : (o : Option Action) (made : Action) → o ≡ Some made → ToldDue o → ((p : Project) (journal : List Event) → Watches before.watcher p journal → SomeIsLate q.within script (with_one_more before.trail.counts lane) (ticks_of journal)) → NoneIsDue Walks script q before lane
    late_action o made some told late p k counts journal layer w action due window =
        action_leaves p script counts journal (served_now p k counts journal layer w) q.within lane action due
        (subst (λ (cs : List ℕ). SomeIsLate q.within script cs (ticks_of journal)) (counts_after counts w.counts_are) (late p journal w.watches)) window

    acted_kept : (p : Project) (counts : List ℕ) (journal : List Event) (after : Walker) (action : Action) → CountsAre script before.trail.counts journal → due_action p script journal lane ≡ Some action → after.trail ≡ with_action before.trail lane → walked before script ≡ (counts, journal) → walked after script ≡ (with_one_more counts lane, journal ++ Act lane action ∷ [])
    acted_kept p counts journal after action are due trail kept =
        let t = before.trail in
        ap (λ x. (x.counts, journal_of script x.placed x.since)) trail
        ∙ pairs (counts_after counts (ap (λ x. x.0) kept))
        (one_action_more script t.placed (record { lane = lane; index = get_or t.counts lane 0; since = t.since })
        ∙ (ap (λ (xs : List Event). xs ++ act_of lane (slice_get (lane_of script lane) (get_or t.counts lane 0))) (ap (λ x. x.1) kept)
        ∙ ap (λ (xs : List Event). journal ++ xs) (placed_act p script lane before.trail.counts journal action are due)))

    module _ (o : Option Action) (made : Action) (some : o ≡ Some made) (told : ToldDue o) where
      pub action_made : (after : Walker) → after.trail ≡ with_action before.trail lane → ((p : Project) (journal : List Event) → Watches before.watcher p journal → NoneIsLate q.within script (with_one_more before.trail.counts lane) (ticks_of journal)) → ((p : Project) (journal : List Event) → Watches before.watcher p journal → Watches after.watcher p (journal ++ Act lane made ∷ [])) → ((p : Project) (journal : List Event) → Watches before.watcher p journal → holds_some p q (step (run p journal) (Act lane made)) ≡ false) → IsActed Walks walked script q after before lane
      action_made after trail none watches clear p k counts journal layer w =
          let due = due_is o made some told p k counts journal layer w in
          let on = steps_on journal (Act lane made ∷ []) in
          record {
            action = made;
            due = due;
            made = record {
              window = action_stays p script counts journal (served_now p k counts journal layer w) q.within lane made due layer.window
                  (subst (λ (cs : List ℕ). NoneIsLate q.within script cs (ticks_of journal)) (counts_after counts w.counts_are) (none p journal w.watches));
              clear = (clear p journal w.watches, tt);
              stands_for = record {
                counts_are = ap (λ x. x.counts) trail ∙ counts_after counts w.counts_are;
                steps_are = ap (λ x. x.steps) trail ∙ (w.steps_are ∙ (let e : steps_of journal ≡ steps_of (journal ++ Act lane made ∷ []) = omega arith in e));
                watches = watches p journal w.watches;
              };
              kept = acted_kept p counts journal after made (count_told p k counts journal layer w) due trail;
            };
          }

      pub action_shows : ((p : Project) (journal : List Event) → Watches before.watcher p journal → NoneIsLate q.within script (with_one_more before.trail.counts lane) (ticks_of journal)) → (event : Next) (line : ℕ) → (event ≡ next.Action lane) × ((p : Project) (journal : List Event) → Watches before.watcher p journal → IsFirstLine p q (step (run p journal) (Act lane made)) line) → IsAction event × NodeShows Walks script q before event line
      action_shows none event line shown =
          subst (λ (x : Next). IsAction x × NodeShows Walks script q before x line) (sym shown.0) (
            tt,
            λ p k counts journal layer w.
                let due = due_is o made some told p k counts journal layer w in
                record {
                  before = journal;
                  event = Act lane made;
                  may = AnAction lane made due
                      (action_stays p script counts journal (served_now p k counts journal layer w) q.within lane made due layer.window
                      (subst (λ (cs : List ℕ). NoneIsLate q.within script cs (ticks_of journal)) (counts_after counts w.counts_are) (none p journal w.watches)));
                  first = shown.1 p journal w.watches;
                },
          )

  -- ---- a step

  -- what the code's test of the steps tells
  abbrev pub ToldSpent : Bool → Type 0
  ToldSpent b = (p : Project) (counts : List ℕ) (journal : List Event) → Walks before p counts journal → b ≡ is_spent p script journal

  pub spent_steps : (b : Bool) → b ≡ true → ToldSpent b → NoneIsStepped Walks script q before
  spent_steps b spent told p k counts journal layer w unspent window =
      absurd (let e : true ≡ false = sym spent ∙ (told p counts journal w ∙ unspent) in cc e)

  module _ (b : Bool) (unspent : b ≡ false) (told : ToldSpent b) (has_tick : Bool) (paced : nat_eq ((before.trail.steps + 1) % script.pace) 0 ≡ has_tick) where
    unspent_now : (p : Project) (counts : List ℕ) (journal : List Event) → Walks before p counts journal → is_spent p script journal ≡ false
    unspent_now p counts journal w = sym (told p counts journal w) ∙ unspent

    step_is : (p : Project) (counts : List ℕ) (journal : List Event) → Walks before p counts journal → paced_step script.pace (steps_of journal + 1) ≡ step_events has_tick
    step_is p counts journal w = ap (λ n. paced_step script.pace (n + 1)) (sym w.steps_are) ∙ ap step_events paced

    pub late_step : has_tick ≡ true → ((p : Project) (journal : List Event) → Watches before.watcher p journal → SomeIsLate q.within script before.trail.counts (ticks_of journal + 1)) → NoneIsStepped Walks script q before
    late_step ticks late p k counts journal layer w unspent window =
        tick_leaves p script counts journal (served_now p k counts journal layer w) q.within unspent (step_is p counts journal w ∙ ap step_events ticks)
        (subst (λ (cs : List ℕ). SomeIsLate q.within script cs (ticks_of journal + 1)) w.counts_are (late p journal w.watches)) window

    -- no tick makes an action late
    abbrev pub TicksInTime : Type 0
    TicksInTime = has_tick ≡ true → (p : Project) (journal : List Event) → Watches before.watcher p journal → NoneIsLate q.within script before.trail.counts (ticks_of journal + 1)

    window_after : TicksInTime → (p : Project) (k : ℕ) (counts : List ℕ) (journal : List Event) → IsOfLayer p script q k counts journal → Walks before p counts journal → InWindow q.within script (journal ++ step_events has_tick)
    window_after none p k counts journal layer w =
        step_stays p script counts journal (served_now p k counts journal layer w) q.within (unspent_now p counts journal w) has_tick (step_is p counts journal w) layer.window
        (λ ticks. subst (λ (cs : List ℕ). NoneIsLate q.within script cs (ticks_of journal + 1)) w.counts_are (none ticks p journal w.watches))

    stepped_kept : (p : Project) (counts : List ℕ) (journal : List Event) (after : Walker) → after.trail ≡ trail_of before.trail.counts before.trail.placed (before.trail.steps + 1) (before.trail.since + 1) → walked before script ≡ (counts, journal) → walked after script ≡ (counts, journal ++ paced_step script.pace (steps_of journal + 1))
    stepped_kept p counts journal after trail kept =
        let t = before.trail in
        ap (λ x. (x.counts, journal_of script x.placed x.since)) trail
        ∙ pairs (ap (λ x. x.0) kept)
        (more t.placed t.since
        ∙ ap (λ (xs : List Event). xs ++ paced_step script.pace (steps_of xs + 1)) (ap (λ x. x.1) kept))
      where
        more : (ms : List Placed) (n : ℕ) → journal_of script ms (n + 1) ≡ journal_of script ms n ++ paced_step script.pace (steps_of (journal_of script ms n) + 1)
        more ms n = one_step_more script _ n

    pub step_made : (after : Walker) → after.trail ≡ trail_of before.trail.counts before.trail.placed (before.trail.steps + 1) (before.trail.since + 1) → TicksInTime → ((p : Project) (journal : List Event) → Watches before.watcher p journal → Watches after.watcher p (journal ++ step_events has_tick)) → ((p : Project) (journal : List Event) → Watches before.watcher p journal → AreClear p q (run p journal) (step_events has_tick)) → IsStepped Walks walked script q after before
    step_made after trail none watches clear p k counts journal layer w =
        let is = step_is p counts journal w in
        let on = steps_on journal (paced_step script.pace (steps_of journal + 1)) in
        let one = paced_one script.pace (steps_of journal + 1) in
        record {
          unspent = unspent_now p counts journal w;
          made = record {
            window = subst (λ (xs : List Event). InWindow q.within script (journal ++ xs)) (sym is) (window_after none p k counts journal layer w);
            clear = subst (AreClear p q (run p journal)) (sym is) (clear p journal w.watches);
            stands_for = record {
              counts_are = ap (λ x. x.counts) trail ∙ w.counts_are;
              steps_are = ap (λ x. x.steps) trail ∙ (ap (λ n. n + 1) w.steps_are ∙ (let e : steps_of journal + 1 ≡ steps_of (journal ++ paced_step script.pace (steps_of journal + 1)) = omega arith in e));
              watches = subst (λ (xs : List Event). Watches after.watcher p (journal ++ xs)) (sym is) (watches p journal w.watches);
            };
            kept = stepped_kept p counts journal after trail;
          };
        }

    pub step_shows : TicksInTime → (event : Next) (line : ℕ) → ((p : Project) (journal : List Event) → Watches before.watcher p journal → StepShows p q journal has_tick event line) → NodeShows Walks script q before event line
    step_shows none (next.Action lane) line shown p k counts journal layer w = absurd (shown p journal w.watches)
    step_shows none next.Step line shown p k counts journal layer w =
        let is = step_is p counts journal w in
        record {
          before = journal;
          event = Cpu;
          may = AStep (unspent_now p counts journal w) (subst (λ (xs : List Event). InWindow q.within script (journal ++ xs)) (sym is) (window_after none p k counts journal layer w));
          first = shown p journal w.watches;
        }
    step_shows none next.Tick line shown p k counts journal layer w =
        let s = shown p journal w.watches in
        let two = step_is p counts journal w ∙ ap step_events s.0 in
        record {
          before = journal ++ Cpu ∷ [];
          event = Tick;
          may = ATick (unspent_now p counts journal w) two (subst (λ (x : Bool). InWindow q.within script (journal ++ step_events x)) s.0 (window_after none p k counts journal layer w));
          first = s.1;
        }
