-- What each answer of a turn leaves of a recorder.
use Rattle.std.proofs.Common.{◌≡◌, ℕ, ◌+◌, ◌≤◌, true, false, List, [], ◌∷◌, ◌++◌, length, Option, Some, None, refl, sym, ◌∙◌, ap, subst, length-append}
use Rattle.std.specs.Prelude.{IfSome, IsSomeAnd, IsTrue}
use Rattle.std.proofs.lemmas.Option.{same_Some}
use Rattle.spec_machine.specs.declared.event.Action.{Action}
use Rattle.spec_machine.specs.declared.event.Event.{Event}
use Rattle.spec_machine.specs.declared.event.Event.TheVariants.{Act}
use Rattle.spec_machine.specs.Events.{is_accept, steps_of}
use Rattle.spec_machine.specs.Project.{Project}
use Rattle.spec_text.specs.Scripts.{Script}
use Rattle.spec_lanes.specs.Turns.{due_action, is_spent, paced_step, most_events}
use Rattle.spec_lanes.specs.Served.{IsServed}
use Rattle.spec_lanes.specs.Laws.{with_one_more}
use Rattle.spec_lanes.proofs.Acting.{due_actions_serve}
use Rattle.spec_lanes.proofs.Stepping.{steps_serve}
use Rattle.spec_lanes.proofs.Serving.{none_is_left}
use Rattle.lgx_record.specs.RecordingView.{RecordingView}
use Rattle.lgx_record.specs.Records.{Records}
use Rattle.lgx_lanes.specs.declared.turn.Turn.{Turn}
use Rattle.lgx_lanes.specs.declared.turn.Turn.TheVariants.{Did, Helped, Done, Memory}
use Rattle.lgx_lanes.specs.Turns.{MatchTurn}
use Rattle.lgx_shared.specs.RecorderView.{RecorderView, view_of}
use Rattle.lgx_shared.specs.Follows.{journal_of, Follows, IsRecorder}
use Rattle.lgx_shared.specs.Serves.{Makes, Serves}
use Rattle.lgx_shared.proofs.Numbers.{room_after}

-- ---- what a recorder follows

-- a recorder with a script follows it
pub its_script : (v : RecorderView) (script : Script) (i : IsRecorder v) → v.script ≡ Some script → Follows i.project script v
its_script v script i made = subst (λ (o : Option Script). IfSome o (λ s. Follows i.project s v)) made i.follows

-- one that follows a script is a recorder
pub recorder_of : (project : Project) (script : Script) (v : RecorderView) → Follows project script v → IsRecorder v
recorder_of project script v f = record {
  project = project;
  records = f.records;
  follows = subst (λ (o : Option Script). IfSome o (λ s. Follows project s v)) (sym f.made) f;
}

-- the script that it follows is its own
pub same_script : (project : Project) (script other : Script) (v : RecorderView) → Follows project script v → v.script ≡ Some other → script ≡ other
same_script project script other v f made = same_Some script other (sym f.made ∙ made)

-- ---- events more

module _ (project : Project) (script : Script) (v : RecorderView) (f : Follows project script v) where
  abbrev after : RecordingView → List ℕ → RecorderView
  after r counts = view_of r v.script counts v.ran v.history

  -- these events were recorded, and the journal is served with these counts
  followed : (r : RecordingView) (counts : List ℕ) (events : List Event) → Records r project (journal_of v ++ events) → IsServed project script counts (journal_of v ++ events) → v.recording.journal.spare ≤ r.journal.spare + length events → Follows project script (after r counts)
  followed r counts events records served spare =
      let journal = records.journal in
      record {
        made = f.made;
        records = subst (λ (es : List Event). Records r project es) (sym journal) records;
        served = subst (λ (es : List Event). IsServed project script counts es) (sym journal) served;
        room = room_after (most_events script + 2) (length (journal_of v)) (length events) (length (journal_of v ++ events)) (length r.journal.events) v.recording.journal.spare r.journal.spare
            (ap (λ (es : List Event). length es) journal) (length-append (journal_of v) events) f.room spare;
      }

  made_by_turn : (r : RecordingView) (counts : List ℕ) (events : List Event) → Records r project (journal_of v ++ events) → Makes v (after r counts) events counts
  made_by_turn r counts events records = record { journal = records.journal; counts = refl; script = refl; ran = refl }

  -- what is to be shown of a turn
  pub record IsServedTurn (lane : ℕ) (turn : Turn) (new : RecorderView) : Type 0 where
    pub follows : Follows project script new
    pub serves : Serves project script lane v turn new

  -- ---- an action

  abbrev Recorded : RecordingView → List Event → Type 0
  Recorded r events = (p : Project) (es : List Event) → Records v.recording p es → Records r p (es ++ events)

  pub acted : (turn : Turn) (lane : ℕ) (a : Action) (r : RecordingView) (counts : List ℕ) → due_action project script (journal_of v) lane ≡ Some a → MatchTurn turn (Recorded r (Act lane a ∷ []) × (counts ≡ with_one_more v.counts lane)) ⊥ ⊥ (IsTrue (is_accept a) × (r ≡ v.recording) × (counts ≡ v.counts)) → v.recording.journal.spare ≤ r.journal.spare + 1 → IsServedTurn lane turn (after r counts)
  acted Did lane a r counts due m spare =
      let events = Act lane a ∷ [] in
      let served = (due_actions_serve project script v.counts (journal_of v) lane a f.served due).served in
      let records = m.0 project (journal_of v) f.records in
      subst (λ (ns : List ℕ). IsServedTurn lane Did (after r ns)) (sym m.1)
      (record {
        follows = followed r (with_one_more v.counts lane) events records served spare;
        serves = subst (λ (o : Option Action). IsSomeAnd o (λ action. Makes v (after r (with_one_more v.counts lane)) (Act lane action ∷ []) (with_one_more v.counts lane))) (sym due) (made_by_turn r (with_one_more v.counts lane) events records);
      })
  acted Helped lane a r counts due m spare = absurd m
  acted Done lane a r counts due m spare = absurd m
  acted Memory lane a r counts due m spare =
      subst (λ (ns : List ℕ). IsServedTurn lane Memory (after r ns)) (sym m.2)
      (subst (λ (x : RecordingView). IsServedTurn lane Memory (after x v.counts)) (sym m.1)
      (record {
        follows = f;
        serves = (subst (λ (o : Option Action). IsSomeAnd o (λ action. IsTrue (is_accept action))) (sym due) m.0, refl);
      }))

  -- ---- a step, or nothing

  abbrev step_after : ℕ → List Event
  step_after steps = paced_step script.pace (steps + 1)

  abbrev Steps : RecordingView → Type 0
  Steps r = (p : Project) (es : List Event) → Records v.recording p es → (is_spent p script es ≡ false) × Records r p (es ++ step_after v.recording.steps)

  abbrev IsSpentAlready : Type 0
  IsSpentAlready = (p : Project) (es : List Event) → Records v.recording p es → is_spent p script es ≡ true

  pub helped : (turn : Turn) (lane : ℕ) (r : RecordingView) → due_action project script (journal_of v) lane ≡ None → MatchTurn turn ⊥ (Steps r) (IsSpentAlready × (r ≡ v.recording)) ⊥ → v.recording.journal.spare ≤ r.journal.spare + length (step_after v.recording.steps) → IsServedTurn lane turn (after r v.counts)
  helped Did lane r due m spare = absurd m
  helped Helped lane r due m spare =
      let told = m project (journal_of v) f.records in
      let events = step_after (steps_of (journal_of v)) in
      let records = subst (λ n. Records r project (journal_of v ++ step_after n)) f.records.steps told.1 in
      let room = subst (λ n. v.recording.journal.spare ≤ r.journal.spare + length (step_after n)) f.records.steps spare in
      record {
        follows = followed r v.counts events records (steps_serve project script v.counts (journal_of v) f.served told.0) room;
        serves = (due, told.0, made_by_turn r v.counts events records);
      }
  helped Done lane r due m spare =
      let spent = m.0 project (journal_of v) f.records in
      let left = none_is_left project script v.counts (journal_of v) lane f.served due spent in
      subst (λ (x : RecordingView). IsServedTurn lane Done (after x v.counts)) (sym m.1)
      (record { follows = f; serves = (due, spent, left.none_left, refl) })
  helped Memory lane r due m spare = absurd m
