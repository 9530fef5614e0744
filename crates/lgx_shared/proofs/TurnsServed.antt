-- A turn of a recorder, whichever project and script it follows.
use Rattle.std.proofs.Common.{◌≡◌, ℕ, ◌+◌, ◌<◌, ◌≤◌, true, false, List, [], ◌∷◌, ◌++◌, length, get_or, Option, Some, None, sym, ◌∙◌, subst}
use Rattle.std.specs.Prelude.{IsTrue}
use Rattle.spec_base.specs.declared.limits.TheConstants.{MAX_EVENTS}
use Rattle.spec_machine.specs.declared.event.Action.{Action}
use Rattle.spec_machine.specs.declared.event.Event.{Event}
use Rattle.spec_machine.specs.declared.event.Event.TheVariants.{Act}
use Rattle.spec_machine.specs.Events.{is_accept}
use Rattle.spec_machine.specs.Project.{Project}
use Rattle.spec_text.specs.Scripts.{Script}
use Rattle.spec_lanes.specs.Turns.{done_by, due_action, is_spent, paced_step}
use Rattle.spec_lanes.specs.Laws.{with_one_more}
use Rattle.spec_lanes.proofs.Scripts.{count_is}
use Rattle.lgx_core.specs.Represents.{StandsFor}
use Rattle.lgx_record.specs.RecordingView.{RecordingView}
use Rattle.lgx_record.specs.Records.{Records}
use Rattle.lgx_lanes.specs.declared.turn.Turn.{Turn}
use Rattle.lgx_lanes.specs.Turns.{MatchTurn}
use Rattle.lgx_shared.specs.RecorderView.{RecorderView, view_of}
use Rattle.lgx_shared.specs.Follows.{journal_of, Follows, IsRecorder}
use Rattle.lgx_shared.proofs.Bounds.{HasRoomToAct, room_to_act, room_for_turn, events_to_step}
use Rattle.lgx_shared.proofs.Turns.{its_script, recorder_of, same_script, IsServedTurn, acted, helped}
use Rattle.lgx_shared.specs.Serves.{Serves}

module _ (w : RecorderView) (script : Script) (made : w.script ≡ Some script) (lane done : ℕ) (counted : done ≡ get_or w.counts lane 0) where
  -- what is told of the due action
  abbrev pub Tells : Option Action → Type 0
  Tells o = (p : Project) (es : List Event) → StandsFor p es w.recording.controller → (lane < length script.lanes → done ≡ done_by lane es) → o ≡ due_action p script es lane

  told_due : (o : Option Action) → Tells o → (p : Project) → Follows p script w → due_action p script (journal_of w) lane ≡ o
  told_due o tells p f =
      sym (tells p (journal_of w) f.records.controller (λ lt. counted ∙ sym (count_is p script w.counts (journal_of w) f.served lane lt)))

  -- the same of every project and script that it follows
  for_script : (p : Project) (s : Script) → Follows p s w → Follows p script w
  for_script p s f = subst (λ (x : Script). Follows p x w) (same_script p s script w f made) f

  module _ (i : IsRecorder w) where
    pub follows : Follows i.project script w
    follows = its_script w script i made

    -- what an action asks for
    pub asks : (a : Action) → Tells (Some a) → HasRoomToAct i.project script w follows lane
    asks a tells = room_to_act i.project script w follows lane a (told_due (Some a) tells i.project follows)

    pub asks_few : w.recording.controller.spent + 2 ≤ MAX_EVENTS
    asks_few = events_to_step i.project script w follows

    pub asks_room : 2 ≤ w.recording.journal.spare
    asks_room = room_for_turn i.project script w follows

  -- ---- an action

  module _ (a : Action) (turn : Turn) (r : RecordingView) (counts : List ℕ) (tells : Tells (Some a)) (m : MatchTurn turn (((p : Project) (es : List Event) → Records w.recording p es → Records r p (es ++ Act lane a ∷ [])) × (counts ≡ with_one_more w.counts lane)) ⊥ ⊥ (IsTrue (is_accept a) × (r ≡ w.recording) × (counts ≡ w.counts))) (spare : w.recording.journal.spare ≤ r.journal.spare + 1) where
    at_script : (p : Project) (f : Follows p script w) → IsServedTurn p script w f lane turn (view_of r w.script counts w.ran w.history)
    at_script p f = acted p script w f turn lane a r counts (told_due (Some a) tells p f) m spare

    pub act_keeps : IsRecorder w → IsRecorder (view_of r w.script counts w.ran w.history)
    act_keeps i = let f = its_script w script i made in recorder_of i.project script _ (at_script i.project f).follows

    pub act_follows : (p : Project) (s : Script) → Follows p s w → Follows p s (view_of r w.script counts w.ran w.history)
    act_follows p s f =
        subst (λ (x : Script). Follows p x (view_of r w.script counts w.ran w.history)) (sym (same_script p s script w f made)) (at_script p (for_script p s f)).follows

    pub act_serves : (p : Project) (s : Script) → Follows p s w → Serves p s lane w turn (view_of r w.script counts w.ran w.history)
    act_serves p s f =
        subst (λ (x : Script). Serves p x lane w turn (view_of r w.script counts w.ran w.history)) (sym (same_script p s script w f made)) (at_script p (for_script p s f)).serves

  -- ---- a step, or nothing

  module _ (turn : Turn) (r : RecordingView) (tells : Tells None) (m : MatchTurn turn ⊥ ((p : Project) (es : List Event) → Records w.recording p es → (is_spent p script es ≡ false) × Records r p (es ++ paced_step script.pace (w.recording.steps + 1))) (((p : Project) (es : List Event) → Records w.recording p es → is_spent p script es ≡ true) × (r ≡ w.recording)) ⊥) (spare : w.recording.journal.spare ≤ r.journal.spare + length (paced_step script.pace (w.recording.steps + 1))) where
    help_at : (p : Project) (f : Follows p script w) → IsServedTurn p script w f lane turn (view_of r w.script w.counts w.ran w.history)
    help_at p f = helped p script w f turn lane r (told_due None tells p f) m spare

    pub help_keeps : IsRecorder w → IsRecorder (view_of r w.script w.counts w.ran w.history)
    help_keeps i = let f = its_script w script i made in recorder_of i.project script _ (help_at i.project f).follows

    pub help_follows : (p : Project) (s : Script) → Follows p s w → Follows p s (view_of r w.script w.counts w.ran w.history)
    help_follows p s f =
        subst (λ (x : Script). Follows p x (view_of r w.script w.counts w.ran w.history)) (sym (same_script p s script w f made)) (help_at p (for_script p s f)).follows

    pub help_serves : (p : Project) (s : Script) → Follows p s w → Serves p s lane w turn (view_of r w.script w.counts w.ran w.history)
    help_serves p s f =
        subst (λ (x : Script). Serves p x lane w turn (view_of r w.script w.counts w.ran w.history)) (sym (same_script p s script w f made)) (help_at p (for_script p s f)).serves
