-- What holds of a run of a script holds of a recorder that has it, whether it ran or not, and with a history or without.
use Rattle.std.proofs.Common.{◌≡◌, ℕ, Bool, false, List, [], ◌∷◌, Option, Some, None, refl, sym, ap, subst}
use Rattle.std.specs.Prelude.{IsSomeAnd}
use Rattle.spec_machine.specs.declared.event.Action.{Action}
use Rattle.spec_machine.specs.declared.event.Event.{Event}
use Rattle.spec_machine.specs.declared.event.Event.TheVariants.{Act}
use Rattle.spec_machine.specs.Project.{Project}
use Rattle.spec_text.specs.Scripts.{Script}
use Rattle.spec_lanes.specs.Turns.{due_action}
use Rattle.spec_lanes.specs.Laws.{with_one_more}
use Rattle.lgx_record.specs.RecordingView.{RecordingView}
use Rattle.lgx_record.specs.Records.{Records, IsRecording}
use Rattle.lgx_history.specs.Histories.{HistoryView}
use Rattle.lgx_lanes.specs.declared.turn.Turn.{Turn}
use Rattle.lgx_lanes.specs.declared.turn.Turn.TheVariants.{Did, Helped, Done, Memory}
use Rattle.lgx_shared.specs.RecorderView.{RecorderView, view_of}
use Rattle.lgx_shared.specs.ScriptRun.{ScriptRunView, recorder_with, as_recorder}
use Rattle.lgx_shared.specs.Follows.{journal_of, Follows, IsRecorder, IsNew, GoesOn}
use Rattle.lgx_shared.specs.Serves.{Makes, Serves}

-- whether it ran, and its history, don't matter to what it follows
pub follows_still : (project : Project) (script : Script) (v : RecorderView) (ran : Bool) (history : Option HistoryView) → Follows project script v → Follows project script (record v { ran = ran; history = history })
follows_still project script v ran history f = record { made = f.made; records = f.records; served = f.served; room = f.room }

-- it is as new with a history or without
pub still_new : (project : Project) (script : Script) (v : RecorderView) (history : Option HistoryView) → IsNew project script v → IsNew project script (record v { ran = false; history = history })
still_new project script v history new = record { follows = follows_still project script v false history new.follows; opened = new.opened; ran = refl }

module _ (ran : Bool) (history : Option HistoryView) where
  pub recorder_still : (run : ScriptRunView) → IsRecorder (as_recorder run) → IsRecorder (recorder_with ran history run)
  recorder_still run i = record {
    project = i.project;
    records = i.records;
    follows = follows_still i.project run.script (as_recorder run) ran history i.follows;
  }

  makes_still : (old new : ScriptRunView) (events : List Event) (done : List ℕ) → Makes (as_recorder old) (as_recorder new) events done → Makes (recorder_with ran history old) (recorder_with ran history new) events done
  makes_still old new events done m = record { journal = m.journal; counts = m.counts; script = m.script; ran = refl }

  action_still : (lane : ℕ) (old new : ScriptRunView) (o : Option Action) → IsSomeAnd o (λ action. Makes (as_recorder old) (as_recorder new) (Act lane action ∷ []) (with_one_more old.counts lane)) → IsSomeAnd o (λ action. Makes (recorder_with ran history old) (recorder_with ran history new) (Act lane action ∷ []) (with_one_more old.counts lane))
  action_still lane old new None m = absurd m
  action_still lane old new (Some a) m = makes_still old new (Act lane a ∷ []) (with_one_more old.counts lane) m

  same_still : (old new : ScriptRunView) → as_recorder new ≡ as_recorder old → recorder_with ran history new ≡ recorder_with ran history old
  same_still old new e = ap (λ (v : RecorderView). record v { ran = ran; history = history }) e

  pub serves_still : (project : Project) (script : Script) (lane : ℕ) (old : ScriptRunView) (turn : Turn) (new : ScriptRunView) → Serves project script lane (as_recorder old) turn (as_recorder new) → Serves project script lane (recorder_with ran history old) turn (recorder_with ran history new)
  serves_still project script lane old Did new s = action_still lane old new (due_action project script (journal_of (as_recorder old)) lane) s
  serves_still project script lane old Helped new s = (s.0, s.1, record { journal = s.2.journal; counts = s.2.counts; script = s.2.script; ran = refl })
  serves_still project script lane old Done new s = (s.0, s.1, s.2, same_still old new s.3)
  serves_still project script lane old Memory new s = (s.0, same_still old new s.1)

  pub goes_on_still : (old new : ScriptRunView) → GoesOn (as_recorder old) (as_recorder new) → GoesOn (recorder_with ran history old) (recorder_with ran history new)
  goes_on_still old new g = record { script = g.script; ran = refl; rest = g.rest; journal = g.journal }

  -- ---- the same of a recorder that is known to be such a one

  module _ (old new : ScriptRunView) (v : RecorderView) (is : recorder_with ran history old ≡ v) where
    -- what it follows, its run does
    pub followed_by_run : (project : Project) (script : Script) → Follows project script v → Follows project script (as_recorder old)
    followed_by_run project script f =
        follows_still project script (recorder_with ran history old) false None (subst (λ (w : RecorderView). Follows project script w) (sym is) f)

    pub follows_with : ((project : Project) (script : Script) → Follows project script (as_recorder old) → Follows project script (as_recorder new)) → (project : Project) (script : Script) → Follows project script v → Follows project script (recorder_with ran history new)
    follows_with all project script f = follows_still project script (as_recorder new) ran history (all project script (followed_by_run project script f))

    pub serves_with : (lane : ℕ) (turn : Turn) → ((project : Project) (script : Script) → Follows project script (as_recorder old) → Serves project script lane (as_recorder old) turn (as_recorder new)) → (project : Project) (script : Script) → Follows project script v → Serves project script lane v turn (recorder_with ran history new)
    serves_with lane turn all project script f =
        subst (λ (w : RecorderView). Serves project script lane w turn (recorder_with ran history new)) is
        (serves_still project script lane old turn new (all project script (followed_by_run project script f)))

    pub goes_on_with : GoesOn (as_recorder old) (as_recorder new) → GoesOn v (recorder_with ran history new)
    goes_on_with g = subst (λ (w : RecorderView). GoesOn w (recorder_with ran history new)) is (goes_on_still old new g)

-- without a script it is a recorder whatever it records
pub of_events : (r : RecordingView) → IsRecording r → IsRecorder (view_of r None [] false None)
of_events r i = record {
  project = i.project;
  records = subst (λ (es : List Event). Records r i.project es) (sym i.records.journal) i.records;
  follows = tt;
}
