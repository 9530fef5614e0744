-- Runs of a script that were just made.
use Rattle.std.proofs.Common.{◌≡◌, ℕ, ◌+◌, ◌<◌, ◌≤◌, List, [], ◌++◌, length, replicate, refl, sym, ◌∙◌, ap, subst}
use Rattle.std.specs.Prelude.{IsTrue}
use Rattle.spec_base.specs.declared.limits.TheConstants.{MAX_EVENTS}
use Rattle.spec_machine.specs.declared.event.Event.{Event}
use Rattle.spec_machine.specs.Project.{Project}
use Rattle.spec_text.specs.Scripts.{Script, is_script}
use Rattle.spec_lanes.specs.Turns.{most_events}
use Rattle.spec_lanes.specs.Laws.{opening}
use Rattle.spec_lanes.specs.Served.{IsServed}
use Rattle.spec_lanes.proofs.Serving.{opening_is_served}
use Rattle.lgx_record.specs.RecordingView.{RecordingView}
use Rattle.lgx_record.specs.Records.{Records, IsUnchanged}
use Rattle.lgx_record.proofs.Extending.{still-records}
use Rattle.lgx_shared.specs.RecorderView.{RecorderView}
use Rattle.lgx_shared.specs.ScriptRun.{script_run_view, as_recorder}
use Rattle.lgx_shared.specs.Follows.{IsRecorder, IsNew}
use Rattle.lgx_shared.proofs.Numbers.{room_at_first, one_more, below_limit, some_room}
use Rattle.lgx_shared.proofs.Turns.{recorder_of}

is_new : (project : Project) (script : Script) (r : RecordingView) → IsTrue (is_script script) → Records r project opening → most_events script + 2 ≤ 1 + r.journal.spare → IsNew project script (as_recorder (script_run_view r script (replicate (length script.lanes) 0)))
is_new project script r proper records room =
    let journal = records.journal in
    let served = opening_is_served project script records.controller.valid proper in
    record {
      follows = record {
        made = refl;
        records = subst (λ (es : List Event). Records r project es) (sym journal) records;
        served = subst (λ (es : List Event). IsServed project script (replicate (length script.lanes) 0) es) (sym journal) served;
        room = room_at_first (most_events script) (length r.journal.events) r.journal.spare (ap (λ (es : List Event). length es) journal) room;
      };
      opened = journal;
      ran = refl;
    }

-- before its `mode run` it may be made
pub room_to_open : (project : Project) (first r : RecordingView) (room : ℕ) → Records first project [] → IsUnchanged first r → 0 < room → room ≤ r.journal.spare → (r.controller.spent < MAX_EVENTS) × (0 < r.journal.spare)
room_to_open project first r room records same some enough =
    let h = still-records first r project [] same records in
    (below_limit r.controller.spent h.controller.counted, some_room room r.journal.spare some enough)

pub just_opened : (project : Project) (first r next : RecordingView) → Records first project [] → IsUnchanged first r → ((p : Project) (es : List Event) → Records r p es → Records next p (es ++ opening)) → Records next project opening
just_opened project first r next records same opens = opens project [] (still-records first r project [] same records)

-- after it
pub just_made : (project : Project) (script : Script) (r : RecordingView) (counts : List ℕ) (room lanes : ℕ) → IsTrue (is_script script) → Records r project opening → room ≤ r.journal.spare + 1 → room ≡ most_events script + 2 → counts ≡ replicate lanes 0 → lanes ≡ length script.lanes → IsNew project script (as_recorder (script_run_view r script counts))
just_made project script r counts room lanes proper records enough room_is zeros long =
    subst (λ (ns : List ℕ). IsNew project script (as_recorder (script_run_view r script ns))) (sym (zeros ∙ ap (λ n. replicate {A = ℕ} n 0) long))
    (is_new project script r proper records (one_more room (most_events script) r.journal.spare enough room_is))

pub new_is_recorder : (project : Project) (script : Script) (v : RecorderView) → IsNew project script v → IsRecorder v
new_is_recorder project script v new = recorder_of project script v new.follows
