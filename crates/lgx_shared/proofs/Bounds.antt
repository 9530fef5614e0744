-- The room that a recorder has for the next events of its script.
use Rattle.std.proofs.Common.{◌≡◌, ℕ, ◌+◌, ◌<◌, ◌≤◌, inl, inr, List, [], length, get_or, Some, ap, arith}
use Rattle.std.proofs.Math.Nat.{div-le_self}
use Rattle.std.proofs.lemmas.Bool.{cases_lt}
use Rattle.std.proofs.lemmas.List.{get_or_past}
use Rattle.std.proofs.lemmas.List.Sums.{get_or-le-sum_by}
use Rattle.std.proofs.lemmas.Option.{slice_get_within}
use Rattle.spec_base.specs.declared.limits.TheConstants.{MAX_ACTIONS, MAX_EVENTS}
use Rattle.spec_machine.specs.declared.event.Action.{Action}
use Rattle.spec_machine.specs.Project.{Project}
use Rattle.spec_text.specs.Scripts.{Script}
use Rattle.spec_text.specs.declared.script.Timed.{Timed}
use Rattle.spec_lanes.specs.Turns.{lane_of, done_by, due_action, most_steps, most_events}
use Rattle.spec_lanes.proofs.LaneLists.{did_long}
use Rattle.spec_lanes.proofs.Serving.{few_events_serve, counts_tell}
use Rattle.spec_lanes.proofs.Scripts.{Proper, proper_of, lane_within, next_due}
use Rattle.lgx_shared.proofs.Numbers.{room_for_two, room_for_one, spent_below, spent_two_below, in_counts, count_below}
use Rattle.lgx_shared.specs.RecorderView.{RecorderView}
use Rattle.lgx_shared.specs.Follows.{journal_of, Follows}

-- far fewer than a controller counts
pub few_events : (script : Script) → Proper script → most_events script + 2 ≤ MAX_EVENTS
few_events script h =
    let a = h.actions in
    let b = h.steps in
    let c = div-le_self (most_steps script) script.pace in
    omega arith

-- a lane has no more actions than there may be
pub few_in_lane : (script : Script) (lane : ℕ) → Proper script → length (lane_of script lane) ≤ MAX_ACTIONS
few_in_lane script lane h =
    elim (cases_lt lane (length script.lanes)) [
      | inl lt ↦ (let a = get_or-le-sum_by (λ (list : List Timed). length list) script.lanes lane [] lt in let b = h.actions in omega arith)
      | inr ge ↦ (let a = ap (λ (list : List Timed). length list) (get_or_past script.lanes lane [] ge) in omega arith)
    ]

module _ (project : Project) (script : Script) (v : RecorderView) (f : Follows project script v) where
  -- what a due action asks for
  pub record HasRoomToAct (lane : ℕ) : Type 0 where
    pub lane_in : lane < length v.counts
    pub spent : v.recording.controller.spent < MAX_EVENTS
    pub spare : 0 < v.recording.journal.spare
    pub few : get_or v.counts lane 0 < MAX_ACTIONS

  -- there are few events, and the controller counted them
  few_now : length (journal_of v) ≤ most_events script
  few_now = few_events_serve project script v.counts (journal_of v) f.served

  many : most_events script + 2 ≤ MAX_EVENTS
  many = few_events script (proper_of script f.served.proper)

  pub room_for_turn : 2 ≤ v.recording.journal.spare
  room_for_turn = room_for_two (most_events script) (length (journal_of v)) v.recording.journal.spare few_now f.room

  pub room_to_act : (lane : ℕ) (a : Action) → due_action project script (journal_of v) lane ≡ Some a → HasRoomToAct lane
  room_to_act lane a due =
      let n = next_due project script (journal_of v) lane a due in
      let within = lane_within script lane (done_by lane (journal_of v)) n.timed n.next in
      record {
        lane_in = in_counts lane (length script.lanes) (length v.counts) within (did_long (journal_of v) v.counts script.lanes f.served.partial.lanes);
        spent = spent_below (most_events script) (length (journal_of v)) v.recording.controller.spent MAX_EVENTS few_now f.records.controller.counted many;
        spare = room_for_one v.recording.journal.spare room_for_turn;
        few = count_below (get_or v.counts lane 0) (done_by lane (journal_of v)) (length (lane_of script lane)) MAX_ACTIONS
            (counts_tell project script v.counts (journal_of v) lane f.served within).count
            (slice_get_within (lane_of script lane) (done_by lane (journal_of v)) n.timed n.next)
            (few_in_lane script lane (proper_of script f.served.proper));
      }

  pub events_to_step : v.recording.controller.spent + 2 ≤ MAX_EVENTS
  events_to_step = spent_two_below (most_events script) (length (journal_of v)) v.recording.controller.spent MAX_EVENTS few_now f.records.controller.counted many
