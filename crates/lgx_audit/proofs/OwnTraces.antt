-- What is seen of a run passes the audit.
use Rattle.std.proofs.Common.{◌≡◌, ℕ, zero, suc, ◌+◌, ◌≤◌, ◌&&◌, List, [], ◌∷◌, length, map, true, refl, arith}
use Rattle.std.specs.List.{list_all}
use Rattle.std.proofs.lemmas.Bool.{and_from, and_parts}
use Rattle.spec_base.specs.declared.limits.TheConstants.{MAX_EVENTS}
use Rattle.spec_machine.specs.declared.event.Event.{Event}
use Rattle.spec_machine.specs.Machine.{step, trace_from}
use Rattle.spec_machine.specs.Project.{Project}
use Rattle.spec_machine.specs.State.{State, start}
use Rattle.spec_machine.specs.ValidProject.{IsValidProject}
use Rattle.spec_reach.specs.Reachable.{IsAfter}
use Rattle.spec_reach.proofs.Reachable.{start_is_after, events_lead_on}
use Rattle.spec_schedule.specs.declared.trace.TraceEvent.{TraceEvent}
use Rattle.spec_schedule.specs.declared.trace.Table.{Table}
use Rattle.spec_schedule.specs.Legal.{Legal}
use Rattle.spec_schedule.specs.TraceView.{table_of, seen, view}
use Rattle.spec_legal.proofs.Priority.{runs_keep_priority}
use Rattle.spec_legal.proofs.Turns.{runs_keep_turns}
use Rattle.spec_legal.proofs.Versions.{runs_keep_versions}
use Rattle.spec_legal.proofs.Ways.{runs_give_way}
use Rattle.lgx_journal.specs.Written.{has_lane}
use Rattle.lgx_audit.specs.Kept.{is_kept}
use Rattle.lgx_audit.specs.OwnTraces.{RunsPassAudit}
use Rattle.lgx_audit.specs.TraceTable.{AreInTable, is_in_table}
use Rattle.lgx_audit.specs.TraceText.{has_form}
use Rattle.lgx_audit.proofs.Breaching.{none_is_legal}
use Rattle.lgx_audit.proofs.LinesBack.{may_stand, text_back}
use Rattle.lgx_audit.proofs.OwnEvents.{event_stands}

module _ (p : Project) (valid : IsValidProject p) where
  all_stand : (n : ℕ) (s : State) (es : List Event) → IsAfter p n s → n + length es ≤ MAX_EVENTS → list_all has_lane es ≡ true → list_all (may_stand (table_of p)) (map (seen p) (trace_from s es)) ≡ true
  all_stand n s [] after few lanes = refl
  all_stand n s (e ∷ es) after few lanes =
      let two = and_parts (has_lane e) (list_all has_lane es) lanes in
      and_from _ _ (event_stands p valid n s after (omega arith) e two.0)
      (all_stand (n + 1) (step s e).state es (events_lead_on p n s e after) (omega arith) two.1)

-- events that may stand in a trace of the table are in the table
are_in_table : (table : Table) (trace : List TraceEvent) → list_all (may_stand table) trace ≡ true → AreInTable table trace
are_in_table table [] h k l = absurd (omega arith)
are_in_table table (e ∷ es) h zero l =
    let one = (and_parts (may_stand table e) (list_all (may_stand table) es) h).0 in
    (and_parts (is_kept e) (is_in_table table e) (and_parts (has_form e) (is_kept e && is_in_table table e) one).1).1
are_in_table table (e ∷ es) h (suc k) l = are_in_table table es (and_parts (may_stand table e) (list_all (may_stand table) es) h).1 k (omega arith)

pub run_legal : (p : Project) (journal : List Event) → IsValidProject p → Legal (table_of p) (view p journal)
run_legal p journal valid = record { priority = runs_keep_priority p journal valid; turns = runs_keep_turns p journal valid; ticks = runs_give_way p journal valid; versions = runs_keep_versions p journal valid }

pub runs_pass_audit : RunsPassAudit
runs_pass_audit p journal valid lanes few =
    let all = all_stand p valid 0 (start p) journal (start_is_after p) (omega arith) lanes in
    record {
      read = text_back (table_of p) 1 (view p journal) all;
      lawful = (none_is_legal (table_of p) (view p journal) (are_in_table (table_of p) (view p journal) all)).1 (run_legal p journal valid);
    }
