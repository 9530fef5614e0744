-- Which actions are answered Held.
use Rattle.std.proofs.Common.{◌≡◌, ℕ, Bool, true, false, Option, Some, None, Result, Ok, Err, ℤ, refl, sym, ap}
use Rattle.std.specs.Prelude.{◌&&◌}
use Rattle.std.proofs.lemmas.Bool.{false≢true}
use Rattle.spec_tables.specs.declared.conn.ConnFault.{ConnFault}
use Rattle.spec_tables.specs.declared.conn.Slot.{Slot}
use Rattle.spec_tables.specs.declared.force.ForceFault.{ForceFault}
use Rattle.spec_tables.specs.Connections.{slot, io_word}
use Rattle.spec_tables.specs.Forces.{Forces, enable, remove_all}
use Rattle.spec_tables.specs.Tasks.{held}
use Rattle.spec_machine.specs.declared.answer.Outcome.{Outcome}
use Rattle.spec_machine.specs.declared.event.Action.{Action}
use Rattle.spec_machine.specs.declared.event.Action.TheVariants.{WordIn, WordOut, Accept, Test, Untest, Assemble, Cancel, ForceInstall, ForceEnable, ForceDisable, ForceRemove, ModeRun, ModeProgram, Clear}
use Rattle.spec_machine.specs.declared.reply.EditFault.{EditFault}
use Rattle.spec_machine.specs.declared.reply.Mode.{Mode}
use Rattle.spec_machine.specs.declared.reply.Mode.TheVariants.{Program, Run, Faulted}
use Rattle.spec_machine.specs.declared.reply.Reply.{Reply}
use Rattle.spec_machine.specs.declared.reply.Reply.TheVariants as reply
use Rattle.spec_machine.specs.Edits.{Edited, accept, on_accepted, test, untest, assemble, cancel}
use Rattle.spec_machine.specs.Actions.{held_or, triggers, put_in, take_out, install_on, force_replied, edit_replied, mode_run_from, mode_program_from, clear_from, act}
use Rattle.spec_machine.specs.Machine.{OfAction, run}
use Rattle.spec_machine.specs.State.{State, Answered}
use Rattle.spec_schedule.specs.Partial.{is_held}
use Rattle.spec_schedule.specs.Stages.{is_refusal}
use Rattle.spec_reach.proofs.EditNames.{edit_is_taken}
use Rattle.spec_lanes.specs.Held.{is_holdable, HoldsWordsAndModes}

module _ (lane : ℕ) (action : Action) where
  -- answered Held
  abbrev holds : Answered Outcome → Bool
  holds x = is_held (OfAction lane action x.answer)

  held_else : (b : Bool) (s : State) (x : Answered Outcome) → holds x ≡ false → holds (held_or b s x) ≡ b
  held_else true s x h = refl
  held_else false s x h = h

  triggered_free : (s : State) (m : Mode) (o : Option ℕ) → holds (triggers s m o) ≡ false
  triggered_free s Run (Some t) = refl
  triggered_free s Run None = refl
  triggered_free s Program o = refl
  triggered_free s Faulted o = refl

  put_free : (s : State) (v : ℤ) (k : Result Slot ConnFault) → holds (put_in s v k) ≡ false
  put_free s v (Err f) = refl
  put_free s v (Ok k) = triggered_free _ s.mode k.trigger

  take_free : (s : State) (k : Result Slot ConnFault) → holds (take_out s k) ≡ false
  take_free s (Err f) = refl
  take_free s (Ok k) = refl

  force_free : (s : State) (x : Result Forces ForceFault) → holds (force_replied s x) ≡ false
  force_free s (Err f) = refl
  force_free s (Ok x) = refl

  run_free : (s : State) (m : Mode) → holds (mode_run_from m s) ≡ false
  run_free s Program = refl
  run_free s Run = refl
  run_free s Faulted = refl

  program_free : (s : State) (m : Mode) → holds (mode_program_from m s) ≡ false
  program_free s Program = refl
  program_free s Run = refl
  program_free s Faulted = refl

  clear_free : (s : State) (m : Mode) → holds (clear_from m s) ≡ false
  clear_free s Program = refl
  clear_free s Run = refl
  clear_free s Faulted = refl

  -- a reply that is no refusal isn't Held
  abbrev replies : Reply → Answered Outcome → Answered Outcome
  replies r x = record x { answer = record x.answer { reply = r } }

  unrefused_free : (x : Answered Outcome) (r : Reply) → is_refusal r ≡ false → holds (replies r x) ≡ false
  unrefused_free x reply.Done h = refl
  unrefused_free x (reply.Word v) h = refl
  unrefused_free x (reply.Version n) h = refl
  unrefused_free x reply.Held h = absurd (false≢true (sym h))
  unrefused_free x (reply.Mode f) h = refl
  unrefused_free x (reply.Conn f) h = refl
  unrefused_free x (reply.Force f) h = refl
  unrefused_free x (reply.Edit f) h = refl

  edit_free : (s : State) (x : Result Edited EditFault) → ((e : Edited) → x ≡ Ok e → is_refusal e.reply ≡ false) → holds (edit_replied s x) ≡ false
  edit_free s (Err f) h = refl
  edit_free s (Ok e) h = unrefused_free (edit_replied s (Ok e)) e.reply (h e refl)

act_holds : (s : State) (lane : ℕ) (action : Action) → is_held (OfAction lane action (act s lane action).answer) ≡ (is_holdable action && held s.table)
act_holds s lane (WordIn conn word v) =
    held_else lane (WordIn conn word v) (held s.table) s _ (put_free lane (WordIn conn word v) s v (slot s.plan.conns conn word false))
act_holds s lane (WordOut conn word) =
    held_else lane (WordOut conn word) (held s.table) s _ (take_free lane (WordOut conn word) s (slot s.plan.conns conn word true))
act_holds s lane (Accept c) =
    edit_free lane (Accept c) s (accept s.plan.tags s.plan.names s.books lane c) (λ e h. edit_is_taken s.plan.tags s.plan.names s.books lane (Accept c) e (ap (λ x. Some x) h))
act_holds s lane (Test n) =
    edit_free lane (Test n) s (on_accepted test s.books lane n) (λ e h. edit_is_taken s.plan.tags s.plan.names s.books lane (Test n) e (ap (λ x. Some x) h))
act_holds s lane (Untest n) =
    edit_free lane (Untest n) s (on_accepted untest s.books lane n) (λ e h. edit_is_taken s.plan.tags s.plan.names s.books lane (Untest n) e (ap (λ x. Some x) h))
act_holds s lane (Assemble n) =
    edit_free lane (Assemble n) s (on_accepted assemble s.books lane n) (λ e h. edit_is_taken s.plan.tags s.plan.names s.books lane (Assemble n) e (ap (λ x. Some x) h))
act_holds s lane (Cancel n) =
    edit_free lane (Cancel n) s (on_accepted cancel s.books lane n) (λ e h. edit_is_taken s.plan.tags s.plan.names s.books lane (Cancel n) e (ap (λ x. Some x) h))
act_holds s lane (ForceInstall conn word mask v) =
    force_free lane (ForceInstall conn word mask v) s (install_on s.forces (io_word s.plan.conns conn word) mask v)
act_holds s lane ForceEnable = force_free lane ForceEnable s (enable s.forces)
act_holds s lane ForceDisable = refl
act_holds s lane ForceRemove = force_free lane ForceRemove s (remove_all s.forces)
act_holds s lane ModeRun = held_else lane ModeRun (held s.table) s _ (run_free lane ModeRun s s.mode)
act_holds s lane ModeProgram = held_else lane ModeProgram (held s.table) s _ (program_free lane ModeProgram s s.mode)
act_holds s lane Clear = held_else lane Clear (held s.table) s _ (clear_free lane Clear s s.mode)

pub holds_words_and_modes : HoldsWordsAndModes
holds_words_and_modes project journal lane action = act_holds (run project journal) lane action
