-- The actions of modules and engineers: I/O words, forces, edits and modes.
use Rattle.std.specs.Prelude.{ℕ, Bool, true, false, List, map, ℤ, Option, Some, None, Result, Ok, Err, fold}
use Rattle.std.specs.Int.{w32}
use Rattle.lgx_num.specs.Image.{signed_at, write_signed}
use Rattle.spec_tables.specs.declared.conn.Slot.{Slot}
use Rattle.spec_machine.specs.declared.reply.Mode.{Mode}
use Rattle.spec_machine.specs.declared.reply.Mode.TheVariants.{Program, Run, Faulted}
use Rattle.spec_machine.specs.declared.reply.ModeFault.TheVariants.{M1, M2, M3}
use Rattle.spec_tables.specs.declared.conn.ConnFault.{ConnFault}
use Rattle.spec_tables.specs.declared.force.ForceFault.{ForceFault}
use Rattle.spec_tables.specs.declared.force.ForceFault.TheVariants.{F1}
use Rattle.spec_machine.specs.declared.reply.EditFault.{EditFault}
use Rattle.spec_machine.specs.declared.reply.Reply.{Reply}
use Rattle.spec_machine.specs.declared.reply.Reply.TheVariants as reply
use Rattle.spec_machine.specs.declared.event.Action.{Action}
use Rattle.spec_machine.specs.declared.event.Action.TheVariants.{WordIn, WordOut, Accept, Test, Untest, Assemble, Cancel, ForceInstall, ForceEnable, ForceDisable, ForceRemove, ModeRun, ModeProgram, Clear}
use Rattle.spec_machine.specs.declared.answer.Outcome.{Outcome}
use Rattle.spec_tables.specs.Tasks.{held, start, stop, released_at_run}
use Rattle.spec_tables.specs.Connections.{slot, io_word}
use Rattle.spec_tables.specs.Forces.{Forces, forced, install, enable, disable, remove_all}
use Rattle.spec_machine.specs.Edits.{Book, Edited, accept, on_accepted, test, untest, assemble, cancel, selected}
use Rattle.spec_scan.specs.Prescan.{prescan}
use Rattle.spec_machine.specs.State.{State, no_progress, dropped, Answered}
use Rattle.spec_machine.specs.Releases.{AfterRelease, release_task, mask_of, released_mask}

-- a reply alone: no fault, and no task released
abbrev pub replied : State → Reply → Answered Outcome
replied s r = record { state = s; answer = record { reply = r; fault = None; released = 0 } }

abbrev pub held_or : Bool → State → Answered Outcome → Answered Outcome
held_or true s a = replied s reply.Held
held_or false s a = a

-- I/O words and mode commands are answered Held exactly if a CPS is in progress.
abbrev pub unless_held : State → Answered Outcome → Answered Outcome
unless_held s a = held_or (held s.table) s a

-- ---- I/O words

-- the word is taken, with the fault and the mask of its trigger's release
abbrev pub after_trigger : ℕ → AfterRelease → Answered Outcome
after_trigger t r = record { state = r.state; answer = record { reply = reply.Done; fault = r.fault; released = released_mask t r.answer } }

-- a trigger releases its event task in Run alone
abbrev pub triggers : State → Mode → Option ℕ → Answered Outcome
triggers s Run (Some t) = after_trigger t (release_task t s)
triggers s _ _ = replied s reply.Done

abbrev pub put_in : State → ℤ → Result Slot ConnFault → Answered Outcome
put_in s value (Err f) = replied s (reply.Conn f)
put_in s value (Ok k) =
    triggers (record s { image = write_signed w32 s.image k.byte (forced s.forces k.io value) }) s.mode k.trigger

-- A word in is put into the image as it is forced. The last word of an input with a trigger releases the trigger's task
-- (profile).
abbrev pub word_in : State → List ℕ → ℕ → ℤ → Answered Outcome
word_in s conn word value = unless_held s (put_in s value (slot s.plan.conns conn word false))

abbrev pub take_out : State → Result Slot ConnFault → Answered Outcome
take_out s (Err f) = replied s (reply.Conn f)
take_out s (Ok k) = replied s (reply.Word (forced s.forces k.io (signed_at w32 s.image k.byte)))

-- A word out is answered as it is forced, and changes nothing.
abbrev pub word_out : State → List ℕ → ℕ → Answered Outcome
word_out s conn word = unless_held s (take_out s (slot s.plan.conns conn word true))

-- ---- forces

abbrev pub force_replied : State → Result Forces ForceFault → Answered Outcome
force_replied s (Err f) = replied s (reply.Force f)
force_replied s (Ok forces) = replied (record s { forces = forces }) reply.Done

-- a connection or a word that isn't there is refused
abbrev pub install_on : Forces → Option ℕ → ℤ → ℤ → Result Forces ForceFault
install_on forces None mask value = Err F1
install_on forces (Some word) mask value = install forces word mask value

-- ---- edits

abbrev pub edit_replied : State → Result Edited EditFault → Answered Outcome
edit_replied s (Err f) = replied s (reply.Edit f)
edit_replied s (Ok e) = replied (record s { books = e.books }) e.reply

-- ---- modes (profile)

-- the prescan of every program by its selected rungs, in the project's order
abbrev pub prescan_all : List Book → List ℕ → List ℕ
prescan_all books image = fold (λ i b. prescan (selected b) i) image books

-- The change to Run: a prescan, no flag set, each program's next scan its first, every task down, and then the continuous
-- one released.
abbrev pub to_run : State → State
to_run s = record s { mode = Run; table = start s.tick s.table; progress = map (λ p. no_progress) s.progress; firsts = map (λ b. true) s.firsts; image = prescan_all s.books s.image }

-- In Program no task is up, and none goes on later where it was.
abbrev pub to_program : State → State
to_program s = record s { mode = Program; table = stop s.table; progress = map dropped s.progress }

-- Its outcome reports the continuous task, if it was released.
abbrev pub ran : State → Answered Outcome
ran s = record { state = to_run s; answer = record { reply = reply.Done; fault = None; released = mask_of (released_at_run s.table) } }

-- From Faulted no change of mode is taken but `clear`, and a change to the present mode is refused.
abbrev pub mode_run_from : Mode → State → Answered Outcome
mode_run_from Program s = ran s
mode_run_from Run s = replied s (reply.Mode M1)
mode_run_from Faulted s = replied s (reply.Mode M2)

abbrev pub mode_program_from : Mode → State → Answered Outcome
mode_program_from Program s = replied s (reply.Mode M1)
mode_program_from Run s = replied (to_program s) reply.Done
mode_program_from Faulted s = replied s (reply.Mode M2)

-- `clear` leads from Faulted to Program
abbrev pub clear_from : Mode → State → Answered Outcome
clear_from Faulted s = replied (record s { mode = Program }) reply.Done
clear_from _ s = replied s (reply.Mode M3)

abbrev pub mode_run : State → Answered Outcome
mode_run s = unless_held s (mode_run_from s.mode s)

abbrev pub mode_program : State → Answered Outcome
mode_program s = unless_held s (mode_program_from s.mode s)

abbrev pub clear : State → Answered Outcome
clear s = unless_held s (clear_from s.mode s)

-- ---- all of them

-- Edits are taken in every mode, and are the lane's from then on; forces too.
abbrev pub act : State → ℕ → Action → Answered Outcome
act s lane (WordIn conn word value) = word_in s conn word value
act s lane (WordOut conn word) = word_out s conn word
act s lane (Accept command) = edit_replied s (accept s.plan.tags s.plan.names s.books lane command)
act s lane (Test name) = edit_replied s (on_accepted test s.books lane name)
act s lane (Untest name) = edit_replied s (on_accepted untest s.books lane name)
act s lane (Assemble name) = edit_replied s (on_accepted assemble s.books lane name)
act s lane (Cancel name) = edit_replied s (on_accepted cancel s.books lane name)
act s lane (ForceInstall conn word mask value) =
    force_replied s (install_on s.forces (io_word s.plan.conns conn word) mask value)
act s lane ForceEnable = force_replied s (enable s.forces)
act s lane ForceDisable = force_replied s (Ok (disable s.forces))
act s lane ForceRemove = force_replied s (remove_all s.forces)
act s lane ModeRun = mode_run s
act s lane ModeProgram = mode_program s
act s lane Clear = clear s
