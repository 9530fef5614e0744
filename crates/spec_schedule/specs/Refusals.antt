-- The causes for which an action is held or refused, in their order. Each is beside its sentence; the first that applies is the
-- answer.
use Rattle.std.specs.Prelude.{ℕ, List, [], ◌∷◌, ◌++◌, length, Bool, true, false, not, nat_lt, nat_le, nat_eq, Option, Some, None, option_map, is_none, unwrap_or, Result, Ok, Err, slice_set, slice_index_or, flat_map}
use Rattle.std.specs.Bool.{beq as agree}
use Rattle.std.specs.List.{position_from}
-- a cause, if its test holds
pub use Rattle.std.specs.Bool.{then_some as when}
use Rattle.spec_base.specs.declared.limits.TheConstants.{MAX_FORCES, MAX_PROGRAM_INSTRUCTIONS}
use Rattle.lgx_num.specs.Name.{same}
use Rattle.lgx_rung.specs.Tree.{Source}
use Rattle.spec_tables.specs.declared.conn.ConnDef.{ConnDef}
use Rattle.spec_machine.specs.Commands.{AcceptCommand}
use Rattle.spec_machine.specs.declared.event.Action.{Action}
use Rattle.spec_machine.specs.declared.event.Action.TheVariants.{WordIn, WordOut, Accept, Test, Untest, Assemble, Cancel, ForceInstall, ForceEnable, ForceDisable, ForceRemove, ModeRun, ModeProgram, Clear}
use Rattle.spec_machine.specs.declared.reply.Mode.{Mode as Modes}
use Rattle.spec_machine.specs.declared.reply.Mode.TheVariants as mode
use Rattle.spec_machine.specs.declared.reply.ModeFault.TheVariants.{M1, M2, M3}
use Rattle.spec_tables.specs.declared.conn.ConnFault.TheVariants.{N1, N2, N3}
use Rattle.spec_tables.specs.declared.force.ForceFault.TheVariants.{F1, F2, F3}
use Rattle.spec_machine.specs.declared.reply.EditFault.{EditFault}
use Rattle.spec_machine.specs.declared.reply.EditFault.TheVariants.{E1, E2, E3, E5, E6, E8, E9, E10, E11, E12}
use Rattle.spec_machine.specs.declared.reply.Reply.{Reply}
use Rattle.spec_machine.specs.declared.reply.Reply.TheVariants.{Held, Mode, Conn, Force, Edit}
use Rattle.spec_tables.specs.Tasks.{held}
use Rattle.spec_tables.specs.Connections.{no_conn, conn_named, io_word}
use Rattle.spec_tables.specs.Forces.{installed}
use Rattle.spec_machine.specs.Edits.{Change, Book, book_at, routine_at, other_owner, is_misplaced, first_again, taken_by, changes_in, changes_of, merged, scope_of, with_changes, instruction_count}
use Rattle.spec_language.specs.Checked.{CheckScope, checked}
use Rattle.spec_scan.specs.Position.{Rungs}
use Rattle.lgx_rung.specs.declared.fault.CheckFault.{CheckFault}
use Rattle.spec_machine.specs.State.{State}

-- ---- causes in order

-- the first that applies
abbrev pub first_of : List (Option Reply) → Option Reply
first_of [] = None
first_of (Some r ∷ os) = Some r
first_of (None ∷ os) = first_of os

-- ---- I/O words: held while a CPS is open; an unknown connection, a word out of range, the wrong direction

abbrev pub conn_of : State → List ℕ → ConnDef
conn_of s name = slice_index_or s.plan.conns (unwrap_or (conn_named s.plan.conns name) (length s.plan.conns)) no_conn

abbrev pub is_no_conn : State → List ℕ → Bool
is_no_conn s name = is_none (conn_named s.plan.conns name)

abbrev pub word_causes : State → List ℕ → ℕ → Bool → List (Option Reply)
word_causes s name word output =
    when (held s.table) Held ∷ when (is_no_conn s name) (Conn N1) ∷ when (nat_le (conn_of s name).words word) (Conn N2) ∷ when (not (agree (conn_of s name).output output)) (Conn N3) ∷ []

-- ---- modes: held while a CPS is open; faulted, or already in that mode; for `clear`, not faulted

abbrev pub is_mode : Modes → Modes → Bool
is_mode mode.Program mode.Program = true
is_mode mode.Run mode.Run = true
is_mode mode.Faulted mode.Faulted = true
is_mode _ _ = false

abbrev pub mode_causes : State → Modes → List (Option Reply)
mode_causes s wanted =
    when (held s.table) Held ∷ when (is_mode s.mode mode.Faulted) (Mode M2) ∷ when (is_mode s.mode wanted) (Mode M1) ∷ []

-- ---- forces: a word that isn't there, or too many other words that have one; none is installed

abbrev pub is_no_word : State → List ℕ → ℕ → Bool
is_no_word s name word = nat_le (conn_of s name).words word

abbrev pub install_causes : State → List ℕ → ℕ → List (Option Reply)
install_causes s name word =
    when (is_no_word s name word) (Force F1) ∷ when (is_full (io_word s.plan.conns name word)) (Force F2) ∷ []
  where
    is_full : Option ℕ → Bool
    is_full None = false
    is_full (Some io) = nat_le MAX_FORCES (installed (slice_set s.forces.words io None))

abbrev pub no_force_causes : State → List (Option Reply)
no_force_causes s = when (nat_eq (installed s.forces.words) 0) (Force F3) ∷ []

-- ---- edits

-- the number of a program, and its book
abbrev pub program_at : State → List ℕ → Option ℕ
program_at s name = position_from (λ b. same b.name name) 0 s.books

abbrev pub book_named : State → List ℕ → Book
book_named s name = book_at s.books (unwrap_or (program_at s name) (length s.books))

abbrev pub no_program : State → List ℕ → Option Reply
no_program s name = when (is_none (program_at s name)) (Edit E1)

-- the owner, if it is another lane
abbrev pub owner_cause : Book → ℕ → Option Reply
owner_cause b lane = option_map (λ owner. Edit (E3 owner)) (other_owner b lane)

-- `test` and its kin: no such program; another lane's; nothing accepted
abbrev pub accepted_causes : State → ℕ → List ℕ → List (Option Reply)
accepted_causes s lane name =
    let b = book_named s name in no_program s name ∷ owner_cause b lane ∷ when (nat_eq (length b.accepted) 0) (Edit E10) ∷ []

-- the first edit whose text is refused
abbrev pub text_cause : Result (List Change) EditFault → Option Reply
text_cause (Ok changes) = None
text_cause (Err f) = Some (Edit f)

-- the merged routine is refused, or the merged program has too many instructions
abbrev pub merged_causes : CheckScope → ℕ → ℕ → Book → List Change → List (Option Reply)
merged_causes scope lane r b changes = go (checked scope source)
  where
    source : List Source
    source = merged (routine_at b.base r).source (changes_in b r ++ changes)

    go : Result Rungs CheckFault → List (Option Reply)
    go (Err f) = Some (Edit (E8 f)) ∷ []
    go (Ok rungs) = when (nat_lt MAX_PROGRAM_INSTRUCTIONS (instruction_count (with_changes lane r changes source rungs b).merged)) (Edit E9) ∷ []

abbrev pub if_read : Result (List Change) EditFault → (List Change → List (Option Reply)) → List (Option Reply)
if_read (Err f) causes = []
if_read (Ok changes) causes = causes changes

-- `accept`: no such program, no such routine, another lane's program; the first edit of a rung that isn't
-- there, the first of a rung that accepted or earlier edits replace or delete, the first whose text is refused; the
-- merged routine is refused; too many instructions
abbrev pub accept_causes : State → ℕ → AcceptCommand → List (Option Reply)
accept_causes s lane a = for (position_from (λ r. same r.name a.routine) 0 b.base)
  where
    n : ℕ
    n = unwrap_or (program_at s a.program) (length s.books)

    b : Book
    b = book_named s a.program

    read : Result (List Change) EditFault
    read = changes_of 0 a.edits

    edits_causes : ℕ → List (Option Reply)
    edits_causes r =
        option_map (λ k. Edit (E5 k)) (position_from (is_misplaced (length (routine_at b.base r).source)) 0 a.edits) ∷ option_map (λ k. Edit (E6 k)) (first_again 0 (flat_map taken_by (changes_in b r)) a.edits) ∷ text_cause read ∷ if_read read (merged_causes (scope_of s.plan.tags s.plan.names n b) lane r b)

    for : Option ℕ → List (Option Reply)
    for None = no_program s a.program ∷ Some (Edit E2) ∷ []
    for (Some r) = no_program s a.program ∷ owner_cause b lane ∷ edits_causes r

-- ---- all of them

abbrev pub causes : State → ℕ → Action → List (Option Reply)
causes s lane (WordIn name word value) = word_causes s name word false
causes s lane (WordOut name word) = word_causes s name word true
causes s lane (Accept a) = accept_causes s lane a
causes s lane (Test name) = accepted_causes s lane name ++ when (book_named s name).testing (Edit E11) ∷ []
causes s lane (Untest name) = accepted_causes s lane name ++ when (not (book_named s name).testing) (Edit E12) ∷ []
causes s lane (Assemble name) = accepted_causes s lane name
causes s lane (Cancel name) = accepted_causes s lane name
causes s lane (ForceInstall name word mask value) = install_causes s name word
causes s lane ForceEnable = no_force_causes s
causes s lane ForceDisable = []
causes s lane ForceRemove = no_force_causes s
causes s lane ModeRun = mode_causes s mode.Run
causes s lane ModeProgram = mode_causes s mode.Program
causes s lane Clear = when (held s.table) Held ∷ when (not (is_mode s.mode mode.Faulted)) (Mode M3) ∷ []

-- the first cause for which the action is held or refused, unless it is done
abbrev pub first_cause : State → ℕ → Action → Option Reply
first_cause s lane action = first_of (causes s lane action)
