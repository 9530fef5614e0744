-- The report as text.
use Rattle.std.specs.Prelude.{ℕ, List, [], ◌∷◌, ◌++◌, map, flat_map, Option, Some, None, codes, decimal, slice_index_or}
use Rattle.std.specs.Fmt.{signed_decimal}
use Rattle.lgx_rung.specs.declared.fault.TextFault.{TextFault}
use Rattle.lgx_rung.specs.declared.fault.TextCode.{TextCode}
use Rattle.lgx_rung.specs.declared.fault.TextCode.TheVariants.{T1, T2, T3, T4, T5}
use Rattle.lgx_rung.specs.declared.fault.CheckFault.{CheckFault}
use Rattle.lgx_rung.specs.declared.fault.CheckCode.{CheckCode}
use Rattle.lgx_rung.specs.declared.fault.CheckCode.TheVariants.{C1, C2, C3, C4, C5, C6, C7, C8, C9, C10, C11, C12, C13, C14, C15, C16, C17}
use Rattle.spec_tables.specs.declared.fault.Severity.{Severity}
use Rattle.spec_tables.specs.declared.fault.Severity.TheVariants.{Minor, Major}
use Rattle.spec_tables.specs.declared.fault.Fault.{Fault as Faults}
use Rattle.spec_machine.specs.declared.reply.Mode.{Mode as Modes}
use Rattle.spec_machine.specs.declared.reply.Mode.TheVariants.{Program, Run, Faulted}
use Rattle.spec_machine.specs.declared.reply.EditFault.{EditFault}
use Rattle.spec_machine.specs.declared.reply.EditFault.TheVariants.{E1, E2, E3, E5, E6, E7, E8, E9, E10, E11, E12}
use Rattle.spec_tables.specs.declared.conn.ConnFault.{ConnFault}
use Rattle.spec_tables.specs.declared.conn.ConnFault.TheVariants.{N1, N2, N3}
use Rattle.spec_tables.specs.declared.force.ForceFault.{ForceFault}
use Rattle.spec_tables.specs.declared.force.ForceFault.TheVariants.{F1, F2, F3}
use Rattle.spec_machine.specs.declared.reply.ModeFault.{ModeFault}
use Rattle.spec_machine.specs.declared.reply.ModeFault.TheVariants.{M1, M2, M3}
use Rattle.spec_machine.specs.declared.reply.Reply.{Reply as Replies}
use Rattle.spec_machine.specs.declared.reply.Reply.TheVariants.{Done, Word, Version, Held, Mode, Conn, Force, Edit}
use Rattle.spec_machine.specs.declared.line.Line.{Line}
use Rattle.spec_machine.specs.declared.line.Line.TheVariants.{Begin, Fault, Reply, Set}
use Rattle.spec_machine.specs.declared.event.Event.{Event}
use Rattle.spec_text.specs.TextLines.{line_of}
use Rattle.spec_machine.specs.Project.{Project}
use Rattle.spec_machine.specs.Machine.{run}
use Rattle.spec_machine.specs.Report.{Stamped, Report, report_of, report_lines, steps_of}

-- the names of tasks, programs and watched places, as the project has them
pub record Names : Type 0 where
  pub tasks : List (List ℕ)
  pub programs : List (List ℕ)
  pub watches : List (List ℕ)

abbrev pub names_of : Project → Names
names_of p = record { tasks = map (λ t. t.name) p.names; programs = map (λ q. q.name) p.programs; watches = map (λ w. w.text) p.watches }

abbrev pub name : List (List ℕ) → ℕ → List ℕ
name names n = slice_index_or names n []

-- ---- causes

abbrev pub text_code : TextCode → List ℕ
text_code T1 = codes "T1"
text_code T2 = codes "T2"
text_code T3 = codes "T3"
text_code T4 = codes "T4"
text_code T5 = codes "T5"

abbrev pub check_code : CheckCode → List ℕ
check_code C1 = codes "C1"
check_code C2 = codes "C2"
check_code C3 = codes "C3"
check_code C4 = codes "C4"
check_code C5 = codes "C5"
check_code C6 = codes "C6"
check_code C7 = codes "C7"
check_code C8 = codes "C8"
check_code C9 = codes "C9"
check_code C10 = codes "C10"
check_code C11 = codes "C11"
check_code C12 = codes "C12"
check_code C13 = codes "C13"
check_code C14 = codes "C14"
check_code C15 = codes "C15"
check_code C16 = codes "C16"
check_code C17 = codes "C17"

-- the code and the place of a fault of a text
abbrev pub text_fault : TextFault → List (List ℕ)
text_fault f = text_code f.code ∷ decimal f.at ∷ []

-- the code, the rung and the instruction of a fault of a check
abbrev pub check_fault : CheckFault → List (List ℕ)
check_fault f = check_code f.code ∷ decimal f.rung ∷ decimal f.ins ∷ []

-- E3 gives the owner, E5 to E7 the edit's place in the list, and E7 and E8 the inner fault
abbrev pub edit_cause : EditFault → List (List ℕ)
edit_cause E1 = codes "E1" ∷ []
edit_cause E2 = codes "E2" ∷ []
edit_cause (E3 owner) = codes "E3" ∷ decimal owner ∷ []
edit_cause (E5 k) = codes "E5" ∷ decimal k ∷ []
edit_cause (E6 k) = codes "E6" ∷ decimal k ∷ []
edit_cause (E7 k f) = codes "E7" ∷ decimal k ∷ text_fault f
edit_cause (E8 f) = codes "E8" ∷ check_fault f
edit_cause E9 = codes "E9" ∷ []
edit_cause E10 = codes "E10" ∷ []
edit_cause E11 = codes "E11" ∷ []
edit_cause E12 = codes "E12" ∷ []

abbrev pub conn_cause : ConnFault → List ℕ
conn_cause N1 = codes "N1"
conn_cause N2 = codes "N2"
conn_cause N3 = codes "N3"

abbrev pub force_cause : ForceFault → List ℕ
force_cause F1 = codes "F1"
force_cause F2 = codes "F2"
force_cause F3 = codes "F3"

abbrev pub mode_cause : ModeFault → List ℕ
mode_cause M1 = codes "M1"
mode_cause M2 = codes "M2"
mode_cause M3 = codes "M3"

-- ---- lines

-- `ok`, with the value of a word out or an accept's number; `held`; or `refused` and the cause
abbrev pub answer : Replies → List (List ℕ)
answer Done = codes "ok" ∷ []
answer (Word v) = codes "ok" ∷ signed_decimal v ∷ []
answer (Version n) = codes "ok" ∷ decimal n ∷ []
answer Held = codes "held" ∷ []
answer (Mode f) = codes "refused" ∷ mode_cause f ∷ []
answer (Conn f) = codes "refused" ∷ conn_cause f ∷ []
answer (Force f) = codes "refused" ∷ force_cause f ∷ []
answer (Edit f) = codes "refused" ∷ edit_cause f

abbrev pub severity : Severity → List ℕ
severity Minor = codes "minor"
severity Major = codes "major"

abbrev pub program_or_dash : Names → Option ℕ → List ℕ
program_or_dash names None = codes "-"
program_or_dash names (Some n) = name names.programs n

-- the type and the code of a fault
abbrev pub fault_number : Faults → List ℕ
fault_number f = decimal f.kind ++ 47 ∷ decimal f.code

abbrev pub line_words : Names → Line → List (List ℕ)
line_words names (Begin t n version) =
    codes "begin" ∷ name names.tasks t ∷ name names.programs n ∷ decimal version ∷ []
line_words names (Fault f) =
    codes "fault" ∷ severity f.severity ∷ fault_number f ∷ name names.tasks f.task ∷ program_or_dash names f.program ∷ []
line_words names (Reply lane r) = codes "reply" ∷ decimal lane ∷ answer r
line_words names (Set w v) = codes "set" ∷ name names.watches w ∷ signed_decimal v ∷ []

abbrev pub line_text : Names → Stamped → List ℕ
line_text names s = line_of (decimal s.tick ∷ decimal s.step ∷ line_words names s.line)

abbrev pub mode_text : Modes → List ℕ
mode_text Program = codes "program"
mode_text Run = codes "run"
mode_text Faulted = codes "faulted"

abbrev pub end_text : ℕ → ℕ → Modes → ℕ → List ℕ
end_text tick step mode lost =
    line_of (codes "end" ∷ decimal tick ∷ decimal step ∷ mode_text mode ∷ codes "lost" ∷ decimal lost ∷ [])

abbrev pub report_text : Names → Report → List ℕ
report_text names r = flat_map (line_text names) r.lines ++ end_text r.tick r.step r.mode r.lost

-- The report of a journal: its first lines up to the room, and then the end line, which counts the others.
abbrev pub report : Project → List Event → List ℕ
report project journal = report_text (names_of project) (report_of (report_lines project journal) (run project journal) (steps_of journal))
